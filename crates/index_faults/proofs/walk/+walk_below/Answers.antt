use Rattle.std.proofs.Common.{◌≡◌, ◌<◌, ◌≤◌, ◌-◌, ℕ, List, [], Option, Some, None, length, drop, get_or, refl, subst}
use Rattle.std.specs.Prelude.{IfSome, IfNone}
use Rattle.index_node.specs.declared.entry.NodeEntry.{NodeEntry}
use Rattle.index_node.specs.declared.node.IndexNode.{IndexNode}
use Rattle.index_faults.specs.Walks.{are_between, IsReached, IsMissed, IsJudged}
use Rattle.index_faults.proofs.Walked.{start, missed, one_child, leaf, finish}
use Rattle.index_faults.proofs.walk.+walk_below.Goals as goal

pub returns-then-level-eq0 : goal.returns-then-level-eq0
returns-then-level-eq0 g t c = leaf (g.V.View.knows c.args.view.now) c.args.node.level c.args.node.entries c.args.walk.now _ c.if-level-eq0.true (λ i. record c.args.walk.now { pairs = c.in_ok-append.ensures i })

pub loop-at-init : goal.loop-at-init
loop-at-init g t c = start (g.V.View.knows c.args.view.now) (c.args.node.level - 1) c.args.node.entries c.args.walk.now

pub loop-at-preserved : goal.loop-at-preserved
loop-at-preserved g t c =
    let known = g.V.View.knows c.args.view.now in
    let entries = c.args.node.entries in
    let child = c.child_of-child.result in
    let next = c.walk_below.new.walk in
    let new = c.judge.new.walk in
    let same : c.as_slice.result.now ≡ entries = c.as_slice.ensures in
    let same_then : c.as_slice-in-loop-at.result.now ≡ entries = c.as_slice-in-loop-at.ensures in
    let reached = subst (λ (o : Option IndexNode). IfSome o (λ node. IsReached known child (Some (c.args.node.level - 1)) node c.loop-at.walk c.reach.new.walk)) c.in-Some.is c.in_ok-below.ensures.node in
    let by_entries = subst (λ (es : List NodeEntry). IsJudged child (are_between c.loop-at.at es (drop c.len-pairs.result next.pairs)) c.len-faults.result next new) same_then c.in_ok-judge.ensures in
    let by_pairs = subst (λ (n : ℕ). IsJudged child (are_between c.loop-at.at entries (drop n next.pairs)) c.len-faults.result next new) c.len-pairs.ensures by_entries in
    let judged = subst (λ (n : ℕ). IsJudged child (are_between c.loop-at.at entries (drop (length c.loop-at.walk.pairs) next.pairs)) n next new) c.len-faults.ensures by_pairs in
    let inside : c.loop-at.at < length entries = subst (λ (n : ℕ). c.loop-at.at < n) c.len-at-end.ensures c.loop-at-test.true in
    one_child known (c.args.node.level - 1) entries c.loop-at.at c.args.walk.now c.loop-at.walk c.reach.new.walk next new child c.in-Some.below c.loop-at.invariant reached c.in_ok-walk_below.ensures judged inside
    (λ d. subst (λ (es : List NodeEntry). (get_or es c.loop-at.at d).child ≡ Some child) same (c.child_of-child.ensures d))
    (record { key = []; row = child; child = None })

pub loop-at-preserved-in_default : goal.loop-at-preserved-in_default
loop-at-preserved-in_default g t c =
    let known = g.V.View.knows c.args.view.now in
    let entries = c.args.node.entries in
    let child = c.child_of-child.result in
    let same : c.as_slice.result.now ≡ entries = c.as_slice.ensures in
    let miss = subst (λ (o : Option IndexNode). IfNone o (IsMissed known child (Some (c.args.node.level - 1)) c.loop-at.walk c.reach.new.walk)) c.in_default.is c.in_ok-below.ensures.none in
    let inside : c.loop-at.at < length entries = subst (λ (n : ℕ). c.loop-at.at < n) c.len-at-end.ensures c.loop-at-test.true in
    missed known (c.args.node.level - 1) entries c.loop-at.at c.args.walk.now c.loop-at.walk c.reach.new.walk child inside
    (λ d. subst (λ (es : List NodeEntry). (get_or es c.loop-at.at d).child ≡ Some child) same (c.child_of-child.ensures d)) c.loop-at.invariant miss

pub returns : goal.returns
returns g t c = finish (g.V.View.knows c.args.view.now) c.args.node.level (c.args.node.level - 1) c.args.node.entries c.loop-at.at c.args.walk.now c.loop-at.walk (λ none. c.if-level-eq0.false none) refl
    (subst (λ (n : ℕ). n ≤ c.loop-at.at) c.len-at-end.ensures c.loop-at-test.false) c.loop-at.invariant
