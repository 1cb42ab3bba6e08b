use Rattle.std.proofs.Common.{◌≡◌, ◌-◌, ℕ, ◌++◌, refl, sym, subst, ◌∙◌}
use Rattle.std.specs.Prelude.{Ok, Err}
use Rattle.std.proofs.lemmas.Result.{err_from_is_err_and}
use Rattle.index_node.specs.declared.node.IndexNode.{IndexNode}
use Rattle.node_search.specs.Wanted.{interval_of}
use Rattle.sorted_index_laws.specs.Search.{rows_within}
use Rattle.sorted_index_laws.specs.Inner.Steps.{ReadsNode}
use Rattle.sorted_index_laws.proofs.Below.{leaf_adds}
use Rattle.sorted_index.proofs.Convex.{convex}
use Rattle.sorted_index.proofs.Gone.{adds_below, on_all, is_here, gone_past, gone_below, gone_missing, gone_stopped, gone_over}
use Rattle.sorted_index.proofs.search.+search_below.Goals as goal

pub returns-then-node-eq0-clause-adds : goal.returns-then-node-eq0-clause-adds
returns-then-node-eq0-clause-adds g t c =
    let s = interval_of c.args.wanted in
    adds_below (g.V.View.knows c.args.view.now) s c.args.node c.args.found.now c.add_rows.new.found c.add_rows.result
    (λ node holds. leaf_adds (g.V.View.knows c.args.view.now) s node node.entries c.args.found.now c.add_rows.new.found c.add_rows.result (sym holds.1 ∙ c.if-node-eq0.true) refl
    (on_all c.add_rows.result c.args.node node (λ (n : IndexNode). c.add_rows.new.found ≡ c.args.found.now ++ rows_within s n.entries) c.add_rows.ensures.ok holds) c.add_rows.ensures.err)

pub loop-next-preserved-in_default-child : goal.loop-next-preserved-in_default-child
loop-next-preserved-in_default-child g t c = λ shown holds.
    let known = g.V.View.knows c.args.view.now in
    let s = interval_of c.args.wanted in
    let gone = c.loop-next.invariant shown holds in
    let here = is_here known s c.args.node shown c.in-Some.own c.next_entry-next.result c.loop-next.next c.loop-next.is_first c.args.found.now c.loop-next.found c.wanted_child-child.result c.in-Some.is c.next_entry-next.ensures.further c.wanted_child-child.ensures gone in
    gone_past known s c.args.node shown c.in-Some.own c.next_entry-next.result c.loop-next.next c.loop-next.is_first c.args.found.now c.loop-next.found c.wanted_child-child.result (convex c.args.wanted) c.in_default-child.is gone here

pub returns-in_err-below-clause-adds : goal.returns-in_err-below-clause-adds
returns-in_err-below-clause-adds g t c =
    let known = g.V.View.knows c.args.view.now in
    let s = interval_of c.args.wanted in
    let e = c.in_err-below.field-0.0 in
    let p = err_from_is_err_and c.from_residual.result c.from_residual.ensures.1 in
    rw (p.1, p.2)
    (adds_below known s c.args.node c.args.found.now c.loop-next.found (Err e) (λ shown holds.
    let gone = c.loop-next.invariant shown holds in
    let here = is_here known s c.args.node shown c.in-Some.own c.next_entry-next.result c.loop-next.next c.loop-next.is_first c.args.found.now c.loop-next.found c.wanted_child-child.result c.in-Some.is c.next_entry-next.ensures.further c.wanted_child-child.ensures gone in
    (gone_missing known s c.args.node shown c.in-Some.own c.next_entry-next.result c.loop-next.next c.loop-next.is_first c.args.found.now c.loop-next.found c.wanted_child-child.result c.in-Some-child.child e (λ leaf. c.if-node-eq0.false (holds.1 ∙ leaf)) c.in-Some-child.is
    (subst (λ (k : ℕ). ReadsNode known c.in-Some-child.child (λ n. n.level ≡ k - 1) (Err e)) holds.1 c.in_err-below.ensures) gone here).0))

pub returns-in_err-below-clause-nodes : goal.returns-in_err-below-clause-nodes
returns-in_err-below-clause-nodes g t c = λ shown holds.
    let known = g.V.View.knows c.args.view.now in
    let s = interval_of c.args.wanted in
    let e = c.in_err-below.field-0.0 in
    let p = err_from_is_err_and c.from_residual.result c.from_residual.ensures.1 in
    let gone = c.loop-next.invariant shown holds in
    let here = is_here known s c.args.node shown c.in-Some.own c.next_entry-next.result c.loop-next.next c.loop-next.is_first c.args.found.now c.loop-next.found c.wanted_child-child.result c.in-Some.is c.next_entry-next.ensures.further c.wanted_child-child.ensures gone in
    rw (p.1, p.2)
    (gone_missing known s c.args.node shown c.in-Some.own c.next_entry-next.result c.loop-next.next c.loop-next.is_first c.args.found.now c.loop-next.found c.wanted_child-child.result c.in-Some-child.child e (λ leaf. c.if-node-eq0.false (holds.1 ∙ leaf)) c.in-Some-child.is
    (subst (λ (k : ℕ). ReadsNode known c.in-Some-child.child (λ n. n.level ≡ k - 1) (Err e)) holds.1 c.in_err-below.ensures) gone here).1

pub returns-in_err-search_below-clause-adds : goal.returns-in_err-search_below-clause-adds
returns-in_err-search_below-clause-adds g t c =
    let known = g.V.View.knows c.args.view.now in
    let s = interval_of c.args.wanted in
    let e = c.in_err-search_below.field-0.0 in
    let below = c.in_ok-below.ensures.0 in
    let p = err_from_is_err_and c.from_residual-in_err-search_below.result c.from_residual-in_err-search_below.ensures.1 in
    rw (p.1, p.2)
    (adds_below known s c.args.node c.args.found.now c.search_below.new.found (Err e) (λ shown holds.
    let gone = c.loop-next.invariant shown holds in
    let here = is_here known s c.args.node shown c.in-Some.own c.next_entry-next.result c.loop-next.next c.loop-next.is_first c.args.found.now c.loop-next.found c.wanted_child-child.result c.in-Some.is c.next_entry-next.ensures.further c.wanted_child-child.ensures gone in
    (gone_stopped known s c.args.node shown c.in-Some.own c.next_entry-next.result c.loop-next.next c.loop-next.is_first c.args.found.now c.loop-next.found c.search_below.new.found c.wanted_child-child.result c.in-Some-child.child c.in_ok-below.below below e (λ leaf. c.if-node-eq0.false (holds.1 ∙ leaf)) c.in-Some-child.is
    c.in_ok-below.ensures.1.0 (subst (λ (k : ℕ). ReadsNode known c.in-Some-child.child (λ n. n.level ≡ k - 1) (Ok below)) holds.1 c.in_ok-below.ensures.1.1)
    c.in_err-search_below.ensures.adds (c.in_err-search_below.ensures.nodes below c.in_ok-below.ensures.1.0) gone here).0))

pub returns-in_err-search_below-clause-nodes : goal.returns-in_err-search_below-clause-nodes
returns-in_err-search_below-clause-nodes g t c = λ shown holds.
    let known = g.V.View.knows c.args.view.now in
    let s = interval_of c.args.wanted in
    let e = c.in_err-search_below.field-0.0 in
    let below = c.in_ok-below.ensures.0 in
    let p = err_from_is_err_and c.from_residual-in_err-search_below.result c.from_residual-in_err-search_below.ensures.1 in
    let gone = c.loop-next.invariant shown holds in
    let here = is_here known s c.args.node shown c.in-Some.own c.next_entry-next.result c.loop-next.next c.loop-next.is_first c.args.found.now c.loop-next.found c.wanted_child-child.result c.in-Some.is c.next_entry-next.ensures.further c.wanted_child-child.ensures gone in
    rw (p.1, p.2)
    (gone_stopped known s c.args.node shown c.in-Some.own c.next_entry-next.result c.loop-next.next c.loop-next.is_first c.args.found.now c.loop-next.found c.search_below.new.found c.wanted_child-child.result c.in-Some-child.child c.in_ok-below.below below e (λ leaf. c.if-node-eq0.false (holds.1 ∙ leaf)) c.in-Some-child.is
    c.in_ok-below.ensures.1.0 (subst (λ (k : ℕ). ReadsNode known c.in-Some-child.child (λ n. n.level ≡ k - 1) (Ok below)) holds.1 c.in_ok-below.ensures.1.1)
    c.in_err-search_below.ensures.adds (c.in_err-search_below.ensures.nodes below c.in_ok-below.ensures.1.0) gone here).1

pub loop-next-preserved : goal.loop-next-preserved
loop-next-preserved g t c = λ shown holds.
    let known = g.V.View.knows c.args.view.now in
    let s = interval_of c.args.wanted in
    let below = c.in_ok-below.ensures.0 in
    let gone = c.loop-next.invariant shown holds in
    let here = is_here known s c.args.node shown c.in-Some.own c.next_entry-next.result c.loop-next.next c.loop-next.is_first c.args.found.now c.loop-next.found c.wanted_child-child.result c.in-Some.is c.next_entry-next.ensures.further c.wanted_child-child.ensures gone in
    gone_below known s c.args.node shown c.in-Some.own c.next_entry-next.result c.loop-next.next c.loop-next.is_first c.args.found.now c.loop-next.found c.search_below.new.found c.wanted_child-child.result c.in-Some-child.child c.in_ok-below.below below tt c.in-Some-child.is
    c.in_ok-below.ensures.1.0 (subst (λ (k : ℕ). ReadsNode known c.in-Some-child.child (λ n. n.level ≡ k - 1) (Ok below)) holds.1 c.in_ok-below.ensures.1.1)
    c.in_ok-search_below.ensures.adds (c.in_ok-search_below.ensures.nodes below c.in_ok-below.ensures.1.0) gone here

pub returns-clause-adds : goal.returns-clause-adds
returns-clause-adds g t c =
    let known = g.V.View.knows c.args.view.now in
    let s = interval_of c.args.wanted in
    adds_below known s c.args.node c.args.found.now c.loop-next.found (Ok tt) (λ shown holds.
    (gone_over known s c.args.node shown c.loop-next.next c.loop-next.is_first c.args.found.now c.loop-next.found tt (λ leaf. c.if-node-eq0.false (holds.1 ∙ leaf)) c.in_default.is (c.loop-next.invariant shown holds)).0)

pub returns-clause-nodes : goal.returns-clause-nodes
returns-clause-nodes g t c = λ shown holds.
    let known = g.V.View.knows c.args.view.now in
    (gone_over known (interval_of c.args.wanted) c.args.node shown c.loop-next.next c.loop-next.is_first c.args.found.now c.loop-next.found tt (λ leaf. c.if-node-eq0.false (holds.1 ∙ leaf)) c.in_default.is (c.loop-next.invariant shown holds)).1
