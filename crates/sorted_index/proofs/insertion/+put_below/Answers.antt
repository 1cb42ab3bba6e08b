use Rattle.std.proofs.Common.{rules, ◌≡◌, ◌≢◌, ◌+◌, ◌-◌, ◌<◌, ℕ, List, length, get_or, Some, None, sym, refl, ap, subst, ◌∙◌, arith, inl, inr}
use Rattle.std.specs.Prelude.{Option, Result, Ok, Err, []}
use Rattle.std.proofs.lemmas.Result.{err_from_is_err_and}
use Rattle.rdb_types.specs.declared.keys.Dbkey.{Dbkey}
use Rattle.index_node.specs.declared.entry.NodeEntry.{NodeEntry}
use Rattle.index_node.specs.declared.node.IndexNode.{IndexNode}
use Rattle.line_view.specs.Knowledge.{Knowledge}
use Rattle.line_view.specs.declared.writes.Write.{Write}
use Rattle.sorted_index_laws.specs.Stop.{IndexStop}
use Rattle.sorted_index_laws.specs.Changes.{pair_of}
use Rattle.sorted_index_laws.specs.Inner.Steps.{child_place, IsLaid}
use Rattle.sorted_index_laws.specs.Inner.Growth.{IsGrown, WritesChild}
use Rattle.sorted_index_laws.proofs.Laid.{laid_known}
use Rattle.sorted_index_laws.proofs.Ordered.{ascend}
use Rattle.sorted_index_laws.proofs.Fits.{leaf_grown, leaf_small, first_laid, laid_grown, no_entries, two_grown}
use Rattle.sorted_index_laws.proofs.FirstChild.{first_put, first_stopped, first_unroomed}
use Rattle.sorted_index_laws.proofs.Growing.{HasPut, leaf_put, child_missed, child_stopped, child_unwritten, child_written}
use Rattle.sorted_index.proofs.insertion.+put_below.Goals as goal

within : (entries nodes : List NodeEntry) (at : ℕ) → entries ≡ nodes → at < length entries → at < length nodes
within entries nodes at same h = subst (λ (es : List NodeEntry). at < length es) same h

child_there : (entries nodes : List NodeEntry) (at : ℕ) (child : Option Dbkey) → entries ≡ nodes → ((d : NodeEntry) → (get_or entries at d).child ≡ child) → (d : NodeEntry) → (get_or nodes at d).child ≡ child
child_there entries nodes at child same h = subst (λ (es : List NodeEntry). (d : NodeEntry) → (get_or es at d).child ≡ child) same h

none_there : (entries nodes : List NodeEntry) (at : ℕ) → entries ≡ nodes → (at < length entries → (d : NodeEntry) → (get_or entries at d).child ≡ None) → at < length nodes → (d : NodeEntry) → (get_or nodes at d).child ≡ None
none_there entries nodes at same h = subst (λ (es : List NodeEntry). at < length es → (d : NodeEntry) → (get_or es at d).child ≡ None) same h

-- what was put in, told of the same node, area, rooms and lines
put_as : (known : Knowledge) (pair : NodeEntry) (node other : IndexNode) (a b m n to : ℕ) (x y new : List Write) (result : Result IndexNode IndexStop) → node ≡ other → a ≡ b → m ≡ n → x ≡ y → HasPut known a pair node m to x new result → HasPut known b pair other n to y new result
put_as known pair node other a b m n to x y new result same area from old h =
    subst (λ (z : List Write). HasPut known b pair other n to z new result) old (subst (λ (k : ℕ). HasPut known b pair other k to x new result) from (subst (λ (k : ℕ). HasPut known k pair other m to x new result) area (subst (λ (k : IndexNode). HasPut known a pair k m to x new result) same h)))

wrote_as : (known : Knowledge) (a b : ℕ) (xs : List NodeEntry) (at : ℕ) (key : Dbkey) (grown : IndexNode) (from to : ℕ) (old new : List Write) (result : Result (List NodeEntry) IndexStop) → a ≡ b → WritesChild known a xs at key grown from to old new result → WritesChild known b xs at key grown from to old new result
wrote_as known a b xs at key grown from to old new result area h = subst (λ (k : ℕ). WritesChild known k xs at key grown from to old new result) area h

after_grown : (known : Knowledge) (area : ℕ) (node grown : IndexNode) (at : ℕ) (key : Dbkey) (from to : ℕ) (old new : List Write) (after : List NodeEntry) → node.level ≢ 0 → at < length node.entries → IsLaid node → IsGrown grown → WritesChild known area node.entries at key grown from to old new (Ok after) → IsGrown (record { level = node.level; entries = after })
after_grown known area node grown at key from to old new after inner inside laid is_grown wrote = elim wrote [
  | inl w ↦ subst (λ (es : List NodeEntry). IsGrown (record { level = node.level; entries = es })) (sym w.entries_are) (laid_grown node laid)
  | inr w ↦ two_grown node grown w.lower w.upper at w.low w.high key w.room after inner inside laid is_grown w.halved w.past_own w.before_next w.entries_are
]

pub returns-then-level-eq0-clause-grown : goal.returns-then-level-eq0-clause-grown
returns-then-level-eq0-clause-grown g t c = leaf_grown c.args.key.now c.args.row c.args.node c.in_ok-entries.entries c.if-level-eq0.true c.requires.key c.requires.laid c.in_ok-entries.ensures.ok

pub returns-then-level-eq0-clause-small : goal.returns-then-level-eq0-clause-small
returns-then-level-eq0-clause-small g t c = λ none. leaf_small c.args.key.now c.args.row c.args.node c.in_ok-entries.entries c.if-level-eq0.true c.requires.key c.in_ok-entries.ensures.ok none

pub returns-then-level-eq0-clause-puts : goal.returns-then-level-eq0-clause-puts
returns-then-level-eq0-clause-puts g t c =
    leaf_put (g.V.View.knows c.args.view.now) c.args.work.now.area (pair_of c.args.key.now c.args.row) c.args.node c.in_ok-entries.entries c.args.work.now.rooms c.args.work.now.writes c.if-level-eq0.true c.in_ok-entries.ensures.ok

pub returns-in_err-child-clause-puts : goal.returns-in_err-child-clause-puts
returns-in_err-child-clause-puts g t c =
    let p = err_from_is_err_and c.from_residual-in_err-child.result c.from_residual-in_err-child.ensures.1 in
    let known = g.V.View.knows c.args.view.now in
    let pair = pair_of c.args.key.now c.args.row in
    let at_is = c.child_place-at.ensures ∙ ap (child_place pair) c.as_slice.ensures in
    let none = no_entries pair c.args.node.level c.child_place-at.result c.args.node.entries (λ leaf. c.if-level-eq0.false leaf) at_is c.requires.laid.0.entries (none_there c.as_slice-2.result.now c.args.node.entries c.child_place-at.result c.as_slice-2.ensures (rw c.in_default.is at c.child_of.ensures.none)) in
    rw (p.1, p.2)
    (subst (λ (e : IndexStop). HasPut known c.args.work.now.area pair c.args.node c.args.work.now.rooms c.take_room.new.work.rooms c.args.work.now.writes c.take_room.new.work.writes (Err e)) (sym c.in_err-child.ensures.err.0)
    (first_unroomed known c.args.work.now.area pair c.args.node c.args.work.now.rooms c.args.work.now.writes (λ leaf. c.if-level-eq0.false leaf) none c.in_err-child.ensures.err.1))

pub returns-in_err-below-clause-puts : goal.returns-in_err-below-clause-puts
returns-in_err-below-clause-puts g t c =
    let p = err_from_is_err_and c.from_residual-in_err-below.result c.from_residual-in_err-below.ensures.1 in
    let pair = pair_of c.args.key.now c.args.row in
    let at_is = c.child_place-at.ensures ∙ ap (child_place pair) c.as_slice.ensures in
    let none = no_entries pair c.args.node.level c.child_place-at.result c.args.node.entries (λ leaf. c.if-level-eq0.false leaf) at_is c.requires.laid.0.entries (none_there c.as_slice-2.result.now c.args.node.entries c.child_place-at.result c.as_slice-2.ensures (rw c.in_default.is at c.child_of.ensures.none)) in
    let below : IndexNode = record { level = c.args.node.level - 1; entries = c.new.result } in
    let empty : IndexNode = record { level = c.args.node.level - 1; entries = [] } in
    rw (p.1, p.2)
    (first_stopped (g.V.View.knows c.args.view.now) c.args.work.now.area pair c.args.node (c.args.node.level - 1) c.in_ok-child.child c.args.work.now.rooms c.put_below.new.work.rooms c.args.work.now.writes c.put_below.new.work.writes c.in_err-below.field-0.0 (λ leaf. c.if-level-eq0.false leaf) refl none c.in_ok-child.ensures.ok
    (put_as (g.V.View.knows c.args.view.now) pair below empty c.take_room.new.work.area c.args.work.now.area c.take_room.new.work.rooms (c.args.work.now.rooms + 1) c.put_below.new.work.rooms c.take_room.new.work.writes c.args.work.now.writes c.put_below.new.work.writes (Err c.in_err-below.field-0.0)
    (λ i. record { level = c.args.node.level - 1; entries = c.new.ensures i }) c.in_ok-child.ensures.area c.in_ok-child.ensures.counted c.in_ok-child.ensures.writes c.in_err-below.ensures.puts))

pub returns-in_default-clause-grown : goal.returns-in_default-clause-grown
returns-in_default-clause-grown g t c =
    laid_grown (record { level = c.args.node.level; entries = c.in_ok-entries-2.entries }) (first_laid c.args.key.now c.args.row c.in_ok-child.child c.args.node c.in_ok-entries-2.entries (λ leaf. c.if-level-eq0.false leaf) c.requires.key c.in_ok-entries-2.ensures.ok)

pub returns-in_default-clause-small : goal.returns-in_default-clause-small
returns-in_default-clause-small g t c = λ none. first_laid c.args.key.now c.args.row c.in_ok-child.child c.args.node c.in_ok-entries-2.entries (λ leaf. c.if-level-eq0.false leaf) c.requires.key c.in_ok-entries-2.ensures.ok

pub returns-in_default-clause-puts : goal.returns-in_default-clause-puts
returns-in_default-clause-puts g t c =
    let known = g.V.View.knows c.args.view.now in
    let pair = pair_of c.args.key.now c.args.row in
    let at_is = c.child_place-at.ensures ∙ ap (child_place pair) c.as_slice.ensures in
    let none = no_entries pair c.args.node.level c.child_place-at.result c.args.node.entries (λ leaf. c.if-level-eq0.false leaf) at_is c.requires.laid.0.entries (none_there c.as_slice-2.result.now c.args.node.entries c.child_place-at.result c.as_slice-2.ensures (rw c.in_default.is at c.child_of.ensures.none)) in
    let below : IndexNode = record { level = c.args.node.level - 1; entries = c.new.result } in
    let empty : IndexNode = record { level = c.args.node.level - 1; entries = [] } in
    first_put known c.args.work.now.area pair c.args.node (c.args.node.level - 1) c.in_ok-child.child c.args.work.now.rooms c.put_below.new.work.rooms c.args.work.now.writes c.put_below.new.work.writes c.write_node.new.writes c.in_ok-below.below c.in_ok-write_node.ensures.ok.0 c.in_ok-entries-2.entries
    (λ leaf. c.if-level-eq0.false leaf) refl none c.in_ok-child.ensures.ok
    (put_as known pair below empty c.take_room.new.work.area c.args.work.now.area c.take_room.new.work.rooms (c.args.work.now.rooms + 1) c.put_below.new.work.rooms c.take_room.new.work.writes c.args.work.now.writes c.put_below.new.work.writes (Ok c.in_ok-below.below)
    (λ i. record { level = c.args.node.level - 1; entries = c.new.ensures i }) c.in_ok-child.ensures.area c.in_ok-child.ensures.counted c.in_ok-child.ensures.writes c.in_ok-below.ensures.puts)
    c.in_ok-write_node.ensures.ok.1.0 c.in_ok-write_node.ensures.ok.1.1 c.in_ok-entries-2.ensures.ok

pub returns-in_err-below-2-clause-puts : goal.returns-in_err-below-2-clause-puts
returns-in_err-below-2-clause-puts g t c =
    let p = err_from_is_err_and c.from_residual-in_err-below-2.result c.from_residual-in_err-below-2.ensures.1 in
    let pair = pair_of c.args.key.now c.args.row in
    rw (p.1, p.2)
    (child_missed (g.V.View.knows c.args.view.now) c.args.work.now.area pair c.args.node c.child_place-at.result (c.args.node.level - 1) c.in-Some.child c.args.work.now.rooms c.args.work.now.writes c.in_err-below-2.field-0.0 (λ leaf. c.if-level-eq0.false leaf) refl
    (c.child_place-at.ensures ∙ ap (child_place pair) c.as_slice.ensures)
    (within c.as_slice-2.result.now c.args.node.entries c.child_place-at.result c.as_slice-2.ensures c.in-Some.ensures.some.0)
    (child_there c.as_slice-2.result.now c.args.node.entries c.child_place-at.result (Some c.in-Some.child) c.as_slice-2.ensures c.in-Some.ensures.some.1)
    c.in_err-below-2.ensures)

pub put_below-requires-2 : goal.put_below-requires-2
put_below-requires-2 g t c = λ κs lives. (search rules, (lives, (laid_known ((g.V.View.knows c.args.view.now).line c.in-Some.child) c.in_ok-below-2.below c.in_ok-below-2.ensures.0, (c.requires.key, let same = c.in_ok-below-2.ensures.1 in let few = c.requires.rooms in omega arith))))

pub returns-in_err-grown-clause-puts : goal.returns-in_err-grown-clause-puts
returns-in_err-grown-clause-puts g t c =
    let p = err_from_is_err_and c.from_residual-in_err-grown.result c.from_residual-in_err-grown.ensures.1 in
    let pair = pair_of c.args.key.now c.args.row in
    rw (p.1, p.2)
    (child_stopped (g.V.View.knows c.args.view.now) c.args.work.now.area pair c.args.node c.child_place-at.result c.in-Some.child c.in_ok-below-2.below c.args.work.now.rooms c.put_below-2.new.work.rooms c.args.work.now.writes c.put_below-2.new.work.writes c.in_err-grown.field-0.0 (λ leaf. c.if-level-eq0.false leaf)
    (c.child_place-at.ensures ∙ ap (child_place pair) c.as_slice.ensures)
    (within c.as_slice-2.result.now c.args.node.entries c.child_place-at.result c.as_slice-2.ensures c.in-Some.ensures.some.0)
    (child_there c.as_slice-2.result.now c.args.node.entries c.child_place-at.result (Some c.in-Some.child) c.as_slice-2.ensures c.in-Some.ensures.some.1)
    c.in_ok-below-2.ensures.0 c.in_err-grown.ensures.puts)

pub returns-in_err-entries-3-clause-puts : goal.returns-in_err-entries-3-clause-puts
returns-in_err-entries-3-clause-puts g t c =
    let p = err_from_is_err_and c.from_residual-in_err-entries-3.result c.from_residual-in_err-entries-3.ensures.1 in
    let known = g.V.View.knows c.args.view.now in
    let pair = pair_of c.args.key.now c.args.row in
    rw (p.1, p.2)
    (child_unwritten known c.args.work.now.area pair c.args.node c.child_place-at.result c.in-Some.child c.in_ok-below-2.below c.in_ok-grown.grown c.args.work.now.rooms c.put_below-2.new.work.rooms c.write_child.new.work.rooms c.args.work.now.writes c.put_below-2.new.work.writes c.write_child.new.work.writes c.in_err-entries-3.field-0.0 (λ leaf. c.if-level-eq0.false leaf)
    (c.child_place-at.ensures ∙ ap (child_place pair) c.as_slice.ensures)
    (within c.as_slice-2.result.now c.args.node.entries c.child_place-at.result c.as_slice-2.ensures c.in-Some.ensures.some.0)
    (child_there c.as_slice-2.result.now c.args.node.entries c.child_place-at.result (Some c.in-Some.child) c.as_slice-2.ensures c.in-Some.ensures.some.1)
    c.in_ok-below-2.ensures.0 c.in_ok-grown.ensures.puts
    (wrote_as known c.put_below-2.new.work.area c.args.work.now.area c.args.node.entries c.child_place-at.result c.in-Some.child c.in_ok-grown.grown c.put_below-2.new.work.rooms c.write_child.new.work.rooms c.put_below-2.new.work.writes c.write_child.new.work.writes (Err c.in_err-entries-3.field-0.0) c.in_ok-grown.ensures.area c.in_err-entries-3.ensures.writes))

pub returns-clause-grown : goal.returns-clause-grown
returns-clause-grown g t c =
    after_grown (g.V.View.knows c.args.view.now) c.put_below-2.new.work.area c.args.node c.in_ok-grown.grown c.child_place-at.result c.in-Some.child c.put_below-2.new.work.rooms c.write_child.new.work.rooms c.put_below-2.new.work.writes c.write_child.new.work.writes c.in_ok-entries-3.entries (λ leaf. c.if-level-eq0.false leaf)
    (within c.as_slice-2.result.now c.args.node.entries c.child_place-at.result c.as_slice-2.ensures c.in-Some.ensures.some.0) c.requires.laid c.in_ok-grown.ensures.grown c.in_ok-entries-3.ensures.writes

pub returns-clause-puts : goal.returns-clause-puts
returns-clause-puts g t c =
    let known = g.V.View.knows c.args.view.now in
    let pair = pair_of c.args.key.now c.args.row in
    child_written known c.args.work.now.area pair c.args.node c.child_place-at.result c.in-Some.child c.in_ok-below-2.below c.in_ok-grown.grown c.args.work.now.rooms c.put_below-2.new.work.rooms c.write_child.new.work.rooms c.args.work.now.writes c.put_below-2.new.work.writes c.write_child.new.work.writes c.in_ok-entries-3.entries (λ leaf. c.if-level-eq0.false leaf)
    (ascend c.args.node.entries c.requires.laid.0.ascending) c.requires.laid.1 (ascend c.in_ok-grown.grown.entries c.in_ok-grown.ensures.grown.0.ascending)
    (c.child_place-at.ensures ∙ ap (child_place pair) c.as_slice.ensures)
    (within c.as_slice-2.result.now c.args.node.entries c.child_place-at.result c.as_slice-2.ensures c.in-Some.ensures.some.0)
    (child_there c.as_slice-2.result.now c.args.node.entries c.child_place-at.result (Some c.in-Some.child) c.as_slice-2.ensures c.in-Some.ensures.some.1)
    c.in_ok-below-2.ensures.0 c.in_ok-grown.ensures.puts
    (wrote_as known c.put_below-2.new.work.area c.args.work.now.area c.args.node.entries c.child_place-at.result c.in-Some.child c.in_ok-grown.grown c.put_below-2.new.work.rooms c.write_child.new.work.rooms c.put_below-2.new.work.writes c.write_child.new.work.writes (Ok c.in_ok-entries-3.entries) c.in_ok-grown.ensures.area c.in_ok-entries-3.ensures.writes)
