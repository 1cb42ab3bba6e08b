use Rattle.std.proofs.Common.{rules, ◌≡◌, ◌<◌, ◌-◌, ℕ, true, false, List, length, get_or, Some, None, refl, sym, ap, subst, ◌∙◌}
use Rattle.std.specs.Prelude.{Option}
use Rattle.std.proofs.lemmas.Result.{err_from_is_err_and}
use Rattle.rdb_types.specs.declared.keys.Dbkey.{Dbkey}
use Rattle.index_node.specs.declared.entry.NodeEntry.{NodeEntry}
use Rattle.sorted_index_laws.specs.Changes.{pair_of}
use Rattle.sorted_index_laws.specs.Inner.Steps.{child_place}
use Rattle.sorted_index_laws.proofs.Laid.{AreOf, all_of, without_of, remove_of, laid_fewer, laid_known}
use Rattle.sorted_index_laws.proofs.TakenOut.{leaf_taken, nothing_taken, child_misses, child_stops, child_taken, empty_true, empty_false}
use Rattle.sorted_index.proofs.removal.+take_out.Goals.{then-is_empty+in_ok-push, else-is_empty+in_ok-write_node}
use Rattle.sorted_index.proofs.removal.+take_out.Goals as goal

-- the place in the slice is that in the node
within : (entries nodes : List NodeEntry) (at : ℕ) → entries ≡ nodes → at < length entries → at < length nodes
within entries nodes at same h = subst (λ (es : List NodeEntry). at < length es) same h

child_there : (entries nodes : List NodeEntry) (at : ℕ) (child : Option Dbkey) → entries ≡ nodes → ((d : NodeEntry) → (get_or entries at d).child ≡ child) → (d : NodeEntry) → (get_or nodes at d).child ≡ child
child_there entries nodes at child same h = subst (λ (es : List NodeEntry). (d : NodeEntry) → (get_or es at d).child ≡ child) same h

none_there : (entries nodes : List NodeEntry) (at : ℕ) → entries ≡ nodes → (at < length entries → (d : NodeEntry) → (get_or entries at d).child ≡ None) → at < length nodes → (d : NodeEntry) → (get_or nodes at d).child ≡ None
none_there entries nodes at same h = subst (λ (es : List NodeEntry). at < length es → (d : NodeEntry) → (get_or es at d).child ≡ None) same h

pub returns-then-level-eq0-clause-laid : goal.returns-then-level-eq0-clause-laid
returns-then-level-eq0-clause-laid g t c =
    laid_fewer c.args.node.level c.take_pair-entries.result c.args.node.entries (subst (λ (es : List NodeEntry). AreOf es c.args.node.entries) (sym c.take_pair-entries.ensures) (without_of (pair_of c.args.key.now c.args.row) c.args.node.entries)) c.requires

pub returns-then-level-eq0-clause-takes : goal.returns-then-level-eq0-clause-takes
returns-then-level-eq0-clause-takes g t c = leaf_taken (g.V.View.knows c.args.view.now) (pair_of c.args.key.now c.args.row) c.args.node c.take_pair-entries.result c.args.writes.now c.if-level-eq0.true c.take_pair-entries.ensures

pub returns-in_default-clause-takes : goal.returns-in_default-clause-takes
returns-in_default-clause-takes g t c =
    nothing_taken (g.V.View.knows c.args.view.now) (pair_of c.args.key.now c.args.row) c.args.node c.child_place-at.result c.args.writes.now (λ leaf. c.if-level-eq0.false leaf)
    (c.child_place-at.ensures ∙ ap (child_place (pair_of c.args.key.now c.args.row)) c.as_slice.ensures)
    (none_there c.as_slice-2.result.now c.args.node.entries c.child_place-at.result c.as_slice-2.ensures (rw c.in_default.is at c.child_of.ensures.none))

pub returns-in_err-below-clause-takes : goal.returns-in_err-below-clause-takes
returns-in_err-below-clause-takes g t c =
    let p = err_from_is_err_and c.from_residual.result c.from_residual.ensures.1 in
    rw (p.1, p.2)
    (child_misses (g.V.View.knows c.args.view.now) (pair_of c.args.key.now c.args.row) c.args.node c.child_place-at.result (c.args.node.level - 1) c.in-Some.child c.args.writes.now c.in_err-below.field-0.0 (λ leaf. c.if-level-eq0.false leaf) refl
    (c.child_place-at.ensures ∙ ap (child_place (pair_of c.args.key.now c.args.row)) c.as_slice.ensures)
    (within c.as_slice-2.result.now c.args.node.entries c.child_place-at.result c.as_slice-2.ensures c.in-Some.ensures.some.0)
    (child_there c.as_slice-2.result.now c.args.node.entries c.child_place-at.result (Some c.in-Some.child) c.as_slice-2.ensures c.in-Some.ensures.some.1)
    c.in_err-below.ensures)

pub take_out-requires : goal.take_out-requires
take_out-requires g t c = λ κs lives. (search rules, (lives, laid_known ((g.V.View.knows c.args.view.now).line c.in-Some.child) c.in_ok-below.below c.in_ok-below.ensures.0))

pub returns-in_err-left-clause-takes : goal.returns-in_err-left-clause-takes
returns-in_err-left-clause-takes g t c =
    let p = err_from_is_err_and c.from_residual-in_err-left.result c.from_residual-in_err-left.ensures.1 in
    rw (p.1, p.2)
    (child_stops (g.V.View.knows c.args.view.now) (pair_of c.args.key.now c.args.row) c.args.node c.child_place-at.result c.in-Some.child c.in_ok-below.below c.args.writes.now c.take_out.new.writes c.in_err-left.field-0.0 (λ leaf. c.if-level-eq0.false leaf)
    (c.child_place-at.ensures ∙ ap (child_place (pair_of c.args.key.now c.args.row)) c.as_slice.ensures)
    (within c.as_slice-2.result.now c.args.node.entries c.child_place-at.result c.as_slice-2.ensures c.in-Some.ensures.some.0)
    (child_there c.as_slice-2.result.now c.args.node.entries c.child_place-at.result (Some c.in-Some.child) c.as_slice-2.ensures c.in-Some.ensures.some.1)
    c.in_ok-below.ensures.0 c.in_err-left.ensures.takes)

pub returns-clause-laid : goal.returns-clause-laid
returns-clause-laid g t c =
    let inside = within c.as_slice-2.result.now c.args.node.entries c.child_place-at.result c.as_slice-2.ensures c.in-Some.ensures.some.0 in
    elim c.if-is_empty.branch [
      | then-is_empty+in_ok-push w ↦ laid_fewer c.args.node.level c.if-is_empty.entries c.args.node.entries (subst (λ (es : List NodeEntry). AreOf es c.args.node.entries) (sym (w.entries-is ∙ w.remove-gone.ensures.rest)) (remove_of c.args.node.entries c.child_place-at.result inside)) c.requires
      | else-is_empty+in_ok-write_node w ↦ laid_fewer c.args.node.level c.if-is_empty.entries c.args.node.entries (subst (λ (es : List NodeEntry). AreOf es c.args.node.entries) (sym w.entries-is) (all_of c.args.node.entries)) c.requires
    ]

pub returns-clause-takes : goal.returns-clause-takes
returns-clause-takes g t c =
    let at_is = c.child_place-at.ensures ∙ ap (child_place (pair_of c.args.key.now c.args.row)) c.as_slice.ensures in
    let inside = within c.as_slice-2.result.now c.args.node.entries c.child_place-at.result c.as_slice-2.ensures c.in-Some.ensures.some.0 in
    let child = child_there c.as_slice-2.result.now c.args.node.entries c.child_place-at.result (Some c.in-Some.child) c.as_slice-2.ensures c.in-Some.ensures.some.1 in
    elim c.if-is_empty.branch [
      | then-is_empty+in_ok-push w ↦ child_taken (g.V.View.knows c.args.view.now) (pair_of c.args.key.now c.args.row) c.args.node c.child_place-at.result c.in-Some.child c.in_ok-below.below c.in_ok-left.left c.args.writes.now c.take_out.new.writes c.if-is_empty.writes None c.if-is_empty.entries true (λ leaf. c.if-level-eq0.false leaf)
          at_is inside child c.in_ok-below.ensures.0 c.in_ok-left.ensures.takes (w.writes-is ∙ w.in_ok-push.ensures.ok) (empty_true c.in_ok-left.left.entries c.is_empty.result c.is_empty.ensures w.if-is_empty.true) (refl, w.entries-is ∙ w.remove-gone.ensures.rest)
      | else-is_empty+in_ok-write_node w ↦ child_taken (g.V.View.knows c.args.view.now) (pair_of c.args.key.now c.args.row) c.args.node c.child_place-at.result c.in-Some.child c.in_ok-below.below c.in_ok-left.left c.args.writes.now c.take_out.new.writes c.if-is_empty.writes (Some w.in_ok-write_node.ensures.ok.0) c.if-is_empty.entries false (λ leaf. c.if-level-eq0.false leaf)
          at_is inside child c.in_ok-below.ensures.0 c.in_ok-left.ensures.takes (w.writes-is ∙ w.in_ok-write_node.ensures.ok.1.1) (empty_false c.in_ok-left.left.entries c.is_empty.result c.is_empty.ensures w.if-is_empty.false) (w.in_ok-write_node.ensures.ok.1.0, w.entries-is)
    ]
