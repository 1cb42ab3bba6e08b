use Rattle.std.proofs.Common.{◌∙◌, sym, ap, subst, List}
use Rattle.rdb_meaning.specs.Checks.{Refusal, Use, reservation_refusal}
use Rattle.rdb_checks.specs.Answers.{Finds}
use Rattle.rdb_checks.proofs.Reserving.{uses_of_area-at}
use Rattle.rdb_checks.proofs.reservations.check_index_reserved.Goals as goal

pub returns-then-entry-index : goal.returns-then-entry-index
returns-then-entry-index c =
    let at = uses_of_area-at c.args.index.now.relation c.as_slice-entry-items.result.now c.loop-entry.entry-index c.entry-item.result c.loop-entry-test.true c.entry-item.is c.if-entry-index.true in
    subst (λ (x : Refusal). Finds c.check_change_reserved.result x)
    (sym (c.loop-entry.invariant ∙ ap (λ (us : List Use). reservation_refusal c.args.reservations.now us) at))
    c.check_change_reserved.ensures
