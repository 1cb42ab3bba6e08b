use Rattle.std.proofs.Common.{◌≡◌, Some, inl, inr, sym, ap, subst, ◌∙◌, arith}
use Rattle.std.specs.Prelude.{slice_get}
use Rattle.std.proofs.lemmas.Option.{same_Some}
use Rattle.line_view.specs.declared.writes.Write.{Write}
use Rattle.line_moves.proofs.Putting.{nat_cases}
use Rattle.disk_store.specs.Changing.{IsFit}
use Rattle.disk_store.proofs.Members.{get-within, lent-there}
use Rattle.disk_store.proofs.changing.first_unfit.Goals as goal

pub loop-write-preserved : goal.loop-write-preserved
loop-write-preserved c = λ i w less got.
    let at = c.loop-write.write-index in
    let item : Write = c.write-item.result in
    elim (nat_cases i at) [
      | inl same ↦
          let here : slice_get c.args.writes.now at ≡ Some item = lent-there c.args.writes.now at item c.loop-write-test.true c.write-item.is in
          let one : item ≡ w = same_Some _ _ (sym here ∙ ap (λ k. slice_get c.args.writes.now k) (sym same) ∙ got) in
          subst (λ (x : Write). IsFit c.args.s.number c.args.tables.now c.args.members.now x) one (record { placed = c.has_place.ensures c.if-not-has_place.false; free = c.is_anothers.ensures c.if-is_anothers.false })
      | inr apart ↦ c.loop-write.invariant i w (omega (arith, less, apart)) got
    ]

pub returns-clause-none : goal.returns-clause-none
returns-clause-none c = λ i w got.
    let within = get-within c.args.writes.now i w got in
    c.loop-write.invariant i w (omega (arith, within, c.loop-write-test.false)) got
