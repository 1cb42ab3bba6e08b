use Rattle.std.proofs.Common.{◌≡◌, ℕ, zero, suc, List, [], ◌∷◌, Some, refl, ap, subst}
use Rattle.std.specs.Prelude.{slice_get}
use Rattle.std.proofs.lemmas.Option.{none-some, same_Some}
use Rattle.version_writing.specs.declared.wanting.AllBut.{AllBut}
use Rattle.version_writing.specs.Slots.{IsTable, SlotTable}
use Rattle.version_writing.specs.Wanting.{IsUnwantedIn}
use Rattle.version_writing.proofs.Sifted.{gives-back}
use Rattle.version_writing.proofs.file_slots.FileSlots.give_pushed.Goals as goal

in-one : (x m : AllBut) (s : ℕ) → slice_get (x ∷ []) s ≡ Some m → x ≡ m
in-one x m zero is = same_Some x m is
in-one x m (suc s) is = absurd (none-some m is)

pub returns : goal.returns
returns c =
    let but : AllBut = record { tsn = c.args.tsn } in
    let U : ℕ → Type 0 = IsUnwantedIn (λ (b : AllBut) (n : ℕ). n ≡ b.tsn.number) (but ∷ []) in
    gives-back U c.args.tsn.number c.args.self.now c.give_unwanted.new.self c.requires (λ n off. off 0 but refl) (λ s m is. ap (λ (b : AllBut). b.tsn.number) (in-one but m s is))
    (subst (λ (t : SlotTable). IsTable t.slots t.pushers) c.self.view_is c.self.invariant.0) c.give_unwanted.ensures
