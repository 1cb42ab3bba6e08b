-- The bytes of a slot determine what it is.
use Rattle.std.proofs.Common.{◌≡◌, ap, ℕ, List, length, Option, Some, None}
use Rattle.rdb_page.specs.slot_fields.Fields.{HasFrom}
use Rattle.rdb_page.proofs.States.{one_state}
use Rattle.aij_journal.specs.declared.part.GroupLine.{GroupLine}
use Rattle.aij_journal.specs.declared.part.AijPart.{AijPart}
use Rattle.aij_journal.specs.Part.{IsPart, what_fields}

one_line : (slot : List ℕ) (a b : GroupLine) → HasFrom 28 (what_fields (Some a)) slot → HasFrom 28 (what_fields (Some b)) slot → a ≡ b
one_line slot a b p q =
    let area : a.key.area ≡ b.key.area = cc in
    let page : a.key.page ≡ b.key.page = cc in
    let line : a.key.line ≡ b.key.line = cc in
    let state : a.state ≡ b.state = one_state a.state b.state cc in
    let size : length a.image ≡ length b.image = cc in
    let class : a.class ≡ b.class = cc in
    let image : a.image ≡ b.image = cc in
    λ i. record { key = record { area = area i; page = page i; line = line i }; class = class i; state = state i; image = image i }

one_what : (slot : List ℕ) (a b : Option GroupLine) → HasFrom 28 (what_fields a) slot → HasFrom 28 (what_fields b) slot → a ≡ b
one_what slot None None p q = λ i. None
one_what slot None (Some b) p q = let bad : ⊥ = cc in absurd bad
one_what slot (Some a) None p q = let bad : ⊥ = cc in absurd bad
one_what slot (Some a) (Some b) p q = ap Some (one_line slot a b p q)

pub one_part : (slot : List ℕ) (a b : AijPart) → IsPart slot a → IsPart slot b → a ≡ b
one_part slot a b x y =
    let p = x.fields in let q = y.fields in
    let number : a.number ≡ b.number = cc in
    let tsn : a.tsn.number ≡ b.tsn.number = cc in
    let index : a.index ≡ b.index = cc in
    let count : a.count ≡ b.count = cc in
    let line : a.line ≡ b.line = one_what slot a.line b.line p.1.1.1.1.1 q.1.1.1.1.1 in
    λ i. record { number = number i; tsn = record { number = tsn i }; index = index i; count = count i; line = line i }
