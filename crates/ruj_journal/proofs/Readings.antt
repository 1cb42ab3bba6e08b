-- The bytes of a slot determine what it says.
use Rattle.std.proofs.Common.{◌≡◌, ◌∙◌, sym, ℕ, List, [], ◌∷◌, length, Option, Some, None, ⊎_elim, arith}
use Rattle.slot_fields.proofs.Laws.{word_not_zeros}
use Rattle.rdb_page.proofs.States.{one_state}
use Rattle.rdb_types.specs.declared.keys.Tsn.{Tsn}
use Rattle.ruj_journal.specs.declared.entry.RujEntry.{RujEntry}
use Rattle.ruj_journal.specs.Entry.{IsEntry}
use Rattle.ruj_journal.specs.Header.{IsHeader, IsWritten, IsAllowed, number_of}

pub one_entry : (slot : List ℕ) (a b : RujEntry) → IsEntry slot a → IsEntry slot b → a ≡ b
one_entry slot a b x y =
    let p = x.fields in let q = y.fields in
    let tsn : a.tsn.number ≡ b.tsn.number = cc in
    let index : a.index ≡ b.index = cc in
    let area : a.key.area ≡ b.key.area = cc in
    let page : a.key.page ≡ b.key.page = cc in
    let line : a.key.line ≡ b.key.line = cc in
    let state : a.before.state ≡ b.before.state = one_state a.before.state b.before.state cc in
    let size : length a.before.image ≡ length b.before.image = cc in
    let before_tsn : a.before.tsn.number ≡ b.before.tsn.number = cc in
    let chain : a.before.chain ≡ b.before.chain = cc in
    let image : a.before.image ≡ b.before.image = cc in
    λ i. record {
      tsn = record { number = tsn i };
      index = index i;
      key = record { area = area i; page = page i; line = line i };
      before = record { state = state i; tsn = record { number = before_tsn i }; chain = chain i; image = image i };
    }

one_number : (a b : Option Tsn) → IsAllowed a → IsAllowed b → number_of a ≡ number_of b → a ≡ b
one_number None None p q same = λ i. None
one_number None (Some b) p q same = absurd (omega (arith, same, q))
one_number (Some a) None p q same = absurd (omega (arith, same, p))
one_number (Some a) (Some b) p q same = λ i. Some (record { number = same i })

pub one_header : (slot : List ℕ) (a b : Option Tsn) → IsHeader slot a → IsHeader slot b → a ≡ b
one_header slot a b x y =
    ⊎_elim
    (λ (first : IsWritten slot a).
    ⊎_elim
    (λ (second : IsWritten slot b). one_number a b first.allowed second.allowed (sym first.fields.1.0 ∙ second.fields.1.0))
    (λ second. absurd (word_not_zeros slot (length slot) 81 (85 ∷ 74 ∷ 72 ∷ []) second.0 first.fields.0))
    y)
    (λ first.
    ⊎_elim
    (λ (second : IsWritten slot b). absurd (word_not_zeros slot (length slot) 81 (85 ∷ 74 ∷ 72 ∷ []) first.0 second.fields.0))
    (λ second. first.1 ∙ sym second.1)
    y)
    x
