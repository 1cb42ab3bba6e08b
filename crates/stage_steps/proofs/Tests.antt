-- What tests of two parts say.
use Rattle.line_view.specs.declared.writes.Write.{Write}
use Rattle.session_limits.specs.Some.{WriteSome}
use Rattle.std.proofs.Common.{List, [], ◌∷◌, ◌≡◌, ◌||◌, Bool, true, false, not, refl, sym}
use Rattle.std.proofs.lemmas.Bool.{false≢true}

-- the first statement of a transaction that a refusal ends
pub first-starts : (spoken starts : Bool) → (spoken || not starts) ≡ false → (spoken ≡ false) × (starts ≡ true)
first-starts true starts h = absurd (false≢true (sym h))
first-starts false true h = (refl, refl)
first-starts false false h = absurd (false≢true (sym h))

pub neither : (a b : Bool) → (a || b) ≡ false → (a ≡ false) × (b ≡ false)
neither true b h = absurd (false≢true (sym h))
neither false true h = absurd (false≢true (sym h))
neither false false h = (refl, refl)

pub write-some : (ws : List Write) → (ws ≡ [] → ⊥) → WriteSome ws
write-some [] h = h refl
write-some (w ∷ ws) h = tt

pub not-not : (b : Bool) → not (not b) ≡ b
not-not true = refl
not-not false = refl

pub not-false : (b : Bool) → not b ≡ true → b ≡ true → ⊥
not-false true h k = false≢true h
not-false false h k = false≢true k

pub not-true : (b : Bool) → not b ≡ false → b ≡ true
not-true true h = refl
not-true false h = absurd (false≢true (sym h))
