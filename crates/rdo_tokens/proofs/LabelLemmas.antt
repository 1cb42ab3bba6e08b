-- The count of the bytes that are left falls from each token to the next.
use Rattle.std.proofs.Common.{◌≡◌, ◌≤◌, ◌<◌, ◌-◌, ℕ, zero, suc, Bool, true, false, ◌==◌, cond, [], ◌∷◌, ◌++◌, length, take, refl, arith}
use Rattle.rdo_tokens.specs.declared.lex.Class.TheVariants as class
use Rattle.rdo_tokens.specs.Lex.{Text, Token, token, is_blank, past, tokens_from, tokens}
use Rattle.rdo_tokens.specs.Input.{Input, left}

abbrev pub Falls : Input → Type 0
Falls [] = Unit {0}
Falls (t ∷ ts) = (left ts < t.left) × Falls ts

abbrev FallsBelow : Text → Input → Type 0
FallsBelow z i = Falls i × (left i ≤ length z)

-- one byte more before the text
longer : (b : ℕ) (z : Text) (i : Input) → FallsBelow z i → FallsBelow (b ∷ z) i
longer b z i f = (f.0, omega (arith, f.1))

fall_case : (b : ℕ) (z : Text) (t : Token) (others comment behind : Input) → t.left ≡ length (b ∷ z) → FallsBelow z others → FallsBelow z comment → FallsBelow z behind →
    (blank mark : Bool) → FallsBelow (b ∷ z) (cond blank others (cond mark comment (t ∷ behind)))
unfolding left
fall_case b z t others comment behind e f g h true mark = longer b z others f
fall_case b z t others comment behind e f g h false true = longer b z comment g
fall_case b z t others comment behind e f g h false false = ((omega (arith, e, h.1), h.0), omega (arith, e))

falls_from : (n : ℕ) (z : Text) → FallsBelow z (tokens_from n z)
unfolding left
falls_from n [] = (tt, omega arith)
falls_from (suc n) (b ∷ z) = longer b z (tokens_from n z) (falls_from n z)
falls_from zero (b ∷ z) =
    fall_case b z (record { kind = (token (b ∷ z)).kind; spelling = take (token (b ∷ z)).len (b ∷ z); left = length (b ∷ z) })
    (tokens_from 0 z) (tokens_from (past class.Comment z 0) z) (tokens_from ((token (b ∷ z)).len - 1) z) refl
    (falls_from 0 z) (falls_from (past class.Comment z 0) z) (falls_from ((token (b ∷ z)).len - 1) z) (is_blank b) (b == 33)

-- the tokens of a text
pub falls : (z : Text) → Falls (tokens z)
unfolding tokens
falls z = (falls_from 0 z).0

pub left-tokens : (z : Text) → left (tokens z) ≤ length z
unfolding tokens
left-tokens z = (falls_from 0 z).1

-- what stands behind has no more bytes left
pub left-behind : (front rest : Input) → Falls (front ++ rest) → left rest ≤ left (front ++ rest)
unfolding left
left-behind [] rest f = omega arith
left-behind (t ∷ ts) rest f = omega (arith, left-behind ts rest f.1, f.0)
