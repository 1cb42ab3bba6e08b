-- Places behind parts of a script.
use Rattle.std.proofs.Common.{◌≡◌, ℕ, suc, min, ◌+◌, ◌-◌, ◌≤◌, ◌<◌, ◌==◌, Bool, true, false, cond, [], ◌∷◌, ◌++◌, length, take, drop, refl, ap, sym, ◌∙◌, arith}
use Rattle.std.specs.List.{fold}
use Rattle.std.proofs.Math.Seq.{take-add}
use Rattle.std.proofs.lemmas.List.{length-take}
use Rattle.std.proofs.lemmas.List.Sums.{fold-append}
use Rattle.rdo_tokens.specs.Lex.{Text}
use Rattle.rdo_parser.specs.declared.place.Place.{Place}
use Rattle.rdo_parser.specs.Places.{behind_byte, place_behind, line_len}

column_case : (p : Place) (v : Bool) → 1 ≤ (let q : Place = cond v (record { line = p.line + 1; column = 1 }) (record { line = p.line; column = p.column + 1 }) in q).column
column_case p true = omega arith
column_case p false = omega arith

sum_case : (p : Place) (v : Bool) → 1 ≤ p.column →
    (let q : Place = cond v (record { line = p.line + 1; column = 1 }) (record { line = p.line; column = p.column + 1 }) in q.line + q.column) ≤ p.line + p.column + 1
sum_case p true h = omega arith
sum_case p false h = omega arith

small_from : (p : Place) (z : Text) → 1 ≤ p.column → (fold behind_byte p z).line + (fold behind_byte p z).column ≤ p.line + p.column + length z
small_from p [] h = omega arith
small_from p (b ∷ z) h = omega (arith, small_from (behind_byte p b) z (column_case p (b == 10)), sum_case p (b == 10) h)

-- lines and columns are no more than bytes
pub place_small : (script : Text) (at : ℕ) → at ≤ length script → (place_behind (take at script)).line + (place_behind (take at script)).column ≤ at + 2
place_small script at within = omega (arith, small_from (record { line = 1; column = 1 }) (take at script) (omega arith), length-take at script)

-- the place behind a longer part
pub place_more : (script : Text) (at next : ℕ) → at ≤ next → fold behind_byte (place_behind (take at script)) (take (next - at) (drop at script)) ≡ place_behind (take next script)
place_more script at next within =
    let whole : at + (next - at) ≡ next = omega arith in
    sym (fold-append behind_byte (record { line = 1; column = 1 }) (take at script) (take (next - at) (drop at script)))
    ∙ ap place_behind (sym (take-add at (next - at) script) ∙ ap (λ n. take n script) whole)

line_case : (v : Bool) (n rest : ℕ) → n ≤ rest → (1 ≤ cond v 1 (suc n)) × (cond v 1 (suc n) ≤ suc rest)
line_case true n rest h = (omega arith, omega arith)
line_case false n rest h = (omega arith, omega arith)

pub line_len-within : (z : Text) → line_len z ≤ length z
line_len-within [] = omega arith
line_len-within (b ∷ z) = (line_case (b == 10) (line_len z) (length z) (line_len-within z)).1

-- a line that is not empty takes a byte
pub line_len-some : (z : Text) → min 1 (length z) ≤ line_len z
line_len-some [] = omega arith
line_len-some (b ∷ z) = omega (arith, (line_case (b == 10) (line_len z) (length z) (line_len-within z)).0)
