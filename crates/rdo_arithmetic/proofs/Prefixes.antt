-- A pattern at the start of a text, letter by letter and whatever their case.
use Rattle.std.proofs.Common.{◌≡◌, ℕ, ◌+◌, ◌<◌, ◌≤◌, Bool, true, false, ◌&&◌, ◌||◌, nat_eq, List, [], ◌∷◌, map, length, get_or, drop, refl, ap, sym, ◌∙◌, arith}
use Rattle.std.proofs.lemmas.List.{at_drop_more, at_drop_all}
use Rattle.std.proofs.lemmas.Bool.Decides.{nat_tests}
use Rattle.std.specs.List.{starts_with}
use Rattle.std.specs.Char.{to_ascii_uppercase}
use Rattle.rdb_meaning.specs.Comparison.{contains}

abbrev pub agrees : List ℕ → List ℕ → Bool
agrees [] text = true
agrees (p ∷ ps) [] = false
agrees (p ∷ ps) (c ∷ cs) = nat_eq (to_ascii_uppercase p) (to_ascii_uppercase c) && agrees ps cs

pub starts_with-agrees : (pattern text : List ℕ) → starts_with nat_eq (map to_ascii_uppercase text) (map to_ascii_uppercase pattern) ≡ agrees pattern text
starts_with-agrees [] text = refl
starts_with-agrees (p ∷ ps) [] = refl
starts_with-agrees (p ∷ ps) (c ∷ cs) = ap (λ b. nat_eq (to_ascii_uppercase p) (to_ascii_uppercase c) && b) (starts_with-agrees ps cs)

false_right : (b : Bool) → (b && false) ≡ false
false_right true = refl
false_right false = refl

pub agrees_short : (ps ts : List ℕ) → length ts < length ps → agrees ps ts ≡ false
agrees_short [] ts h = absurd (omega arith)
agrees_short (p ∷ ps) [] h = refl
agrees_short (p ∷ ps) (c ∷ cs) h = ap (λ b. nat_eq (to_ascii_uppercase p) (to_ascii_uppercase c) && b) (agrees_short ps cs (omega arith)) ∙ false_right _

-- one letter further
pub agrees_more : (ps ts : List ℕ) (i : ℕ) → i < length ps → i < length ts → agrees (drop i ps) (drop i ts) ≡ (nat_eq (to_ascii_uppercase (get_or ps i 0)) (to_ascii_uppercase (get_or ts i 0)) && agrees (drop (i + 1) ps) (drop (i + 1) ts))
agrees_more ps ts i h k = at_drop_more (λ qs. agrees qs (drop i ts)) ps i 0 h ∙ at_drop_more (agrees (get_or ps i 0 ∷ drop (i + 1) ps)) ts i 0 k

pub differs_false : (m n : ℕ) → (m ≡ n → ⊥) → nat_eq m n ≡ false
differs_false m n h = grind (arith, nat_tests)

-- where a letter differs
pub begins_not : (ps ts : List ℕ) (i : ℕ) → agrees ps ts ≡ agrees (drop i ps) (drop i ts) → i < length ps → i < length ts → (to_ascii_uppercase (get_or ps i 0) ≡ to_ascii_uppercase (get_or ts i 0) → ⊥) → false ≡ starts_with nat_eq (map to_ascii_uppercase ts) (map to_ascii_uppercase ps)
begins_not ps ts i e h k d =
    sym (starts_with-agrees ps ts ∙ e ∙ agrees_more ps ts i h k ∙ ap (λ b. b && agrees (drop (i + 1) ps) (drop (i + 1) ts)) (differs_false _ _ d))

-- where all letters were seen
pub begins_all : (ps ts : List ℕ) (i : ℕ) → agrees ps ts ≡ agrees (drop i ps) (drop i ts) → length ps ≤ i → true ≡ starts_with nat_eq (map to_ascii_uppercase ts) (map to_ascii_uppercase ps)
begins_all ps ts i e h = sym (starts_with-agrees ps ts ∙ e ∙ at_drop_all (λ qs. agrees qs (drop i ts)) ps i h)

-- a pattern that does not begin at a place of a text is sought behind it
pub contains_more : (pattern text : List ℕ) (i : ℕ) → i < length text → false ≡ starts_with nat_eq (map to_ascii_uppercase (drop i text)) pattern → contains pattern (map to_ascii_uppercase (drop i text)) ≡ contains pattern (map to_ascii_uppercase (drop (i + 1) text))
contains_more pattern text i h e =
    let here = at_drop_more (λ ts. contains pattern (map to_ascii_uppercase ts)) text i 0 h in
    let at = at_drop_more (λ ts. starts_with nat_eq (map to_ascii_uppercase ts) pattern) text i 0 h in
    here ∙ ap (λ b. b || contains pattern (map to_ascii_uppercase (drop (i + 1) text))) (sym at ∙ sym e)
