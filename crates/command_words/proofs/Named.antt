-- A word that a name in capitals ends.
use Rattle.std.proofs.Common.{◌≡◌, ◌≤◌, ◌<◌, ℕ, Bool, true, false, cond, ◌&&◌, nat_eq, List, [], ◌∷◌, length, Option, Some, None, refl, arith}
use Rattle.command_words.specs.Bytes.{upper_of, behind, is_command}

abbrev pub ends_there : Option (List ℕ) → Bool
ends_there None = false
ends_there (Some []) = true
ends_there (Some (b ∷ bs)) = false

by_first : (b c : Bool) (rest : Option (List ℕ)) → ends_there rest ≡ c → ends_there (cond b rest None) ≡ (b && c)
by_first true c rest is = is
by_first false c rest is = refl

pub named : (name word : List ℕ) → ends_there (behind name word) ≡ is_command name word
named [] [] = refl
named [] (b ∷ word) = refl
named (c ∷ name) [] = refl
named (c ∷ name) (b ∷ word) = by_first (nat_eq (upper_of b) c) (is_command name word) (behind name word) (named name word)

pub some_left : (rest : List ℕ) → 1 ≤ length rest → ends_there (Some rest) ≡ false
some_left [] some = absurd (let no : ⊥ = omega (arith, some) in no)
some_left (b ∷ bs) some = refl

pub none_left : (rest : List ℕ) → length rest < 1 → ends_there (Some rest) ≡ true
none_left [] none = refl
none_left (b ∷ bs) none = absurd (let no : ⊥ = omega (arith, none) in no)
