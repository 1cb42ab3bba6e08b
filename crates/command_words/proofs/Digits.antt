-- Numbers as they are read digit by digit.
use Rattle.std.proofs.Common.{◌≡◌, ◌≤◌, ◌<◌, ◌+◌, ◌-◌, ◌*◌, ℕ, List, [], ◌∷◌, length, drop, get_or, arith}
use Rattle.std.proofs.lemmas.List.{drop_more}
use Rattle.command_words.specs.Bytes.{digits_from}

pub le-digits_from : (n : ℕ) (ds : List ℕ) → n ≤ digits_from n ds
le-digits_from n [] = omega arith
le-digits_from n (d ∷ ds) = let h = le-digits_from (10 * n + (d - 48)) ds in omega arith

-- a sum that is too large stays so
pub too_large : (ds : List ℕ) (i value limit : ℕ) → i < length ds → digits_from value (drop i ds) ≡ digits_from 0 ds → limit ≤ 10 * value + (get_or ds i 0 - 48) → limit ≤ digits_from 0 ds
too_large ds i value limit h e l =
    let f : digits_from (10 * value + (get_or ds i 0 - 48)) (drop (i + 1) ds) ≡ digits_from 0 ds = rw (drop_more ds i 0 h) at e in
    let g = le-digits_from (10 * value + (get_or ds i 0 - 48)) (drop (i + 1) ds) in
    omega arith
