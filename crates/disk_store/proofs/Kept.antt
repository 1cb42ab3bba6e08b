-- Numbers that are kept free, where one member is another.
use Rattle.std.proofs.Common.{◌≡◌, ◌≤◌, ◌+◌, ℕ, zero, suc, List, [], ◌∷◌, Some, ap, arith}
use Rattle.std.specs.Prelude.{slice_get, slice_set}
use Rattle.std.proofs.lemmas.Option.{same_Some, none-some}
use Rattle.std.proofs.lemmas.List.Sums.{sum_by-cons}
use Rattle.disk_store.specs.declared.member.Member.{Member}
use Rattle.disk_store.specs.Numbers.{kept_by, kept_in}

pub kept-set : (ms : List Member) (s : ℕ) (m n : Member) → slice_get ms s ≡ Some m → kept_in (slice_set ms s n) + kept_by m ≡ kept_in ms + kept_by n
kept-set [] s m n is = absurd (none-some m is)
kept-set (x ∷ xs) zero m n is =
    let new = sum_by-cons kept_by n xs in
    let old = sum_by-cons kept_by x xs in
    let same : kept_by x ≡ kept_by m = ap kept_by (same_Some _ _ is) in
    omega (arith, new, old, same)
kept-set (x ∷ xs) (suc s) m n is =
    let new = sum_by-cons kept_by x (slice_set xs s n) in
    let old = sum_by-cons kept_by x xs in
    let rest = kept-set xs s m n is in
    omega (arith, new, old, rest)

-- no more are kept
pub kept-stays : (ms : List Member) (s next written : ℕ) (m n : Member) → slice_get ms s ≡ Some m → kept_by n ≤ kept_by m → next + kept_in ms ≤ written → next + kept_in (slice_set ms s n) ≤ written
kept-stays ms s next written m n is fewer was = let set = kept-set ms s m n is in omega (arith, set, fewer, was)
