-- Lines in the order of their keys.
use Rattle.std.proofs.Common.{◌≡◌, ℕ, zero, suc, ◌<◌, ◌≤◌, true, false, List, [], ◌∷◌, ◌++◌, Some, slice_get, refl, ap, subst, arith}
use Rattle.std.proofs.lemmas.Bool.{and_parts, and_from}
use Rattle.std.proofs.lemmas.Cmp.{ranked}
use Rattle.std.specs.declared.cmp.Ordering.{Ordering}
use Rattle.std.specs.declared.cmp.Ordering.TheVariants.{Less, Equal, Greater}
use Rattle.std.specs.Ordering.{nat_cmp, ordering_then, is_lt}
use Rattle.std.specs.FinMap.Entries.{is_sorted, below_all}
use Rattle.rdb_types.specs.Order.{dbkey_order}
use Rattle.rdb_types.specs.declared.keys.Dbkey.{Dbkey}
use Rattle.backup_file.specs.declared.line.BackupLine.{BackupLine}
use Rattle.backup_file.specs.Whole.{lines_in}

pub less_is : (o : Ordering) → is_lt o ≡ true → o ≡ Less
less_is Less is = refl
less_is Equal is = let bad : false ≡ true = is in cc
less_is Greater is = let bad : false ≡ true = is in cc

-- ---- keys as numbers

at_most : (o p : Ordering) (a b : ℕ) → o ≡ nat_cmp a b → ordering_then o p ≡ Less → a ≤ b
at_most Less p a b is less = let lt : a < b = ranked a b Less is in omega (arith, lt)
at_most Equal p a b is less = let same : a ≡ b = ranked a b Equal is in omega (arith, same)
at_most Greater p a b is less = let bad : Greater ≡ Less = less in cc

rest_less : (o p : Ordering) (a b : ℕ) → o ≡ nat_cmp a b → a ≡ b → ordering_then o p ≡ Less → p ≡ Less
rest_less Less p a b is same less = absurd (let lt : a < b = ranked a b Less is in omega (arith, lt, same))
rest_less Equal p a b is same less = less
rest_less Greater p a b is same less = let bad : Greater ≡ Less = less in cc

pub area_at_most : (a b : Dbkey) → dbkey_order a b ≡ Less → a.area ≤ b.area
area_at_most a b less = at_most (nat_cmp a.area b.area) (ordering_then (nat_cmp a.page b.page) (nat_cmp a.line b.line)) a.area b.area refl less

pub page_at_most : (a b : Dbkey) → dbkey_order a b ≡ Less → a.area ≡ b.area → a.page ≤ b.page
page_at_most a b less same =
    at_most (nat_cmp a.page b.page) (nat_cmp a.line b.line) a.page b.page refl
    (rest_less (nat_cmp a.area b.area) (ordering_then (nat_cmp a.page b.page) (nat_cmp a.line b.line)) a.area b.area refl same less)

-- a key between two of one page is of that page
pub between : (a b c : Dbkey) → dbkey_order a b ≡ Less → dbkey_order b c ≡ Less → a.area ≡ c.area → a.page ≡ c.page → (c.area ≡ b.area) × (c.page ≡ b.page)
between a b c first second area page =
    let low = area_at_most a b first in let high = area_at_most b c second in
    let same : a.area ≡ b.area = omega (arith, low, high, area) in
    let also : b.area ≡ c.area = omega (arith, low, high, area) in
    let left = page_at_most a b first same in let right = page_at_most b c second also in
    (omega (arith, also), omega (arith, left, right, page))

-- ---- lists in order

below_each : (key : Dbkey) (lines : List BackupLine) (i : ℕ) (b : BackupLine) → below_all dbkey_order key (lines_in lines) ≡ true → slice_get lines i ≡ Some b → dbkey_order key b.key ≡ Less
below_each key [] i b below got = let bad : ⊥ = cc in absurd bad
below_each key (l ∷ ls) zero b below got = let parts = and_parts _ _ below in subst (λ (x : BackupLine). dbkey_order key x.key ≡ Less) (some_back l b got) (less_is (dbkey_order key l.key) parts.0)
  where
    some_back : (x y : BackupLine) → Some x ≡ Some y → x ≡ y
    some_back x y same = cc
below_each key (l ∷ ls) (suc i) b below got = let parts = and_parts _ _ below in below_each key ls i b parts.1 got

-- a line before another is less
pub sorted_less : (lines : List BackupLine) (i k : ℕ) (a b : BackupLine) → is_sorted dbkey_order (lines_in lines) ≡ true → slice_get lines i ≡ Some a → slice_get lines k ≡ Some b → i < k → dbkey_order a.key b.key ≡ Less
sorted_less [] i k a b sorted got also lt = let bad : ⊥ = cc in absurd bad
sorted_less (l ∷ ls) i zero a b sorted got also lt = absurd (omega (arith, lt))
sorted_less (l ∷ ls) zero (suc k) a b sorted got also lt = let parts = and_parts _ _ sorted in subst (λ (x : BackupLine). dbkey_order x.key b.key ≡ Less) (some_back l a got) (below_each l.key ls k b parts.0 also)
  where
    some_back : (x y : BackupLine) → Some x ≡ Some y → x ≡ y
    some_back x y same = cc
sorted_less (l ∷ ls) (suc i) (suc k) a b sorted got also lt = let parts = and_parts _ _ sorted in sorted_less ls i k a b parts.1 got also (omega (arith, lt))

below_more : (key : Dbkey) (lines : List BackupLine) (line : BackupLine) → below_all dbkey_order key (lines_in lines) ≡ true → dbkey_order key line.key ≡ Less → below_all dbkey_order key (lines_in (lines ++ line ∷ [])) ≡ true
below_more key [] line below less = and_from _ _ (ap is_lt less) refl
below_more key (l ∷ ls) line below less = let parts = and_parts _ _ below in and_from _ _ parts.0 (below_more key ls line parts.1 less)

-- a line behind all others
pub sorted_more : (lines : List BackupLine) (line : BackupLine) → is_sorted dbkey_order (lines_in lines) ≡ true → ((i : ℕ) (a : BackupLine) → slice_get lines i ≡ Some a → dbkey_order a.key line.key ≡ Less) → is_sorted dbkey_order (lines_in (lines ++ line ∷ [])) ≡ true
sorted_more [] line sorted less = refl
sorted_more (l ∷ ls) line sorted less =
    let parts = and_parts _ _ sorted in
    and_from _ _ (below_more l.key ls line parts.0 (less 0 l refl)) (sorted_more ls line parts.1 (λ i a got. less (suc i) a got))
