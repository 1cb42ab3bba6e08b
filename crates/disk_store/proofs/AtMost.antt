-- No more than so many of some keys are such.
use Rattle.std.proofs.Common.{◌≡◌, ◌≤◌, ◌+◌, ◌-◌, ℕ, zero, suc, List, [], ◌∷◌, ◌++◌, drop, get_or, length, take, Some, inl, inr, refl, ap, ◌∙◌, arith}
use Rattle.std.specs.Prelude.{slice_get}
use Rattle.std.proofs.Math.Seq.{drop-cons, drop-length, drop-nil}
use Rattle.std.proofs.lemmas.List.{take_more}
use Rattle.std.proofs.lemmas.Option.{get_or_from_slice_get, none-some, slice_get_within}
use Rattle.rdb_types.specs.declared.keys.Dbkey.{Dbkey}
use Rattle.disk_store.specs.Sound.{AtMost}

module _ (P : Dbkey → Type 0) where
  pub at-most-more : (a b : ℕ) (keys : List Dbkey) → a ≤ b → AtMost P a keys → AtMost P b keys
  at-most-more a b [] less few = tt
  at-most-more a b (key ∷ keys) less (inl none) = inl (none.0, at-most-more a b keys less none.1)
  at-most-more a b (key ∷ keys) less (inr some) = let first = some.0 in inr (omega (arith, less, first), at-most-more (a - 1) (b - 1) keys (omega (arith, less)) some.1)

  pub at-most-both : (a b : ℕ) (keys more : List Dbkey) → AtMost P a keys → AtMost P b more → AtMost P (a + b) (keys ++ more)
  at-most-both a b [] more few rest = at-most-more b (a + b) more (omega arith) rest
  at-most-both a b (key ∷ keys) more (inl none) rest = inl (none.0, at-most-both a b keys more none.1 rest)
  at-most-both a b (key ∷ keys) more (inr some) rest =
      let first = some.0 in
      inr (omega (arith, first), at-most-more ((a - 1) + b) ((a + b) - 1) (keys ++ more) (omega (arith, first)) (at-most-both (a - 1) b keys more some.1 rest))

  -- of those behind the first
  pub at-most-behind : (n : ℕ) (key : Dbkey) (keys : List Dbkey) → AtMost P n (key ∷ keys) → AtMost P n keys
  at-most-behind n key keys (inl none) = none.1
  at-most-behind n key keys (inr some) = at-most-more (n - 1) n keys (omega arith) some.1

  -- where the first is such
  pub at-most-less : (n : ℕ) (key : Dbkey) (keys : List Dbkey) → P key → AtMost P n (key ∷ keys) → (1 ≤ n) × AtMost P (n - 1) keys
  at-most-less n key keys such (inl none) = absurd (none.0 such)
  at-most-less n key keys such (inr some) = some

  -- where no other is such
  pub at-most-those : (Q : Dbkey → Type 0) (n : ℕ) (keys : List Dbkey) → ((i : ℕ) (key : Dbkey) → slice_get keys i ≡ Some key → Q key → P key) → AtMost P n keys → AtMost Q n keys
  at-most-those Q n [] those few = tt
  at-most-those Q n (key ∷ keys) those (inl none) = inl (λ such. none.0 (those 0 key refl such), at-most-those Q n keys (λ i k got. those (suc i) k got) none.1)
  at-most-those Q n (key ∷ keys) those (inr some) = inr (some.0, at-most-those Q (n - 1) keys (λ i k got. those (suc i) k got) some.1)

-- ---- parts of a list

pub drop-none : (n : ℕ) → ◌≡◌ {A = List Dbkey} (drop n []) []
drop-none n = drop-nil n

pub drop-through : (keys : List Dbkey) → drop (length keys) keys ≡ []
drop-through keys = drop-length keys

pub drop-first : (keys : List Dbkey) (i : ℕ) (key : Dbkey) → slice_get keys i ≡ Some key → drop i keys ≡ key ∷ drop (i + 1) keys
drop-first keys i key is =
    let less = slice_get_within keys i key is in
    let head : get_or keys i key ≡ key = get_or_from_slice_get keys i key key is in
    let same : suc i ≡ i + 1 = omega arith in
    drop-cons keys i key less ∙ (ap (λ (k : Dbkey). k ∷ drop (suc i) keys) head ∙ ap (λ (n : ℕ). key ∷ drop n keys) same)

pub take-last : (keys : List Dbkey) (i : ℕ) (key : Dbkey) → slice_get keys i ≡ Some key → take (i + 1) keys ≡ take i keys ++ key ∷ []
take-last keys i key is =
    let less = slice_get_within keys i key is in
    let head : get_or keys i key ≡ key = get_or_from_slice_get keys i key key is in
    take_more keys i key less ∙ ap (λ (k : Dbkey). take i keys ++ k ∷ []) head

-- what is left stood there
pub dropped : (keys : List Dbkey) (n i : ℕ) (key : Dbkey) → slice_get (drop n keys) i ≡ Some key → (place : ℕ) × (slice_get keys place ≡ Some key)
dropped keys zero i key is = (i, is)
dropped [] (suc n) i key is = absurd (none-some key is)
dropped (k ∷ ks) (suc n) i key is = let rest = dropped ks n i key is in (suc rest.0, rest.1)
