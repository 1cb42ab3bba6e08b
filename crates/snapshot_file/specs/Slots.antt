-- Which slots of a snapshot file are free: for each slot, the first being 1, whether it is.
use Rattle.std.specs.Prelude.{ℕ, zero, suc, ◌+◌, ◌-◌, ◌^◌, ◌<◌, ◌≤◌, ◌≡◌, ◌≢◌, Bool, true, false, cond, List, [], ◌∷◌, length, map, nat_lt, slice_index, slice_index_or}

abbrev pub is_free : List Bool → ℕ → Bool
is_free slots zero = false
is_free slots (suc k) = slice_index_or slots k false

-- how many slots are free
abbrev pub left_in : List Bool → ℕ
left_in [] = 0
left_in (free ∷ slots) = cond free (suc (left_in slots)) (left_in slots)

-- a free slot was taken, and no other
pub record Takes (old new : List Bool) (slot : ℕ) : Type 0 where
  pub within : (1 ≤ slot) × (slot ≤ length old)
  pub was_free : is_free old slot ≡ true
  pub is_used : is_free new slot ≡ false
  pub others : (other : ℕ) → other ≢ slot → is_free new other ≡ is_free old other
  pub limit : length new ≡ length old

-- a slot was given back, and no other
pub record Gives (old new : List Bool) (slot : ℕ) : Type 0 where
  pub returned : is_free new slot ≡ true
  pub others : (other : ℕ) → other ≢ slot → is_free new other ≡ is_free old other
  pub limit : length new ≡ length old

-- the slots in an order in which the used ones stand first, and the place of each slot in it, counted from 1
pub record IsOrder (order places : List ℕ) (used : ℕ) : Type 0 where
  pub same : length places ≡ length order
  pub within : used ≤ length order
  pub fits : length order < 2 ^ 32
  pub slots : (i : ℕ) → i < length order → (1 ≤ slice_index order i) × (slice_index order i ≤ length order) × (slice_index places (slice_index order i - 1) ≡ i + 1)
  pub back : (k : ℕ) → k < length order → (1 ≤ slice_index places k) × (slice_index places k ≤ length order) × (slice_index order (slice_index places k - 1) ≡ k + 1)

-- the slots behind the used ones are free
abbrev pub slots_in : List ℕ → ℕ → List Bool
slots_in places used = map (λ place. nat_lt used place) places

-- Which slots are free, and how many of those are set aside for changes that are under way.
pub record Store : Type 0 where
  pub slots : List Bool
  pub aside : ℕ
