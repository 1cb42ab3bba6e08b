-- Where a key stands among entries, or would go.
use Rattle.std.specs.Prelude.{◌≡◌, ℕ, ◌<◌, ◌≤◌, List, length, slice_index_or}
use Rattle.std.specs.declared.cmp.Ordering.{Ordering}
use Rattle.std.specs.declared.cmp.Ordering.TheVariants.{Less, Equal, Greater}

-- the entry at place i has the key
pub record IsAt {K V : Type 0} (order : K → K → Ordering) (key : K) (entries : List (K × V)) (i : ℕ) : Type 0 where
  pub within : i < length entries
  pub tied : (d : K × V) → order (slice_index_or entries i d).0 key ≡ Equal

-- the key would go at place i: lower keys before it, and higher ones from it on
pub record IsGap {K V : Type 0} (order : K → K → Ordering) (key : K) (entries : List (K × V)) (i : ℕ) : Type 0 where
  pub within : i ≤ length entries
  pub lower : (j : ℕ) (d : K × V) → j < i → order (slice_index_or entries j d).0 key ≡ Less
  pub higher : (j : ℕ) (d : K × V) → i ≤ j → j < length entries → order (slice_index_or entries j d).0 key ≡ Greater
