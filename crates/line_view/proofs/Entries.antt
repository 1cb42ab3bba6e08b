-- Maps in the words of those of std.
use Rattle.std.proofs.Common.{◌≡◌, ℕ, Bool, true, false, ◌&&◌, cond, List, [], ◌∷◌, map, Some, None, ◌⊎◌, inl, inr, refl, sym, ap, ◌∙◌}
use Rattle.std.specs.Prelude.{option_map}
use Rattle.std.specs.declared.cmp.Ordering.{Ordering}
use Rattle.std.specs.declared.cmp.Ordering.TheVariants.{Less, Equal, Greater}
use Rattle.std.specs.Ordering.{is_eq, is_lt, nat_cmp, match_ordering}
use Rattle.std.specs.Cmp.{IsTotalOrder, tied_itself}
use Rattle.std.specs.List.{AllByRecursion}
use Rattle.std.specs.List.Sorted.{IsStrictlySortedBy}
use Rattle.std.specs.FinMap.Entries.{find, put, by_order, below_all, is_sorted, find-put}
use Rattle.std.specs.Map.{lookup, set_value, remove_entry}
use Rattle.std.specs.BTreeMap.{is_at, insert_entry}
use Rattle.std.specs.BTreeSet.{BTreeSet}
use Rattle.ordered_entries.specs.rdb_types.declared.keys.Dbkey.{Dbkey}
use Rattle.std.proofs.lemmas.Option.{same_Some}
use Rattle.line_view.specs.Held.{key_sets}

module _ {K V : Type 0} (R : K → K → Ordering) where
  pub find_lookup : (k : K) (es : List (K × V)) → find R k es ≡ lookup (is_at (R k)) es
  find_lookup k [] = refl
  find_lookup k (e ∷ es) = ap (λ r. cond (is_eq (R k e.0)) (Some e.1) r) (find_lookup k es)

  pub put_insert : (k : K) (v : V) (es : List (K × V)) → put R k v es ≡ insert_entry R es k v
  put_insert k v [] = refl
  put_insert k v (e ∷ es) = elim (R k e.0) as (λ r. by_order r ((k, v) ∷ e ∷ es) ((e.0, v) ∷ es) (e ∷ put R k v es) ≡ match_ordering r ((k, v) ∷ e ∷ es) ((e.0, v) ∷ es) (e ∷ insert_entry R es k v)) [
    | Less ↦ refl
    | Equal ↦ refl
    | Greater ↦ ap (λ l. e ∷ l) (put_insert k v es)
  ]

-- ---- the keys of areas

pub find_keys : (area : ℕ) (es : List (ℕ × BTreeSet Dbkey)) → find nat_cmp area (key_sets es) ≡ option_map (λ s. s.keys) (lookup (is_at (nat_cmp area)) es)
find_keys area [] = refl
find_keys area (e ∷ es) = elim (is_eq (nat_cmp area e.0)) as (λ b. cond b (Some e.1.keys) (find nat_cmp area (key_sets es)) ≡ option_map (λ s. s.keys) (cond b (Some e.1) (lookup (is_at (nat_cmp area)) es))) [
  | true ↦ refl
  | false ↦ find_keys area es
]

pub set_keys : (test : ℕ → Bool) (es : List (ℕ × BTreeSet Dbkey)) (s : BTreeSet Dbkey) → key_sets (set_value test es s) ≡ set_value test (key_sets es) s.keys
set_keys test [] s = refl
set_keys test (e ∷ es) s = elim (test e.0) as (λ b. key_sets (cond b ((e.0, s) ∷ es) (e ∷ set_value test es s)) ≡ cond b ((e.0, s.keys) ∷ key_sets es) ((e.0, e.1.keys) ∷ set_value test (key_sets es) s.keys)) [
  | true ↦ refl
  | false ↦ ap (λ l. (e.0, e.1.keys) ∷ l) (set_keys test es s)
]

pub insert_keys : (area : ℕ) (s : BTreeSet Dbkey) (es : List (ℕ × BTreeSet Dbkey)) → key_sets (insert_entry nat_cmp es area s) ≡ put nat_cmp area s.keys (key_sets es)
insert_keys area s [] = refl
insert_keys area s (e ∷ es) = elim (nat_cmp area e.0) as (λ r. key_sets (match_ordering r ((area, s) ∷ e ∷ es) ((e.0, s) ∷ es) (e ∷ insert_entry nat_cmp es area s)) ≡ by_order r ((area, s.keys) ∷ (e.0, e.1.keys) ∷ key_sets es) ((e.0, s.keys) ∷ key_sets es) ((e.0, e.1.keys) ∷ put nat_cmp area s.keys (key_sets es))) [
  | Less ↦ refl
  | Equal ↦ refl
  | Greater ↦ ap (λ l. (e.0, e.1.keys) ∷ l) (insert_keys area s es)
]

-- the value that is already there
pub set_same : (area : ℕ) (keys : List Dbkey) (es : List (ℕ × List Dbkey)) → find nat_cmp area es ≡ Some keys → set_value (is_at (nat_cmp area)) es keys ≡ es
set_same area keys [] found = refl
set_same area keys (e ∷ es) found = elim (is_eq (nat_cmp area e.0)) as (λ b. cond b (Some e.1) (find nat_cmp area es) ≡ Some keys → cond b ((e.0, keys) ∷ es) (e ∷ set_value (is_at (nat_cmp area)) es keys) ≡ e ∷ es) [
  | true ↦ λ h. ap (λ w. (e.0, w) ∷ es) (sym (same_Some _ _ h))
  | false ↦ λ h. ap (λ l. e ∷ l) (set_same area keys es h)
] found

-- ---- an entry that is taken back

both : (a b : Bool) → a ≡ true → b ≡ true → (a && b) ≡ true
both a b p q = ap (λ a. a && b) p ∙ q

module _ {K V : Type 0} (R : K → K → Ordering) (o : IsTotalOrder R) where
  below : (x : K) (es : List (K × V)) → AllByRecursion (λ y. R x y ≡ Less) (map (λ e. e.0) es) → below_all R x es ≡ true
  below x [] all = refl
  below x (e ∷ es) all = both (is_lt (R x e.0)) (below_all R x es) (ap is_lt all.0) (below x es all.1)

  pub sorted_entries : (es : List (K × V)) → IsStrictlySortedBy R (map (λ e. e.0) es) → is_sorted R es ≡ true
  unfolding IsStrictlySortedBy
  sorted_entries [] sorted = refl
  sorted_entries (e ∷ es) sorted = both (below_all R e.0 es) (is_sorted R es) (below e.0 es sorted.0) (sorted_entries es sorted.1)

  pub remove-put : (k : K) (v : V) (es : List (K × V)) → find R k es ≡ None → remove_entry (is_at (R k)) (put R k v es) ≡ es
  remove-put k v [] none = ap (λ r. cond (is_eq r) [] ((k, v) ∷ [])) (tied_itself o k)
  remove-put k v (e ∷ es) none = elim (R k e.0) as (λ r. R k e.0 ≡ r → cond (is_eq r) (Some e.1) (find R k es) ≡ None → remove_entry (is_at (R k)) (by_order r ((k, v) ∷ e ∷ es) ((e.0, v) ∷ es) (e ∷ put R k v es)) ≡ e ∷ es) [
    | Less ↦ λ p h. ap (λ r. cond (is_eq r) (e ∷ es) ((k, v) ∷ remove_entry (is_at (R k)) (e ∷ es))) (tied_itself o k)
    | Equal ↦ λ p h. absurd (cc)
    | Greater ↦ λ p h. ap (λ r. cond (is_eq r) (put R k v es) (e ∷ remove_entry (is_at (R k)) (put R k v es))) p ∙ ap (λ l. e ∷ l) (remove-put k v es h)
  ] refl none

  -- ---- what was put is found, and nothing else changes

  pub found_behind : (q k : K) (v w : V) (es : List (K × V)) → ((a b : K) → R a b ≡ Equal → a ≡ b) → find R q (put R k v es) ≡ Some w → ((q ≡ k) × (w ≡ v)) ⊎ (find R q es ≡ Some w)
  found_behind q k v w es same found =
      elim (R q k) as (λ r. R q k ≡ r → cond (is_eq r) (Some v) (find R q es) ≡ Some w → ((q ≡ k) × (w ≡ v)) ⊎ (find R q es ≡ Some w)) [
        | Less ↦ λ p h. inr h
        | Equal ↦ λ p h. inl (same q k p, sym (same_Some _ _ h))
        | Greater ↦ λ p h. inr h
      ] refl (sym (find-put R o q k v es) ∙ found)
