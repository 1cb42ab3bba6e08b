-- Indexes in the order of their areas, and keys that tie.
use Rattle.std.proofs.Common.{◌≡◌, ℕ, zero, suc, Bool, true, ◌&&◌, cond, List, [], ◌∷◌, Option, Some, None, map, refl, sym, ap, ◌∙◌, arith}
use Rattle.std.specs.declared.cmp.Ordering.{Ordering}
use Rattle.std.specs.declared.cmp.Ordering.TheVariants.{Less, Equal, Greater}
use Rattle.std.specs.Ordering.{nat_cmp, on, is_eq, ordering_then}
use Rattle.std.specs.Prelude.{slice_get, slice_index_or, unwrap_or, ◌+◌, ◌<◌, length, drop, ◌==◌, filter}
use Rattle.std.specs.FinMap.Entries.{put, by_order}
use Rattle.std.specs.Str.{bytes_eq}
use Rattle.std.proofs.Common.{eq-eqb, get_or}
use Rattle.std.proofs.lemmas.List.{at_drop_more}
use Rattle.std.proofs.lemmas.Map.Text.{is_eq-slice_cmp}
use Rattle.rdb_types.specs.declared.values.Value.{Value}
use Rattle.rdb_types.specs.declared.values.Value.TheVariants.{Missing, Text}
use Rattle.rdb_types.specs.Order.{value_order, row_order}
use Rattle.rdb_meaning.specs.declared.tables.Tables.{Tables}
use Rattle.rdo_ast.specs.Tree.{Name}
use Rattle.rdb_meaning.specs.declared.tables.Index.{Index}
use Rattle.rdb_meaning.specs.Contents.{Row, first_taken, key_of, by_area, indexes_on}
use Rattle.rdb_tables.specs.declared.area.Area.{Area}
use Rattle.rdb_tables.specs.Indexes.{seen_at, with_some}

-- putting an entry, where keys and values are seen through functions that keep the order
pub map-put : {K K' V V' : Type 0} (f : K → K') (g : V → V') (R : K → K → Ordering) (S : K' → K' → Ordering) → ((x y : K) → S (f x) (f y) ≡ R x y) → (k : K) (v : V) (es : List (K × V)) → map (λ e. (f e.0, g e.1)) (put R k v es) ≡ put S (f k) (g v) (map (λ e. (f e.0, g e.1)) es)
map-put f g R S same k v [] = refl
map-put {K} {K'} {V} {V'} f g R S same k v (e ∷ es) =
    let F : List (K × V) → List (K' × V') = λ l. map (λ x. (f x.0, g x.1)) l in
    elim (R k e.0) as (λ r. R k e.0 ≡ r → F (by_order r ((k, v) ∷ e ∷ es) ((e.0, v) ∷ es) (e ∷ put R k v es)) ≡ put S (f k) (g v) (F (e ∷ es))) [
      | Less ↦ λ p. sym (ap (λ r. by_order r ((f k, g v) ∷ F (e ∷ es)) ((f e.0, g v) ∷ F es) ((f e.0, g e.1) ∷ put S (f k) (g v) (F es))) (same k e.0 ∙ p))
      | Equal ↦ λ p. sym (ap (λ r. by_order r ((f k, g v) ∷ F (e ∷ es)) ((f e.0, g v) ∷ F es) ((f e.0, g e.1) ∷ put S (f k) (g v) (F es))) (same k e.0 ∙ p))
      | Greater ↦ λ p. ap (λ l. (f e.0, g e.1) ∷ l) (map-put f g R S same k v es) ∙ sym (ap (λ r. by_order r ((f k, g v) ∷ F (e ∷ es)) ((f e.0, g v) ∷ F es) ((f e.0, g e.1) ∷ put S (f k) (g v) (F es))) (same k e.0 ∙ p))
    ] refl

-- the first unique index among those that are there
abbrev pub taken_there : (List ℕ → Bool) → Option (Name × Index) → Option Name → Option Name
taken_there taken (Some e) later = cond (e.1.unique && taken e.1.fields) (Some e.0) later
taken_there taken None later = later

abbrev pub first_taken_there : (List ℕ → Bool) → List (ℕ × Option (Name × Index)) → Option Name
first_taken_there taken [] = None
first_taken_there taken (e ∷ es) = taken_there taken e.1 (first_taken_there taken es)

pub first_taken_seen : (taken : List ℕ → Bool) (es : List (ℕ × (Name × Index))) → first_taken taken (map (λ e. e.1) es) ≡ first_taken_there taken (with_some es)
first_taken_seen taken [] = refl
first_taken_seen taken (e ∷ es) = ap (λ l. cond (e.1.1.unique && taken e.1.1.fields) (Some e.1.0) l) (first_taken_seen taken es)

-- one more index, in its place
pub seen-put : (indexes : List (Name × Index)) (a : Area) (at : ℕ) (places : List (Area × ℕ)) → seen_at indexes (put (on (λ x. x.number) nat_cmp) a at places) ≡ put nat_cmp a.number (slice_get indexes at) (seen_at indexes places)
seen-put indexes a at places = map-put (λ (x : Area). x.number) (λ n. slice_get indexes n) (on (λ x. x.number) nat_cmp) nat_cmp (λ x y. refl) a at places

pub with_some-put : (area : ℕ) (e : Name × Index) (es : List (ℕ × (Name × Index))) → with_some (put nat_cmp area e es) ≡ put nat_cmp area (Some e) (with_some es)
with_some-put area e es = map-put (λ (n : ℕ). n) (λ (x : Name × Index). Some x) nat_cmp nat_cmp (λ x y. refl) area e es

pub tied_then : (r s : Ordering) → is_eq (ordering_then r s) ≡ (is_eq r && is_eq s)
tied_then Less s = refl
tied_then Equal s = refl
tied_then Greater s = refl

pub read_or : {A : Type 0} (xs : List A) (i : ℕ) (d : A) → slice_index_or xs i d ≡ unwrap_or (slice_get xs i) d
read_or [] i d = refl
read_or (x ∷ xs) zero d = refl
read_or (x ∷ xs) (suc i) d = read_or xs i d

pub texts_rank : (a b : Value) (s t s' t' : List ℕ) (r : Bool) → a ≡ Text s → b ≡ Text t → s' ≡ s → t' ≡ t → r ≡ bytes_eq s' t' → r ≡ is_eq (value_order a b)
texts_rank a b s t s' t' r is-a is-b same-s same-t e =
    e ∙ ap (λ x. bytes_eq x t') same-s ∙ ap (bytes_eq s) same-t ∙ sym (is_eq-slice_cmp s t)
    ∙ ap (λ x. is_eq (value_order x (Text t))) (sym is-a) ∙ ap (λ x. is_eq (value_order a x)) (sym is-b)

abbrev same_at : Row → Row → List ℕ → Bool
same_at row other places = is_eq (row_order (key_of places row) (key_of places other))

-- keys of which one more pair of values ties
pub keys_tie_on : (places : List ℕ) (row other : Row) (i : ℕ) → i < length places → is_eq (value_order (slice_index_or row (get_or places i 0) Missing) (slice_index_or other (get_or places i 0) Missing)) ≡ true → same_at row other (drop i places) ≡ same_at row other (drop (i + 1) places)
keys_tie_on places row other i within tie =
    at_drop_more (same_at row other) places i 0 within
    ∙ tied_then (value_order (slice_index_or row (get_or places i 0) Missing) (slice_index_or other (get_or places i 0) Missing)) (row_order (key_of (drop (i + 1) places) row) (key_of (drop (i + 1) places) other))
    ∙ ap (λ b. b && same_at row other (drop (i + 1) places)) tie

abbrev on_area : ℕ → Name × Index → Bool
on_area area e = e.1.relation == area

-- the index at a place is on the relation, and stands among those behind it
pub index_more : (indexes : List (Name × Index)) (area i j : ℕ) (e : Name × Index) (places places' : List (Area × ℕ)) → j ≡ i + 1 → i < length indexes → e ≡ slice_index_or indexes i e → e.1.relation ≡ area → seen_at indexes places ≡ with_some (by_area (filter (on_area area) (drop j indexes))) → places' ≡ put (on (λ a. a.number) nat_cmp) (record { number = e.1.area }) i places → seen_at indexes places' ≡ with_some (by_area (filter (on_area area) (drop i indexes)))
index_more indexes area i j e places places' next within read on_it before added =
    let rest = filter (on_area area) (drop (i + 1) indexes) in
    ap (seen_at indexes) added ∙ seen-put indexes (record { number = e.1.area }) i places
    ∙ ap (λ x. put nat_cmp e.1.area x (seen_at indexes places)) (there indexes i e within read)
    ∙ ap (put nat_cmp e.1.area (Some e)) (before ∙ ap (λ n. with_some (by_area (filter (on_area area) (drop n indexes)))) next)
    ∙ sym (with_some-put e.1.area e (by_area rest))
    ∙ ap (λ b. with_some (by_area (cond b (e ∷ rest) rest))) (sym (eq-eqb _ _ on_it))
    ∙ ap (λ x. with_some (by_area (filter (on_area area) (x ∷ drop (i + 1) indexes)))) read
    ∙ sym (at_drop_more (λ l. with_some (by_area (filter (on_area area) l))) indexes i e within)
  where
    there : (xs : List (Name × Index)) (i : ℕ) (e : Name × Index) → i < length xs → e ≡ slice_index_or xs i e → slice_get xs i ≡ Some e
    there [] i e within read = absurd (omega arith)
    there (x ∷ xs) zero e within read = ap (λ (y : Name × Index). Some y) (sym read)
    there (x ∷ xs) (suc i) e within read = there xs i e (omega arith) read

pub first_of_places : (taken : List ℕ → Bool) (area : ℕ) (t : Tables) (indexes : List (Name × Index)) (places places' : List (Area × ℕ)) → indexes ≡ t.indexes → places' ≡ places → seen_at indexes places ≡ with_some (by_area (filter (on_area area) indexes)) → first_taken taken (indexes_on area t) ≡ first_taken_there taken (seen_at t.indexes places')
first_of_places taken area t indexes places places' same same_places seen =
    first_taken_seen taken (by_area (filter (on_area area) t.indexes))
    ∙ ap (λ l. first_taken_there taken (with_some (by_area (filter (on_area area) l)))) (sym same)
    ∙ ap (first_taken_there taken) (sym seen)
    ∙ ap (λ l. first_taken_there taken (seen_at l places)) same
    ∙ ap (λ ps. first_taken_there taken (seen_at t.indexes ps)) (sym same_places)
