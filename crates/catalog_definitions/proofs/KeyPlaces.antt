-- The places of an index's fields.
use Rattle.std.proofs.Common.{◌≡◌, ℕ, suc, ◌+◌, ◌<◌, ◌≤◌, Bool, true, false, not, ◌&&◌, List, [], ◌∷◌, length, Option, Some, None, refl, sym, ap, subst, ◌∙◌, arith, nat_eq, if◌then◌else◌}
use Rattle.std.specs.Prelude.{◌||◌}
use Rattle.std.specs.List.{AllByRecursion, list_any}
use Rattle.std.specs.Ordering.{is_eq}
use Rattle.std.proofs.lemmas.Map.Text.{is_eq-slice_cmp}
use Rattle.std.proofs.lemmas.Option.{same_Some}
use Rattle.rdb_types.specs.declared.values.Field.{Field}
use Rattle.rdo_ast.specs.declared.reply.Reply.TheVariants.{Exists}
use Rattle.rdo_ast.specs.Tree.{Name}
use Rattle.rdb_types.specs.OrderLaws.{same_chars, chars_total}
use Rattle.std.specs.Cmp.{tied_itself}
use Rattle.rdb_meaning.specs.Contents.{same_name, place_from, place_of}
use Rattle.rdb_types.specs.Order.{chars_order}
use Rattle.rdb_meaning.specs.Checks.{Refusal, or_else, needs_some}
use Rattle.rdb_meaning.specs.Defining.{is_among, index_fields_names, positions_of}
use Rattle.catalog.specs.Schema.{differ}
use Rattle.catalog_definitions.proofs.FreeAreas.{eq_is}
use Rattle.catalog_definitions.proofs.Basics.{equal, or_true}

pub names_are : (m n : Name) → same_name m n ≡ true → m ≡ n
names_are m n is = same_chars m n (equal (chars_order m n) (is_eq-slice_cmp m n ∙ is))

pub name_itself : (n : Name) → same_name n n ≡ true
name_itself n = sym (is_eq-slice_cmp n n) ∙ ap is_eq (tied_itself chars_total n)

pub first_none : (a b : Refusal) → or_else a b ≡ None → (a ≡ None) × (b ≡ None)
first_none (Some r) b none = let bad : ⊥ = cc in absurd bad
first_none None b none = (refl, none)

record Found (n : Name) (fields : List Field) : Type 0 where
  pub place : ℕ
  pub field : Field
  pub «is» : place_of n fields ≡ Some (place, field)

found_place : (n : Name) (fields : List Field) (found : Option (ℕ × Field)) → place_of n fields ≡ found → needs_some n found ≡ None → Found n fields
found_place n fields None is none = let bad : ⊥ = cc in absurd bad
found_place n fields (Some p) is none = record { place = p.0; field = p.1; «is» = is }

abbrev placed : ℕ → Field → Option (ℕ × Field)
placed k f = Some (k, f)

same_place : (k p : ℕ) (h f : Field) → placed k h ≡ placed p f → k ≡ p
same_place k p h f same = ap (λ (q : ℕ × Field). q.0) (same_Some (k, h) (p, f) same)

-- the place of a name is from this one on, and before the end
place_bounds : (k : ℕ) (n : Name) (fields : List Field) (p : ℕ) (f : Field) → place_from k n fields ≡ Some (p, f) → (k ≤ p) × (p < k + length fields)
place_bounds k n [] p f is = let bad : ⊥ = cc in absurd bad
place_bounds k n (h ∷ hs) p f is =
    elim (same_name n h.name) as (λ b. (if b then Some (k, h) else place_from (k + 1) n hs) ≡ Some (p, f) → (k ≤ p) × (p < k + suc (length hs))) [
      | true ↦ λ e. let same : k ≡ p = same_place k p h f e in (omega (arith, same), omega (arith, same))
      | false ↦ λ e. let rest = place_bounds (k + 1) n hs p f e in (omega (arith, rest.0), omega (arith, rest.1))
    ] is

-- names of one place are one name
one_place : (k : ℕ) (m n : Name) (fields : List Field) (p : ℕ) (f g : Field) → place_from k m fields ≡ Some (p, f) → place_from k n fields ≡ Some (p, g) → m ≡ n
one_place k m n [] p f g is too = let bad : ⊥ = cc in absurd bad
one_place k m n (h ∷ hs) p f g is too =
    elim (same_name m h.name) as (λ b. same_name m h.name ≡ b → (if b then Some (k, h) else place_from (k + 1) m hs) ≡ Some (p, f) → m ≡ n) [
      | true ↦ λ a e. let here : k ≡ p = same_place k p h f e in
          elim (same_name n h.name) as (λ b. same_name n h.name ≡ b → (if b then Some (k, h) else place_from (k + 1) n hs) ≡ Some (p, g) → m ≡ n) [
            | true ↦ λ b _. names_are m h.name a ∙ sym (names_are n h.name b)
            | false ↦ λ b t. absurd (omega (arith, here, (place_bounds (k + 1) n hs p g t).0))
          ] refl too
      | false ↦ λ a e.
          elim (same_name n h.name) as (λ b. same_name n h.name ≡ b → (if b then Some (k, h) else place_from (k + 1) n hs) ≡ Some (p, g) → m ≡ n) [
            | true ↦ λ b t. let here : k ≡ p = same_place k p h g t in absurd (omega (arith, here, (place_bounds (k + 1) m hs p f e).0))
            | false ↦ λ b t. one_place (k + 1) m n hs p f g e t
          ] refl too
    ] refl is

pub not_again : (b : Bool) (n : Name) → (if b then Some (Exists n) else None) ≡ None → b ≡ false
not_again true n none = let bad : ⊥ = cc in absurd bad
not_again false n none = refl

record Taken (before : List Name) (n : Name) (ns : List Name) (fields : List Field) : Type 0 where
  pub found : Found n fields
  pub new : is_among n before ≡ false
  pub rest : index_fields_names (n ∷ before) ns fields ≡ None

taken : (before : List Name) (n : Name) (ns : List Name) (fields : List Field) → index_fields_names before (n ∷ ns) fields ≡ None → Taken before n ns fields
taken before n ns fields none =
    let parts = first_none (needs_some n (place_of n fields)) (or_else (if is_among n before then Some (Exists n) else None) (index_fields_names (n ∷ before) ns fields)) none in
    let others = first_none (if is_among n before then Some (Exists n) else None) (index_fields_names (n ∷ before) ns fields) parts.1 in
    record { found = found_place n fields (place_of n fields) refl parts.0; new = not_again (is_among n before) n others.0; rest = others.1 }

positions_more : (n : Name) (ns : List Name) (fields : List Field) (p : ℕ) (f : Field) → place_of n fields ≡ Some (p, f) → positions_of (n ∷ ns) fields ≡ p ∷ positions_of ns fields
positions_more n ns fields p f is = rw is refl

pub count_places : (before ns : List Name) (fields : List Field) → index_fields_names before ns fields ≡ None → length (positions_of ns fields) ≡ length ns
count_places before [] fields none = refl
count_places before (n ∷ ns) fields none =
    let t = taken before n ns fields none in
    ap length (positions_more n ns fields t.found.place t.found.field t.found.«is») ∙ ap suc (count_places (n ∷ before) ns fields t.rest)

pub places_within : (before ns : List Name) (fields : List Field) → index_fields_names before ns fields ≡ None → AllByRecursion (λ (p : ℕ). p < length fields) (positions_of ns fields)
places_within before [] fields none = tt
places_within before (n ∷ ns) fields none =
    let t = taken before n ns fields none in
    let within : t.found.place < length fields = omega (arith, (place_bounds 0 n fields t.found.place t.found.field t.found.«is»).1) in
    subst (AllByRecursion (λ (p : ℕ). p < length fields)) (sym (positions_more n ns fields t.found.place t.found.field t.found.«is»)) (within, places_within (n ∷ before) ns fields t.rest)

pub apart_names : (m n : Name) (before : List Name) → is_among n before ≡ true → is_among m before ≡ false → m ≡ n → ⊥
apart_names m n before there not_there same = let moved = ap (λ x. is_among x before) same in cc

-- no later name has the place of one that was named before
none_there : (before ns : List Name) (fields : List Field) (n : Name) (p : ℕ) (f : Field) → index_fields_names before ns fields ≡ None → is_among n before ≡ true → place_of n fields ≡ Some (p, f) → list_any (nat_eq p) (positions_of ns fields) ≡ false
none_there before [] fields n p f none named is = refl
none_there before (m ∷ ms) fields n p f none named is =
    let t = taken before m ms fields none in
    let apart : nat_eq p t.found.place ≡ false =
    elim (nat_eq p t.found.place) as (λ b. nat_eq p t.found.place ≡ b → b ≡ false) [
      | true ↦ λ e. absurd (apart_names m n before named t.new (one_place 0 m n fields p t.found.field f (t.found.«is» ∙ ap (λ (q : ℕ). Some (q, t.found.field)) (sym (eq_is p t.found.place e))) is))
      | false ↦ λ e. refl
    ] refl in
    ap (list_any (nat_eq p)) (positions_more m ms fields t.found.place t.found.field t.found.«is»)
    ∙ ap (λ b. b || list_any (nat_eq p) (positions_of ms fields)) apart
    ∙ none_there (m ∷ before) ms fields n p f t.rest (ap (λ b. same_name n m || b) named ∙ or_true (same_name n m)) is

pub places_differ : (before ns : List Name) (fields : List Field) → index_fields_names before ns fields ≡ None → differ nat_eq (positions_of ns fields) ≡ true
places_differ before [] fields none = refl
places_differ before (n ∷ ns) fields none =
    let t = taken before n ns fields none in
    ap (differ nat_eq) (positions_more n ns fields t.found.place t.found.field t.found.«is»)
    ∙ ap (λ b. not b && differ nat_eq (positions_of ns fields)) (none_there (n ∷ before) ns fields n t.found.place t.found.field t.rest (ap (λ b. b || is_among n before) (name_itself n)) t.found.«is»)
    ∙ places_differ (n ∷ before) ns fields t.rest
