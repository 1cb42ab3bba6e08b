-- The areas of what is deleted.
use Rattle.std.proofs.Common.{◌≡◌, ◌==◌, ℕ, Bool, true, false, cond, List, [], ◌∷◌, map, Some, refl, sym, ap, subst, ◌∙◌, nat_eq}
use Rattle.std.specs.Prelude.{◌||◌}
use Rattle.std.specs.List.{AllByRecursion, filter}
use Rattle.std.specs.declared.cmp.Ordering.TheVariants.{Less, Equal, Greater}
use Rattle.std.specs.Ordering.{is_eq, nat_cmp}
use Rattle.std.specs.FinMap.Entries.{find, put, by_order}
use Rattle.std.proofs.lemmas.Bool.{eq-eqb}
use Rattle.std.proofs.lemmas.Cmp.{ranked}
use Rattle.std.proofs.lemmas.List.{append-nil}
use Rattle.std.proofs.lemmas.Option.{none-some, same_Some}
use Rattle.rdb_types.specs.Order.{chars_order}
use Rattle.rdo_ast.specs.Tree.{Name}
use Rattle.rdb_meaning.specs.declared.tables.Index.{Index}
use Rattle.rdb_meaning.specs.declared.tables.Relation.{Relation as Rows}
use Rattle.rdb_meaning.specs.declared.tables.Tables.{Tables}
use Rattle.rdb_meaning.specs.Contents.{relation_named, indexes_on, by_area, is_used}
use Rattle.rdb_meaning.specs.Checks.{use_of}
use Rattle.line_view.specs.Knowledge.{Lines}
use Rattle.catalog_lines.specs.declared.line.IndexLine.{IndexLine}
use Rattle.catalog.specs.declared.reading.Catalog.{Catalog}
use Rattle.sound_changes.specs.Standing.{IsSoundAs}
use Rattle.row_writes.specs.Target.{AreOwn, named_index}
use Rattle.row_writes.specs.Areas.{areas_of}
use Rattle.stored_schema.specs.Indexes.{lines_on}
use Rattle.stored_schema.proofs.Gathered.{lines_on_are, are_own}
use Rattle.stored_schema.proofs.InTables.{each_own, lines_are_indexes}
use Rattle.schema_writes.specs.Areas.{AreOfRelation}
use Rattle.used_areas.specs.Areas.{relation_areas, areas_changed}

-- ---- a relation

areas_named : (xs : List IndexLine) → areas_of xs ≡ map (λ (e : Name × Index). e.1.area) (map named_index xs)
areas_named [] = refl
areas_named (x ∷ xs) = ap (λ l. x.area ∷ l) (areas_named xs)

pub relation_deleted : (all : Lines) (c : Catalog) (t : Tables) (n : Name) (rel : Rows) → IsSoundAs all c t → relation_named n t ≡ Some rel → AreOfRelation c n t (areas_changed t (use_of true n ∷ []))
relation_deleted all c t n rel sound named =
    let xs = lines_on rel.area c.lines in
    let own : AreOwn c rel.area [] xs = subst (λ (ys : List IndexLine). AreOwn c rel.area [] ys) (sym (lines_on_are rel.area c.lines)) (are_own c rel.area (each_own c rel.area)) in
    let indexes : areas_of xs ≡ map (λ (e : Name × Index). e.1.area) (indexes_on rel.area t) = areas_named xs ∙ ap (map (λ (e : Name × Index). e.1.area)) (lines_are_indexes all c sound.decodes rel.area t sound.are.indexes) in
    (rel, xs, named, own, append-nil (relation_areas t (relation_named n t)) ∙ ap (relation_areas t) named ∙ ap (λ l. rel.area ∷ l) (sym indexes))

-- ---- an index

abbrev Keyed : Type 0
Keyed = ℕ × (Name × Index)

abbrev areas_in : List Keyed → List ℕ
areas_in es = map (λ (e : Name × Index). e.1.area) (map (λ (e : Keyed). e.1) es)

-- each stands under its area
abbrev AreKeyed : List Keyed → Type 0
AreKeyed = AllByRecursion (λ (e : Keyed). e.0 ≡ e.1.1.area)

or_true : (b : Bool) → (b || true) ≡ true
or_true true = refl
or_true false = refl

first_used : (a b : ℕ) (rest : List ℕ) → a ≡ b → is_used a (b ∷ rest) ≡ true
first_used a b rest same = ap (λ t. t || is_used a rest) (eq-eqb a b same)

more_used : (a b : ℕ) (rest : List ℕ) → is_used a rest ≡ true → is_used a (b ∷ rest) ≡ true
more_used a b rest h = ap (λ t. nat_eq a b || t) h ∙ or_true (nat_eq a b)

module _ (e : Name × Index) where
  put_keyed : (es : List Keyed) → AreKeyed es → AreKeyed (put nat_cmp e.1.area e es)
  put_keyed [] each = (refl, tt)
  put_keyed (x ∷ xs) each = elim (nat_cmp e.1.area x.0) as (λ r. nat_cmp e.1.area x.0 ≡ r → AreKeyed (by_order r ((e.1.area, e) ∷ x ∷ xs) ((x.0, e) ∷ xs) (x ∷ put nat_cmp e.1.area e xs))) [
    | Less ↦ λ is. (refl, each)
    | Equal ↦ λ is. (sym (ranked e.1.area x.0 Equal (sym is)), each.1)
    | Greater ↦ λ is. (each.0, put_keyed xs each.1)
  ] refl

  put_own : (es : List Keyed) → is_used e.1.area (areas_in (put nat_cmp e.1.area e es)) ≡ true
  put_own [] = first_used e.1.area e.1.area [] refl
  put_own (x ∷ xs) = elim (nat_cmp e.1.area x.0) as (λ r. is_used e.1.area (areas_in (by_order r ((e.1.area, e) ∷ x ∷ xs) ((x.0, e) ∷ xs) (x ∷ put nat_cmp e.1.area e xs))) ≡ true) [
    | Less ↦ first_used e.1.area e.1.area (areas_in (x ∷ xs)) refl
    | Equal ↦ first_used e.1.area e.1.area (areas_in xs) refl
    | Greater ↦ more_used e.1.area x.1.1.area (areas_in (put nat_cmp e.1.area e xs)) (put_own xs)
  ]

  put_others : (a : ℕ) (es : List Keyed) → AreKeyed es → is_used a (areas_in es) ≡ true → is_used a (areas_in (put nat_cmp e.1.area e es)) ≡ true
  put_others a [] each h = let bad : ⊥ = cc in absurd bad
  put_others a (x ∷ xs) each h = elim (nat_cmp e.1.area x.0) as (λ r. nat_cmp e.1.area x.0 ≡ r → is_used a (areas_in (by_order r ((e.1.area, e) ∷ x ∷ xs) ((x.0, e) ∷ xs) (x ∷ put nat_cmp e.1.area e xs))) ≡ true) [
    | Less ↦ λ is. more_used a e.1.area (areas_in (x ∷ xs)) h
    | Equal ↦ λ is. subst (λ (k : ℕ). is_used a (k ∷ areas_in xs) ≡ true) (sym (ranked e.1.area x.0 Equal (sym is) ∙ each.0)) h
    | Greater ↦ λ is. elim (nat_eq a x.1.1.area) as (λ b. (b || is_used a (areas_in xs)) ≡ true → (b || is_used a (areas_in (put nat_cmp e.1.area e xs))) ≡ true) [
      | true ↦ λ k. refl
      | false ↦ λ k. put_others a xs each.1 k
    ] h
  ] refl

all_keyed : (es : List (Name × Index)) → AreKeyed (by_area es)
all_keyed [] = tt
all_keyed (e ∷ es) = put_keyed e (by_area es) (all_keyed es)

module _ (relation : ℕ) where
  abbrev own : List (Name × Index) → List (Name × Index)
  own es = filter (λ (e : Name × Index). e.1.relation == relation) es

  one_more : (a : ℕ) (e : Name × Index) (es : List (Name × Index)) → is_used a (areas_in (by_area (own es))) ≡ true → is_used a (areas_in (by_area (own (e ∷ es)))) ≡ true
  one_more a e es h = elim (e.1.relation == relation) as (λ b. is_used a (areas_in (by_area (cond b (e ∷ own es) (own es)))) ≡ true) [
    | true ↦ put_others e a (by_area (own es)) (all_keyed (own es)) h
    | false ↦ h
  ]

  -- an index of the relation is among those by areas
  found_used : (n : Name) (x : Index) (es : List (Name × Index)) → find chars_order n es ≡ Some x → x.relation ≡ relation → is_used x.area (areas_in (by_area (own es))) ≡ true
  found_used n x [] found on = absurd (none-some x found)
  found_used n x (e ∷ es) found on = elim (is_eq (chars_order n e.0)) as (λ b. cond b (Some e.1) (find chars_order n es) ≡ Some x → is_used x.area (areas_in (by_area (own (e ∷ es)))) ≡ true) [
    | true ↦ λ h.
        let same : e.1 ≡ x = same_Some e.1 x h in
        ap (λ b. is_used x.area (areas_in (by_area (cond b (e ∷ own es) (own es))))) (eq-eqb e.1.relation relation (ap (λ (i : Index). i.relation) same ∙ on))
        ∙ subst (λ (i : Index). is_used i.area (areas_in (put nat_cmp e.1.area e (by_area (own es)))) ≡ true) same (put_own e (by_area (own es)))
    | false ↦ λ h. one_more x.area e es (found_used n x es h on)
  ] found

pub index_deleted : (t : Tables) (n : Name) (x : Index) (rel : Rows) → find chars_order n t.indexes ≡ Some x → x.relation ≡ rel.area → is_used x.area (relation_areas t (Some rel)) ≡ true
index_deleted t n x rel found on = more_used x.area rel.area (map (λ (e : Name × Index). e.1.area) (indexes_on rel.area t)) (found_used rel.area n x t.indexes found on)
