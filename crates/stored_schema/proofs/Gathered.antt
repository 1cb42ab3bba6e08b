-- The index lines of one relation, put under their areas one after another.
use Rattle.std.proofs.Common.{◌≡◌, ◌==◌, ◌⊎◌, inl, inr, ℕ, Bool, true, false, cond, not, ◌&&◌, List, [], ◌∷◌, map, Option, Some, None, Result, Ok, Err, refl, sym, ap, subst, ◌∙◌, nat_eq}
use Rattle.std.specs.Prelude.{IsSome, is_some, ◌||◌, OnOk}
use Rattle.std.specs.List.{AllByRecursion}
use Rattle.std.specs.declared.cmp.Ordering.{Ordering}
use Rattle.std.specs.declared.cmp.Ordering.TheVariants.{Less, Equal, Greater}
use Rattle.std.specs.Ordering.{is_eq, is_lt, nat_cmp}
use Rattle.std.specs.FinMap.Entries.{find, put, by_order, is_sorted, below_all, find-put}
use Rattle.std.proofs.lemmas.Bool.{and_parts, ne_eqb}
use Rattle.std.proofs.lemmas.Option.{none-some, same_Some}
use Rattle.rdb_meaning.specs.Contents.{is_used}
use Rattle.catalog_lines.specs.declared.line.IndexLine.{IndexLine}
use Rattle.catalog_lines.specs.declared.line.CatalogLine.{CatalogLine}
use Rattle.catalog_lines.specs.declared.line.CatalogLine.TheVariants.{Relation, Global, Field as FieldOf, Index}
use Rattle.catalog.specs.declared.directory.LogicalArea.{LogicalArea}
use Rattle.catalog.specs.declared.directory.PlacedLine.{PlacedLine}
use Rattle.catalog.specs.declared.reading.Catalog.{Catalog}
use Rattle.catalog.specs.Directory.{area_order, numbered}
use Rattle.row_writes.specs.sound_changes.Standing.{IsDone}
use Rattle.row_writes.proofs.of_sound_changes.Basics.{equal, less, number_is, number_tests, sorted_put, sorted_without}
use Rattle.row_writes.specs.sound_changes.InTurn.{IsIndexOn}
use Rattle.row_writes.specs.Target.{AreOwn}
use Rattle.stored_schema.specs.declared.indexes.RelationIndexes.{RelationIndexes}
use Rattle.stored_schema.specs.Indexes.{Sorted, own_of, but_for, with_index, indexed_from, indexed_in, lines_of, both_of, both_from, lines_in, lines_on, indexes_in, path_of}
use Rattle.stored_schema.proofs.Entries.{area_total, area_is, same_test, others, none_again}

-- ---- one relation's

abbrev pub gathered_with : ℕ → CatalogLine → Sorted → Sorted
gathered_with r (Relation l) own = own
gathered_with r (Global g) own = own
gathered_with r (FieldOf f) own = own
gathered_with r (Index x) own = cond (x.relation == r) (put area_order (numbered x.area) x own) own

abbrev pub gathered : ℕ → Sorted → List PlacedLine → Sorted
gathered r own [] = own
gathered r own (p ∷ ps) = gathered r (gathered_with r p.line own) ps

step : (r : ℕ) (line : CatalogLine) (held : List (LogicalArea × Sorted)) → own_of (find area_order (numbered r) (with_index line held)) ≡ gathered_with r line (own_of (find area_order (numbered r) held))
step r (Relation l) held = refl
step r (Global g) held = refl
step r (FieldOf f) held = refl
step r (Index x) held =
    let v : Sorted = put area_order (numbered x.area) x (own_of (find area_order (numbered x.relation) held)) in
    let rest : List (LogicalArea × Sorted) = but_for (numbered x.relation) held in
    ap own_of (find-put area_order area_total (numbered r) (numbered x.relation) v rest ∙ ap (λ t. cond t (Some v) (find area_order (numbered r) rest)) (same_test r x.relation))
    ∙ elim (x.relation == r) as (λ t. (x.relation == r) ≡ t → own_of (cond t (Some v) (find area_order (numbered r) rest)) ≡ cond t (put area_order (numbered x.area) x (own_of (find area_order (numbered r) held))) (own_of (find area_order (numbered r) held))) [
      | true ↦ λ e. ap (λ (n : ℕ). put area_order (numbered x.area) x (own_of (find area_order (numbered n) held))) (number_is x.relation r e)
      | false ↦ λ e. ap own_of (others r x.relation held e)
    ] refl

found_own : (r : ℕ) (held : List (LogicalArea × Sorted)) (ps : List PlacedLine) → own_of (find area_order (numbered r) (indexed_from held ps)) ≡ gathered r (own_of (find area_order (numbered r) held)) ps
found_own r held [] = refl
found_own r held (p ∷ ps) = found_own r (with_index p.line held) ps ∙ ap (λ own. gathered r own ps) (step r p.line held)

-- ---- as they are listed

abbrev or_listed : Option Sorted → Option RelationIndexes → Option RelationIndexes
or_listed (Some own) o = Some (both_of own)
or_listed None o = o

found_both : (k : LogicalArea) (listed : List (LogicalArea × RelationIndexes)) (es : List (LogicalArea × Sorted)) → is_sorted area_order es ≡ true → find area_order k (both_from listed es) ≡ or_listed (find area_order k es) (find area_order k listed)
found_both k listed [] s = refl
found_both k listed (e ∷ es) s =
    let parts = and_parts (below_all area_order e.0 es) (is_sorted area_order es) s in
    found_both k (put area_order e.0 (both_of e.1) listed) es parts.1
    ∙ ap (or_listed (find area_order k es)) (find-put area_order area_total k e.0 (both_of e.1) listed)
    ∙ elim (is_eq (area_order k e.0)) as (λ t. is_eq (area_order k e.0) ≡ t → or_listed (find area_order k es) (cond t (Some (both_of e.1)) (find area_order k listed)) ≡ or_listed (cond t (Some e.1) (find area_order k es)) (find area_order k listed)) [
      | true ↦ λ tie.
          let none : find area_order k es ≡ None = ap (λ (q : LogicalArea). find area_order q es) (area_is k e.0 (equal _ tie)) ∙ none_again area_order area_total area_is e.0 es parts.0 in
          ap (λ o. or_listed o (Some (both_of e.1))) none
      | false ↦ λ tie. refl
    ] refl

step_sorted : (line : CatalogLine) (held : List (LogicalArea × Sorted)) → is_sorted area_order held ≡ true → is_sorted area_order (with_index line held) ≡ true
step_sorted (Relation l) held s = s
step_sorted (Global g) held s = s
step_sorted (FieldOf f) held s = s
step_sorted (Index x) held s = sorted_put area_order area_total (numbered x.relation) _ (but_for (numbered x.relation) held) (sorted_without area_order area_total (numbered x.relation) held s)

indexed_sorted : (held : List (LogicalArea × Sorted)) (ps : List PlacedLine) → is_sorted area_order held ≡ true → is_sorted area_order (indexed_from held ps) ≡ true
indexed_sorted held [] s = s
indexed_sorted held (p ∷ ps) s = indexed_sorted (with_index p.line held) ps (step_sorted p.line held s)

in_listed : (o : Option Sorted) → lines_in (or_listed o None) ≡ lines_of (own_of o)
in_listed (Some own) = refl
in_listed None = refl

pub lines_on_are : (r : ℕ) (ps : List PlacedLine) → lines_on r ps ≡ lines_of (gathered r [] ps)
lines_on_are r ps =
    ap lines_in (found_both (numbered r) [] (indexed_in ps) (indexed_sorted [] ps refl))
    ∙ in_listed (find area_order (numbered r) (indexed_in ps))
    ∙ ap lines_of (found_own r [] ps)

listed_paths : (o : Option Sorted) (e : RelationIndexes) → or_listed o None ≡ Some e → e.paths ≡ map path_of e.lines
listed_paths (Some own) e h = subst (λ (x : RelationIndexes). x.paths ≡ map path_of x.lines) (same_Some (both_of own) e h) refl
listed_paths None e h = absurd (none-some e h)

-- an index is read as it is written
pub paths_of : (k : LogicalArea) (ps : List PlacedLine) (e : RelationIndexes) → find area_order k (indexes_in ps) ≡ Some e → e.paths ≡ map path_of e.lines
paths_of k ps e found = listed_paths (find area_order k (indexed_in ps)) e (sym (found_both k [] (indexed_in ps) (indexed_sorted [] ps refl)) ∙ found)

-- an index is put among those of its relation, step by step
pub index_added : (line : CatalogLine) (x y : IndexLine) (own more : Sorted) (held left new : List (LogicalArea × Sorted)) → line ≡ Index x → own ≡ own_of (find area_order (numbered x.relation) held) → left ≡ but_for (numbered x.relation) held → y ≡ x → more ≡ put area_order (numbered x.area) y own → new ≡ put area_order (numbered x.relation) more left → new ≡ with_index line held
index_added line x y own more held left new is own_is left_is same more_is new_is =
    let all : more ≡ put area_order (numbered x.area) x (own_of (find area_order (numbered x.relation) held)) = more_is ∙ (λ i. put area_order (numbered x.area) (same i) (own_is i)) in
    new_is ∙ (λ i. put area_order (numbered x.relation) (all i) (left_is i)) ∙ ap (λ l. with_index l held) (sym is)

pub on_ok : {T E : Type 0} (r : Result T E) (P Q : Type 0) → (P → Q) → OnOk r P → OnOk r Q
on_ok (Ok x) P Q f h = f h
on_ok (Err e) P Q f h = tt

-- ---- in the order of their areas

gathers_sorted : (r : ℕ) (line : CatalogLine) (own : Sorted) → is_sorted area_order own ≡ true → is_sorted area_order (gathered_with r line own) ≡ true
gathers_sorted r (Relation l) own s = s
gathers_sorted r (Global g) own s = s
gathers_sorted r (FieldOf f) own s = s
gathers_sorted r (Index x) own s =
    elim (x.relation == r) as (λ t. is_sorted area_order (cond t (put area_order (numbered x.area) x own) own) ≡ true) [
      | true ↦ sorted_put area_order area_total (numbered x.area) x own s
      | false ↦ s
    ]

pub gathered_sorted : (r : ℕ) (own : Sorted) (ps : List PlacedLine) → is_sorted area_order own ≡ true → is_sorted area_order (gathered r own ps) ≡ true
gathered_sorted r own [] s = s
gathered_sorted r own (p ∷ ps) s = gathered_sorted r (gathered_with r p.line own) ps (gathers_sorted r p.line own s)

-- ---- what holds of each line of the relation's indexes holds of each that is gathered

abbrev pub EachOwn : (IndexLine → Type 0) → Sorted → Type 0
EachOwn P own = AllByRecursion (λ (e : LogicalArea × IndexLine). (e.0 ≡ numbered e.1.area) × P e.1) own

abbrev pub OfLine : ℕ → (IndexLine → Type 0) → CatalogLine → Type 0
OfLine r P (Relation l) = Unit {0}
OfLine r P (Global g) = Unit {0}
OfLine r P (FieldOf f) = Unit {0}
OfLine r P (Index x) = x.relation ≡ r → P x

module _ (r : ℕ) (P : IndexLine → Type 0) where
  put_each : (x : IndexLine) (own : Sorted) → P x → EachOwn P own → EachOwn P (put area_order (numbered x.area) x own)
  put_each x [] is each = ((refl, is), tt)
  put_each x (e ∷ es) is each =
      elim (area_order (numbered x.area) e.0) as (λ o. area_order (numbered x.area) e.0 ≡ o → EachOwn P (by_order o ((numbered x.area, x) ∷ e ∷ es) ((e.0, x) ∷ es) (e ∷ put area_order (numbered x.area) x es))) [
        | Less ↦ λ p. ((refl, is), each)
        | Equal ↦ λ p. ((sym (area_is (numbered x.area) e.0 p), is), each.1)
        | Greater ↦ λ p. (each.0, put_each x es is each.1)
      ] refl

  step_each : (line : CatalogLine) (own : Sorted) → OfLine r P line → EachOwn P own → EachOwn P (gathered_with r line own)
  step_each (Relation l) own is each = each
  step_each (Global g) own is each = each
  step_each (FieldOf f) own is each = each
  step_each (Index x) own is each =
      elim (x.relation == r) as (λ t. (x.relation == r) ≡ t → EachOwn P (cond t (put area_order (numbered x.area) x own) own)) [
        | true ↦ λ e. put_each x own (is (number_is x.relation r e)) each
        | false ↦ λ e. each
      ] refl

  pub each_gathered : (own : Sorted) (ps : List PlacedLine) → AllByRecursion (λ (p : PlacedLine). OfLine r P p.line) ps → EachOwn P own → EachOwn P (gathered r own ps)
  each_gathered own [] of each = each
  each_gathered own (p ∷ ps) of each = each_gathered (gathered_with r p.line own) ps of.1 (step_each p.line own of.0 each)

  pub found_each : (k : ℕ) (x : IndexLine) (es : Sorted) → EachOwn P es → find area_order (numbered k) es ≡ Some x → (x.area ≡ k) × P x
  found_each k x [] each found = absurd (none-some x found)
  found_each k x (e ∷ es) each found =
      elim (is_eq (area_order (numbered k) e.0)) as (λ t. is_eq (area_order (numbered k) e.0) ≡ t → cond t (Some e.1) (find area_order (numbered k) es) ≡ Some x → (x.area ≡ k) × P x) [
        | true ↦ λ tie h.
            let same : e.1 ≡ x = same_Some e.1 x h in
            let key : numbered k ≡ numbered e.1.area = area_is (numbered k) e.0 (equal _ tie) ∙ each.0.0 in
            (ap (λ (y : IndexLine). y.area) (sym same) ∙ sym (ap (λ (a : LogicalArea). a.number) key), subst P same each.0.1)
        | false ↦ λ tie h. found_each k x es each.1 h
      ] refl found

-- ---- none is left out

abbrev pub There : ℕ → Sorted → CatalogLine → Type 0
There r own (Relation l) = Unit {0}
There r own (Global g) = Unit {0}
There r own (FieldOf f) = Unit {0}
There r own (Index x) = x.relation ≡ r → IsSome (find area_order (numbered x.area) own)

some_put : (k : LogicalArea) (x : IndexLine) (own : Sorted) → IsSome (find area_order k own) → IsSome (find area_order k (put area_order (numbered x.area) x own))
some_put k x own some =
    ap is_some (find-put area_order area_total k (numbered x.area) x own)
    ∙ elim (is_eq (area_order k (numbered x.area))) as (λ t. is_some (cond t (Some x) (find area_order k own)) ≡ true) [ true ↦ refl | false ↦ some ]

stays_with : (r : ℕ) (k : LogicalArea) (line : CatalogLine) (own : Sorted) → IsSome (find area_order k own) → IsSome (find area_order k (gathered_with r line own))
stays_with r k (Relation l) own some = some
stays_with r k (Global g) own some = some
stays_with r k (FieldOf f) own some = some
stays_with r k (Index x) own some =
    elim (x.relation == r) as (λ t. IsSome (find area_order k (cond t (put area_order (numbered x.area) x own) own))) [ true ↦ some_put k x own some | false ↦ some ]

stays : (r : ℕ) (k : LogicalArea) (own : Sorted) (ps : List PlacedLine) → IsSome (find area_order k own) → IsSome (find area_order k (gathered r own ps))
stays r k own [] some = some
stays r k own (p ∷ ps) some = stays r k (gathered_with r p.line own) ps (stays_with r k p.line own some)

here : (r : ℕ) (line : CatalogLine) (own : Sorted) (ps : List PlacedLine) → There r (gathered r (gathered_with r line own) ps) line
here r (Relation l) own ps = tt
here r (Global g) own ps = tt
here r (FieldOf f) own ps = tt
here r (Index x) own ps = λ same.
    let moved : gathered_with r (Index x) own ≡ put area_order (numbered x.area) x own = ap (λ t. cond t (put area_order (numbered x.area) x own) own) (number_tests x.relation r same) in
    let put_there : find area_order (numbered x.area) (put area_order (numbered x.area) x own) ≡ Some x =
    find-put area_order area_total (numbered x.area) (numbered x.area) x own ∙ ap (λ t. cond t (Some x) (find area_order (numbered x.area) own)) (same_test x.area x.area ∙ number_tests x.area x.area refl) in
    stays r (numbered x.area) (gathered_with r (Index x) own) ps (ap (λ g. is_some (find area_order (numbered x.area) g)) moved ∙ ap is_some put_there)

pub all_there : (r : ℕ) (own : Sorted) (ps : List PlacedLine) → AllByRecursion (λ (p : PlacedLine). There r (gathered r own ps) p.line) ps
all_there r own [] = tt
all_there r own (p ∷ ps) = (here r p.line own ps, all_there r (gathered_with r p.line own) ps)

flipped : (m n : ℕ) → nat_eq m n ≡ false → (n == m) ≡ false
flipped m n e = ne_eqb n m (λ same. let bad : ⊥ = cc (number_tests m n (sym same)) in bad)

-- ---- these are the relation's indexes

abbrev Covered : ℕ → List ℕ → Sorted → CatalogLine → Type 0
Covered r done es (Relation l) = Unit {0}
Covered r done es (Global g) = Unit {0}
Covered r done es (FieldOf f) = Unit {0}
Covered r done es (Index x) = x.relation ≡ r → (is_used x.area done ≡ true) ⊎ IsSome (find area_order (numbered x.area) es)

module _ (c : Catalog) (r : ℕ) where
  ends : (done : List ℕ) (line : CatalogLine) → Covered r done [] line → IsDone r done line
  ends done (Relation l) is = tt
  ends done (Global g) is = tt
  ends done (FieldOf f) is = tt
  ends done (Index x) is =
      elim (x.relation == r) as (λ t. (x.relation == r) ≡ t → (t && not (is_used x.area done)) ≡ false) [
        | true ↦ λ e. elim (is (number_is x.relation r e)) [
          | inl used ↦ ap not used
          | inr some ↦ let bad : ⊥ = cc in absurd bad
        ]
        | false ↦ λ e. refl
      ] refl

  more_done : (done : List ℕ) (e : LogicalArea × IndexLine) (es : Sorted) (line : CatalogLine) → e.0 ≡ numbered e.1.area → Covered r done (e ∷ es) line → Covered r (e.1.area ∷ done) es line
  more_done done e es (Relation l) key is = tt
  more_done done e es (Global g) key is = tt
  more_done done e es (FieldOf f) key is = tt
  more_done done e es (Index x) key is = λ own.
      elim (nat_eq x.area e.1.area) as (λ t. nat_eq x.area e.1.area ≡ t → ((t || is_used x.area done) ≡ true) ⊎ IsSome (find area_order (numbered x.area) es)) [
        | true ↦ λ e'. inl refl
        | false ↦ λ e'. elim (is own) [
          | inl used ↦ inl used
          | inr some ↦
              let off : is_eq (area_order (numbered x.area) e.0) ≡ false = ap (λ (a : LogicalArea). is_eq (area_order (numbered x.area) a)) key ∙ same_test x.area e.1.area ∙ flipped x.area e.1.area e' in
              inr (ap (λ t. is_some (cond t (Some e.1) (find area_order (numbered x.area) es))) (sym off) ∙ some)
        ]
      ] refl

  covered_more : (done : List ℕ) (e : LogicalArea × IndexLine) (es : Sorted) (ps : List PlacedLine) → e.0 ≡ numbered e.1.area → AllByRecursion (λ (p : PlacedLine). Covered r done (e ∷ es) p.line) ps → AllByRecursion (λ (p : PlacedLine). Covered r (e.1.area ∷ done) es p.line) ps
  covered_more done e es [] key all = tt
  covered_more done e es (p ∷ ps) key all = (more_done done e es p.line key all.0, covered_more done e es ps key all.1)

  done_all : (done : List ℕ) (ps : List PlacedLine) → AllByRecursion (λ (p : PlacedLine). Covered r done [] p.line) ps → AllByRecursion (λ (p : PlacedLine). IsDone r done p.line) ps
  done_all done [] all = tt
  done_all done (p ∷ ps) all = (ends done p.line all.0, done_all done ps all.1)

  -- the areas that are done are none of these
  abbrev Apart : List ℕ → Sorted → Type 0
  Apart done es = AllByRecursion (λ (e : LogicalArea × IndexLine). is_used e.1.area done ≡ false) es

  apart_more : (done : List ℕ) (e : LogicalArea × IndexLine) (es : Sorted) → e.0 ≡ numbered e.1.area → EachOwn (IsIndexOn c r) es → below_all area_order e.0 es ≡ true → Apart done es → Apart (e.1.area ∷ done) es
  apart_more done e [] key each low off = tt
  apart_more done e (f ∷ fs) key each low off =
      let parts = and_parts (is_lt (area_order e.0 f.0)) (below_all area_order e.0 fs) low in
      let numbers : area_order e.0 f.0 ≡ nat_cmp e.1.area f.1.area = λ i. area_order (key i) (each.0.0 i) in
      let lower : nat_cmp e.1.area f.1.area ≡ Less = sym numbers ∙ less _ parts.0 in
      let test : nat_eq f.1.area e.1.area ≡ false = sym (same_test e.1.area f.1.area) ∙ ap is_eq lower in
      (ap (λ t. t || is_used f.1.area done) test ∙ off.0, apart_more done e fs key each.1 parts.1 off.1)

  own_list : (done : List ℕ) (es : Sorted) → EachOwn (IsIndexOn c r) es → is_sorted area_order es ≡ true → Apart done es → AllByRecursion (λ (p : PlacedLine). Covered r done es p.line) c.lines → AreOwn c r done (lines_of es)
  own_list done [] each s off all = done_all done c.lines all
  own_list done (e ∷ es) each s off all =
      let parts = and_parts (below_all area_order e.0 es) (is_sorted area_order es) s in
      (each.0.1, off.0, own_list (e.1.area ∷ done) es each.1 parts.1 (apart_more done e es each.0.0 each.1 parts.0 off.1) (covered_more done e es c.lines each.0.0 all))

  none_done : (es : Sorted) → Apart [] es
  none_done [] = tt
  none_done (e ∷ es) = (refl, none_done es)

  covered : (es : Sorted) (line : CatalogLine) → There r es line → Covered r [] es line
  covered es (Relation l) is = tt
  covered es (Global g) is = tt
  covered es (FieldOf f) is = tt
  covered es (Index x) is = λ own. inr (is own)

  all_covered : (es : Sorted) (ps : List PlacedLine) → AllByRecursion (λ (p : PlacedLine). There r es p.line) ps → AllByRecursion (λ (p : PlacedLine). Covered r [] es p.line) ps
  all_covered es [] all = tt
  all_covered es (p ∷ ps) all = (covered es p.line all.0, all_covered es ps all.1)

  pub are_own : EachOwn (IsIndexOn c r) (gathered r [] c.lines) → AreOwn c r [] (lines_of (gathered r [] c.lines))
  are_own each =
      let es = gathered r [] c.lines in
      own_list [] es each (gathered_sorted r [] c.lines refl) (none_done es) (all_covered es c.lines (all_there r [] c.lines))
