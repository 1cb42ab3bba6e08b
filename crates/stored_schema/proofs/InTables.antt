-- The index lines of a relation are the indexes of the relation in the tables, in their order.
use Rattle.std.proofs.Common.{◌≡◌, ◌==◌, ℕ, suc, zero, Bool, true, false, cond, not, ◌&&◌, List, [], ◌∷◌, map, filter, Option, Some, None, option_map, refl, sym, ap, subst, ◌∙◌}
use Rattle.std.specs.Prelude.{IsSome, is_some}
use Rattle.std.specs.List.{AllByRecursion, slice_get}
use Rattle.std.specs.Ordering.{is_eq, is_lt, nat_cmp}
use Rattle.std.specs.Cmp.{nat_cmp_total}
use Rattle.std.specs.FinMap.Entries.{find, put, is_sorted, below_all, find-put}
use Rattle.std.proofs.lemmas.Bool.{eq-eqb}
use Rattle.std.proofs.lemmas.Map.Lookups.{exact_unsigned}
use Rattle.std.proofs.lemmas.Option.{none-some, same_Some}
use Rattle.rdb_types.specs.Order.{chars_order}
use Rattle.rdo_ast.specs.Tree.{Name}
use Rattle.rdb_meaning.specs.declared.tables.Index.{Index as IndexOf}
use Rattle.rdb_meaning.specs.declared.tables.Tables.{Tables}
use Rattle.rdb_meaning.specs.Contents.{no_tables, by_area, indexes_on}
use Rattle.line_view.specs.Knowledge.{Lines}
use Rattle.catalog_lines.specs.declared.line.IndexLine.{IndexLine}
use Rattle.catalog_lines.specs.declared.line.CatalogLine.{CatalogLine}
use Rattle.catalog_lines.specs.declared.line.CatalogLine.TheVariants.{Relation, Global, Field as FieldOf, Index}
use Rattle.catalog.specs.declared.directory.LogicalArea.{LogicalArea}
use Rattle.catalog.specs.declared.directory.PlacedLine.{PlacedLine}
use Rattle.catalog.specs.declared.directory.Directory.{Directory}
use Rattle.catalog.specs.declared.reading.Catalog.{Catalog}
use Rattle.catalog.specs.Directory.{area_order, numbered, directory}
use Rattle.catalog.specs.Schema.{catalog_tables, tables_from}
use Rattle.catalog.specs.Reading.{IsCatalogOf}
use Rattle.row_writes.proofs.of_sound_changes.Basics.{equal, sorted_put, number_is}
use Rattle.row_writes.proofs.of_sound_changes.Named.{Fits, all_fit}
use Rattle.row_writes.specs.sound_changes.InTurn.{IsIndexOn}
use Rattle.row_writes.specs.Target.{named_index}
use Rattle.stored_schema.specs.Indexes.{Sorted, lines_of, lines_on}
use Rattle.stored_schema.proofs.Entries.{same_test, same_entries}
use Rattle.stored_schema.proofs.Gathered.{gathered, EachOwn, OfLine, There, lines_on_are, gathered_sorted, each_gathered, found_each, all_there}
use Rattle.stored_schema.proofs.OneArea.{index_of, Stood, stood_line, one_index, FromLine, EachLine, AreFrom, lines_from, found_from, in_tables}

abbrev pub NamedIndex : Type 0
NamedIndex = Name × IndexOf

-- ---- as entries by areas

abbrev keyed : Sorted → List (ℕ × NamedIndex)
keyed [] = []
keyed (e ∷ es) = (e.0.number, named_index e.1) ∷ keyed es

keyed_values : (es : Sorted) → map (λ (e : ℕ × NamedIndex). e.1) (keyed es) ≡ map named_index (lines_of es)
keyed_values [] = refl
keyed_values (e ∷ es) = ap (λ l. named_index e.1 ∷ l) (keyed_values es)

find_keyed : (k : ℕ) (es : Sorted) → find nat_cmp k (keyed es) ≡ option_map named_index (find area_order (numbered k) es)
find_keyed k [] = refl
find_keyed k (e ∷ es) =
    elim (is_eq (nat_cmp k e.0.number)) as (λ b. cond b (Some (named_index e.1)) (find nat_cmp k (keyed es)) ≡ option_map named_index (cond b (Some e.1) (find area_order (numbered k) es))) [
      | true ↦ refl
      | false ↦ find_keyed k es
    ]

keyed_below : (x : LogicalArea) (es : Sorted) → below_all nat_cmp x.number (keyed es) ≡ below_all area_order x es
keyed_below x [] = refl
keyed_below x (e ∷ es) = ap (λ b. is_lt (area_order x e.0) && b) (keyed_below x es)

keyed_sorted : (es : Sorted) → is_sorted nat_cmp (keyed es) ≡ is_sorted area_order es
keyed_sorted [] = refl
keyed_sorted (e ∷ es) = λ i. keyed_below e.0 es i && keyed_sorted es i

by_area_sorted : (es : List NamedIndex) → is_sorted nat_cmp (by_area es) ≡ true
by_area_sorted [] = refl
by_area_sorted (e ∷ es) = sorted_put nat_cmp nat_cmp_total e.1.area e (by_area es) (by_area_sorted es)

-- ---- the tables' indexes by areas

module _ (r k : ℕ) where
  abbrev Own : List NamedIndex → List NamedIndex
  Own es = filter (λ (e : NamedIndex). e.1.relation == r) es

  put_own : (e : NamedIndex) (es : List NamedIndex) → find nat_cmp k (by_area (e ∷ es)) ≡ cond (is_eq (nat_cmp k e.1.area)) (Some e) (find nat_cmp k (by_area es))
  put_own e es = find-put nat_cmp nat_cmp_total k e.1.area e (by_area es)

  by_none : (es : List NamedIndex) → AllByRecursion (λ (e : NamedIndex). (e.1.relation == r) ≡ true → e.1.area ≡ k → ⊥) es → find nat_cmp k (by_area (Own es)) ≡ None
  by_none [] off = refl
  by_none (e ∷ es) off =
      elim (e.1.relation == r) as (λ b. (e.1.relation == r) ≡ b → find nat_cmp k (by_area (cond b (e ∷ Own es) (Own es))) ≡ None) [
        | true ↦ λ own.
            put_own e (Own es)
            ∙ elim (is_eq (nat_cmp k e.1.area)) as (λ b. is_eq (nat_cmp k e.1.area) ≡ b → cond b (Some e) (find nat_cmp k (by_area (Own es))) ≡ None) [
              | true ↦ λ tie. absurd (off.0 own (sym (exact_unsigned k e.1.area (equal _ tie))))
              | false ↦ λ tie. by_none es off.1
            ] refl
        | false ↦ λ other. by_none es off.1
      ] refl

  module _ (x : IndexLine) (on : (x.relation == r) ≡ true) (at : x.area ≡ k) where
    further : (e : NamedIndex) (es : List NamedIndex) → find chars_order x.name (e ∷ es) ≡ Some (index_of x) → (e.1 ≡ index_of x → ⊥) → find chars_order x.name es ≡ Some (index_of x)
    further e es found off =
        elim (is_eq (chars_order x.name e.0)) as (λ b. cond b (Some e.1) (find chars_order x.name es) ≡ Some (index_of x) → find chars_order x.name es ≡ Some (index_of x)) [
          | true ↦ λ h. absurd (off (same_Some e.1 (index_of x) h))
          | false ↦ λ h. h
        ] found

    by_some : (es : List NamedIndex) → AllByRecursion (λ (e : NamedIndex). e.1.area ≡ k → e ≡ named_index x) es → find chars_order x.name es ≡ Some (index_of x) → find nat_cmp k (by_area (Own es)) ≡ Some (named_index x)
    by_some [] same found = absurd (none-some (index_of x) found)
    by_some (e ∷ es) same found =
        elim (e.1.relation == r) as (λ b. (e.1.relation == r) ≡ b → find nat_cmp k (by_area (cond b (e ∷ Own es) (Own es))) ≡ Some (named_index x)) [
          | true ↦ λ own.
              put_own e (Own es)
              ∙ elim (is_eq (nat_cmp k e.1.area)) as (λ b. is_eq (nat_cmp k e.1.area) ≡ b → cond b (Some e) (find nat_cmp k (by_area (Own es))) ≡ Some (named_index x)) [
                | true ↦ λ tie. ap Some (same.0 (sym (exact_unsigned k e.1.area (equal _ tie))))
                | false ↦ λ tie. by_some es same.1 (further e es found (λ is.
                    let meets : is_eq (nat_cmp k e.1.area) ≡ true = same_test k e.1.area ∙ eq-eqb e.1.area k (ap (λ (i : IndexOf). i.area) is ∙ at) in
                    let bad : ⊥ = cc in bad))
              ] refl
          | false ↦ λ other. by_some es same.1 (further e es found (λ is.
              let meets : (e.1.relation == r) ≡ true = ap (λ (i : IndexOf). i.relation == r) is ∙ on in
              let bad : ⊥ = cc in bad))
        ] refl

-- ---- the lines of a catalog

placed : (whole ps : List PlacedLine) (at : ℕ → ℕ) → ((j : ℕ) → slice_get ps j ≡ slice_get whole (at j)) → AllByRecursion (λ (p : PlacedLine). (i : ℕ) × (slice_get whole i ≡ Some p)) ps
placed whole [] at h = tt
placed whole (p ∷ ps) at h = ((at zero, sym (h zero)), placed whole ps (λ j. at (suc j)) (λ j. h (suc j)))

own_line : (c : Catalog) (r i : ℕ) (p : PlacedLine) (line : CatalogLine) → p.line ≡ line → slice_get c.lines i ≡ Some p → OfLine r (IsIndexOn c r) line
own_line c r i p (Relation l) is at = tt
own_line c r i p (Global g) is at = tt
own_line c r i p (FieldOf f) is at = tt
own_line c r i p (Index x) is at = λ on. record { place = i; line = p; stands = at; is = is; on = on }

own_lines : (c : Catalog) (r : ℕ) (ps : List PlacedLine) → AllByRecursion (λ (p : PlacedLine). (i : ℕ) × (slice_get c.lines i ≡ Some p)) ps → AllByRecursion (λ (p : PlacedLine). OfLine r (IsIndexOn c r) p.line) ps
own_lines c r [] each = tt
own_lines c r (p ∷ ps) each = (own_line c r each.0.0 p p.line refl each.0.1, own_lines c r ps each.1)

pub each_own : (c : Catalog) (r : ℕ) → EachOwn (IsIndexOn c r) (gathered r [] c.lines)
each_own c r = each_gathered r (IsIndexOn c r) [] c.lines (own_lines c r c.lines (placed c.lines c.lines (λ j. j) (λ j. refl))) tt

module _ (all : Lines) (c : Catalog) (is : IsCatalogOf all c) (r : ℕ) where
  abbrev d : Directory
  d = directory c.lines

  abbrev u : Tables
  u = catalog_tables c.lines

  abbrev own : Sorted
  own = gathered r [] c.lines

  -- a line that stands, and is among the relation's if it is one of it
  abbrev Listed : IndexLine → Type 0
  Listed x = Stood all d u x × (x.relation ≡ r → IsSome (find area_order (numbered x.area) own))

  each_line : (q : PlacedLine) (line : CatalogLine) → q.line ≡ line → Fits all d u q → There r own line → EachLine Listed line
  each_line q (Relation l) at fits there = tt
  each_line q (Global g) at fits there = tt
  each_line q (FieldOf f) at fits there = tt
  each_line q (Index x) at fits there = (stood_line all d u q x at fits, there)

  each_lines : (ps : List PlacedLine) → AllByRecursion (Fits all d u) ps → AllByRecursion (λ (p : PlacedLine). There r own p.line) ps → AllByRecursion (λ (p : PlacedLine). EachLine Listed p.line) ps
  each_lines [] fits there = tt
  each_lines (p ∷ ps) fits there = (each_line p p.line refl fits.0 there.0, each_lines ps fits.1 there.1)

  stood_of : (line : CatalogLine) → EachLine Listed line → EachLine (Stood all d u) line
  stood_of (Relation l) h = tt
  stood_of (Global g) h = tt
  stood_of (FieldOf f) h = tt
  stood_of (Index x) h = h.0

  stood_lines : (ps : List PlacedLine) → AllByRecursion (λ (p : PlacedLine). EachLine Listed p.line) ps → AllByRecursion (λ (p : PlacedLine). EachLine (Stood all d u) p.line) ps
  stood_lines [] h = tt
  stood_lines (p ∷ ps) h = (stood_of p.line h.0, stood_lines ps h.1)

  stood_own : (line : CatalogLine) → EachLine (Stood all d u) line → OfLine r (Stood all d u) line
  stood_own (Relation l) h = tt
  stood_own (Global g) h = tt
  stood_own (FieldOf f) h = tt
  stood_own (Index x) h = λ on. h

  stood_owns : (ps : List PlacedLine) → AllByRecursion (λ (p : PlacedLine). EachLine (Stood all d u) p.line) ps → AllByRecursion (λ (p : PlacedLine). OfLine r (Stood all d u) p.line) ps
  stood_owns [] h = tt
  stood_owns (p ∷ ps) h = (stood_own p.line h.0, stood_owns ps h.1)

  on_own : (line : CatalogLine) → OfLine r (λ x. x.relation ≡ r) line
  on_own (Relation l) = tt
  on_own (Global g) = tt
  on_own (FieldOf f) = tt
  on_own (Index x) = λ on. on

  on_owns : (ps : List PlacedLine) → AllByRecursion (λ (p : PlacedLine). OfLine r (λ x. x.relation ≡ r) p.line) ps
  on_owns [] = tt
  on_owns (p ∷ ps) = (on_own p.line, on_owns ps)

  lines_listed : AllByRecursion (λ (p : PlacedLine). EachLine Listed p.line) c.lines
  lines_listed = each_lines c.lines (all_fit all c is) (all_there r [] c.lines)

  pub each_stood : EachOwn (Stood all d u) own
  each_stood = each_gathered r (Stood all d u) [] c.lines (stood_owns c.lines (stood_lines c.lines lines_listed)) tt

  each_on : EachOwn (λ x. x.relation ≡ r) own
  each_on = each_gathered r (λ x. x.relation ≡ r) [] c.lines (on_owns c.lines) tt

  from_listed : AreFrom Listed u.indexes
  from_listed = lines_from Listed d c.lines no_tables lines_listed tt

  from_stood : AreFrom (Stood all d u) u.indexes
  from_stood = lines_from (Stood all d u) d c.lines no_tables (stood_lines c.lines lines_listed) tt

  same_as : (k : ℕ) (x : IndexLine) → Stood all d u x → x.area ≡ k → (es : List NamedIndex) → AreFrom (Stood all d u) es → AllByRecursion (λ (e : NamedIndex). e.1.area ≡ k → e ≡ named_index x) es
  same_as k x stood at [] each = tt
  same_as k x stood at (e ∷ es) each = (
    (λ here.
        let from = each.0 in
        let area : (from.line).area ≡ x.area = ap (λ (i : IndexOf). i.area) (sym from.is) ∙ here ∙ sym at in
        let same : from.line ≡ x = one_index all d u from.line x from.holds stood area in
        λ i. ((from.named ∙ ap (λ (y : IndexLine). y.name) same) i, (from.is ∙ ap index_of same) i)),
    same_as k x stood at es each.1,
  )

  none_there : (k : ℕ) → find area_order (numbered k) own ≡ None → (es : List NamedIndex) → AreFrom Listed es → AllByRecursion (λ (e : NamedIndex). (e.1.relation == r) ≡ true → e.1.area ≡ k → ⊥) es
  none_there k none [] each = tt
  none_there k none (e ∷ es) each = (
    (λ on here.
        let from = each.0 in
        let relation : (from.line).relation ≡ r = ap (λ (i : IndexOf). i.relation) (sym from.is) ∙ number_is e.1.relation r on in
        let area : (from.line).area ≡ k = ap (λ (i : IndexOf). i.area) (sym from.is) ∙ here in
        let some : IsSome (find area_order (numbered (from.line).area) own) = from.holds.1 relation in
        let found : is_some (find area_order (numbered k) own) ≡ true = ap (λ (n : ℕ). is_some (find area_order (numbered n) own)) (sym area) ∙ some in
        let empty : is_some (find area_order (numbered k) own) ≡ false = ap is_some none in
        let bad : ⊥ = cc in bad),
    none_there k none es each.1,
  )

  same_found : (k : ℕ) → find nat_cmp k (keyed own) ≡ find nat_cmp k (by_area (filter (λ (e : NamedIndex). e.1.relation == r) u.indexes))
  same_found k =
      find_keyed k own
      ∙ elim (find area_order (numbered k) own) as (λ o. find area_order (numbered k) own ≡ o → option_map named_index o ≡ find nat_cmp k (by_area (filter (λ (e : NamedIndex). e.1.relation == r) u.indexes))) [
        | None ↦ λ e. sym (by_none r k u.indexes (none_there k e u.indexes from_listed))
        | Some x ↦ λ e.
            let stood = found_each r (Stood all d u) k x own each_stood e in
            let on = found_each r (λ (y : IndexLine). y.relation ≡ r) k x own each_on e in
            sym (by_some r k x (eq-eqb x.relation r on.1) on.0 u.indexes (same_as k x stood.1 stood.0 u.indexes from_stood) (in_tables all d u x from_stood stood.1))
      ] refl

  same_indexes : map named_index (lines_of own) ≡ indexes_on r u
  same_indexes =
      sym (keyed_values own)
      ∙ ap (λ l. map (λ (e : ℕ × NamedIndex). e.1) l) (same_entries nat_cmp nat_cmp_total exact_unsigned (keyed own) _ (keyed_sorted own ∙ gathered_sorted r [] c.lines refl) (by_area_sorted (filter (λ (e : NamedIndex). e.1.relation == r) u.indexes)) same_found)

  pub lines_are_indexes : (t : Tables) → t.indexes ≡ c.tables.indexes → map named_index (lines_on r c.lines) ≡ indexes_on r t
  lines_are_indexes t same =
      ap (map named_index) (lines_on_are r c.lines)
      ∙ same_indexes
      ∙ ap (λ es. map (λ (e : ℕ × NamedIndex). e.1) (by_area (filter (λ (e : NamedIndex). e.1.relation == r) es))) (sym (same ∙ ap (λ (x : Tables). x.indexes) is.tables))
