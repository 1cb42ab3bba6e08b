-- The positions of an index's fields have fields, and values in each row.
use Rattle.std.proofs.Common.{◌≡◌, ◌==◌, inl, inr, ℕ, zero, suc, ◌+◌, ◌-◌, ◌<◌, ◌≤◌, Bool, true, false, cond, not, ◌&&◌, List, [], ◌∷◌, map, length, replicate, Some, None, refl, sym, ap, subst, ◌∙◌, arith}
use Rattle.std.specs.Prelude.{IsSome, is_some, nat_eq, ◌||◌}
use Rattle.std.specs.List.{AllByRecursion, list_all}
use Rattle.std.specs.declared.cmp.Ordering.{Ordering}
use Rattle.std.specs.declared.cmp.Ordering.TheVariants.{Less, Equal, Greater}
use Rattle.std.specs.Ordering.{is_eq, nat_cmp, ordering_then}
use Rattle.std.specs.FinMap.Entries.{find, put, by_order}
use Rattle.std.proofs.lemmas.Bool.{and_parts, ne_eqb, cases_lt, cases_order, not-true}
use Rattle.std.proofs.lemmas.List.{length-append, length-replicate}
use Rattle.std.proofs.lemmas.Map.Lookups.{exact_unsigned}
use Rattle.std.proofs.lemmas.Option.{none-some, same_Some}
use Rattle.rdb_types.specs.declared.keys.Dbkey.{Dbkey}
use Rattle.rdb_types.specs.declared.values.Field.{Field}
use Rattle.rdb_types.specs.declared.values.Value.{Value}
use Rattle.rdb_types.specs.declared.values.Value.TheVariants.{Missing}
use Rattle.rdb_types.specs.Order.{chars_order}
use Rattle.rdo_ast.specs.Tree.{Name}
use Rattle.rdb_meaning.specs.declared.tables.Relation.{Relation as Rows}
use Rattle.rdb_meaning.specs.declared.tables.Tables.{Tables}
use Rattle.rdb_meaning.specs.Contents.{Row, no_tables, fields_of, relation_named}
use Rattle.rdb_meaning.specs.Execution.{area_of}
use Rattle.line_view.specs.Knowledge.{Lines}
use Rattle.catalog_lines.specs.declared.line.FieldLine.{FieldLine}
use Rattle.catalog_lines.specs.declared.line.IndexLine.{IndexLine}
use Rattle.catalog_lines.specs.declared.line.RelationLine.{RelationLine}
use Rattle.catalog_lines.specs.declared.line.CatalogLine.{CatalogLine}
use Rattle.catalog_lines.specs.declared.line.CatalogLine.TheVariants.{Relation, Global, Field as FieldOf, Index}
use Rattle.catalog.specs.declared.directory.FieldPlace.{FieldPlace}
use Rattle.catalog.specs.declared.directory.PlacedField.{PlacedField}
use Rattle.catalog.specs.declared.directory.PlacedLine.{PlacedLine}
use Rattle.catalog.specs.declared.directory.Directory.{Directory}
use Rattle.catalog.specs.declared.reading.Catalog.{Catalog}
use Rattle.catalog.specs.Reading.{IsCatalogOf}
use Rattle.catalog.specs.Directory.{area_order, numbered, place_order, place, noted, directory_from, no_directory, directory}
use Rattle.catalog.specs.Schema.{max_fields, next_field, fields_from, relation_fields, with_thing, tables_from, catalog_tables, is_key, is_field_key, has_field, has_area, index_area, differ, same_field, stands}
use Rattle.sound_changes.proofs.Basics.{equal}
use Rattle.sound_changes.proofs.Named.{Fits, all_fit}
use Rattle.relation_rows.specs.declared.stored.StoredRelation.{StoredRelation}
use Rattle.relation_rows.specs.Relations.{stored_row}
use Rattle.relation_rows.specs.Stored.{completed, AreRowsOf}
use Rattle.relation_rows.specs.Indexed.{HasPositions}

-- ---- numbers

first : (start p n : ℕ) → start ≡ p → p < start + suc n
first start p n e = omega (arith, e)

behind_first : (start p n : ℕ) → p < start + 1 + n → p < start + suc n
behind_first start p n h = omega (arith, h)

zero_start : (p n : ℕ) → p < 0 + n → p < n
zero_start p n h = omega (arith, h)

reaches : (p m n : ℕ) → p < m → m ≤ n → p < n
reaches p m n low high = omega (arith, low, high)

-- ---- each field has one before it

both_tied : (a b : Ordering) → ordering_then a b ≡ Equal → (a ≡ Equal) × (b ≡ Equal)
both_tied Less b e = let bad : ⊥ = cc in absurd bad
both_tied Equal b e = (refl, e)
both_tied Greater b e = let bad : ⊥ = cc in absurd bad

place_is : (a b : FieldPlace) → place_order a b ≡ Equal → a ≡ b
place_is a b e =
    let two = both_tied (nat_cmp a.relation b.relation) (nat_cmp a.position b.position) e in
    λ i. record { relation = exact_unsigned a.relation b.relation two.0 i; position = exact_unsigned a.position b.position two.1 i }

module _ (d : Directory) where
  abbrev Behind : FieldPlace → Type 0
  Behind k = (k.position == 0 || has_field k.relation d (k.position - 1)) ≡ true

  abbrev AreBehind : List (FieldPlace × PlacedField) → Type 0
  AreBehind es = AllByRecursion (λ (e : FieldPlace × PlacedField). Behind e.0) es

  put_behind : (k : FieldPlace) (v : PlacedField) (es : List (FieldPlace × PlacedField)) → Behind k → AreBehind es → AreBehind (put place_order k v es)
  put_behind k v [] is each = (is, tt)
  put_behind k v (e ∷ es) is each =
      elim (place_order k e.0) as (λ o. AreBehind (by_order o ((k, v) ∷ e ∷ es) ((e.0, v) ∷ es) (e ∷ put place_order k v es))) [
        | Less ↦ (is, each)
        | Equal ↦ each
        | Greater ↦ (each.0, put_behind k v es is each.1)
      ]

  field_behind : (t : Tables) (key : Dbkey) (f : FieldLine) → stands d t key (FieldOf f) ≡ true → Behind (place f.relation f.position)
  field_behind t key f stood =
      let a = is_field_key key (find place_order (place f.relation f.position) d.fields) in
      let b = has_area f.relation d in
      (and_parts (a && b) (f.position == 0 || has_field f.relation d (f.position - 1)) stood).1

  line_behind : (t : Tables) (key : Dbkey) (line : CatalogLine) (e : Directory) → stands d t key line ≡ true → AreBehind e.fields → AreBehind (noted key line e).fields
  line_behind t key (Relation r) e stood each = each
  line_behind t key (Global g) e stood each = each
  line_behind t key (FieldOf f) e stood each = put_behind (place f.relation f.position) (record { key = key; field = f.field }) e.fields (field_behind t key f stood) each
  line_behind t key (Index x) e stood each = each

  lines_behind : (all : Lines) (t : Tables) (e : Directory) (ps : List PlacedLine) → AllByRecursion (Fits all d t) ps → AreBehind e.fields → AreBehind (directory_from e ps).fields
  lines_behind all t e [] fits each = each
  lines_behind all t e (p ∷ ps) fits each = lines_behind all t (noted p.key p.line e) ps fits.1 (line_behind t p.key p.line e (fits.0).stood each)

  found_behind : (k : FieldPlace) (es : List (FieldPlace × PlacedField)) → AreBehind es → IsSome (find place_order k es) → Behind k
  found_behind k [] each some = let bad : ⊥ = cc in absurd bad
  found_behind k (e ∷ es) each some =
      elim (is_eq (place_order k e.0)) as (λ b. is_eq (place_order k e.0) ≡ b → IsSome (cond b (Some e.1) (find place_order k es)) → Behind k) [
        | true ↦ λ tie h. subst Behind (sym (place_is k e.0 (equal _ tie))) each.0
        | false ↦ λ tie h. found_behind k es each.1 h
      ] refl some

  either : (a b : Bool) → a ≡ false → (a || b) ≡ true → b ≡ true
  either a b off h = sym (ap (λ x. x || b) off) ∙ h

  module _ (each : AreBehind d.fields) (r : ℕ) where
    all_before : (p q : ℕ) → q ≤ p → has_field r d p ≡ true → has_field r d q ≡ true
    all_before zero q low has = let same : q ≡ 0 = omega arith in ap (has_field r d) same ∙ has
    all_before (suc p) q low has =
        elim (cases_order q (suc p)) [
          | inl e ↦ ap (has_field r d) e ∙ has
          | inr other ↦ elim other [
            | inl less ↦
                let behind = found_behind (place r (suc p)) d.fields each has in
                let off : (suc p == 0) ≡ false = ne_eqb (suc p) 0 (λ same. absurd (omega (arith, same))) in
                let before : has_field r d (suc p - 1) ≡ true = either (suc p == 0) (has_field r d (suc p - 1)) off behind in
                let one : suc p - 1 ≡ p = omega arith in
                all_before p q (omega (arith, less)) (ap (has_field r d) (sym one) ∙ before)
            | inr more ↦ absurd (omega (arith, low, more))
          ]
        ]

    -- a position that has a field is below the count of the fields
    counted : (limit start p : ℕ) → ((q : ℕ) → q ≤ p → has_field r d q ≡ true) → start ≤ p → p < start + limit → p < start + length (fields_from limit r start d.fields)
    counted zero start p has low high = absurd (omega (arith, low, high))
    counted (suc more) start p has low high =
        elim (find place_order (place r start) d.fields) as (λ o. is_some o ≡ true → p < start + length (next_field o (fields_from more r (start + 1) d.fields))) [
          | None ↦ λ some. let bad : ⊥ = cc in absurd bad
          | Some found ↦ λ some.
              let rest = fields_from more r (start + 1) d.fields in
              elim (cases_order start p) [
                | inl e ↦ first start p (length rest) e
                | inr other ↦ elim other [
                  | inl less ↦ behind_first start p (length rest) (counted more (start + 1) p has (omega (arith, less)) (omega (arith, high)))
                  | inr above ↦ absurd (omega (arith, low, above))
                ]
              ]
        ] (has start low)

    below_limit : (limit p : ℕ) → p < limit → has_field r d p ≡ true → p < length (fields_from limit r 0 d.fields)
    below_limit limit p low has = zero_start p (length (fields_from limit r 0 d.fields)) (counted limit 0 p (λ q under. all_before p q under has) (omega arith) (omega (arith, low)))

    within_limit : (limit p : ℕ) → has_field r d limit ≡ false → has_field r d p ≡ true → p < limit
    within_limit limit p none has =
        elim (cases_lt p limit) [
          | inl low ↦ low
          | inr high ↦ let there : has_field r d limit ≡ true = all_before p limit high has in let bad : ⊥ = cc in absurd bad
        ]

    pub below_count : (p : ℕ) → has_field r d max_fields ≡ false → has_field r d p ≡ true → p < length (relation_fields r d)
    unfolding relation_fields
    below_count p none has = below_limit max_fields p (within_limit max_fields p none has) has

    all_below : (ps : List ℕ) → has_field r d max_fields ≡ false → list_all (has_field r d) ps ≡ true → AllByRecursion (λ p. p < length (relation_fields r d)) ps
    all_below [] none has = tt
    all_below (p ∷ ps) none has =
        let parts = and_parts (has_field r d p) (list_all (has_field r d) ps) has in
        (below_count p none parts.0, all_below ps none parts.1)

-- ---- the fields of a relation

module _ (d : Directory) where
  abbrev HaveFields : List (Name × Rows) → Type 0
  HaveFields es = AllByRecursion (λ (e : Name × Rows). e.1.fields ≡ relation_fields e.1.area d) es

  put_fields : (n : Name) (v : Rows) (es : List (Name × Rows)) → v.fields ≡ relation_fields v.area d → HaveFields es → HaveFields (put chars_order n v es)
  put_fields n v [] is each = (is, tt)
  put_fields n v (e ∷ es) is each =
      elim (chars_order n e.0) as (λ o. HaveFields (by_order o ((n, v) ∷ e ∷ es) ((e.0, v) ∷ es) (e ∷ put chars_order n v es))) [
        | Less ↦ (is, each)
        | Equal ↦ (is, each.1)
        | Greater ↦ (each.0, put_fields n v es is each.1)
      ]

  line_fields : (line : CatalogLine) (t : Tables) → HaveFields t.relations → HaveFields (with_thing d line t).relations
  line_fields (Relation r) t each = put_fields r.name (record { area = r.area; fields = relation_fields r.area d; rows = [] }) t.relations refl each
  line_fields (Global g) t each = each
  line_fields (FieldOf f) t each = each
  line_fields (Index x) t each = each

  lines_fields : (ps : List PlacedLine) (t : Tables) → HaveFields t.relations → HaveFields (tables_from d t ps).relations
  lines_fields [] t each = each
  lines_fields (p ∷ ps) t each = lines_fields ps (with_thing d p.line t) (line_fields p.line t each)

  found_fields : (n : Name) (v : Rows) (es : List (Name × Rows)) → HaveFields es → find chars_order n es ≡ Some v → v.fields ≡ relation_fields v.area d
  found_fields n v [] each found = absurd (none-some v found)
  found_fields n v (e ∷ es) each found =
      elim (is_eq (chars_order n e.0)) as (λ b. cond b (Some e.1) (find chars_order n es) ≡ Some v → v.fields ≡ relation_fields v.area d) [
        | true ↦ λ h. subst (λ (w : Rows). w.fields ≡ relation_fields w.area d) (same_Some e.1 v h) each.0
        | false ↦ λ h. found_fields n v es each.1 h
      ] found

-- ---- of a catalog

has_limit : (d : Directory) (t : Tables) (key : Dbkey) (r : RelationLine) → stands d t key (Relation r) ≡ true → has_field r.area d max_fields ≡ false
has_limit d t key r stood =
    let a = area_of (relation_named r.name t) == r.area in
    let b = is_key key (find area_order (numbered r.area) d.areas) in
    let e = has_field r.area d 0 in
    let f = not (has_field r.area d max_fields) in
    let g = differ same_field (fields_of (relation_named r.name t)) in
    not-true (has_field r.area d max_fields) (and_parts (a && b && e) f (and_parts (a && b && e && f) g stood).0).1

have_positions : (d : Directory) (t : Tables) (key : Dbkey) (x : IndexLine) → stands d t key (Index x) ≡ true → list_all (has_field x.relation d) x.fields ≡ true
have_positions d t key x stood =
    let a = index_area (find chars_order x.name t.indexes) == x.area in
    let b = is_key key (find area_order (numbered x.area) d.areas) in
    let e = has_area x.relation d in
    let f = differ nat_eq x.fields in
    let g = list_all (has_field x.relation d) x.fields in
    let h = x.root.area == x.area in
    (and_parts (a && b && e && f) g (and_parts (a && b && e && f && g) h stood).0).1

-- the positions of an index's fields are below the count of the fields of its relation
pub positions_below : (all : Lines) (c : Catalog) (n : Name) (b : Rows) (r : RelationLine) (x : IndexLine) → IsCatalogOf all c → relation_named n c.tables ≡ Some b
    → (key : Dbkey) → stands (directory c.lines) (catalog_tables c.lines) key (Relation r) ≡ true → b.area ≡ r.area
    → (own : Dbkey) → stands (directory c.lines) (catalog_tables c.lines) own (Index x) ≡ true → x.relation ≡ b.area → AllByRecursion (λ p. p < length b.fields) x.fields
positions_below all c n b r x is named key stood area own of on =
    let d = directory c.lines in
    let u = catalog_tables c.lines in
    let each = lines_behind d all u no_directory c.lines (all_fit all c is) tt in
    let there : find chars_order n u.relations ≡ Some b = ap (λ (t : Tables). find chars_order n t.relations) (sym is.tables) ∙ named in
    let fields : b.fields ≡ relation_fields b.area d = found_fields d n b u.relations (lines_fields d c.lines no_tables tt) there in
    let none : has_field b.area d max_fields ≡ false = ap (λ (a : ℕ). has_field a d max_fields) area ∙ has_limit d u key r stood in
    let has : list_all (has_field b.area d) x.fields ≡ true = ap (λ (a : ℕ). list_all (has_field a d) x.fields) (sym on) ∙ have_positions d u own x of in
    subst (λ (fs : List Field). AllByRecursion (λ p. p < length fs) x.fields) (sym fields) (all_below d each b.area x.fields none has)

-- ---- values in each row

longer : (fields : List Field) (values : List Value) → length fields ≤ length (completed fields values)
longer fields values =
    let gap = length fields - length values in
    let size : length (completed fields values) ≡ length values + gap = length-append values (replicate gap Missing) ∙ ap (λ (m : ℕ). length values + m) (length-replicate gap Missing) in
    omega (arith, size)

below_row : (fields : List Field) (row : Row) (ps : List ℕ) → length fields ≤ length row → AllByRecursion (λ p. p < length fields) ps → HasPositions ps row
below_row fields row [] long below = tt
below_row fields row (p ∷ ps) long below = (reaches p (length fields) (length row) below.0 long, below_row fields row ps long below.1)

pub rows_have : (r : StoredRelation) (ps : List ℕ) (lines : Lines) (rows : List (Dbkey × Row)) → AllByRecursion (λ p. p < length r.fields.now) ps → AreRowsOf r lines (map stored_row rows) → AllByRecursion (λ (e : Dbkey × Row). HasPositions ps e.1) rows
rows_have r ps lines [] below are = tt
rows_have r ps [] (e ∷ es) below are = absurd are
rows_have r ps (l ∷ ls) (e ∷ es) below are =
    let of = are.1 in
    (below_row r.fields.now e.1 ps (subst (λ (row : Row). length r.fields.now ≤ length row) (sym of.whole) (longer r.fields.now of.values)) below, rows_have r ps ls es below are.2)
