-- The relation of an index is there, and it is the one that the deletion of the index uses.
use Rattle.std.proofs.Common.{◌≡◌, ◌==◌, ◌%◌, ◌≤◌, ℕ, true, false, cond, List, [], ◌∷◌, Option, Some, None, inl, inr, refl, sym, ap, subst, ◌∙◌, arith}
use Rattle.std.specs.Prelude.{◌⊎◌, is_some}
use Rattle.std.specs.List.{AllByRecursion}
use Rattle.std.specs.Ordering.{is_eq}
use Rattle.std.specs.FinMap.Entries.{find, put, find-put}
use Rattle.std.proofs.lemmas.Bool.{eq-eqb}
use Rattle.std.proofs.lemmas.Option.{none-some, same_Some}
use Rattle.rdb_types.specs.declared.keys.Dbkey.{Dbkey}
use Rattle.rdb_types.specs.Order.{chars_order}
use Rattle.rdo_ast.specs.Tree.{Name}
use Rattle.rdb_meaning.specs.declared.tables.Index.{Index as IndexOf}
use Rattle.rdb_meaning.specs.declared.tables.Relation.{Relation as Rows}
use Rattle.rdb_meaning.specs.declared.tables.Tables.{Tables}
use Rattle.rdb_meaning.specs.Contents.{no_tables, relation_named, is_used}
use Rattle.rdb_meaning.specs.Checks.{Use, use_of}
use Rattle.rdb_meaning.specs.Execution.{area_of}
use Rattle.rdb_meaning.specs.Meaning.{uses_of_area, index_uses}
use Rattle.line_view.specs.Knowledge.{Lines}
use Rattle.catalog_lines.specs.declared.line.RelationLine.{RelationLine}
use Rattle.catalog_lines.specs.declared.line.CatalogLine.{CatalogLine}
use Rattle.catalog_lines.specs.declared.line.CatalogLine.TheVariants.{Relation, Global, Field as FieldOf, Index}
use Rattle.catalog_lines.specs.Lines.{IsIndexLine}
use Rattle.catalog.specs.declared.directory.Directory.{Directory}
use Rattle.catalog.specs.declared.directory.LogicalArea.{LogicalArea}
use Rattle.catalog.specs.declared.directory.PlacedLine.{PlacedLine}
use Rattle.catalog.specs.declared.reading.Catalog.{Catalog}
use Rattle.catalog.specs.Directory.{area_order, numbered, no_directory, noted, directory_from, directory}
use Rattle.catalog.specs.Schema.{catalog_tables, stands}
use Rattle.catalog.proofs.Differences.{relation_parts}
use Rattle.catalog_definitions.proofs.IndexLines.{index_relation}
use Rattle.sorted_index_laws.specs.Nodes.{AnyByRecursion}
use Rattle.sound_changes.specs.Standing.{IsSoundAs}
use Rattle.sound_changes.proofs.Basics.{equal, number_is}
use Rattle.sound_changes.proofs.Named.{Fits, all_fit, IsOf, AreOf, one_name}
use Rattle.sound_changes.proofs.RowLaid.{found}
use Rattle.sound_changes.proofs.Schemas.{catalogs_schema}
use Rattle.stored_schema.proofs.Entries.{area_total, area_is}
use Rattle.stored_schema.proofs.OneArea.{Stood, stood_line, EachLine, lines_from, found_from}
use Rattle.schema_writes.proofs.Alike.{area_bare}
use Rattle.used_areas.specs.Areas.{relation_areas, areas_changed}
use Rattle.used_areas.proofs.More.{left_of}
use Rattle.deleted_areas.proofs.Deleted.{index_deleted}

-- ---- the lines that an area is noted of

abbrev HasArea : ℕ → CatalogLine → Type 0
HasArea a (Relation r) = r.area ≡ a
HasArea a (Global g) = ⊥
HasArea a (FieldOf f) = ⊥
HasArea a (Index x) = x.area ≡ a

abbrev IsNoted : ℕ → Directory → Type 0
IsNoted a d = is_some (find area_order (numbered a) d.areas) ≡ true

put_area : (a b : ℕ) (key : Dbkey) (es : List (LogicalArea × Dbkey)) → is_some (find area_order (numbered a) (put area_order (numbered b) key es)) ≡ true → (b ≡ a) ⊎ (is_some (find area_order (numbered a) es) ≡ true)
put_area a b key es h =
    elim (is_eq (area_order (numbered a) (numbered b))) as (λ t. is_eq (area_order (numbered a) (numbered b)) ≡ t → is_some (cond t (Some key) (find area_order (numbered a) es)) ≡ true → (b ≡ a) ⊎ (is_some (find area_order (numbered a) es) ≡ true)) [
      | true ↦ λ tie k. inl (sym (ap (λ (n : LogicalArea). n.number) (area_is (numbered a) (numbered b) (equal _ tie))))
      | false ↦ λ tie k. inr k
    ] refl (sym (ap is_some (find-put area_order area_total (numbered a) (numbered b) key es)) ∙ h)

noted_area : (a : ℕ) (key : Dbkey) (line : CatalogLine) (d : Directory) → IsNoted a (noted key line d) → HasArea a line ⊎ IsNoted a d
noted_area a key (Relation r) d h = put_area a r.area key d.areas h
noted_area a key (Global g) d h = inr h
noted_area a key (FieldOf f) d h = inr h
noted_area a key (Index x) d h = put_area a x.area key d.areas h

area_listed : (a : ℕ) (ps : List PlacedLine) (d : Directory) → IsNoted a (directory_from d ps) → AnyByRecursion (λ (p : PlacedLine). HasArea a p.line) ps ⊎ IsNoted a d
area_listed a [] d h = inr h
area_listed a (p ∷ ps) d h = elim (area_listed a ps (noted p.key p.line d) h) [
  | inl later ↦ inl (inr later)
  | inr rest ↦ elim (noted_area a p.key p.line d rest) [
    | inl here ↦ inl (inl here)
    | inr before ↦ inr before
  ]
]

-- ---- a relation of an area

there_is : (o : Option Rows) (a : ℕ) → 16 ≤ a → area_of o ≡ a → (w : Rows) × (o ≡ Some w) × (w.area ≡ a)
there_is (Some w) a low is = (w, refl, is)
there_is None a low is = absurd (omega (arith, low, is))

odd_even : (b a : ℕ) → b ≡ a → b % 2 ≡ 1 → a % 2 ≡ 0 → ⊥
odd_even b a same odd even = omega (arith, odd, even, ap (λ (k : ℕ). k % 2) same)

module _ (all : Lines) (d : Directory) (u : Tables) where
  -- a relation's line that goes with the others
  abbrev IsRelationAt : ℕ → Type 0
  IsRelationAt a = (key : Dbkey) × (r : RelationLine) × (stands d u key (Relation r) ≡ true) × (r.area ≡ a)

  relation_here : (a : ℕ) (q : PlacedLine) (line : CatalogLine) → q.line ≡ line → a % 2 ≡ 0 → Fits all d u q → HasArea a line → IsRelationAt a
  relation_here a q (Relation r) is even fits at = (q.key, r, ap (λ l. stands d u q.key l) (sym is) ∙ fits.stood, at)
  relation_here a q (Global g) is even fits at = absurd at
  relation_here a q (FieldOf f) is even fits at = absurd at
  relation_here a q (Index x) is even fits at =
      let allowed : IsIndexLine x = (stood_line all d u q x is fits).present.decodes.allowed in
      absurd (odd_even x.area a at allowed.area.1 even)

  relation_among : (a : ℕ) (ps : List PlacedLine) → a % 2 ≡ 0 → AllByRecursion (Fits all d u) ps → AnyByRecursion (λ (p : PlacedLine). HasArea a p.line) ps → IsRelationAt a
  relation_among a [] even fits some = absurd some
  relation_among a (p ∷ ps) even fits (inl here) = relation_here a p p.line refl even fits.0 here
  relation_among a (p ∷ ps) even fits (inr later) = relation_among a ps even fits.1 later

  each_stood : (q : PlacedLine) (line : CatalogLine) → q.line ≡ line → Fits all d u q → EachLine (Stood all d u) line
  each_stood q (Relation r) is fits = tt
  each_stood q (Global g) is fits = tt
  each_stood q (FieldOf f) is fits = tt
  each_stood q (Index x) is fits = stood_line all d u q x is fits

  all_stood : (ps : List PlacedLine) → AllByRecursion (Fits all d u) ps → AllByRecursion (λ (p : PlacedLine). EachLine (Stood all d u) p.line) ps
  all_stood [] fits = tt
  all_stood (p ∷ ps) fits = (each_stood p p.line refl fits.0, all_stood ps fits.1)

  -- the first relation of an area is that of its name
  uses_first : (m : Name) (w : Rows) (es : List (Name × Rows)) → IsOf all d u m w.area → AreOf all d u es → find chars_order m es ≡ Some w → uses_of_area w.area es ≡ use_of true m ∷ []
  uses_first m w [] own each found = absurd (none-some w found)
  uses_first m w (e ∷ es) own each found =
      elim (e.1.area == w.area) as (λ b. (e.1.area == w.area) ≡ b → cond b (use_of true e.0 ∷ []) (uses_of_area w.area es) ≡ use_of true m ∷ []) [
        | true ↦ λ same. ap (λ (k : Name). use_of true k ∷ []) (one_name all d u e.0 m e.1.area w.area each.0 own (number_is e.1.area w.area same))
        | false ↦ λ other. uses_first m w es own each.1 (elim (is_eq (chars_order m e.0)) as (λ b. cond b (Some e.1) (find chars_order m es) ≡ Some w → find chars_order m es ≡ Some w) [
          | true ↦ λ h. let meets : (e.1.area == w.area) ≡ true = eq-eqb e.1.area w.area (ap (λ (r : Rows). r.area) (same_Some e.1 w h)) in let bad : ⊥ = cc in absurd bad
          | false ↦ λ h. h
        ] found)
      ] refl

-- ---- an index that is deleted

is_listed : (a : ℕ) (ps : List PlacedLine) → AnyByRecursion (λ (p : PlacedLine). HasArea a p.line) ps ⊎ IsNoted a no_directory → AnyByRecursion (λ (p : PlacedLine). HasArea a p.line) ps
is_listed a ps (inl some) = some
is_listed a ps (inr none) = let bad : ⊥ = cc in absurd bad

pub index_used : (all : Lines) (c : Catalog) (t : Tables) (n : Name) (x : IndexOf) → IsSoundAs all c t → find chars_order n t.indexes ≡ Some x → is_used x.area (areas_changed t (index_uses (Some x) t)) ≡ true
index_used all c t n x sound at =
    let d = directory c.lines in
    let u = catalog_tables c.lines in
    let fits = all_fit all c sound.decodes in
    let tables : t.indexes ≡ u.indexes = sound.are.indexes ∙ ap (λ (v : Tables). v.indexes) sound.decodes.tables in
    let from = found_from (Stood all d u) n x u.indexes (lines_from (Stood all d u) d c.lines no_tables (all_stood all d u c.lines fits) tt) (ap (find chars_order n) (sym tables) ∙ at) in
    let y = from.line in
    let on : x.relation ≡ y.relation = ap (λ (i : IndexOf). i.relation) from.is in
    let allowed : IsIndexLine y = from.holds.present.decodes.allowed in
    let some = is_listed y.relation c.lines (area_listed y.relation c.lines no_directory (index_relation d u from.holds.key y from.holds.stood)) in
    let r = relation_among all d u y.relation c.lines allowed.relation.1 fits some in
    let m = (r.1).name in
    let bare : area_of (relation_named m t) ≡ y.relation =
    sym (area_bare (relation_named m t)) ∙ sym (ap area_of (catalogs_schema all c t sound.are m)) ∙ area_bare (relation_named m c.tables) ∙ ap (λ (v : Tables). area_of (relation_named m v)) sound.decodes.tables ∙ (relation_parts d u r.0 r.1 r.2).0 ∙ r.3 in
    let w = there_is (relation_named m t) y.relation allowed.relation.0 bare in
    let known = found all c t m w.0 sound.decodes sound.are w.1 in
    let uses : index_uses (Some x) t ≡ use_of true m ∷ [] = ap (λ (a : ℕ). uses_of_area a t.relations) (on ∙ sym w.2) ∙ uses_first all d u m w.0 t.relations known.own known.each w.1 in
    subst (λ (us : List Use). is_used x.area (areas_changed t us) ≡ true) (sym uses)
    (left_of (relation_areas t (relation_named m t)) [] x.area (subst (λ (o : Option Rows). is_used x.area (relation_areas t o) ≡ true) (sym w.1) (index_deleted t n x w.0 at (on ∙ sym w.2))))
