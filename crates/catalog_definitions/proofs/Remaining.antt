-- Lines that stay go with the others when lines of other things go.
use Rattle.std.proofs.Common.{◌≡◌, ℕ, ◌-◌, true, not, ◌&&◌, ◌==◌, nat_eq, List, [], ◌∷◌, refl, sym, ap, ◌∙◌}
use Rattle.std.specs.Prelude.{is_some, ◌||◌}
use Rattle.std.specs.List.{AllByRecursion, list_all}
use Rattle.std.specs.FinMap.Entries.{find}
use Rattle.rdb_types.specs.declared.keys.Dbkey.{Dbkey}
use Rattle.rdb_types.specs.OrderLaws.{chars_total}
use Rattle.rdb_meaning.specs.declared.tables.Tables.{Tables}
use Rattle.rdb_meaning.specs.Contents.{fields_of}
use Rattle.rdb_types.specs.Order.{chars_order}
use Rattle.rdb_meaning.specs.Execution.{area_of}
use Rattle.catalog_lines.specs.declared.line.CatalogLine.{CatalogLine}
use Rattle.catalog_lines.specs.declared.line.CatalogLine.TheVariants.{Relation, Global, Field as FieldOf, Index}
use Rattle.catalog.specs.declared.directory.PlacedLine.{PlacedLine}
use Rattle.catalog.specs.declared.directory.Directory.{Directory}
use Rattle.catalog.specs.Directory.{noted, directory_from}
use Rattle.catalog.specs.Schema.{with_thing, tables_from, is_key, is_field_key, index_area, max_fields, differ, same_field, stands}
use Rattle.catalog_definitions.proofs.Puts.{find-put_other}
use Rattle.catalog_definitions.proofs.Growth.{DifferentNames}
use Rattle.catalog_definitions.proofs.Fitting.{HasFields}
use Rattle.catalog_definitions.proofs.Lookups.{IsOff, off_lines}
use Rattle.catalog_definitions.proofs.NewFields.{relation_alike}
use Rattle.catalog_definitions.proofs.RelationLines.{IsFieldOff, no_fields}

-- ---- names that lines don't have

abbrev pub IsNoRelation : List ℕ → CatalogLine → Type 0
IsNoRelation name (Relation r) = DifferentNames name r.name
IsNoRelation name (Global g) = Unit {0}
IsNoRelation name (FieldOf f) = Unit {0}
IsNoRelation name (Index x) = Unit {0}

abbrev pub IsNoIndex : List ℕ → CatalogLine → Type 0
IsNoIndex name (Relation r) = Unit {0}
IsNoIndex name (Global g) = Unit {0}
IsNoIndex name (FieldOf f) = Unit {0}
IsNoIndex name (Index x) = DifferentNames name x.name

abbrev pub IsNoGlobal : CatalogLine → Type 0
IsNoGlobal (Relation r) = Unit {0}
IsNoGlobal (Global g) = ⊥
IsNoGlobal (FieldOf f) = Unit {0}
IsNoGlobal (Index x) = Unit {0}

relation_past : (e : Directory) (name : List ℕ) (line : CatalogLine) (t : Tables) → IsNoRelation name line → find chars_order name (with_thing e line t).relations ≡ find chars_order name t.relations
relation_past e name (Relation r) t other = find-put_other chars_order chars_total name r.name _ t.relations other
relation_past e name (Global g) t other = refl
relation_past e name (FieldOf f) t other = refl
relation_past e name (Index x) t other = refl

pub relations_past : (e : Directory) (name : List ℕ) (news : List PlacedLine) (t : Tables) → AllByRecursion (λ n. IsNoRelation name n.line) news → find chars_order name (tables_from e t news).relations ≡ find chars_order name t.relations
relations_past e name [] t other = refl
relations_past e name (n ∷ news) t other = relations_past e name news (with_thing e n.line t) other.1 ∙ relation_past e name n.line t other.0

index_past : (e : Directory) (name : List ℕ) (line : CatalogLine) (t : Tables) → IsNoIndex name line → find chars_order name (with_thing e line t).indexes ≡ find chars_order name t.indexes
index_past e name (Relation r) t other = refl
index_past e name (Global g) t other = refl
index_past e name (FieldOf f) t other = refl
index_past e name (Index x) t other = find-put_other chars_order chars_total name x.name _ t.indexes other

pub indexes_past : (e : Directory) (name : List ℕ) (news : List PlacedLine) (t : Tables) → AllByRecursion (λ n. IsNoIndex name n.line) news → find chars_order name (tables_from e t news).indexes ≡ find chars_order name t.indexes
indexes_past e name [] t other = refl
indexes_past e name (n ∷ news) t other = indexes_past e name news (with_thing e n.line t) other.1 ∙ index_past e name n.line t other.0

global_past : (key : Dbkey) (line : CatalogLine) (d : Directory) → IsNoGlobal line → (noted key line d).globals ≡ d.globals
global_past key (Relation r) d none = refl
global_past key (Global g) d none = absurd none
global_past key (FieldOf f) d none = refl
global_past key (Index x) d none = refl

globals_past : (news : List PlacedLine) (d : Directory) → AllByRecursion (λ n. IsNoGlobal n.line) news → (directory_from d news).globals ≡ d.globals
globals_past [] d none = refl
globals_past (n ∷ news) d none = globals_past news (noted n.key n.line d) none.1 ∙ global_past n.key n.line d none.0

-- ---- lines that are away from one that stays

-- nothing that the first line stands by is of the second
abbrev pub IsAway : CatalogLine → CatalogLine → Type 0
IsAway (Relation r) line = IsNoRelation r.name line × IsOff r.area line × IsFieldOff r.area line
IsAway (Global g) line = IsNoGlobal line
IsAway (FieldOf f) line = IsOff f.relation line × IsFieldOff f.relation line
IsAway (Index y) line = IsNoIndex y.name line × IsOff y.area line × IsOff y.relation line × IsFieldOff y.relation line

module _ (P : CatalogLine → Type 0) (Q : CatalogLine → Type 0) (part : (line : CatalogLine) → P line → Q line) where
  parts : (news : List PlacedLine) → AllByRecursion (λ n. P n.line) news → AllByRecursion (λ n. Q n.line) news
  parts [] each = tt
  parts (n ∷ news) each = (part n.line each.0, parts news each.1)

pub still_stands : (news : List PlacedLine) (d e : Directory) (t : Tables) (key : Dbkey) (line : CatalogLine) → AllByRecursion (λ n. IsAway line n.line) news → stands (directory_from d news) (tables_from e t news) key line ≡ true → stands d t key line ≡ true
still_stands news d e t key (Relation r) away stood =
    let named = relations_past e r.name news t (parts (IsAway (Relation r)) (IsNoRelation r.name) (λ l a. a.0) news away) in
    let own = off_lines r.area news d (parts (IsAway (Relation r)) (IsOff r.area) (λ l a. a.1) news away) in
    let off = parts (IsAway (Relation r)) (IsFieldOff r.area) (λ l a. a.2) news away in
    let first = no_fields r.area 0 news d off in
    let last = no_fields r.area max_fields news d off in
    sym (λ i. area_of (named i) == r.area && is_key key (own i) && is_some (first i) && not (is_some (last i)) && differ same_field (fields_of (named i))) ∙ stood
still_stands news d e t key (Global g) away stood = sym (ap (λ m. is_key key (find chars_order g.name m)) (globals_past news d away)) ∙ stood
still_stands news d e t key (FieldOf f) away stood =
    let on = off_lines f.relation news d (parts (IsAway (FieldOf f)) (IsOff f.relation) (λ l a. a.0) news away) in
    let off = parts (IsAway (FieldOf f)) (IsFieldOff f.relation) (λ l a. a.1) news away in
    let own = no_fields f.relation f.position news d off in
    let before = no_fields f.relation (f.position - 1) news d off in
    sym (λ i. is_field_key key (own i) && is_some (on i) && (f.position == 0 || is_some (before i))) ∙ stood
still_stands news d e t key (Index y) away stood =
    let named = indexes_past e y.name news t (parts (IsAway (Index y)) (IsNoIndex y.name) (λ l a. a.0) news away) in
    let own = off_lines y.area news d (parts (IsAway (Index y)) (IsOff y.area) (λ l a. a.1) news away) in
    let on = off_lines y.relation news d (parts (IsAway (Index y)) (IsOff y.relation) (λ l a. a.2) news away) in
    let off = parts (IsAway (Index y)) (IsFieldOff y.relation) (λ l a. a.3) news away in
    let fields = λ (q : ℕ). no_fields y.relation q news d off in
    sym (λ i. index_area (named i) == y.area && is_key key (own i) && is_some (on i) && differ nat_eq y.fields && list_all (λ (q : ℕ). is_some (fields q i)) y.fields && y.root.area == y.area) ∙ stood

-- the fields of a relation that stays
pub fields_stay : (news : List PlacedLine) (d : Directory) (line : CatalogLine) → AllByRecursion (λ n. IsAway line n.line) news → HasFields (directory_from d news) d line
fields_stay news d (Relation r) away =
    let off = parts (IsAway (Relation r)) (IsFieldOff r.area) (λ l a. a.2) news away in
    relation_alike r.area (directory_from d news) d (λ q. no_fields r.area q news d off)
fields_stay news d (Global g) away = tt
fields_stay news d (FieldOf f) away = tt
fields_stay news d (Index x) away = tt
