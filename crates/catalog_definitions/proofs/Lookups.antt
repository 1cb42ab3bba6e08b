-- What lines that stand leave in the tables and in the directory.
use Rattle.std.proofs.Common.{◌≡◌, ℕ, zero, suc, ◌+◌, ◌<◌, ◌%◌, true, false, cond, List, [], ◌∷◌, map, length, Option, Some, None, ◌⊎◌, inl, inr, refl, sym, ap, subst, ◌∙◌, arith}
use Rattle.std.specs.Prelude.{is_some}
use Rattle.std.specs.List.{AllByRecursion}
use Rattle.std.specs.Ordering.{is_eq}
use Rattle.std.specs.FinMap.Entries.{find, find-put}
use Rattle.rdb_types.specs.declared.keys.Dbkey.{Dbkey}
use Rattle.rdb_types.specs.OrderLaws.{chars_total}
use Rattle.rdb_meaning.specs.declared.tables.Relation.{Relation as RelationOf}
use Rattle.rdb_meaning.specs.declared.tables.Index.{Index as IndexOf}
use Rattle.rdb_meaning.specs.declared.tables.Tables.{Tables}
use Rattle.rdb_meaning.specs.Contents.{no_tables, relation_named, is_used}
use Rattle.rdb_types.specs.Order.{chars_order}
use Rattle.rdb_meaning.specs.Execution.{area_of}
use Rattle.catalog_lines.specs.declared.line.RelationLine.{RelationLine}
use Rattle.catalog_lines.specs.declared.line.IndexLine.{IndexLine}
use Rattle.catalog_lines.specs.declared.line.CatalogLine.{CatalogLine}
use Rattle.catalog_lines.specs.declared.line.CatalogLine.TheVariants.{Relation, Global, Field as FieldOf, Index}
use Rattle.catalog_lines.specs.Lines.{IsAllowedLine, IsRelationLine}
use Rattle.catalog.specs.declared.directory.FieldPlace.{FieldPlace}
use Rattle.catalog.specs.declared.directory.PlacedField.{PlacedField}
use Rattle.catalog.specs.declared.directory.PlacedLine.{PlacedLine}
use Rattle.catalog.specs.declared.directory.Directory.{Directory}
use Rattle.catalog.specs.Directory.{area_order, place_order, numbered, place, noted, directory, directory_from}
use Rattle.catalog.specs.Schema.{with_thing, tables_from, catalog_tables, is_key, index_area, fields_from, next_field, relation_fields, stands}
use Rattle.catalog.proofs.Differences.{relation_parts, index_parts}
use Rattle.catalog_definitions.proofs.Puts.{find-put_other}
use Rattle.catalog_definitions.proofs.Growth.{area_total, DifferentAreas}
use Rattle.catalog_definitions.proofs.Fitting.{Stands}
use Rattle.catalog_definitions.proofs.FreeAreas.{numbers_differ, used_found}

-- a line that may be laid out and goes with the others
pub record Good (d : Directory) (t : Tables) (q : PlacedLine) : Type 0 where
  pub allowed : IsAllowedLine q.line
  pub stood : Stands d t q

pub all_good : (d : Directory) (t : Tables) (ps : List PlacedLine) → AllByRecursion (λ p. IsAllowedLine p.line) ps → AllByRecursion (Stands d t) ps → AllByRecursion (Good d t) ps
all_good d t [] allowed stood = tt
all_good d t (p ∷ ps) allowed stood = (record { allowed = allowed.0; stood = stood.0 }, all_good d t ps allowed.1 stood.1)

-- ---- relations come from lines

pub record RelationFrom (e d : Directory) (t : Tables) (rel : RelationOf) : Type 0 where
  pub key : Dbkey
  pub r : RelationLine
  pub allowed : IsRelationLine r
  pub stood : stands d t key (Relation r) ≡ true
  pub same : rel ≡ record { area = r.area; fields = relation_fields r.area e; rows = [] }

from_line : (e d : Directory) (u : Tables) (n : List ℕ) (rel : RelationOf) (key : Dbkey) (line : CatalogLine) (t : Tables) → IsAllowedLine line → stands d u key line ≡ true → find chars_order n (with_thing e line t).relations ≡ Some rel → (find chars_order n t.relations ≡ Some rel) ⊎ RelationFrom e d u rel
from_line e d u n rel key (Relation r) t allowed stood found =
    elim (is_eq (chars_order n r.name)) as (λ b. cond b (Some (let v : RelationOf = record { area = r.area; fields = relation_fields r.area e; rows = [] } in v)) (find chars_order n t.relations) ≡ Some rel → (find chars_order n t.relations ≡ Some rel) ⊎ RelationFrom e d u rel) [
      | true ↦ λ h. inr (record { key = key; r = r; allowed = allowed; stood = stood; same = (let v : rel ≡ record { area = r.area; fields = relation_fields r.area e; rows = [] } = cc in v) })
      | false ↦ λ h. inl h
    ] (sym (find-put chars_order chars_total n r.name _ t.relations) ∙ found)
from_line e d u n rel key (Global g) t allowed stood found = inl found
from_line e d u n rel key (FieldOf f) t allowed stood found = inl found
from_line e d u n rel key (Index x) t allowed stood found = inl found

from_lines : (e d : Directory) (u : Tables) (n : List ℕ) (rel : RelationOf) (ps : List PlacedLine) (t : Tables) → AllByRecursion (Good d u) ps → find chars_order n (tables_from e t ps).relations ≡ Some rel → (find chars_order n t.relations ≡ Some rel) ⊎ RelationFrom e d u rel
from_lines e d u n rel [] t good found = inl found
from_lines e d u n rel (q ∷ ps) t good found =
    elim (from_lines e d u n rel ps (with_thing e q.line t) good.1 found) [
      | inl h ↦ from_line e d u n rel q.key q.line t good.0.allowed good.0.stood h
      | inr r ↦ inr r
    ]

pub relation_from : (ps : List PlacedLine) (n : List ℕ) (rel : RelationOf) → AllByRecursion (Good (directory ps) (catalog_tables ps)) ps → relation_named n (catalog_tables ps) ≡ Some rel → RelationFrom (directory ps) (directory ps) (catalog_tables ps) rel
relation_from ps n rel good found =
    elim (from_lines (directory ps) (directory ps) (catalog_tables ps) n rel ps no_tables good found) [
      | inl h ↦ let bad : ⊥ = cc in absurd bad
      | inr r ↦ r
    ]

-- ---- areas in the directory

abbrev pub IsOff : ℕ → CatalogLine → Type 0
IsOff area (Relation r) = DifferentAreas area r.area
IsOff area (Index x) = DifferentAreas area x.area
IsOff area (Global g) = Unit {0}
IsOff area (FieldOf f) = Unit {0}

off_line : (area : ℕ) (k : Dbkey) (line : CatalogLine) (d : Directory) → IsOff area line → find area_order (numbered area) (noted k line d).areas ≡ find area_order (numbered area) d.areas
off_line area k (Relation r) d off = find-put_other area_order area_total (numbered area) (numbered r.area) k d.areas off
off_line area k (Index x) d off = find-put_other area_order area_total (numbered area) (numbered x.area) k d.areas off
off_line area k (Global g) d off = refl
off_line area k (FieldOf f) d off = refl

pub off_lines : (area : ℕ) (ps : List PlacedLine) (d : Directory) → AllByRecursion (λ q. IsOff area q.line) ps → find area_order (numbered area) (directory_from d ps).areas ≡ find area_order (numbered area) d.areas
off_lines area [] d off = refl
off_lines area (q ∷ ps) d off = off_lines area ps (noted q.key q.line d) off.1 ∙ off_line area q.key q.line d off.0

-- an area that is there isn't one that isn't
pub other_area : (d : Directory) (area new : ℕ) → find area_order (numbered new) d.areas ≡ None → is_some (find area_order (numbered area) d.areas) ≡ true → DifferentAreas area new
other_area d area new none there = numbers_differ area new (λ same. let moved = ap (λ a. find area_order (numbered a) d.areas) same in let bad : ⊥ = cc in bad)

pub key_there : (key : Dbkey) (found : Option Dbkey) → is_key key found ≡ true → is_some found ≡ true
key_there key None is = is
key_there key (Some k) is = refl

-- ---- areas that are given out

index_used : (t : Tables) (x : IndexLine) (found : Option IndexOf) → find chars_order x.name t.indexes ≡ found → index_area found ≡ x.area → (x.area ≡ 0 → ⊥) → is_used x.area (map (λ e. e.1.area) t.indexes) ≡ true
index_used t x None is area positive = absurd (positive (sym area))
index_used t x (Some v) is area positive = subst (λ (a : ℕ). is_used a (map (λ e. e.1.area) t.indexes) ≡ true) area (used_found chars_order (λ (v : IndexOf). v.area) x.name v t.indexes is)

relation_used : (t : Tables) (r : RelationLine) (found : Option RelationOf) → relation_named r.name t ≡ found → area_of found ≡ r.area → (r.area ≡ 0 → ⊥) → is_used r.area (map (λ e. e.1.area) t.relations) ≡ true
relation_used t r None is area positive = absurd (positive (sym area))
relation_used t r (Some v) is area positive = subst (λ (a : ℕ). is_used a (map (λ e. e.1.area) t.relations) ≡ true) area (used_found chars_order (λ (v : RelationOf). v.area) r.name v t.relations is)

used_differ : (a b : ℕ) (us : List ℕ) → is_used a us ≡ false → is_used b us ≡ true → a ≡ b → ⊥
used_differ a b us unused used same = let moved = ap (λ (n : ℕ). is_used n us) same in cc

-- a new index's area
odd_off : (d : Directory) (t : Tables) (area : ℕ) (key : Dbkey) (line : CatalogLine) → area % 2 ≡ 1 → is_used area (map (λ e. e.1.area) t.indexes) ≡ false → IsAllowedLine line → stands d t key line ≡ true → IsOff area line
odd_off d t area key (Relation r) odd unused allowed stood = numbers_differ area r.area (λ same. omega (arith, odd, allowed.area.1, ap (λ (n : ℕ). n % 2) same))
odd_off d t area key (Index x) odd unused allowed stood =
    numbers_differ area x.area (used_differ area x.area _ unused (index_used t x _ refl (index_parts d t key x stood).0 (λ zero. omega (arith, zero, allowed.area.0))))
odd_off d t area key (Global g) odd unused allowed stood = tt
odd_off d t area key (FieldOf f) odd unused allowed stood = tt

pub odd_offs : (d : Directory) (t : Tables) (area : ℕ) (ps : List PlacedLine) → area % 2 ≡ 1 → is_used area (map (λ e. e.1.area) t.indexes) ≡ false → AllByRecursion (Good d t) ps → AllByRecursion (λ q. IsOff area q.line) ps
odd_offs d t area [] odd unused good = tt
odd_offs d t area (q ∷ ps) odd unused good = (odd_off d t area q.key q.line odd unused good.0.allowed good.0.stood, odd_offs d t area ps odd unused good.1)

-- a new relation's area
even_off : (d : Directory) (t : Tables) (area : ℕ) (key : Dbkey) (line : CatalogLine) → area % 2 ≡ 0 → is_used area (map (λ e. e.1.area) t.relations) ≡ false → IsAllowedLine line → stands d t key line ≡ true → IsOff area line
even_off d t area key (Relation r) even unused allowed stood =
    numbers_differ area r.area (used_differ area r.area _ unused (relation_used t r _ refl (relation_parts d t key r stood).0 (λ zero. omega (arith, zero, allowed.area.0))))
even_off d t area key (Index x) even unused allowed stood = numbers_differ area x.area (λ same. omega (arith, even, allowed.area.1, ap (λ (n : ℕ). n % 2) same))
even_off d t area key (Global g) even unused allowed stood = tt
even_off d t area key (FieldOf f) even unused allowed stood = tt

pub even_offs : (d : Directory) (t : Tables) (area : ℕ) (ps : List PlacedLine) → area % 2 ≡ 0 → is_used area (map (λ e. e.1.area) t.relations) ≡ false → AllByRecursion (Good d t) ps → AllByRecursion (λ q. IsOff area q.line) ps
even_offs d t area [] even unused good = tt
even_offs d t area (q ∷ ps) even unused good = (even_off d t area q.key q.line even unused good.0.allowed good.0.stood, even_offs d t area ps even unused good.1)

-- ---- fields that are there

pub field_there : (limit relation p i : ℕ) (m : List (FieldPlace × PlacedField)) → i < length (fields_from limit relation p m) → is_some (find place_order (place relation (p + i)) m) ≡ true
field_there zero relation p i m within = absurd (omega (arith, within))
field_there (suc limit) relation p zero m within =
    elim (find place_order (place relation p) m) as (λ o. find place_order (place relation p) m ≡ o → zero < length (next_field o (fields_from limit relation (p + 1) m)) → is_some (find place_order (place relation (p + zero)) m) ≡ true) [
      | None ↦ λ e h. absurd (omega (arith, h))
      | Some found ↦ λ e h. ap (λ (q : ℕ). is_some (find place_order (place relation q) m)) (let same : p + zero ≡ p = omega arith in same) ∙ ap is_some e
    ] refl within
field_there (suc limit) relation p (suc j) m within =
    elim (find place_order (place relation p) m) as (λ o. j + 1 < length (next_field o (fields_from limit relation (p + 1) m)) → is_some (find place_order (place relation (p + suc j)) m) ≡ true) [
      | None ↦ λ h. absurd (omega (arith, h))
      | Some found ↦ λ h.
          ap (λ (q : ℕ). is_some (find place_order (place relation q) m)) (let same : p + suc j ≡ p + 1 + j = omega arith in same)
          ∙ field_there limit relation (p + 1) j m (omega (arith, h))
    ] (omega (arith, within))
