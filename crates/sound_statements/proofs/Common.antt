-- Writes on the catalog's area, and what the catalog is read from.
use Rattle.std.proofs.Common.{◌≡◌, ◌==◌, ℕ, ◌+◌, true, false, cond, not, List, [], ◌∷◌, Some, None, refl, sym, ap, ◌∙◌}
use Rattle.std.specs.Prelude.{Bool, option_map, Option}
use Rattle.std.specs.List.{AllByRecursion}
use Rattle.std.specs.FinMap.Entries.{find, find-where_key}
use Rattle.std.proofs.lemmas.List.Elements.{All-from_recursion, recursion_from_All}
use Rattle.rdb_types.specs.declared.keys.Dbkey.{Dbkey}
use Rattle.rdb_types.specs.Order.{dbkey_order}
use Rattle.rdb_types.specs.OrderLaws.{same_dbkey}
use Rattle.rdb_meaning.specs.declared.tables.Relation.{Relation as Rows}
use Rattle.line_view.specs.Knowledge.{Knowledge, Lines, Agrees, line_in, lines_in, keys_of}
use Rattle.line_view.specs.declared.writes.Write.{Write}
use Rattle.line_view.specs.Writes.{laid_all}
use Rattle.catalog_lines.specs.declared.line.CatalogLine.{CatalogLine}
use Rattle.catalog.specs.declared.directory.PlacedLine.{PlacedLine}
use Rattle.catalog.specs.declared.reading.Catalog.{Catalog}
use Rattle.catalog.specs.Reading.{catalog_area, IsPresent, IsCatalogOf}
use Rattle.catalog_definitions.specs.Causes.{catalog_room}
use Rattle.catalog_definitions.specs.Written.{AreWritten}
use Rattle.schema_alone.specs.Schema.{bare}
use Rattle.sound_changes.proofs.Basics.{both_of}
use Rattle.sound_changes.proofs.Frames.{in_area}
use Rattle.sound_changes.proofs.IndexLaid.{AreOn}
use Rattle.catalog_definitions.specs.Leaving.{erasures}
use Rattle.catalog_definitions.proofs.Erasing.{kept}
use Rattle.sound_definitions.proofs.Behind.{AreOff, AreErased, lines_apart}

-- the lines of a definition are written on lines of the catalog's area that were absent
pub written_free : (known : Knowledge) (all : Lines) → Agrees known all → (nth : ℕ) (lines : List CatalogLine) (writes : List Write) → AreWritten known nth lines writes → AreOn catalog_area writes × AllByRecursion (λ (w : Write). line_in w.key all ≡ None) writes
written_free known all agrees nth [] [] written = (tt, tt)
written_free known all agrees nth [] (w ∷ ws) written = absurd written
written_free known all agrees nth (l ∷ ls) [] written = absurd written
written_free known all agrees nth (l ∷ ls) (w ∷ ws) written =
    let rest = written_free known all agrees (nth + 1) ls ws written.2 in
    ((agrees.within (catalog_room nth) w.key written.0, rest.0), (agrees.free (catalog_room nth) w.key written.0, rest.1))

-- ---- the catalog of another map

-- a line stands in its area
in_own_area : (k : Dbkey) (all : Lines) → (k.area == catalog_area) ≡ true → find dbkey_order k (lines_in catalog_area all) ≡ line_in k all
in_own_area k all own =
    find-where_key dbkey_order (λ x. x.area == catalog_area) k (λ x tie. ap (λ (y : Dbkey). y.area == catalog_area) (sym (same_dbkey k x tie))) all
    ∙ ap (λ b. cond b (line_in k all) None) own

-- writes on other areas leave the lines of the catalog's
pub same_line : (k : Dbkey) (writes : List Write) (all : Lines) → AreOff catalog_area writes → (k.area == catalog_area) ≡ true → line_in k (laid_all writes all) ≡ line_in k all
same_line k writes all off own =
    sym (in_own_area k (laid_all writes all) own) ∙ ap (find dbkey_order k) (lines_apart catalog_area writes all off) ∙ in_own_area k all own

-- A catalog is that of each map with the same lines in its area.
pub catalog_alike : (all now : Lines) (c : Catalog) → keys_of (lines_in catalog_area now) ≡ keys_of (lines_in catalog_area all) → ((k : Dbkey) → (k.area == catalog_area) ≡ true → line_in k now ≡ line_in k all) → IsCatalogOf all c → IsCatalogOf now c
catalog_alike all now c keys lines is = record {
  lines = record {
    keys = is.lines.keys ∙ sym keys;
    images = All-from_recursion (IsPresent now) c.lines
        (both_of (λ (p : PlacedLine). (p.key.area == catalog_area) ≡ true) (IsPresent all) (IsPresent now) alike c.lines (in_area all c is) (recursion_from_All (IsPresent all) c.lines is.lines.images));
  };
  fit = is.fit;
  tables = is.tables;
}
  where
    alike : (p : PlacedLine) → (p.key.area == catalog_area) ≡ true → IsPresent all p → IsPresent now p
    alike p own present = record { image = present.image; present = lines p.key own ∙ present.present; decodes = present.decodes }

-- ---- one schema

pub bare_none : (o : Option Rows) → option_map bare o ≡ None → o ≡ None
bare_none None none = refl
bare_none (Some r) none = let bad : ⊥ = cc in absurd bad

-- ---- erasures

pub are_erased : (keys : List Dbkey) → AreErased (erasures keys)
are_erased [] = tt
are_erased (k ∷ ks) = (refl, are_erased ks)

-- what holds of each key holds of the writes that erase them
pub writes_of : (P : Dbkey → Type 0) (xs : List Dbkey) → AllByRecursion P xs → AllByRecursion (λ (w : Write). P w.key) (erasures xs)
writes_of P [] each = tt
writes_of P (x ∷ xs) each = (each.0, writes_of P xs each.1)

-- of the lines that are kept the test doesn't hold
pub none_kept : (holds : CatalogLine → Bool) (ps : List PlacedLine) → AllByRecursion (λ (p : PlacedLine). holds p.line ≡ false) (kept holds ps)
none_kept holds [] = tt
none_kept holds (p ∷ ps) =
    elim (holds p.line) as (λ b. holds p.line ≡ b → AllByRecursion (λ (q : PlacedLine). holds q.line ≡ false) (cond (not b) (p ∷ kept holds ps) (kept holds ps))) [
      | true ↦ λ is. none_kept holds ps
      | false ↦ λ is. (is, none_kept holds ps)
    ] refl
