-- What stands on other logical areas stays behind a write.
use Rattle.std.proofs.Common.{◌≡◌, ◌==◌, ℕ, true, false, cond, List, [], ◌∷◌, map, Option, refl, sym, ap, subst, ◌∙◌}
use Rattle.std.specs.Ordering.{is_eq}
use Rattle.std.specs.List.{AllByRecursion}
use Rattle.std.proofs.lemmas.Bool.{eq-eqb}
use Rattle.std.proofs.lemmas.List.Elements.{All-from_recursion, recursion_from_All}
use Rattle.rdb_types.specs.declared.keys.Dbkey.{Dbkey}
use Rattle.rdb_types.specs.Order.{dbkey_order}
use Rattle.rdb_meaning.specs.declared.tables.Relation.{Relation}
use Rattle.rdb_meaning.specs.Contents.{Row}
use Rattle.line_view.specs.Knowledge.{Lines, lines_in, keys_of, laid}
use Rattle.line_view.proofs.FullMap.{other_area}
use Rattle.line_view.proofs.Written.{same_line}
use Rattle.catalog_lines.specs.declared.line.IndexLine.{IndexLine}
use Rattle.sound_lines.specs.catalog.declared.directory.PlacedLine.{PlacedLine}
use Rattle.sound_lines.specs.catalog.declared.reading.Catalog.{Catalog}
use Rattle.sound_lines.specs.catalog.Reading.{catalog_area, line_keys, IsPresent, IsCatalogOf}
use Rattle.sound_lines.specs.relation_rows.declared.stored.StoredRelation.{StoredRelation}
use Rattle.sound_lines.specs.relation_rows.Stored.{AreRowsOf}
use Rattle.sound_lines.specs.relation_rows.Relations.{stored_row, HasRows}
use Rattle.sorted_index_laws.specs.Tree.{Tree, places, IsIndex}
use Rattle.sorted_index_laws.proofs.Frame.{stands_beside}
use Rattle.sorted_index_laws.proofs.After.{areas}
use Rattle.sound_lines.specs.Sound.{IsSoundIndex}
use Rattle.sound_lines.specs.relation_rows.Indexed.{IsIndexOf}
use Rattle.sound_changes.proofs.Basics.{keys_apart, all_of, both_of}

-- ---- the catalog

-- the keys of the lines in an area are of it
pub keys_in : (a : ℕ) (es : Lines) → AllByRecursion (λ (k : Dbkey). (k.area == a) ≡ true) (keys_of (lines_in a es))
keys_in a [] = tt
keys_in a (e ∷ es) =
    elim (e.0.area == a) as (λ b. e.0.area == a ≡ b → AllByRecursion (λ (k : Dbkey). (k.area == a) ≡ true) (keys_of (cond b (e ∷ lines_in a es) (lines_in a es)))) [
      | true ↦ λ own. (own, keys_in a es)
      | false ↦ λ own. keys_in a es
    ] refl

keys_placed : (P : Dbkey → Type 0) (ps : List PlacedLine) → AllByRecursion P (line_keys ps) → AllByRecursion (λ (p : PlacedLine). P p.key) ps
keys_placed P [] h = tt
keys_placed P (p ∷ ps) h = (h.0, keys_placed P ps h.1)

-- each line of a catalog is in its area
pub in_area : (all : Lines) (c : Catalog) → IsCatalogOf all c → AllByRecursion (λ (p : PlacedLine). (p.key.area == catalog_area) ≡ true) c.lines
in_area all c is = keys_placed (λ (k : Dbkey). (k.area == catalog_area) ≡ true) c.lines (subst (AllByRecursion (λ (k : Dbkey). (k.area == catalog_area) ≡ true)) (sym is.lines.keys) (keys_in catalog_area all))

module _ (all : Lines) (key : Dbkey) (what : Option (List ℕ)) where
  present_beside : (p : PlacedLine) → is_eq (dbkey_order p.key key) ≡ false → IsPresent all p → IsPresent (laid key what all) p
  present_beside p apart is = record { image = is.image; present = same_line all key p.key what apart ∙ is.present; decodes = is.decodes }

  pub catalog_beside : (c : Catalog) → (key.area == catalog_area) ≡ false → IsCatalogOf all c → IsCatalogOf (laid key what all) c
  catalog_beside c other is =
      let own = in_area all c is in
      record {
        lines = record {
          keys = is.lines.keys ∙ sym (ap keys_of (other_area key what catalog_area all other));
          images = All-from_recursion (IsPresent (laid key what all)) c.lines
              (both_of (λ (p : PlacedLine). (p.key.area == catalog_area) ≡ true) (IsPresent all) (IsPresent (laid key what all))
              (λ p at present. present_beside p (keys_apart catalog_area p.key key at other) present) c.lines own (recursion_from_All (IsPresent all) c.lines is.lines.images));
        };
        fit = is.fit;
        tables = is.tables;
      }

  -- ---- rows

  pub rows_beside : (r : StoredRelation) (w : Relation) → (key.area == r.area) ≡ false → HasRows all r w → HasRows (laid key what all) r w
  rows_beside r w other is =
      record { area = is.area; fields = is.fields; rows = subst (λ (l : Lines). AreRowsOf r l (map stored_row w.rows)) (sym (other_area key what r.area all other)) is.rows }

  -- ---- indexes

  tree_beside : (root : Dbkey) (level : ℕ) (tree : Tree level) → (key.area == root.area) ≡ false → IsIndex all root level tree → IsIndex (laid key what all) root level tree
  tree_beside root level tree other is = record {
    rooted = is.rooted;
    stands = stands_beside all key what root.area level tree
        (all_of (λ (k : Dbkey). k.area ≡ root.area) (λ (k : Dbkey). is_eq (dbkey_order k key) ≡ false) (λ k own. keys_apart root.area k key (eq-eqb k.area root.area own) other) (places level tree) (areas all root.area level tree is.stands))
        is.stands;
    once = is.once;
  }

  pub index_beside : (root : Dbkey) (positions : List ℕ) (rows : List (Dbkey × Row)) → (key.area == root.area) ≡ false → IsIndexOf all root positions rows → IsIndexOf (laid key what all) root positions rows
  index_beside root positions rows other is = record { level = is.level; tree = is.tree; is = tree_beside root is.level is.tree other is.is; holds = is.holds }

  pub sound_index_beside : (x : IndexLine) (r : Option Relation) → (key.area == x.root.area) ≡ false → IsSoundIndex all x r → IsSoundIndex (laid key what all) x r
  sound_index_beside x r other is = record { short = is.short; is = index_beside x.root x.fields _ other is.is; unique = is.unique }
