-- The faults of the catalog.
use Rattle.std.specs.Prelude.{◌≡◌, ℕ, Bool, true, not, ◌&&◌, ◌==◌, nat_le, List, [], ◌∷◌, ◌++◌, filter, length, Some, None, is_some}
use Rattle.rdb_types.specs.declared.keys.Dbkey.{Dbkey}
use Rattle.rdb_types.specs.declared.values.Field.{Field}
use Rattle.rdb_meaning.specs.declared.tables.Tables.{Tables}
use Rattle.rdb_meaning.specs.Contents.{fields_of, class_of}
use Rattle.line_view.specs.Knowledge.{Lines, line_in, laid}
use Rattle.line_view.specs.Held.{ordered}
use Rattle.catalog_lines.specs.declared.line.RelationLine.{RelationLine}
use Rattle.catalog_lines.specs.declared.line.CatalogLine.{CatalogLine}
use Rattle.catalog_lines.specs.declared.line.CatalogLine.TheVariants.{Relation, Global, Field as FieldOf, Index}
use Rattle.catalog_lines.specs.Lines.{IsCatalogLine}
use Rattle.catalog.specs.declared.directory.PlacedLine.{PlacedLine}
use Rattle.catalog.specs.declared.reading.Catalog.{Catalog}
use Rattle.catalog.specs.Schema.{misfit}
use Rattle.catalog.specs.Reading.{catalog_area, line_keys, AreCatalogLines, IsCatalogOf}
use Rattle.sound_lines.specs.Sound.{relation_in, versions_rise, longest_key}

-- ---- lines that keep the map from having a catalog

-- A present line of the catalog's area is none of the catalog, or it is the first that doesn't go with the others where all decode.
pub data IsBadLine (all : Lines) (key : Dbkey) : Type 0 where
  undecoded : (image : List ℕ) → key.area ≡ catalog_area → line_in key all ≡ Some image → ((line : CatalogLine) → IsCatalogLine image line → ⊥) → IsBadLine all key
  first_misfit : (ps : List PlacedLine) → AreCatalogLines all ps → misfit ps ≡ Some key → IsBadLine all key

-- the map without these lines
abbrev pub without : List Dbkey → Lines → Lines
without [] all = all
without (key ∷ keys) all = without keys (laid key None all)

-- these lines are taken out one after another, each bad in the map without those before it
abbrev pub AreTaken : Lines → List Dbkey → Type 0
AreTaken all [] = Unit {0}
AreTaken all (key ∷ keys) = IsBadLine all key × AreTaken (laid key None all) keys

-- ---- lines of a catalog that aren't sound

-- the class and the versions of a relation are those of its fields
abbrev pub is_sound_relation : RelationLine → List Field → Bool
is_sound_relation r fields = (r.class == class_of fields) && (versions_rise 1 r.version fields && nat_le r.version (length fields))

-- a relation's class and versions; an index's relation and longest key
abbrev pub is_sound_line : Tables → CatalogLine → Bool
is_sound_line t (Relation r) = is_sound_relation r (fields_of (relation_in r.area t.relations))
is_sound_line t (Global g) = true
is_sound_line t (FieldOf f) = true
is_sound_line t (Index x) = is_some (relation_in x.relation t.relations) && nat_le (longest_key x.fields (fields_of (relation_in x.relation t.relations))) 120

abbrev pub unsound_in : Tables → List PlacedLine → List Dbkey
unsound_in t ps = line_keys (filter (λ p. not (is_sound_line t p.line)) ps)

abbrev pub unsound : Catalog → List Dbkey
unsound c = unsound_in c.tables c.lines

-- ---- the faults

-- This is the catalog of the map without the lines that have to be taken out. These lines, and those of the catalog that aren't sound, are at fault: their Dbkeys in ascending order, each once.
pub record IsCheckedCatalog (all : Lines) (c : Catalog) (faults : List Dbkey) : Type 0 where
  pub taken : List Dbkey
  pub bad : AreTaken all taken
  pub left : IsCatalogOf (without taken all) c
  pub are : faults ≡ ordered (taken ++ unsound c)
