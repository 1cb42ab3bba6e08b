-- The catalog of a full map of lines, and how far one can be read in a view.
use Rattle.std.specs.Prelude.{◌≡◌, ℕ, List, ◌∷◌, ◌++◌, map, Some, None, IsSome}
use Rattle.std.specs.List.{All, AllByRecursion}
use Rattle.rdb_types.specs.declared.keys.Dbkey.{Dbkey}
use Rattle.line_view.specs.declared.need.Need.{Need}
use Rattle.line_view.specs.declared.need.Need.TheVariants.{Line, Area, Room}
use Rattle.line_view.specs.declared.stop.Stop.{Stop}
use Rattle.line_view.specs.declared.stop.Never.{Never}
use Rattle.line_view.specs.Knowledge.{Knowledge, Lines, line_in, lines_in, keys_of}
use Rattle.line_view.specs.Stops.{Stops}
use Rattle.catalog_lines.specs.declared.line.CatalogLine.{CatalogLine}
use Rattle.catalog_lines.specs.Lines.{IsAllowedLine, IsCatalogLine}
use Rattle.catalog.specs.declared.directory.PlacedLine.{PlacedLine}
use Rattle.catalog.specs.declared.reading.Catalog.{Catalog}
use Rattle.catalog.specs.Schema.{catalog_tables, misfit}

-- the logical area of the catalog
abbrev pub catalog_area : ℕ
catalog_area = 1

abbrev pub line_keys : List PlacedLine → List Dbkey
line_keys = map (λ p. p.key)

-- ---- of a full map

-- the bytes of the map's line are an image of this one
pub record IsPresent (lines : Lines) (p : PlacedLine) : Type 0 where
  pub image : List ℕ
  pub present : line_in p.key lines ≡ Some image
  pub decodes : IsCatalogLine image p.line

-- these are the present lines of the catalog's area, in the order of their Dbkeys
pub record AreCatalogLines (lines : Lines) (ps : List PlacedLine) : Type 0 where
  pub keys : line_keys ps ≡ keys_of (lines_in catalog_area lines)
  pub images : All (IsPresent lines) ps

-- The map's catalog decodes, and this is it: its lines, none of which is a misfit, and the tables that they stand for.
pub record IsCatalogOf (all : Lines) (c : Catalog) : Type 0 where
  pub lines : AreCatalogLines all c.lines
  pub fit : misfit c.lines ≡ None
  pub tables : c.tables ≡ catalog_tables c.lines

-- a catalog as it is read from some map: each line may be laid out, none is a misfit, and the tables are those that the lines stand for
pub record IsWhole (c : Catalog) : Type 0 where
  pub allowed : AllByRecursion (λ p. IsAllowedLine p.line) c.lines
  pub fit : misfit c.lines ≡ None
  pub tables : c.tables ≡ catalog_tables c.lines

-- ---- of what a view knows

-- the bytes that are known of a line are an image of this one
pub record IsKnown (known : Knowledge) (key : Dbkey) (line : CatalogLine) : Type 0 where
  pub image : List ℕ
  pub present : known.line key ≡ Some (Some image)
  pub decodes : IsCatalogLine image line

abbrev pub AreKnown : Knowledge → List PlacedLine → Type 0
AreKnown known = All (λ p. IsKnown known p.key p.line)

-- these are all lines of the catalog
pub record ReadsAll (known : Knowledge) (ps : List PlacedLine) : Type 0 where
  pub keys : known.area catalog_area ≡ Some (line_keys ps)
  pub lines : AreKnown known ps

-- the lines before this one are known, and lines of the catalog
pub record ReadsTo (known : Knowledge) (key : Dbkey) : Type 0 where
  pub before : List PlacedLine
  pub behind : List Dbkey
  pub keys : known.area catalog_area ≡ Some (line_keys before ++ key ∷ behind)
  pub lines : AreKnown known before

-- this is read next and isn't known
abbrev pub IsNext : Knowledge → Need → Type 0
IsNext known (Area area) = (area ≡ catalog_area) × (known.area catalog_area ≡ None)
IsNext known (Line key) = ReadsTo known key × (known.line key ≡ None)
IsNext known (Room room) = ⊥

-- no line of the catalog is known there
abbrev pub IsSpoiled : Knowledge → Dbkey → Type 0
IsSpoiled known key = IsSome (known.line key) × ((line : CatalogLine) → IsKnown known key line → ⊥)

-- this is why one line can't be read
abbrev pub StopsAt : Knowledge → Dbkey → Stop Never → Type 0
StopsAt known key = Stops (λ need. (need ≡ Line key) × (known.line key ≡ None)) (λ bad. (bad ≡ key) × IsSpoiled known key) (λ never. ⊥)

-- this is why the lines can't be read
abbrev pub StopsReading : Knowledge → Stop Never → Type 0
StopsReading known = Stops (IsNext known) (λ key. ReadsTo known key × IsSpoiled known key) (λ never. ⊥)

-- the first line of which the bytes are none of the catalog, or where all are, the first misfit
pub data IsBad (known : Knowledge) (key : Dbkey) : Type 0 where
  spoiled : ReadsTo known key → IsSpoiled known key → IsBad known key
  unfit : (ps : List PlacedLine) → ReadsAll known ps → misfit ps ≡ Some key → IsBad known key

-- this is why the catalog can't be read
abbrev pub StopsCatalog : Knowledge → Stop Never → Type 0
StopsCatalog known = Stops (IsNext known) (IsBad known) (λ never. ⊥)
