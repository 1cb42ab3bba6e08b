-- The faults of the lines of a database.
use Rattle.std.specs.Prelude.{◌≡◌, ◌⊎◌, ◌%◌, ℕ, Some, List, [], ◌∷◌, ◌++◌, map}
use Rattle.rdb_types.specs.declared.keys.Dbkey.{Dbkey}
use Rattle.rdb_types.specs.Order.{chars_order}
use Rattle.rdo_ast.specs.Tree.{Name}
use Rattle.line_view.specs.Knowledge.{Lines, line_in}
use Rattle.line_view.specs.Held.{ordered}
use Rattle.catalog.specs.declared.reading.Catalog.{Catalog}
use Rattle.sound_lines.specs.Contents.{versions_in}
use Rattle.sound_lines.specs.Gathered.{put_all}
use Rattle.rmu_texts.specs.declared.faults.VerifyFault.{VerifyFault}
use Rattle.rmu_texts.specs.declared.faults.VerifyFault.TheVariants as fault
use Rattle.line_faults.specs.Catalog.{IsCheckedCatalog}
use Rattle.verified_lines.specs.Relations.{FindsRows, strays_in, FindsIndexes}

abbrev pub IsAmong : ℕ → List ℕ → Type 0
IsAmong area [] = ⊥
IsAmong area (a ∷ areas) = (a ≡ area) ⊎ IsAmong area areas

-- each present line of an even logical area is of one of these areas
abbrev pub Covers : Lines → List ℕ → Type 0
Covers all areas = (key : Dbkey) (image : List ℕ) → line_in key all ≡ Some image → key.area % 2 ≡ 0 → IsAmong key.area areas

-- names in ascending order, each once
abbrev pub names_in_order : List Name → List Name
names_in_order names = map (λ e. e.0) (put_all chars_order [] (map (λ (n : Name). (n, tt {0})) names))

-- These are the faults of the lines: of the catalog, of rows, of nodes, of indexes, each kind in ascending order and each fault once.
pub record AreLineFaults (all : Lines) (faults : List VerifyFault) : Type 0 where
  pub c : Catalog
  pub catalog : List Dbkey
  pub checked : IsCheckedCatalog all c catalog
  pub rows : List Dbkey
  pub finds_rows : FindsRows all (versions_in c.lines) c.tables.relations rows
  pub areas : List ℕ
  pub covers : Covers all areas
  pub nodes : List Dbkey
  pub names : List Name
  pub finds_indexes : FindsIndexes all (versions_in c.lines) c.tables c.lines nodes names
  pub are : faults ≡ map fault.Catalog catalog ++ (map fault.Row (ordered (rows ++ strays_in all c.tables areas)) ++ (map fault.Node (ordered nodes) ++ map fault.Index (names_in_order names)))
