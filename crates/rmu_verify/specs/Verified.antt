-- The faults of a database at rest.
use Rattle.std.specs.Prelude.{ℕ, ◌≡◌, List, ◌++◌}
use Rattle.rdb_types.specs.declared.keys.Dbkey.{Dbkey}
use Rattle.rdb_outside.specs.Disk.{Image}
use Rattle.rdo_ast.specs.Tree.{Name}
use Rattle.journal_scan.specs.declared.group.Group.{Group}
use Rattle.line_view.specs.Knowledge.{Lines}
use Rattle.line_view.specs.Held.{ordered}
use Rattle.catalog.specs.declared.reading.Catalog.{Catalog}
use Rattle.sound_lines.specs.Contents.{versions_in}
use Rattle.stable_lines.specs.Slots.{IsAreaFile}
use Rattle.stable_lines.specs.Image.{StandsFor}
use Rattle.rmu_texts.specs.declared.faults.VerifyFault.{VerifyFault}
use Rattle.area_files.specs.Areas.{IsPage}
use Rattle.page_faults.specs.Checks.{IsOwned}
use Rattle.page_faults.specs.Listing.{ListsPages}
use Rattle.areas_at_rest.specs.lines_at_rest.Left.{LeavesOut}
use Rattle.verified_lines.specs.Relations.{FindsRows, strays_in, FindsIndexes}
use Rattle.verified_lines.specs.Faults.{Covers, names_in_order, AreLineFaults}

-- the lines that are no rows, and those of even areas without a relation, in ascending order
pub record FindsLines (all : Lines) (c : Catalog) (keys : List Dbkey) : Type 0 where
  pub rows : List Dbkey
  pub finds : FindsRows all (versions_in c.lines) c.tables.relations rows
  pub areas : List ℕ
  pub covers : Covers all areas
  pub are : keys ≡ ordered (rows ++ strays_in all c.tables areas)

-- the nodes at fault, and the names of the indexes that don't hold their rows, in ascending order
pub record FindsTrees (all : Lines) (c : Catalog) (keys : List Dbkey) (names : List Name) : Type 0 where
  pub nodes : List Dbkey
  pub indexes : List Name
  pub finds : FindsIndexes all (versions_in c.lines) c.tables c.lines nodes indexes
  pub keys_are : keys ≡ ordered nodes
  pub names_are : names ≡ names_in_order indexes

-- The faults of the files of an image whose whole groups are these: first the pages, then the lines of what is left without the pages that fail their decoders.
pub record AreFaults (image : Image) (groups : List Group) (faults : List VerifyFault) : Type 0 where
  pub pages : List VerifyFault
  pub lists : ListsPages image pages
  pub lines : List VerifyFault
  pub finds : (left : Image) (all : Lines) → LeavesOut image left → StandsFor left groups all → AreLineFaults all lines
  pub are : faults ≡ pages ++ lines

-- each page that is used has the owner that its space page says
abbrev pub AllOwned : Image → Type 0
AllOwned image = (file page : ℕ) → IsAreaFile file → IsPage page → IsOwned image file page
