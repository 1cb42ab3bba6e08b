-- A table of pages beside what is committed.
use Rattle.std.specs.Prelude.{ℕ, ◌≡◌, List, Option, Some}
use Rattle.std.specs.declared.cmp.Ordering.TheVariants.{Less}
use Rattle.rdb_types.specs.declared.keys.Dbkey.{Dbkey}
use Rattle.rdb_types.specs.Order.{dbkey_order}
use Rattle.rdb_page.specs.Page.{IsOwner}
use Rattle.line_view.specs.Knowledge.{Lines, line_in}
use Rattle.line_store.specs.Rooms.{IsBehind}
use Rattle.page_table.specs.Pages.{Pages, IsUsedLine, IsEverUsed}

-- The lines of the area file that have an image in the table are those that are committed.
pub record HasCommitted (pages : Pages) (file : ℕ) (lines : Lines) : Type 0 where
  pub used : (key : Dbkey) → IsOwner file key.area → IsUsedLine pages key → (image : List ℕ) × (line_in key lines ≡ Some image)
  pub committed : (key : Dbkey) (image : List ℕ) → IsOwner file key.area → line_in key lines ≡ Some image → IsUsedLine pages key

-- Each of these lines of the area file was used at some time, by the table: they may be those of a reader's start.
abbrev pub WereUsed : Pages → ℕ → Lines → Type 0
WereUsed pages file lines = (key : Dbkey) (image : List ℕ) → IsOwner file key.area → line_in key lines ≡ Some image → IsEverUsed pages key

-- no committed line of the area is behind the one and before the other
pub record IsNextCommitted (lines : Lines) (area : ℕ) (from : Option Dbkey) (key : Dbkey) : Type 0 where
  pub image : List ℕ
  pub is : line_in key lines ≡ Some image
  pub area_is : key.area ≡ area
  pub behind : IsBehind from key
  pub least : (other : Dbkey) (bytes : List ℕ) → other.area ≡ area → IsBehind from other → line_in other lines ≡ Some bytes → dbkey_order other key ≡ Less → ⊥
