-- Present lines, found in the order of their Dbkeys.
use Rattle.std.specs.Prelude.{ℕ, ◌≡◌, ◌==◌, ◌&&◌, ◌||◌, nat_le, Bool, true, false, List, Some, None}
use Rattle.std.specs.declared.cmp.Ordering.TheVariants.{Less}
use Rattle.rdb_types.specs.declared.keys.Dbkey.{Dbkey}
use Rattle.rdb_types.specs.Order.{dbkey_order}
use Rattle.rdb_outside.specs.Disk.{Image}
use Rattle.line_view.specs.Knowledge.{Lines, IsInOrder, line_in}
use Rattle.line_versions.specs.Lines.{shown}
use Rattle.stable_lines.specs.Slots.{line_at}
use Rattle.used_pages.specs.declared.pages.AreaPage.{AreaPage}
use Rattle.used_pages.specs.Pages.{page_order}

-- These are the present lines of the pages of the image but for those that are left, which come behind them all.
pub record Holds (image : Image) (left : Dbkey → Bool) (found : Lines) : Type 0 where
  pub in_order : IsInOrder found
  pub each : (key : Dbkey) → left key ≡ false → line_in key found ≡ shown (line_at image key)
  pub others : (key : Dbkey) → left key ≡ true → line_in key found ≡ None
  pub before : (key other : Dbkey) (bytes : List ℕ) → line_in key found ≡ Some bytes → left other ≡ true → dbkey_order key other ≡ Less

abbrev pub page_of : Dbkey → AreaPage
page_of key = record { area = key.area; page = key.page }

abbrev pub is_on : AreaPage → Dbkey → Bool
is_on page key = (key.area == page.area) && (key.page == page.page)

-- all lines of these pages are left
abbrev pub on_pages : (AreaPage → Bool) → Dbkey → Bool
on_pages left key = left (page_of key)

-- and of this page those from this line on
abbrev pub from_line : (AreaPage → Bool) → AreaPage → ℕ → Dbkey → Bool
from_line left page line key = left (page_of key) || (is_on page key && nat_le line key.line)

-- the pages that are left come behind this one
abbrev pub AreBehind : AreaPage → (AreaPage → Bool) → Type 0
AreBehind page left = (other : AreaPage) → left other ≡ true → page_order page other ≡ Less
