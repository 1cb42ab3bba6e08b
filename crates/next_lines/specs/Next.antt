-- The line that was used next, in the order of Dbkeys, over the tables of pages of all area files.
use Rattle.std.specs.Prelude.{ℕ, ◌<◌, ◌≤◌, ◌≡◌, ◌==◌, true, if◌then◌else◌, List, length, Option, Some, None}
use Rattle.std.specs.declared.cmp.Ordering.TheVariants.{Less}
use Rattle.rdb_types.specs.declared.keys.Dbkey.{Dbkey}
use Rattle.rdb_types.specs.Order.{dbkey_order}
use Rattle.rdb_page.specs.Page.{IsOwner}
use Rattle.line_view.specs.Knowledge.{Lines, line_in}
use Rattle.page_table.specs.Pages.{Pages, owner_in, class_in, IsWithin, IsEverUsed}
use Rattle.partial_backup.specs.Partial.{is_left, IsNext, HasNone}
use Rattle.next_lines.specs.declared.next.NextLine.{NextLine}

-- the table of an area file, by its number
abbrev pub table_in : Pages → Pages → Pages → ℕ → Pages
table_in catalog relations indexes file = if file == 1 then catalog else (if file == 2 then relations else indexes)

-- ---- by the tables

-- a line was used at some time, by the table of its area's file
pub record WasUsed (tables : ℕ → Pages) (key : Dbkey) : Type 0 where
  pub file : ℕ
  pub owner : IsOwner file key.area
  pub used : IsEverUsed (tables file) key

-- such a line, which lies behind
pub record IsLeft (tables : ℕ → Pages) (from : Option Dbkey) (key : Dbkey) : Type 0 where
  pub was : WasUsed tables key
  pub behind : is_left from key ≡ true

-- such a line with the class of its page, and none lies before it
pub record IsNextUsed (tables : ℕ → Pages) (from : Option Dbkey) (next : NextLine) : Type 0 where
  pub left : IsLeft tables from next.key
  pub class : next.class ≡ class_in (tables left.was.file) next.key.page
  pub least : (other : Dbkey) → IsLeft tables from other → dbkey_order other next.key ≡ Less → ⊥

-- the tables have no page that a file may not have
abbrev pub AreFew : (ℕ → Pages) → Type 0
AreFew tables = (file : ℕ) → length (tables file) ≤ 65536

-- a Dbkey of a page up to 131,071, with four lines
pub record IsLow (key : Dbkey) : Type 0 where
  pub page : key.page < 131072
  pub line : key.line < 4

abbrev pub HasNoneUsed : (ℕ → Pages) → Option Dbkey → Type 0
HasNoneUsed tables from = (other : Dbkey) → IsLeft tables from other → ⊥

-- ---- of a map of lines

-- The tables have the lines of the map: each was used at some time.
abbrev pub HaveLines : (ℕ → Pages) → Lines → Type 0
HaveLines tables lines = (key : Dbkey) (image : List ℕ) → line_in key lines ≡ Some image → WasUsed tables key

-- These are the areas' classes: a page that is an area's has the area's class.
abbrev pub AreClasses : (ℕ → Pages) → (ℕ → ℕ) → Type 0
AreClasses tables classes = (file page : ℕ) → IsWithin (tables file) page → IsOwner file (owner_in (tables file) page) → class_in (tables file) page ≡ classes (owner_in (tables file) page)

-- Where a line is next, none of the map lies before it, and if it is one of the map its page has its area's class; where none is, none of the map is left.
abbrev pub Leads : (ℕ → ℕ) → Lines → Option Dbkey → Option NextLine → Type 0
Leads classes lines from (Some next) = IsNext lines from next.key × ((image : List ℕ) → line_in next.key lines ≡ Some image → next.class ≡ classes next.key.area)
Leads classes lines from None = HasNone lines from
