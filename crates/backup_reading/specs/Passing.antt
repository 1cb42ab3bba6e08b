-- The lines of a backup, passed one by one.
use Rattle.std.specs.Prelude.{ℕ, ◌+◌, ◌≤◌, ◌≡◌, true, List, [], length, slice_get, Option, Some, None}
use Rattle.std.specs.declared.cmp.Ordering.{Ordering}
use Rattle.std.specs.declared.cmp.Ordering.TheVariants.{Less}
use Rattle.std.specs.Ordering.{nat_cmp, ordering_then}
use Rattle.std.specs.BTreeSet.{BTreeSet, contains}
use Rattle.std.specs.FinMap.Entries.{is_sorted}
use Rattle.rdb_types.specs.Order.{dbkey_order}
use Rattle.rdb_page.specs.Page.{IsOwner}
use Rattle.backup_file.specs.declared.line.BackupLine.{BackupLine}
use Rattle.backup_file.specs.Whole.{lines_in, HasPage, SharePages}
use Rattle.backup_reading.specs.declared.pages.FilePage.{FilePage}
use Rattle.backup_reading.specs.declared.passing.LastLine.{LastLine}
use Rattle.backup_reading.specs.declared.passing.Passed.{Passed}

-- Lines in order, none twice, that fit on pages: what a whole backup asks of its lines.
pub record AreFitting (pages : ℕ) (lines : List BackupLine) : Type 0 where
  pub in_order : is_sorted dbkey_order (lines_in lines) ≡ true
  pub on_pages : (i : ℕ) (line : BackupLine) → slice_get lines i ≡ Some line → HasPage pages line
  pub share : SharePages lines

-- ---- pages

-- by file, then by page
abbrev pub page_order : FilePage → FilePage → Ordering
page_order a b = ordering_then (nat_cmp a.file b.file) (nat_cmp a.page b.page)

abbrev pub has : BTreeSet FilePage → FilePage → Type 0
has pages page = contains page_order pages page ≡ true

-- the page on which the line stands
pub record IsPageOf (line : BackupLine) (page : FilePage) : Type 0 where
  pub owner : IsOwner page.file line.key.area
  pub number : page.page ≡ line.key.page

-- one of the lines stands on the page
pub record IsUsed (lines : List BackupLine) (page : FilePage) : Type 0 where
  pub index : ℕ
  pub line : BackupLine
  pub is : slice_get lines index ≡ Some line
  pub on : IsPageOf line page

-- ---- the line before

abbrev pub IsBehind : LastLine → BackupLine → Type 0
IsBehind last line = dbkey_order last.key line.key ≡ Less

-- of the same logical area and page
pub record IsBeside (last : LastLine) (line : BackupLine) : Type 0 where
  pub area : line.key.area ≡ last.key.area
  pub page : line.key.page ≡ last.key.page

-- a line of its page, which has its class
pub record IsOnSame (last : Option LastLine) (line : BackupLine) : Type 0 where
  pub of : LastLine
  pub is : last ≡ Some of
  pub beside : IsBeside of line
  pub class : line.class ≡ of.class

-- there is a last line, and this one isn't behind it, or is on its page with another class
pub record MayNotFollow (last : Option LastLine) (line : BackupLine) : Type 0 where
  pub of : LastLine
  pub is : last ≡ Some of
  pub not : IsBehind of line → (IsBeside of line → line.class ≡ of.class) → ⊥

-- the last of the lines
pub record EndsWith (lines : List BackupLine) (last : LastLine) : Type 0 where
  pub count : ℕ
  pub long : length lines ≡ count + 1
  pub line : BackupLine
  pub is : slice_get lines count ≡ Some line
  pub key : line.key ≡ last.key
  pub class : line.class ≡ last.class

abbrev pub IsLast : List BackupLine → Option LastLine → Type 0
IsLast lines None = lines ≡ []
IsLast lines (Some last) = EndsWith lines last

-- ---- all of it

-- These lines were passed: they fit, this is the last of them, these are their pages, and no transaction number is greater.
pub record ArePassed (pages : ℕ) (lines : List BackupLine) (passed : Passed) : Type 0 where
  pub fit : AreFitting pages lines
  pub last : IsLast lines passed.last
  pub used : (page : FilePage) → IsUsed lines page → has passed.pages page
  pub only : (page : FilePage) → has passed.pages page → IsUsed lines page
  pub greatest : (i : ℕ) (line : BackupLine) → slice_get lines i ≡ Some line → line.tsn.number ≤ passed.greatest

-- others begin with these lines, and go on with this one
pub record GoesOn (lines others : List BackupLine) (line : BackupLine) : Type 0 where
  pub begins : (i : ℕ) (a : BackupLine) → slice_get lines i ≡ Some a → slice_get others i ≡ Some a
  pub next : slice_get others (length lines) ≡ Some line
