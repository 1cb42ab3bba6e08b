-- The lines of one page.
use Rattle.std.specs.Prelude.{ℕ, ◌≡◌, ◌<◌, ◌≤◌, Option}
use Rattle.rdb_types.specs.declared.keys.Dbkey.{Dbkey}
use Rattle.rdb_page.specs.Page.{lines_of}
use Rattle.line_store.specs.Rooms.{IsBehind}
use Rattle.page_table.specs.declared.uses.PageUse.{PageUse}
use Rattle.page_table.specs.declared.uses.Sought.{Sought}
use Rattle.page_table.specs.Pages.{Pages}
use Rattle.page_table.specs.Scans.{IsSought, Fits}

abbrev pub key_at : PageUse → (page line : ℕ) → Dbkey
key_at u page line = record { area = u.owner; page = page; line = line }

-- the line of this number is behind another, and sought
pub record FitsAt (u : PageUse) (page : ℕ) (sought : Sought) (from : Option Dbkey) (line : ℕ) : Type 0 where
  pub behind : IsBehind from (key_at u page line)
  pub is_sought : IsSought sought u line

-- the first of these
pub record IsFirstAt (u : PageUse) (page : ℕ) (sought : Sought) (from : Option Dbkey) (key : Dbkey) : Type 0 where
  pub key_is : key ≡ key_at u page key.line
  pub line : key.line < lines_of u.class
  pub fits : FitsAt u page sought from key.line
  pub least : (line : ℕ) → line < key.line → FitsAt u page sought from line → ⊥

-- the first line of a page that fits
pub record IsFirstOn (pages : Pages) (page : ℕ) (sought : Sought) (area : ℕ) (from : Option Dbkey) (key : Dbkey) : Type 0 where
  pub page_is : key.page ≡ page
  pub fits : Fits pages sought area from key
  pub least : (other : Dbkey) → Fits pages sought area from other → other.page ≡ page → key.line ≤ other.line
