-- Whole pages.
use Rattle.std.specs.Prelude.{ℕ, ◌<◌, ◌⊎◌, List}
use Rattle.rdb_types.specs.declared.keys.Line.{Line}
use Rattle.rdb_page.specs.declared.head.Head.{Head}
use Rattle.rdb_page.specs.Page.{IsUnused, StandsAs, lines_of}
use Rattle.rdb_page.specs.Lines.{IsLine}

-- a line in each place of the class
abbrev pub HasLines : List ℕ → ℕ → Type 0
HasLines page class = (line : ℕ) → line < lines_of class → (value : Line) × IsLine page class line value

pub record IsUsedPage (file number : ℕ) (page : List ℕ) : Type 0 where
  pub head : Head
  pub stands : StandsAs page file number head
  pub lines : HasLines page head.class

-- the page of this number of this area file: never used, or a head and lines
abbrev pub IsPageOf : ℕ → ℕ → List ℕ → Type 0
IsPageOf file number page = IsUnused page ⊎ IsUsedPage file number page
