-- Areas that own pages, one behind another, and the lines of one.
use Rattle.std.specs.Prelude.{ℕ, ◌≡◌, ◌≤◌, ◌⊎◌, Option, Some, None}
use Rattle.std.specs.declared.cmp.Ordering.TheVariants.{Less}
use Rattle.rdb_types.specs.declared.keys.Dbkey.{Dbkey}
use Rattle.rdb_types.specs.Order.{dbkey_order}
use Rattle.page_table.specs.declared.uses.Sought.TheVariants.{Ever}
use Rattle.page_table.specs.Pages.{Pages, class_in}
use Rattle.page_table.specs.Scans.{IsFirst}
use Rattle.next_lines.specs.declared.next.NextLine.{NextLine}
use Rattle.next_lines.specs.Next.{IsLeft}

-- An owner doesn't lie behind the area, or isn't before what is next.
abbrev pub Reaches : ℕ → Option ℕ → ℕ → Type 0
Reaches area (Some next) owner = (owner ≤ area) ⊎ (next ≤ owner)
Reaches area None owner = owner ≤ area

-- the first line of an area that was used, by its table, with the class of its page
pub record IsFirstIn (pages : Pages) (area : ℕ) (from : Option Dbkey) (next : NextLine) : Type 0 where
  pub first : IsFirst pages Ever area from next.key
  pub class : next.class ≡ class_in pages next.key.page

-- a line of the area that was used, and none of the area lies before it
pub record IsNextWithin (tables : ℕ → Pages) (area : ℕ) (from : Option Dbkey) (next : NextLine) : Type 0 where
  pub left : IsLeft tables from next.key
  pub class : next.class ≡ class_in (tables left.was.file) next.key.page
  pub area_is : next.key.area ≡ area
  pub least : (other : Dbkey) → IsLeft tables from other → other.area ≡ area → dbkey_order other next.key ≡ Less → ⊥

abbrev pub HasNoneWithin : (ℕ → Pages) → ℕ → Option Dbkey → Type 0
HasNoneWithin tables area from = (other : Dbkey) → IsLeft tables from other → other.area ≡ area → ⊥
