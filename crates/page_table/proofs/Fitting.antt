-- The first line that fits.
use Rattle.std.proofs.Common.{◌≡◌, ℕ, ◌<◌, ◌≤◌, Option, ⊎_elim, sym, ◌∙◌, arith}
use Rattle.rdb_types.specs.declared.keys.Dbkey.{Dbkey}
use Rattle.page_table.specs.declared.uses.Sought.{Sought}
use Rattle.page_table.specs.Pages.{Pages}
use Rattle.page_table.specs.Scans.{Fits, IsFirst}
use Rattle.page_table.specs.Lines.{IsFirstOn}
use Rattle.page_table.proofs.Orders.{before}

-- the first on the first page that has one
pub first_of_all : (pages : Pages) (page area : ℕ) (sought : Sought) (from : Option Dbkey) (key : Dbkey)
    → ((other : Dbkey) → Fits pages sought area from other → page ≤ other.page)
    → IsFirstOn pages page sought area from key → IsFirst pages sought area from key
first_of_all pages page area sought from key none first = record {
  fits = first.fits;
  least = λ other f less. ⊎_elim (earlier other f) (beside other f) (before other key (f.area_is ∙ sym first.fits.area_is) less);
}
  where
    earlier : (other : Dbkey) → Fits pages sought area from other → other.page < key.page → ⊥
    earlier other f less = let le = none other f in let is = first.page_is in omega (arith, le, less, is)

    beside : (other : Dbkey) → Fits pages sought area from other → (other.page ≡ key.page) × (other.line < key.line) → ⊥
    beside other f both = let le = first.least other f (both.0 ∙ first.page_is) in let less = both.1 in omega (arith, le, less)
