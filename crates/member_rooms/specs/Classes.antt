-- The class of an area's pages, by the table.
use Rattle.std.specs.Prelude.{ℕ, ◌≡◌}
use Rattle.committed_tables.specs.page_table.Pages.{Pages, owner_in, class_in, IsWithin}

-- some page of the area has this class
pub record IsClassOf (pages : Pages) (area class : ℕ) : Type 0 where
  pub page : ℕ
  pub within : IsWithin pages page
  pub owner : owner_in pages page ≡ area
  pub is : class_in pages page ≡ class

-- the area owns no page
abbrev pub HasNoOwned : Pages → ℕ → Type 0
HasNoOwned pages area = (page : ℕ) → IsWithin pages page → owner_in pages page ≡ area → ⊥
