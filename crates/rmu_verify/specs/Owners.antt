-- The logical areas that own pages.
use Rattle.std.specs.Prelude.{ℕ, ◌≤◌, ◌≡◌, ◌⊎◌, List}
use Rattle.rdb_outside.specs.Disk.{Image}
use Rattle.area_files.specs.Areas.{IsPage}
use Rattle.stable_lines.specs.Slots.{owner_at}
use Rattle.page_faults.specs.Checks.{page_at, Passes}
use Rattle.verified_lines.specs.Faults.{IsAmong}

-- a page of this number that passes its decoder is of this logical area
pub record IsOwnerOn (file page : ℕ) (bytes : List ℕ) (area : ℕ) : Type 0 where
  pub passes : Passes file page bytes
  pub owner : owner_at bytes ≡ area
  pub some : 1 ≤ area

-- the owner of a page, unless it has none, is among the new ones, as the old ones are, and there is no other
pub record AddsOwner (file page : ℕ) (bytes old new : List ℕ) : Type 0 where
  pub kept : (area : ℕ) → IsAmong area old → IsAmong area new
  pub added : Passes file page bytes → (owner_at bytes ≡ 0) ⊎ IsAmong (owner_at bytes) new
  pub only : (area : ℕ) → IsAmong area new → IsAmong area old ⊎ IsOwnerOn file page bytes area

-- some page of the file is of this logical area
pub record ComesFrom (image : Image) (file area : ℕ) : Type 0 where
  pub page : ℕ
  pub is_page : IsPage page
  pub on : IsOwnerOn file page (page_at image file page) area

-- These are the owners, other than none, of the pages of an area file up to one that pass their decoders.
pub record HasOwners (image : Image) (file last : ℕ) (owners : List ℕ) : Type 0 where
  pub each : (page : ℕ) → 1 ≤ page → page ≤ last → Passes file page (page_at image file page) → (owner_at (page_at image file page) ≡ 0) ⊎ IsAmong (owner_at (page_at image file page)) owners
  pub only : (area : ℕ) → IsAmong area owners → ComesFrom image file area
