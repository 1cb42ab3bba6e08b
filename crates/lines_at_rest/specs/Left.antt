-- What a page that fails its decoder leaves of an image.
use Rattle.std.specs.Prelude.{ℕ, ◌+◌, ◌≡◌, ◌⊎◌, List}
use Rattle.rdb_types.specs.declared.file.FileId.{FileId}
use Rattle.rdb_outside.specs.Disk.{Image}
use Rattle.rdb_page.specs.Page.{IsUnused}
use Rattle.area_files.specs.Areas.{IsPage}
use Rattle.stable_lines.specs.Slots.{IsAreaFile, area_file}
use Rattle.page_faults.specs.Checks.{page_at, Passes}
use Rattle.before_images.specs.Before.{HasOtherFiles}
use Rattle.lines_at_rest.specs.declared.reading.FaultyPages.{FaultyPages}
use Rattle.lines_at_rest.specs.declared.reading.FaultyPages.TheVariants.{Refused, LeftOut}

-- the slot of a page of an area file
pub record IsPageSlot (file : FileId) (slot : ℕ) : Type 0 where
  pub is_area : file ≡ area_file file.number
  pub number : IsAreaFile file.number
  pub page : IsPage (slot + 1)

-- a page that passes its decoder is left, and another is as if it was never used
abbrev pub IsLeftOf : ℕ → ℕ → List ℕ → List ℕ → Type 0
IsLeftOf file page bytes left = (Passes file page bytes × (left ≡ bytes)) ⊎ ((Passes file page bytes → ⊥) × IsUnused left)

-- the image without the pages that fail their decoders
pub record LeavesOut (image left : Image) : Type 0 where
  pub pages : (file page : ℕ) → IsAreaFile file → IsPage page → IsLeftOf file page (page_at image file page) (page_at left file page)
  pub others : HasOtherFiles image left

-- the image that is read: this one, or what it leaves
abbrev pub IsReadAs : FaultyPages → Image → Image → Type 0
IsReadAs Refused image left = left ≡ image
IsReadAs LeftOut image left = LeavesOut image left

-- each page of the area files passes its decoder
abbrev pub AllPass : Image → Type 0
AllPass image = (file page : ℕ) → IsAreaFile file → IsPage page → Passes file page (page_at image file page)
