-- What makes a page a fault.
use Rattle.std.specs.Prelude.{ℕ, ◌-◌, ◌≡◌, ◌≢◌, List}
use Rattle.rdb_types.specs.declared.file.FileId.{FileId}
use Rattle.rdb_types.specs.declared.file.FileKind.TheVariants.{Area}
use Rattle.rdb_outside.specs.Disk.{Image}
use Rattle.rdb_page.specs.Whole.{IsUsedPage, IsPageOf}
use Rattle.area_files.specs.Areas.{IsSpacePage, space_page_of}
use Rattle.space_pages.specs.Space.{IsSpace, owner_of}
use Rattle.rmu_texts.specs.declared.faults.VerifyFault.{VerifyFault}
use Rattle.rmu_texts.specs.declared.faults.VerifyFault.TheVariants.{Page, Owner}
use Rattle.page_faults.specs.declared.checks.PageCheck.{PageCheck}
use Rattle.page_faults.specs.declared.checks.PageCheck.TheVariants.{Decodes, Owned}

-- the bytes of a page of an area file. Pages count from 1, and slots from 0.
abbrev pub page_at : Image → ℕ → ℕ → List ℕ
page_at image file page = image (record { kind = Area; number = file }) (page - 1)

-- the bytes are the page or the space page of this number
pub record Passes (file page : ℕ) (bytes : List ℕ) : Type 0 where
  pub space : IsSpacePage page → IsSpace bytes page
  pub plain : (IsSpacePage page → ⊥) → IsPageOf file page bytes

-- the page is used and passes its decoder, and this is its owner
pub record HasOwner (file page : ℕ) (bytes : List ℕ) (owner : ℕ) : Type 0 where
  pub used : IsUsedPage file page bytes
  pub is : used.head.owner ≡ owner

-- the page's space page passes its decoder, and says this owner
pub record SaysOwner (page : ℕ) (spam : List ℕ) (owner : ℕ) : Type 0 where
  pub space : IsSpace spam (space_page_of page)
  pub is : owner_of page spam ≡ owner

-- A page that is used has another owner than its space page says, and both pass their decoders.
pub record IsMisowned (image : Image) (file page : ℕ) : Type 0 where
  pub plain : IsSpacePage page → ⊥
  pub used : IsUsedPage file page (page_at image file page)
  pub space : IsSpace (page_at image file (space_page_of page)) (space_page_of page)
  pub differs : owner_of page (page_at image file (space_page_of page)) ≢ used.head.owner

-- Where both pass their decoders, a page that is used has the owner that its space page says.
abbrev pub IsOwned : Image → ℕ → ℕ → Type 0
IsOwned image file page = (IsSpacePage page → ⊥) → (used : IsUsedPage file page (page_at image file page))
    → IsSpace (page_at image file (space_page_of page)) (space_page_of page)
    → owner_of page (page_at image file (space_page_of page)) ≡ used.head.owner

-- how a page is listed
abbrev pub fault_of : PageCheck → ℕ → ℕ → VerifyFault
fault_of Decodes file page = Page file page
fault_of Owned file page = Owner file page

-- the page is a fault
abbrev pub IsFault : Image → PageCheck → ℕ → ℕ → Type 0
IsFault image Decodes file page = Passes file page (page_at image file page) → ⊥
IsFault image Owned file page = IsMisowned image file page

-- it is none
abbrev pub IsFine : Image → PageCheck → ℕ → ℕ → Type 0
IsFine image Decodes file page = Passes file page (page_at image file page)
IsFine image Owned file page = IsOwned image file page
