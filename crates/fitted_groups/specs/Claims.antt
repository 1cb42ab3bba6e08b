-- What is kept in memory of the pages of the area files while lines are looked at.
use Rattle.std.specs.Prelude.{ℕ, ◌+◌, ◌*◌, ◌-◌, ◌≤◌, ◌≡◌, ◌⊎◌, nat_eq, if◌then◌else◌, List, length, slice_get, Option, Some, None}
use Rattle.rdb_outside.specs.Disk.{Image}
use Rattle.rdb_page.specs.Page.{class_at}
use Rattle.area_files.specs.Areas.{IsDataPage}
use Rattle.aij_journal.specs.declared.part.GroupLine.{GroupLine}
use Rattle.journal_reading.specs.Journal.{EndsBy}
use Rattle.stable_lines.specs.Slots.{area_file, IsAreaFile, owner_at}
use Rattle.fitted_groups.specs.declared.claims.AreaEnds.{AreaEnds}
use Rattle.fitted_groups.specs.declared.claims.PageClaim.{PageClaim}
use Rattle.fitted_groups.specs.Meeting.{first_there, page_in, owner_met, class_met, FitOver}

-- how many slots an area file has: behind them all is zeros
abbrev pub end_in : AreaEnds → ℕ → ℕ
end_in ends file = if nat_eq file 1 then ends.catalog else (if nat_eq file 2 then ends.relations else ends.indexes)

abbrev pub AreEnds : Image → AreaEnds → Type 0
AreEnds image ends = (file : ℕ) → IsAreaFile file → EndsBy image (area_file file) (end_in ends file)

-- the place of a page's claim: those of page 1 of each of the three files stand first
abbrev pub seat_of : ℕ → ℕ → ℕ
seat_of file number = (number - 1) * 3 + (file - 1)

-- what the bytes of a page claim
abbrev pub claim_at : List ℕ → PageClaim
claim_at page = record { owner = owner_at page; class = class_at page }

-- what a page claims behind these lines
abbrev pub claim_over : Image → List GroupLine → ℕ → ℕ → PageClaim
claim_over image lines file number = record {
  owner = owner_met (owner_at (page_in image file number)) (first_there file number lines) 0;
  class = class_met (owner_at (page_in image file number)) (first_there file number lines) (class_at (page_in image file number));
}

-- what was found is a page that was never used, or one with this claim
abbrev pub MayClaim : PageClaim → Option PageClaim → Type 0
MayClaim claim None = ⊥
MayClaim claim (Some found) = (found.owner ≡ 0) ⊎ (found ≡ claim)

-- There is a place for each page up to the limit, and that of a data page has what it claims behind these lines.
pub record HasClaims (image : Image) (pages : ℕ) (lines : List GroupLine) (claims : List PageClaim) : Type 0 where
  pub size : length claims ≡ pages * 3
  pub each : (file number : ℕ) → IsAreaFile file → IsDataPage number → number ≤ pages → slice_get claims (seat_of file number) ≡ Some (claim_over image lines file number)

-- All of these lines fit, and the claims are those behind them.
pub record AreFitted (image : Image) (pages : ℕ) (lines : List GroupLine) (claims : List PageClaim) : Type 0 where
  pub has : HasClaims image pages lines claims
  pub fit : FitOver image pages lines
