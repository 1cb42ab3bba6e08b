-- Lists of the pages that are faults.
use Rattle.std.specs.Prelude.{ℕ, zero, suc, ◌≡◌, ◌⊎◌, List, [], ◌∷◌, ◌++◌}
use Rattle.rdb_outside.specs.Disk.{Image}
use Rattle.rmu_texts.specs.declared.faults.VerifyFault.{VerifyFault}
use Rattle.page_faults.specs.declared.checks.PageCheck.{PageCheck}
use Rattle.page_faults.specs.declared.checks.PageCheck.TheVariants.{Decodes, Owned}
use Rattle.page_faults.specs.Checks.{fault_of, IsFault, IsFine}

-- some faults are added
abbrev pub Grows : (List VerifyFault → Type 0) → List VerifyFault → List VerifyFault → Type 0
Grows Are old new = (found : List VerifyFault) × (new ≡ old ++ found) × Are found

-- These are the faults among the pages of a file from 1 to the last, in ascending order: the last one is listed and a fault, or it isn't listed and fine, and so are those before it.
unfoldable pub Lists : Image → PageCheck → ℕ → ℕ → List VerifyFault → Type 0
Lists image asked file zero listed = listed ≡ []
Lists image asked file (suc last) listed =
    ((before : List VerifyFault) × (listed ≡ before ++ fault_of asked file (suc last) ∷ []) × IsFault image asked file (suc last) × Lists image asked file last before)
    ⊎ (IsFine image asked file (suc last) × Lists image asked file last listed)

-- these are those of the three area files
pub record ListsAll (image : Image) (asked : PageCheck) (listed : List VerifyFault) : Type 0 where
  pub catalog : List VerifyFault
  pub relations : List VerifyFault
  pub indexes : List VerifyFault
  pub are : listed ≡ catalog ++ relations ++ indexes
  pub first : Lists image asked 1 65536 catalog
  pub second : Lists image asked 2 65536 relations
  pub third : Lists image asked 3 65536 indexes

-- first the pages that fail their decoders, then those whose owners differ
pub record ListsPages (image : Image) (listed : List VerifyFault) : Type 0 where
  pub pages : List VerifyFault
  pub owners : List VerifyFault
  pub are : listed ≡ pages ++ owners
  pub decodes : ListsAll image Decodes pages
  pub owned : ListsAll image Owned owners
