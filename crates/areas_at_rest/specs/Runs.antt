-- Runs over a database at rest that only read.
use Rattle.std.specs.Prelude.{ℕ, ◌≡◌, ◌+◌, List, Result, IsErrOf, IsTrue}
use Rattle.rdb_types.specs.declared.file.FileId.{FileId}
use Rattle.rdb_outside.specs.Disk.{Image, View, OnlyReads}
use Rattle.rdb_outside.specs.Causes.{Rose}
use Rattle.journal_scan.specs.declared.group.Group.{Group}
use Rattle.line_view.specs.Knowledge.{Lines}
use Rattle.stable_lines.specs.Image.{StandsFor}
use Rattle.page_faults.specs.Checks.{Passes}
use Rattle.before_images.specs.Before.{LaysLines}
use Rattle.lines_at_rest.specs.declared.reading.FaultyPages.{FaultyPages}
use Rattle.lines_at_rest.specs.declared.reading.FaultyPages.TheVariants.{Refused}
use Rattle.lines_at_rest.specs.declared.reading.RestReading.{RestReading}
use Rattle.lines_at_rest.specs.Left.{IsPageSlot, IsReadAs}
use Rattle.line_opening.specs.declared.fault.OpeningFault.{OpeningFault}
use Rattle.line_opening.specs.declared.fault.OpeningFault.TheVariants.{Failed, Bad}

-- It wrote nothing at any moment. It gave up only where a call failed, memory was wanted, or such pages are refused and that one fails its decoder.
pub record IsQuiet {T : Type 0} (faulty : FaultyPages) (old new : View) (result : Result T OpeningFault) : Type 0 where
  pub reads : OnlyReads old new
  pub failed : IsErrOf result Failed → Rose old.faults new.faults
  pub refused : (file : FileId) (slot : ℕ) → IsErrOf result (Bad file slot) → (faulty ≡ Refused) × IsPageSlot file slot
  pub bad : (file : FileId) (slot : ℕ) → IsErrOf result (Bad file slot) → IsTrue old.tells → Passes file.number (slot + 1) (old.content file slot) → ⊥

-- of the map of lines that the disk's content stands for as it is read, with these before-images laid over it
abbrev pub AtRest : View → RestReading → (Lines → Type 0) → Type 0
AtRest view held P = IsTrue view.tells → (left : Image) → IsReadAs held.faulty view.content left → (groups : List Group) (lines : Lines) → LaysLines left groups held.before → StandsFor left groups lines → P lines
