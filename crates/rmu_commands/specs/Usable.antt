-- What a database has to have, so that a command reads it.
use Rattle.std.specs.Prelude.{◌≡◌, ◌⊎◌, ℕ}
use Rattle.rdb_outside.specs.Disk.{Image}
use Rattle.root_file.specs.declared.Root.{Root}
use Rattle.root_file.specs.Root.{IsRoot}
use Rattle.new_database.specs.Maker.{root_file}
use Rattle.stable_lines.specs.Slots.{IsMember, ruj_file}
use Rattle.stable_lines.specs.Kept.{IsRujHeader}
use Rattle.stable_lines.specs.Journal.{Journal, IsJournalOf}
use Rattle.line_opening.specs.declared.fault.OpeningFault.{OpeningFault}
use Rattle.line_opening.specs.declared.fault.OpeningFault.TheVariants.{Failed, NoMemory, Bad}
use Rattle.database_dump.specs.Dumpable.{IsDumpable}

-- a root whose database is whole, or restored and not yet used
pub record HasRootInUse (image : Image) : Type 0 where
  pub root : Root
  pub is : IsRoot (image root_file 0) root
  pub state : (root.state ≡ 1) ⊎ (root.state ≡ 3)

-- and the headers of all journals
pub record IsUsable (image : Image) : Type 0 where
  pub root : HasRootInUse image
  pub headers : (member : ℕ) → IsMember member → IsRujHeader (image (ruj_file member) 0)
  pub journal : Journal
  pub has_journal : IsJournalOf image journal

-- and pages that pass their decoders, and a catalog
pub record IsDumped (image : Image) : Type 0 where
  pub root : HasRootInUse image
  pub holds : IsDumpable image

-- the status of a command that gave up
abbrev pub status_at : OpeningFault → ℕ
status_at Failed = 3
status_at NoMemory = 5
status_at (Bad file slot) = 4
