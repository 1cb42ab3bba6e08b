-- Images of which a verification lists nothing.
use Rattle.std.specs.Prelude.{◌≡◌, List, []}
use Rattle.rdb_outside.specs.Disk.{Image}
use Rattle.stable_lines.specs.Journal.{Journal, IsJournalOf}
use Rattle.rmu_texts.specs.declared.faults.VerifyFault.{VerifyFault}
use Rattle.rmu_verify.specs.Verified.{AreFaults}

-- whatever list is that of the faults of its files, it is empty
abbrev pub HasNoFaults : Image → Type 0
HasNoFaults image = (journal : Journal) → IsJournalOf image journal → (faults : List VerifyFault) → AreFaults image journal.groups faults → faults ≡ []
