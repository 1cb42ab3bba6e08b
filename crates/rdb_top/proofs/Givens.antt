-- The words are in one row of the table.
use Rattle.std.proofs.Common.{◌≡◌, ℕ, Option, Some, arith}
use Rattle.command_words.specs.declared.words.Scripts.{Scripts}
use Rattle.command_words.specs.declared.words.Command.{Command}
use Rattle.command_words.specs.declared.words.Command.TheVariants.{Rdo, Workload, Backup, BackupJournal, Restore}

pub same-given : (a b : Scripts) (x : Option Command) → Some (Rdo a) ≡ x → x ≡ Some (Rdo b) → a ≡ b
same-given a b x h k = grind arith

pub same-backup : (a b : ℕ) (x : Option Command) → Some (Backup a) ≡ x → x ≡ Some (Backup b) → a ≡ b
same-backup a b x h k = grind arith

pub same-copy : (a b : ℕ) (x : Option Command) → Some (BackupJournal a) ≡ x → x ≡ Some (BackupJournal b) → a ≡ b
same-copy a b x h k = grind arith

pub same-restore : (a b : ℕ) (x : Option Command) → Some (Restore a) ≡ x → x ≡ Some (Restore b) → a ≡ b
same-restore a b x h k = grind arith

pub same-workload : (a b : ℕ) (x : Option Command) → Some (Workload a) ≡ x → x ≡ Some (Workload b) → a ≡ b
same-workload a b x h k = grind arith
