-- The backups of a database, while sessions of an account work in it.
use Rattle.std.specs.Prelude.{ℕ, ◌≤◌, ◌≡◌, List, Some, None}
use Rattle.rdb_outside.specs.Disk.{View}
use Rattle.disk_line_store.specs.store_copies.Stood.{HasBackup, IsInUse, Stood}
use Rattle.rdb_account.specs.Events.{Event}
use Rattle.rdb_account.specs.Places.{Opening}
use Rattle.rdb_account.specs.Backups.{Counted, backups}
use Rattle.session_jobs.specs.Records.{Model}

-- Each image that a crash since a moment might have left, which isn't behind that of the reader's end, has the backup whole, of lines that stand for the tables that the reader saw; and rolled forward it gives what the image stands for.
pub record HoldsBackup (M : Model) (v : View) (number : ℕ) (c : Counted) : Type 0 where
  pub backup : Stood
  pub stands : M backup.lines c.tables
  pub since : ℕ
  pub by : since ≤ c.moment
  pub has : HasBackup v number since backup

-- so it is with each online backup that counts
abbrev pub HoldsBackups : Model → Opening → View → List Event → Type 0
HoldsBackups M o v events = (number : ℕ) (c : Counted) → (backups o events number).counted ≡ Some c → HoldsBackup M v number c

-- Each backup that stood before, in a database in use, stands, but for those of whose number a session began one.
abbrev pub LeavesBackups : Opening → (before behind : View) → List Event → Type 0
LeavesBackups o before behind events =
    IsInUse before → (number since : ℕ) (b : Stood) → (backups o events number).by ≡ None → HasBackup before number since b → HasBackup behind number since b

-- What stands in the former disk stands in this one.
pub record IsFormer (former v : View) : Type 0 where
  pub in_use : IsInUse former → IsInUse v
  pub stood : (number since : ℕ) (b : Stood) → HasBackup former number since b → HasBackup v number since b
