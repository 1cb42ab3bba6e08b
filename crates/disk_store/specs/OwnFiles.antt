-- Which files the calls of a store write.
use Rattle.std.specs.Prelude.{ℕ, ◌≡◌, Bool, true, false}
use Rattle.rdb_types.specs.declared.file.FileId.{FileId}
use Rattle.rdb_types.specs.declared.file.FileKind.{FileKind}
use Rattle.rdb_types.specs.declared.file.FileKind.TheVariants.{Root, Area, Snap, Ruj, Aij, Backup, AijBackup}
use Rattle.rdb_outside.specs.Disk.{View}
use Rattle.line_moves.specs.Calls.{OnlyWrites}

-- whether files of this kind are the database's own; backups aren't
abbrev pub is_own : FileKind → Bool
is_own Root = true
is_own Area = true
is_own Snap = true
is_own Ruj = true
is_own Aij = true
is_own Backup = false
is_own AijBackup = false

-- One slot at most is written, of a file that is the database's own.
pub record WritesOwn (old new : View) : Type 0 where
  pub file : FileId
  pub slot : ℕ
  pub own : is_own file.kind ≡ true
  pub only : OnlyWrites file slot old new
