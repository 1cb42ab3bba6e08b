-- The first bytes of a slot of zeros.
use Rattle.std.specs.Prelude.{ℕ, ◌≡◌, ◌≤◌, take, replicate}
use Rattle.std.proofs.Common.{ap, arith, ◌∙◌}
use Rattle.std.proofs.lemmas.List.{take-replicate}
use Rattle.rdb_outside.specs.rdb_types.declared.file.FileId.{FileId}
use Rattle.rdb_outside.specs.rdb_types.declared.file.FileKind.{FileKind}
use Rattle.rdb_outside.specs.rdb_types.declared.file.FileKind.TheVariants.{Root, Area, Snap, Ruj, Aij, Backup, AijBackup}
use Rattle.rdb_outside.specs.rdb_types.File.{bytes_of_kind, slot_bytes}
use Rattle.rdb_outside.specs.Disk.{zeros}

kind_fits : (kind : FileKind) → bytes_of_kind kind ≤ 1024
kind_fits Root = omega arith
kind_fits Area = omega arith
kind_fits Snap = omega arith
kind_fits Ruj = omega arith
kind_fits Aij = omega arith
kind_fits Backup = omega arith
kind_fits AijBackup = omega arith

pub slot_fits : (file : FileId) → slot_bytes file ≤ 1024
slot_fits file = kind_fits file.kind

pub zero_slot : (file : FileId) (n : ℕ) → n ≡ slot_bytes file → take n (replicate 1024 0) ≡ zeros file
zero_slot file n size = ap (λ (k : ℕ). take k (replicate 1024 0)) size ∙ take-replicate (slot_bytes file) 1024 0 (slot_fits file)
