-- What stands in the slots of a journal on a disk.
use Rattle.std.specs.Prelude.{ℕ, zero, suc, ◌+◌, ◌≤◌, ◌≡◌, ◌⊎◌, List, [], ◌∷◌, map, Option}
use Rattle.rdb_outside.specs.rdb_types.declared.file.FileId.{FileId}
use Rattle.rdb_outside.specs.Disk.{Image, zeros}
use Rattle.journal_scan.specs.aij_journal.declared.part.AijPart.{AijPart}
use Rattle.journal_scan.specs.declared.scan.Scan.{Scan}
use Rattle.journal_scan.specs.declared.scan.Stage.TheVariants.{Ended}
use Rattle.journal_scan.specs.Reading.{begins_at, read_all}
use Rattle.journal_scan.specs.Standing.{what_stands}

-- from this slot on, all slots of the file are zeros
abbrev pub EndsBy : Image → FileId → ℕ → Type 0
EndsBy image file end = (slot : ℕ) → end ≤ slot → image file slot ≡ zeros file

-- the bytes of so many slots of the file, from this one on
abbrev pub slots_at : Image → FileId → ℕ → ℕ → List (List ℕ)
slots_at image file slot zero = []
slots_at image file slot (suc count) = image file slot ∷ slots_at image file (slot + 1) count

-- what stands in them
abbrev pub standing : Image → FileId → ℕ → ℕ → List (Option AijPart)
standing image file slot count = map what_stands (slots_at image file slot count)

-- The scan took the slots behind the header one by one, up to the file's length or until it ended.
pub record IsReadUpTo (image : Image) (file : FileId) (first end : ℕ) (scan : Scan) : Type 0 where
  pub count : ℕ
  pub read : scan ≡ read_all (begins_at 1 first) (standing image file 1 count)
  pub all : (end ≤ count + 1) ⊎ (scan.stage ≡ Ended)
