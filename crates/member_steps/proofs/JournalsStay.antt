-- A device call that writes no before-image journal.
use Rattle.std.proofs.Common.{◌≡◌, ◌≢◌, ◌⊎◌, inl, inr, ◌+◌, ℕ, IsTrue, sym, ap, ◌∙◌}
use Rattle.rdb_types.specs.declared.file.FileId.{FileId}
use Rattle.rdb_types.specs.declared.file.FileKind.TheVariants.{Aij, Area, Ruj}
use Rattle.rdb_outside.specs.Disk.{View}
use Rattle.area_files.specs.Areas.{IsDataPage}
use Rattle.disk_seats.specs.stable_lines.Slots.{area_file, ruj_file}
use Rattle.disk_seats.specs.line_moves.Calls.{OnlyWrites}

pub journals_beside : (v w : View) (file : FileId) (slot : ℕ) → IsTrue v.tells → file.kind ≢ Ruj → OnlyWrites file slot v w → (member i : ℕ) → w.content (ruj_file member) i ≡ v.content (ruj_file member) i
journals_beside v w file slot t other only member i = only.content t (ruj_file member) i (λ same at. other (ap (λ (f : FileId). f.kind) (sym same)))

-- a page or the after-image journal is written
pub no_journal : (file : FileId) (slot : ℕ) → ((n : ℕ) × (file ≡ area_file n) × IsDataPage (slot + 1)) ⊎ (file.kind ≡ Aij) → file.kind ≢ Ruj
no_journal file slot is bad = elim is [
  | inl area ↦ let k : Area ≡ Ruj = sym (ap (λ (f : FileId). f.kind) area.1) ∙ bad in cc
  | inr aij ↦ let k : Aij ≡ Ruj = sym aij ∙ bad in cc
]

-- such a file by its kind alone
pub area_or_journal : (file : FileId) (slot : ℕ) → ((n : ℕ) × (file ≡ area_file n) × IsDataPage (slot + 1)) ⊎ (file.kind ≡ Aij) → (file.kind ≡ Area) ⊎ (file.kind ≡ Aij)
area_or_journal file slot is = elim is [ inl area ↦ inl (ap (λ (f : FileId). f.kind) area.1) | inr aij ↦ inr aij ]
