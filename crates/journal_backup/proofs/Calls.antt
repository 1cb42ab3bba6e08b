-- Calls that write the copy alone keep the facts of the database.
use Rattle.std.specs.Prelude.{OnOk, OnErr, Ok, Err}
use Rattle.std.proofs.Common.{◌≡◌, ◌≢◌, ℕ, zero, suc, ◌+◌, ◌<◌, ◌≤◌, IsTrue, Result, ◌⊎◌, inl, inr, sym, ◌∙◌, ap, arith}
use Rattle.rdb_types.specs.declared.file.FileId.{FileId}
use Rattle.rdb_types.specs.declared.file.FileKind.TheVariants.{Root, Area, Ruj, Aij, AijBackup}
use Rattle.rdb_outside.specs.Disk.{Image, View, Pending, LeavesOnly, OnlyReads, zeros}
use Rattle.new_database.specs.Maker.{root_file, aij_file}
use Rattle.line_moves.specs.Calls.{OnlyWrites}
use Rattle.line_opening.proofs.Standing.{written_stands, read_stands, leaves_on}
use Rattle.stable_lines.specs.Slots.{ruj_file, area_file}
use Rattle.stable_lines.specs.Progress.{Progress}
use Rattle.stable_lines.specs.Facts.{Facts, StandsAs}
use Rattle.stable_lines.proofs.Fewer.{all}
use Rattle.database_opening.specs.Others.{KeepsFile}
use Rattle.database_opening.proofs.Others.{file_read, file_apart, file_on}
use Rattle.journal_backup.specs.Copied.{copy_named}

-- ---- the files of the database aren't copies

pub journal_apart : (member number : ℕ) → ruj_file member ≢ copy_named number
journal_apart member number same = let kind : Ruj ≡ AijBackup = ap (λ (f : FileId). f.kind) same in cc

area_apart : (file number : ℕ) → area_file file ≢ copy_named number
area_apart file number same = let kind : Area ≡ AijBackup = ap (λ (f : FileId). f.kind) same in cc

pub groups_apart : (number : ℕ) → aij_file ≢ copy_named number
groups_apart number same = let kind : Aij ≡ AijBackup = ap (λ (f : FileId). f.kind) same in cc

root_apart : (number : ℕ) → root_file ≢ copy_named number
root_apart number same = let kind : Root ≡ AijBackup = ap (λ (f : FileId). f.kind) same in cc

pub copies_apart : (number : ℕ) → copy_named number ≢ aij_file
copies_apart number same = groups_apart number (sym same)

abbrev pub KeepsAll : ℕ → View → View → Type 0
KeepsAll number old new = (file : FileId) → file ≢ copy_named number → KeepsFile file old new

pub facts_beside : (number : ℕ) (old new : View) → KeepsAll number old new → (now : Progress) → Facts (Pending old) now → Facts (Pending new) now
facts_beside number old new keeps now was = all (Pending old) (Pending new) now
    (λ member h p. (keeps (ruj_file member) (journal_apart member number)).pending 0 h p)
    (λ member i x le p. (keeps (ruj_file member) (journal_apart member number)).pending i x p)
    (λ file i x p. (keeps (area_file file) (area_apart file number)).pending i x p)
    (λ i x p. (keeps aij_file (groups_apart number)).pending i x p)
    (λ x p. (keeps root_file (root_apart number)).pending 0 x p) was

-- ---- runs, one behind another

pub keeps_on : (number : ℕ) (old mid new : View) → KeepsAll number old mid → KeepsAll number mid new → KeepsAll number old new
keeps_on number old mid new first behind file apart = file_on old mid new file (first file apart) (behind file apart)

pub keeps_read : (number : ℕ) (old new : View) → OnlyReads old new → IsTrue old.tells → KeepsAll number old new
keeps_read number old new reads t file apart = file_read old new reads t file

pub keeps_written : (number : ℕ) (old new : View) (slot : ℕ) → OnlyWrites (copy_named number) slot old new → IsTrue old.tells → KeepsAll number old new
keeps_written number old new slot writes t file apart = file_apart old new (copy_named number) slot writes t file apart

abbrev pub Stands : View → View → Type 0
Stands old new = (now : Progress) → Facts (Pending old) now → LeavesOnly old new (StandsAs now)

pub stands_read : (old new : View) → OnlyReads old new → IsTrue old.tells → Stands old new
stands_read old new reads t now facts = read_stands old new now reads t facts

pub stands_written : (number : ℕ) (old new : View) (slot : ℕ) → OnlyWrites (copy_named number) slot old new → IsTrue old.tells → Stands old new
stands_written number old new slot writes t now facts = written_stands old new (copy_named number) slot now writes t facts (facts_beside number old new (keeps_written number old new slot writes t) now facts)

pub stands_on : (number : ℕ) (old mid new : View) → KeepsAll number old mid → Stands old mid → Stands mid new → Stands old new
stands_on number old mid new keeps first behind now facts = leaves_on old mid new (StandsAs now) (first now facts) (behind now (facts_beside number old mid keeps now facts))

-- what a write leaves in the content
pub either_way : {T E : Type 0} (A B C : Type 0) (result : Result T E) → OnOk result (A → C) → OnErr result (A → B ⊎ C) → A → B ⊎ C
either_way A B C (Ok x) is failed given = inr (is given)
either_way A B C (Err e) is failed given = failed given

-- ---- what was copied

-- the slots of the copy from this one on, up to that, have what the journal had
abbrev pub AreCopied : ℕ → ℕ → ℕ → Image → Image → Type 0
AreCopied number from end old new = (slot : ℕ) → from ≤ slot → slot < end → new (copy_named number) slot ≡ old aij_file slot

-- one slot more
pub copied_more : (number at : ℕ) (old mid new : View) → KeepsAll number old mid → OnlyWrites (copy_named number) at mid new → IsTrue mid.tells → new.content (copy_named number) at ≡ mid.content aij_file at → AreCopied number 1 at old.content mid.content → AreCopied number 1 (at + 1) old.content new.content
copied_more number at old mid new keeps writes t here before slot first less = by (cases slot at)
  where
    cases : (a b : ℕ) → (a < b) ⊎ (b ≤ a)
    cases a b = grind arith

    by : (slot < at) ⊎ (at ≤ slot) → new.content (copy_named number) slot ≡ old.content aij_file slot
    by (inl earlier) = writes.content t (copy_named number) slot (λ same is. let bad : slot ≡ at = is in absurd (omega (arith, bad, earlier))) ∙ before slot first earlier
    by (inr past) = let is : slot ≡ at = omega (arith, less, past) in
        ap (λ (n : ℕ). new.content (copy_named number) n) is ∙ here ∙ (keeps aij_file (groups_apart number)).content at ∙ ap (λ (n : ℕ). old.content aij_file n) (sym is)

-- all of them, once the header is copied: behind the slots, a barrier, the header, and a barrier
pub copied_whole : (number end : ℕ) (old blanked slots sure headed new : View) → KeepsAll number old blanked → KeepsAll number old sure → AreCopied number 1 end blanked.content slots.content → OnlyReads slots sure → IsTrue slots.tells → OnlyWrites (copy_named number) 0 sure headed → IsTrue sure.tells
    → headed.content (copy_named number) 0 ≡ sure.content aij_file 0 → OnlyReads headed new → IsTrue headed.tells → (slot : ℕ) → slot < end → new.content (copy_named number) slot ≡ old.content aij_file slot
copied_whole number end old blanked slots sure headed new before keeps copied reads told writes then_told header last last_told zero less =
    (last.keeps last_told).content (copy_named number) 0 ∙ header ∙ (keeps aij_file (groups_apart number)).content 0
copied_whole number end old blanked slots sure headed new before keeps copied reads told writes then_told header last last_told (suc n) less =
    (last.keeps last_told).content (copy_named number) (suc n) ∙ writes.content then_told (copy_named number) (suc n) (λ same is. let bad : suc n ≡ 0 = is in absurd (omega (arith, bad)))
    ∙ (reads.keeps told).content (copy_named number) (suc n) ∙ copied (suc n) (omega arith) less ∙ (before aij_file (groups_apart number)).content (suc n)

-- ---- zeros behind what was copied

abbrev pub IsEndedAt : ℕ → ℕ → Image → Type 0
IsEndedAt number end image = image (copy_named number) end ≡ zeros (copy_named number)

-- they stay while the header is copied
pub ended_whole : (number end : ℕ) (slots sure headed new : View) → 1 ≤ end → IsEndedAt number end slots.content → OnlyReads slots sure → IsTrue slots.tells → OnlyWrites (copy_named number) 0 sure headed → IsTrue sure.tells
    → OnlyReads headed new → IsTrue headed.tells → IsEndedAt number end new.content
ended_whole number end slots sure headed new first ended reads told writes then_told last last_told =
    (last.keeps last_told).content (copy_named number) end ∙ writes.content then_told (copy_named number) end (λ same is. let bad : end ≡ 0 = is in absurd (omega (arith, first, bad)))
    ∙ (reads.keeps told).content (copy_named number) end ∙ ended

-- the slots stay while they are written
pub copied_still : (number end : ℕ) (old mid new : View) → AreCopied number 1 end old.content mid.content → OnlyWrites (copy_named number) end mid new → IsTrue mid.tells → AreCopied number 1 end old.content new.content
copied_still number end old mid new copied writes told slot first less =
    writes.content told (copy_named number) slot (λ same is. let bad : slot ≡ end = is in absurd (omega (arith, less, bad))) ∙ copied slot first less
