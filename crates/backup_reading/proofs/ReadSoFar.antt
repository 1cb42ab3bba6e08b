-- Lines read from a backup, so far and all.
use Rattle.std.proofs.Common.{◌≡◌, ℕ, ◌+◌, ◌<◌, List, [], ◌∷◌, ◌++◌, length, Some, slice_get, ⊎_elim, refl, sym, ap, subst, ◌∙◌, arith}
use Rattle.std.proofs.lemmas.List.{length-append}
use Rattle.std.proofs.lemmas.Option.{slice_get_within}
use Rattle.rdb_outside.specs.Disk.{Image}
use Rattle.stable_lines.proofs.Lists.{got_either, got_one}
use Rattle.line_moves.proofs.FilledPages.{some_there}
use Rattle.backup_file.specs.declared.header.BackupHead.{BackupHead}
use Rattle.backup_file.specs.declared.line.BackupLine.{BackupLine}
use Rattle.backup_file.specs.Header.{IsHead}
use Rattle.backup_file.specs.Line.{IsBackupLine}
use Rattle.backup_file.specs.Whole.{AreLines}
use Rattle.backup_file.proofs.Readings.{one_head, one_line}
use Rattle.backup_making.specs.Making.{file_of, slots_of}
use Rattle.root_file.specs.Root.{AreLimits}
use Rattle.backup_reading.specs.declared.passing.Passed.{Passed}
use Rattle.backup_reading.specs.declared.reading.ReadBackup.{ReadBackup}
use Rattle.backup_reading.specs.Passing.{AreFitting, ArePassed, GoesOn}
use Rattle.backup_reading.specs.Reading.{IsBackupOf, IsRead, ReadsLines}

-- So many lines were read, and passed.
pub record ReadsTo (image : Image) (tells : Type 0) (number pages count : ℕ) (state : Passed) : Type 0 where
  pub lines : List BackupLine
  pub long : length lines ≡ count
  pub each : tells → AreLines (slots_of image (file_of number)) lines
  pub passed : ArePassed pages lines state

pub reads_none : (image : Image) (tells : Type 0) (number pages : ℕ) (passed : Passed) → ArePassed pages [] passed → ReadsTo image tells number pages 0 passed
reads_none image tells number pages passed none = record { lines = []; long = refl; each = λ t i l got. absurd (nothing i l got); passed = none }
  where
    nothing : (i : ℕ) (l : BackupLine) → slice_get [] i ≡ Some l → ⊥
    nothing i l got = cc

pub reads_more : (image : Image) (tells : Type 0) (number pages count : ℕ) (old new : Passed) (line : BackupLine) → (was : ReadsTo image tells number pages count old) → (tells → IsBackupLine (image (file_of number) (count + 1)) (count + 1) line)
    → ArePassed pages (was.lines ++ line ∷ []) new → ReadsTo image tells number pages (count + 1) new
reads_more image tells number pages count old new line was here passed = record {
  lines = was.lines ++ line ∷ [];
  long = length-append was.lines (line ∷ []) ∙ ap (λ (n : ℕ). n + 1) was.long;
  each = λ t i l got. ⊎_elim (λ before. was.each t i l before) (λ it. at t i l it.0 it.1 it.2) (got_either was.lines (line ∷ []) i l got);
  passed = passed;
}
  where
    at : tells → (i : ℕ) (l : BackupLine) (k : ℕ) → i ≡ length was.lines + k → slice_get (line ∷ []) k ≡ Some l → IsBackupLine (image (file_of number) (i + 1)) (i + 1) l
    at t i l k place got =
        let one = got_one line l k got in let none = one.0 in let long = was.long in
        let same : count ≡ i = omega (arith, place, none, long) in
        subst (λ (n : ℕ). IsBackupLine (image (file_of number) (n + 1)) (n + 1) l) same (subst (IsBackupLine (image (file_of number) (count + 1)) (count + 1)) one.1 (here t))

-- all of them
pub reads_all : (image : Image) (tells : Type 0) (number : ℕ) (head : BackupHead) (passed : Passed) → ReadsTo image tells number head.limits.pages head.lines passed → tells → ReadsLines image number head passed.greatest
reads_all image tells number head passed was t = record { lines = was.lines; count = sym was.long; each = was.each t; fit = was.passed.fit; below = was.passed.greatest }

pub is_read : (image : Image) (number : ℕ) (read : ReadBackup) → IsHead (image (file_of number) 0) read.head → read.head.format ≡ 1 → AreLimits read.head.limits → ReadsLines image number read.head read.greatest → IsRead image number read
is_read image number read header format limits lines = record {
  lines = lines.lines;
  is = record {
    stores = record { header = header; count = lines.count; each = lines.each };
    whole = record { format = format; limits = limits; in_order = lines.fit.in_order; on_pages = lines.fit.on_pages; share = lines.fit.share };
  };
  greatest = lines.below;
}

-- ---- a whole backup

module _ (image : Image) (number : ℕ) (head other : BackupHead) (lines : List BackupLine) (is : IsBackupOf image number other lines) (header : IsHead (image (file_of number) 0) head) where
  pub its_head : other ≡ head
  its_head = one_head (image (file_of number) 0) other head is.stores.header header

  pub fit : AreFitting head.limits.pages lines
  fit = subst (λ (h : BackupHead). AreFitting h.limits.pages lines) its_head (record { in_order = is.whole.in_order; on_pages = is.whole.on_pages; share = is.whole.share })

  its_line : (index : ℕ) → index < head.lines → (line : BackupLine) × (slice_get lines index ≡ Some line)
  its_line index within = some_there lines index (let count = is.stores.count in let same = ap (λ (h : BackupHead). h.lines) its_head in omega (arith, within, count, same))

  -- each slot that it counts is a line
  pub line_there : (index : ℕ) → index < head.lines → ((line : BackupLine) → IsBackupLine (image (file_of number) (index + 1)) (index + 1) line → ⊥) → ⊥
  line_there index within none = let it = its_line index within in none it.0 (is.stores.each index it.0 it.1)

  -- what was read is the beginning of it
  pub goes_on : (tells : Type 0) (pages index : ℕ) (passed : Passed) (line : BackupLine) → (was : ReadsTo image tells number pages index passed) → tells → index < head.lines → IsBackupLine (image (file_of number) (index + 1)) (index + 1) line → GoesOn was.lines lines line
  goes_on tells pages index passed line was t within here = record {
    begins = λ i a got.
        let within_i = slice_get_within was.lines i a got in let long = was.long in
        let it = its_line i (omega (arith, within_i, long, within)) in
        it.1 ∙ ap Some (one_line (image (file_of number) (i + 1)) (i + 1) (i + 1) it.0 a (is.stores.each i it.0 it.1) (was.each t i a got));
    next = let it = its_line index within in
        ap (λ (n : ℕ). slice_get lines n) was.long ∙ it.1 ∙ ap Some (one_line (image (file_of number) (index + 1)) (index + 1) (index + 1) it.0 line (is.stores.each index it.0 it.1) here);
  }
