-- The first lines of a backup.
use Rattle.std.proofs.Common.{◌≡◌, ℕ, ◌+◌, ◌≤◌, ◌<◌, true, List, [], ◌∷◌, ◌++◌, length, Some, slice_get, refl, sym, ap, subst, ◌∙◌, append_assoc, arith}
use Rattle.std.proofs.lemmas.Bool.{and_parts, and_from}
use Rattle.std.proofs.lemmas.List.{length-append}
use Rattle.std.specs.FinMap.Entries.{is_sorted, below_all}
use Rattle.rdb_types.specs.Order.{dbkey_order}
use Rattle.rdb_types.specs.declared.keys.Dbkey.{Dbkey}
use Rattle.rdb_outside.specs.Disk.{Image}
use Rattle.stable_lines.proofs.Lists.{got_left, got_right}
use Rattle.backup_file.specs.declared.header.BackupHead.{BackupHead}
use Rattle.backup_file.specs.declared.line.BackupLine.{BackupLine}
use Rattle.backup_file.specs.Whole.{lines_in}
use Rattle.backup_reading.specs.Reading.{IsBackupOf}
use Rattle.rmu_restore.specs.Laying.{HasLaid, MayJoin}

below_front : (key : Dbkey) (xs ys : List BackupLine) → below_all dbkey_order key (lines_in (xs ++ ys)) ≡ true → below_all dbkey_order key (lines_in xs) ≡ true
below_front key [] ys below = refl
below_front key (x ∷ xs) ys below = let parts = and_parts _ _ below in and_from _ _ parts.0 (below_front key xs ys parts.1)

sorted_front : (xs ys : List BackupLine) → is_sorted dbkey_order (lines_in (xs ++ ys)) ≡ true → is_sorted dbkey_order (lines_in xs) ≡ true
sorted_front [] ys sorted = refl
sorted_front (x ∷ xs) ys sorted = let parts = and_parts _ _ sorted in and_from _ _ (below_front x.key xs ys parts.0) (sorted_front xs ys parts.1)

-- so many of the lines stand
pub record LaidTo (pages greatest count : ℕ) (lines : List BackupLine) (image : Image) : Type 0 where
  pub front : List BackupLine
  pub rest : List BackupLine
  pub split : lines ≡ front ++ rest
  pub long : length front ≡ count
  pub laid : HasLaid pages greatest front image

pub laid_none : (pages greatest : ℕ) (lines : List BackupLine) (image : Image) → HasLaid pages greatest [] image → LaidTo pages greatest 0 lines image
laid_none pages greatest lines image none = record { front = []; rest = lines; split = refl; long = refl; laid = none }

-- the next line
pub record IsNext (front rest : List BackupLine) : Type 0 where
  pub line : BackupLine
  pub behind : List BackupLine
  pub is : rest ≡ line ∷ behind

pub next_line : (lines front rest : List BackupLine) → lines ≡ front ++ rest → length front < length lines → IsNext front rest
next_line lines front [] split less = absurd (let long : length lines ≡ length front + length {A = BackupLine} [] = ap length split ∙ length-append front [] in omega (arith, long, less))
next_line lines front (line ∷ behind) split less = record { line = line; behind = behind; is = refl }

module _ (lines front rest : List BackupLine) (split : lines ≡ front ++ rest) (next : IsNext front rest) where
  pub split_more : lines ≡ (front ++ next.line ∷ []) ++ next.behind
  split_more = split ∙ ap (λ (r : List BackupLine). front ++ r) next.is ∙ sym (append_assoc front (next.line ∷ []) next.behind)

  pub next_at : slice_get lines (length front) ≡ Some next.line
  next_at =
      let there : slice_get (front ++ rest) (length front + 0) ≡ Some next.line = got_right front rest 0 next.line (ap (λ (r : List BackupLine). slice_get r 0) next.is) in
      let same : length front + 0 ≡ length front = omega arith in
      ap (λ (ls : List BackupLine). slice_get ls (length front)) split ∙ subst (λ (n : ℕ). slice_get (front ++ rest) n ≡ Some next.line) same there

  pub joins : (image : Image) (number : ℕ) (head : BackupHead) → IsBackupOf image number head lines → MayJoin head.limits.pages front next.line
  joins image number head is = record {
    page = is.whole.on_pages (length front) next.line next_at;
    in_order = sorted_front (front ++ next.line ∷ []) next.behind (subst (λ (ls : List BackupLine). is_sorted dbkey_order (lines_in ls) ≡ true) split_more is.whole.in_order);
    share = λ i k a b file got also. is.whole.share i k a b file (whole i a got) (whole k b also);
    on_pages = λ i l got. is.whole.on_pages i l (ap (λ (ls : List BackupLine). slice_get ls i) split ∙ got_left front rest i l got);
  }
    where
      whole : (i : ℕ) (a : BackupLine) → slice_get (front ++ next.line ∷ []) i ≡ Some a → slice_get lines i ≡ Some a
      whole i a got = ap (λ (ls : List BackupLine). slice_get ls i) split_more ∙ got_left (front ++ next.line ∷ []) next.behind i a got

  pub laid_next : (pages greatest count : ℕ) (image : Image) → length front ≡ count → HasLaid pages greatest (front ++ next.line ∷ []) image → LaidTo pages greatest (count + 1) lines image
  laid_next pages greatest count image long laid = record { front = front ++ next.line ∷ []; rest = next.behind; split = split_more; long = length-append front (next.line ∷ []) ∙ ap (λ (n : ℕ). n + 1) long; laid = laid }

-- all of them
pub laid_all : (pages greatest count : ℕ) (lines : List BackupLine) (image : Image) → length lines ≤ count → LaidTo pages greatest count lines image → HasLaid pages greatest lines image
laid_all pages greatest count lines image le was = by was.rest was.split
  where
    by : (rest : List BackupLine) → lines ≡ was.front ++ rest → HasLaid pages greatest lines image
    by [] split = subst (λ (ls : List BackupLine). HasLaid pages greatest ls image) (sym (split ∙ none was.front)) was.laid
      where
        none : (xs : List BackupLine) → xs ++ [] ≡ xs
        none [] = refl
        none (x ∷ xs) = ap (λ (ys : List BackupLine). x ∷ ys) (none xs)
    by (line ∷ behind) split = absurd (let long : length lines ≡ length was.front + length (line ∷ behind) = ap length split ∙ length-append was.front (line ∷ behind) in let front = was.long in omega (arith, long, front, le))
