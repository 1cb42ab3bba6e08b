-- A journal begun anew, call by call.
use Rattle.std.proofs.Common.{◌≡◌, ℕ, IsTrue, List, sym, subst, ◌∙◌}
use Rattle.rdb_types.specs.declared.file.FileId.{FileId}
use Rattle.rdb_types.specs.declared.file.FileKind.TheVariants.{Ruj, Aij}
use Rattle.aij_journal.specs.Header.{IsHeader}
use Rattle.rdb_outside.specs.Disk.{View, LeftNow, Pending, LeavesOnly, IsStable, OnlyReads}
use Rattle.new_database.specs.Maker.{aij_file}
use Rattle.line_moves.specs.Calls.{OnlyWrites}
use Rattle.line_moves.proofs.Runs.{pends, facts_read, still_tells}
use Rattle.line_opening.proofs.Standing.{written_stands, read_stands, leaves_on}
use Rattle.stable_lines.specs.Slots.{ruj_file}
use Rattle.stable_lines.specs.Progress.{Progress, begun_anew, settled}
use Rattle.stable_lines.specs.Facts.{Facts, StandsAs}
use Rattle.stable_lines.specs.Steps.{NamesNone}
use Rattle.stable_lines.proofs.Anew.{begins_anew, settles}
use Rattle.database_opening.specs.Others.{KeepsFile}
use Rattle.database_opening.proofs.Others.{file_read, file_apart, file_on}
use Rattle.journal_anew.specs.Anew.{MayBeginAnew}

headers_apart : (member : ℕ) → ruj_file member ≡ aij_file → ⊥
headers_apart member same = let kind : Ruj ≡ Aij = (λ i. (same i).kind) in cc

-- before its header is written
pub anew_begins : (v : View) (now : Progress) (first : ℕ) → LeftNow v v.content → MayBeginAnew v now first → Facts (Pending v) (begun_anew first now)
anew_begins v now first left may = begins_anew (Pending v) now may.facts first may.above may.closed (λ member is. (v.content (ruj_file member) 0, pends v left (ruj_file member) 0)) may.former may.flight

pub closed_read : (old new : View) → OnlyReads old new → IsTrue old.tells → NamesNone (Pending old) → NamesNone (Pending new)
closed_read old new reads t closed member h is p = closed member h is ((reads.keeps t).pending (ruj_file member) 0 h p)

pub closed_beside : (old new : View) (file : FileId) → ((member : ℕ) → ruj_file member ≡ file → ⊥) → OnlyWrites file 0 old new → IsTrue old.tells → NamesNone (Pending old) → NamesNone (Pending new)
closed_beside old new file apart writes t closed member h is p = closed member h is (writes.pending t (ruj_file member) 0 h (λ same. absurd (apart member same)) p)

module _ (old mid : View) (t : IsTrue old.tells) (writes : OnlyWrites aij_file 0 old mid) where
  pub closed_written : NamesNone (Pending old) → NamesNone (Pending mid)
  closed_written = closed_beside old mid aij_file headers_apart writes t

  -- the header is written, or its write failed
  module _ (now : Progress) (first : ℕ) (left : LeftNow old old.content) (may : MayBeginAnew old now first) (keeps : Facts (Pending old) (begun_anew first now) → Facts (Pending mid) (begun_anew first now)) where
    before : Facts (Pending old) (begun_anew first now)
    before = anew_begins old now first left may

    pub written_leaves : LeavesOnly old mid (StandsAs (begun_anew first now))
    written_leaves = written_stands old mid aij_file 0 (begun_anew first now) writes t before (keeps before)

    -- and made stable
    module _ (new : View) (reads : OnlyReads mid new) where
      told : IsTrue mid.tells
      told = still_tells old mid writes.told t

      pub anew_leaves : LeavesOnly old new (StandsAs (begun_anew first now))
      anew_leaves = leaves_on old mid new (StandsAs (begun_anew first now)) written_leaves (read_stands mid new (begun_anew first now) reads told (keeps before))

      pub anew_settles : IsStable new → IsHeader (mid.content aij_file 0) first → Facts (Pending new) (settled (begun_anew first now))
      anew_settles stable is = settles (Pending new) (begun_anew first now) (facts_read mid new reads told (begun_anew first now) (keeps before))
          (λ x p. subst (λ (b : List ℕ). IsHeader b first) (sym (stable aij_file 0 x p ∙ (reads.keeps told).content aij_file 0)) is)

  module _ (new : View) (reads : OnlyReads mid new) where
    pub closed_anew : NamesNone (Pending old) → NamesNone (Pending new)
    closed_anew closed = closed_read mid new reads (still_tells old mid writes.told t) (closed_written closed)

    pub file_anew : (file : FileId) → (file ≡ aij_file → ⊥) → KeepsFile file old new
    file_anew file apart = file_on old mid new file (file_apart old mid aij_file 0 writes t file apart) (file_read mid new reads (still_tells old mid writes.told t) file)
