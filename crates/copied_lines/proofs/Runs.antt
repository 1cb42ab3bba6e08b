-- How a backup goes on, and what a crash leaves meanwhile.
use Rattle.std.specs.Prelude.{OnOk, OnErr, Ok, Err, is_ok}
use Rattle.std.proofs.Common.{◌≡◌, ℕ, ◌+◌, Bool, true, false, IsTrue, Result, List, [], ◌∷◌, ◌++◌, length, inl, inr, ⊎_elim, refl, sym, ap, subst, ◌∙◌, arith}
use Rattle.rdb_types.specs.declared.file.FileId.{FileId}
use Rattle.rdb_types.specs.declared.file.FileKind.TheVariants.{Root, Area, Ruj, Aij, Backup as BackupFile}
use Rattle.rdb_types.specs.declared.keys.Dbkey.{Dbkey}
use Rattle.rdb_outside.specs.Disk.{Image, View, LeftNow, Pending, LeavesOnly, IsPending, OnlyReads}
use Rattle.rdb_outside.specs.Moments.{each_slot, started, weaker}
use Rattle.new_database.specs.Maker.{root_file, aij_file}
use Rattle.backup_file.specs.declared.line.BackupLine.{BackupLine}
use Rattle.backup_making.specs.declared.making.Backup.{Backup}
use Rattle.backup_making.specs.declared.making.Stage.{Stage}
use Rattle.backup_making.specs.declared.making.Stage.TheVariants.{Open}
use Rattle.backup_making.specs.Making.{file_of, Former, head_of, Steps, StandsAt, IsOpen, IsAt}
use Rattle.backup_making.proofs.Stages.{no_head, keeps_open}
use Rattle.stable_lines.specs.Slots.{ruj_file, area_file}
use Rattle.stable_lines.specs.Progress.{Progress}
use Rattle.stable_lines.specs.Facts.{Facts}
use Rattle.stable_lines.proofs.Fewer.{all}
use Rattle.stable_lines.proofs.Stands.{stands}
use Rattle.line_moves.proofs.Runs.{facts_read}
use Rattle.copied_lines.specs.Copying.{Copying, SameAreas, IsStopped}

kinds : (a b : FileId) → a ≡ b → a.kind ≡ b.kind
kinds a b same = ap (λ (f : FileId). f.kind) same

-- the files of the database aren't backups
pub journal_apart : (member number : ℕ) → ruj_file member ≡ file_of number → ⊥
journal_apart member number same = let k : Ruj ≡ BackupFile = kinds (ruj_file member) (file_of number) same in cc

pub area_apart : (file number : ℕ) → area_file file ≡ file_of number → ⊥
area_apart file number same = let k : Area ≡ BackupFile = kinds (area_file file) (file_of number) same in cc

pub groups_apart : (number : ℕ) → aij_file ≡ file_of number → ⊥
groups_apart number same = let k : Aij ≡ BackupFile = kinds aij_file (file_of number) same in cc

pub root_apart : (number : ℕ) → root_file ≡ file_of number → ⊥
root_apart number same = let k : Root ≡ BackupFile = kinds root_file (file_of number) same in cc

-- ---- one step

module _ (number : ℕ) (old new : View) (done : Bool) (steps : Steps (file_of number) old new done) (t : IsTrue old.tells) where
  pub facts_step : (now : Progress) → Facts (Pending old) now → Facts (Pending new) now
  facts_step now was = all (Pending old) (Pending new) now (λ member h p. fewer (ruj_file member) 0 h (journal_apart member number) p) (λ member i x le p. fewer (ruj_file member) i x (journal_apart member number) p)
      (λ file i x p. fewer (area_file file) i x (area_apart file number) p) (λ i x p. fewer aij_file i x (groups_apart number) p) (λ x p. fewer root_file 0 x (root_apart number) p) was
    where
      fewer : (f : FileId) (i : ℕ) (x : List ℕ) → (f ≡ file_of number → ⊥) → Pending new f i x → Pending old f i x
      fewer f i x apart p = (steps.others t).pending f i x apart p

  pub same_step : (image : Image) → SameAreas image old.content → SameAreas image new.content
  same_step image was file slot = (steps.others t).content (area_file file) slot (area_apart file number) ∙ was file slot

  -- what a crash leaves at any moment of it
  pub leaves_step : (P : Image → Type 0) → ((image : Image) → LeftNow old image → P image) → ((image : Image) → LeftNow new image → P image) → LeavesOnly old new P
  leaves_step P before behind = record {
    told = steps.told;
    later = steps.later;
    each = λ image left. ⊎_elim (before image) (behind image) ((steps.time t).nothing_else old.moment image (omega arith) left);
    before = λ moment image le left. ⊎_elim (λ was. inl was) (λ here. inr (behind image here)) ((steps.time t).nothing_else moment image le left);
  }

-- ---- an opens backup

pub is_open : (former : Former) (v : View) (b : Backup) (lines : List BackupLine) → b.stage ≡ Open → IsAt former v b lines → IsOpen v (file_of b.number) lines
is_open former v b lines opens at = subst (λ (s : Stage). StandsAt former v (file_of b.number) (head_of b lines) lines s) opens at.stands

pub at_open : (former : Former) (v : View) (b : Backup) (lines : List BackupLine) → b.stage ≡ Open → b.lines ≡ length lines → IsOpen v (file_of b.number) lines → IsAt former v b lines
at_open former v b lines opens count is = record { count = count; stands = subst (λ (s : Stage). StandsAt former v (file_of b.number) (head_of b lines) lines s) (sym opens) is }

-- what a crash leaves of an opens backup
module _ (former : Former) (now : Progress) (v : View) (b : Backup) (lines : List BackupLine) (opens : b.stage ≡ Open) (at : IsAt former v b lines) (facts : Facts (Pending v) now) where
  stopped_at : (other : Image) → IsPending v other → IsStopped now b.number other
  stopped_at other each = record {
    stands = stands (Pending v) now facts other each;
    none = λ head is. no_head b.number (other (file_of b.number) 0) ((is_open former v b lines opens at).blank (other (file_of b.number) 0) (each (file_of b.number) 0)) head is;
  }

  stopped_left : (other : Image) → LeftNow v other → IsStopped now b.number other
  stopped_left other is = stopped_at other (each_slot v other is)

-- one step from one to another
pub stopped_step : (former : Former) (now : Progress) (old new : View) (b c : Backup) (done : Bool) (steps : Steps (file_of b.number) old new done) (t : IsTrue old.tells) (lines more : List BackupLine) → b.stage ≡ Open → c.stage ≡ Open → c.number ≡ b.number
    → IsAt former old b lines → IsAt former new c more → Facts (Pending old) now → LeavesOnly old new (IsStopped now b.number)
stopped_step former now old new b c done steps t lines more opens still same at is facts =
    leaves_step b.number old new done steps t (IsStopped now b.number) (stopped_left former now old b lines opens at facts)
    (λ other left. subst (λ (n : ℕ). IsStopped now n other) same (stopped_left former now new c more still is (facts_step b.number old new done steps t now facts) other left))

-- a line was put, or the call failed
pub stopped_put : {T E : Type 0} (former : Former) (now : Progress) (old new : View) (b c : Backup) (line : BackupLine) (result : Result T E) → Steps (file_of b.number) old new (is_ok result) → IsTrue old.tells → (lines : List BackupLine) → b.stage ≡ Open
    → OnOk result (c ≡ record b { lines = b.lines + 1 }) → IsAt former old b lines → OnOk result (IsAt former new c (lines ++ line ∷ [])) → OnErr result (IsAt former new b lines) → Facts (Pending old) now → LeavesOnly old new (IsStopped now b.number)
stopped_put former now old new b c line (Ok x) steps t lines opens same at done failed facts = stopped_step former now old new b c true steps t lines (lines ++ line ∷ []) opens (ap (λ (y : Backup). y.stage) same ∙ opens) (ap (λ (y : Backup). y.number) same) at done facts
stopped_put former now old new b c line (Err e) steps t lines opens same at done failed facts = stopped_step former now old new b b false steps t lines lines opens opens refl at failed facts

module _ (former : Former) (image : Image) (now : Progress) (left : Dbkey → Bool) (v : View) (b : Backup) (opens : b.stage ≡ Open) (was : Copying former image now left v b) where
  pub stopped_still : LeavesOnly v v (IsStopped now b.number)
  stopped_still = started v (IsStopped now b.number) (stopped_left former now v b was.lines opens was.at was.facts)

  -- a run that only reads
  module _ (new : View) (reads : OnlyReads v new) (t : IsTrue v.tells) where
    pub read_on : Copying former image now left new b
    read_on = record {
      lines = was.lines;
      at = at_open former new b was.lines opens was.at.count (keeps_open (file_of b.number) was.lines v new (reads.keeps t) (is_open former v b was.lines opens was.at));
      holds = was.holds;
      on_pages = was.on_pages;
      facts = facts_read v new reads t now was.facts;
      same = λ file slot. (reads.keeps t).content (area_file file) slot ∙ was.same file slot;
      whole = was.whole;
    }

    pub stopped_read : LeavesOnly v new (IsStopped now b.number)
    stopped_read = weaker v new (IsPending v) (IsStopped now b.number) (stopped_at former now v b was.lines opens was.at was.facts) (reads.leaves t)
