-- File after file becomes zeros.
use Rattle.std.proofs.Common.{◌≡◌, ℕ, ◌+◌, ◌≤◌, ◌<◌, ◌⊎◌, ⊎_elim, IsTrue, sym, ap, subst, ◌∙◌, arith}
use Rattle.rdb_types.specs.declared.file.FileId.{FileId}
use Rattle.rdb_types.specs.declared.file.FileKind.TheVariants.{Area, Ruj}
use Rattle.rdb_outside.specs.Disk.{View, zeros}
use Rattle.stable_lines.specs.Slots.{area_file, ruj_file}
use Rattle.line_moves.proofs.Runs.{still_tells}
use Rattle.guarded_root.specs.Guarded.{IsFile, RunsBehind}
use Rattle.guarded_root.proofs.Sweeping.{no_run, run_on, wider_run}
use Rattle.rmu_restore.specs.Laying.{IsJournal, IsBlank}

-- the files before this one are zeros
pub record Blanks (may : FileId → Type 0) (file : ℕ → FileId) (end : ℕ) (old new : View) : Type 0 where
  pub runs : RunsBehind may old new
  pub blank : IsTrue old.tells → (k slot : ℕ) → 1 ≤ k → k < end → new.content (file k) slot ≡ zeros (file k)

pub blanks_none : (may : FileId → Type 0) (file : ℕ → FileId) (v : View) → Blanks may file 1 v v
blanks_none may file v = record { runs = no_run may v; blank = λ t k slot from less. absurd (omega (arith, from, less)) }

module _ (may : FileId → Type 0) (file : ℕ → FileId) (at : ℕ) (swept : FileId) (old mid new : View) (is : swept ≡ file at) (one : (a b : ℕ) → file a ≡ file b → a ≡ b) (written : (k : ℕ) → may (file k)) (run : RunsBehind (IsFile swept) mid new) where
  pub file_run : RunsBehind may mid new
  file_run = wider_run (IsFile swept) may mid new (λ other same. subst may (sym (same ∙ is)) (written at)) run

  pub blanks_more : Blanks may file at old mid → (IsTrue mid.tells → (slot : ℕ) → new.content swept slot ≡ zeros swept) → Blanks may file (at + 1) old new
  blanks_more was now = record {
    runs = run_on may old mid new was.runs file_run;
    blank = λ t k slot from less. ⊎_elim
        (λ (lt : k < at). (run.others (told t) (file k) (λ same. absurd (let bad : k ≡ at = one k at (same ∙ is) in omega (arith, bad, lt)))).content slot ∙ was.blank t k slot from lt)
        (λ (same : k ≡ at). subst (λ (n : ℕ). new.content (file n) slot ≡ zeros (file n)) (sym same) (subst (λ (f : FileId). new.content f slot ≡ zeros f) is (now (told t) slot))) (cases k at less);
  }
    where
      told : IsTrue old.tells → IsTrue mid.tells
      told t = still_tells old mid was.runs.told t

      cases : (k at : ℕ) → k < at + 1 → (k < at) ⊎ (k ≡ at)
      cases k at less = grind (arith, less)

pub one_area : (a b : ℕ) → area_file a ≡ area_file b → a ≡ b
one_area a b same = ap (λ (f : FileId). f.number) same

pub one_journal_file : (a b : ℕ) → ruj_file a ≡ ruj_file b → a ≡ b
one_journal_file a b same = ap (λ (f : FileId). f.number) same

-- both kinds
module _ (old mid new : View) (t : IsTrue old.tells) (told : IsTrue mid.tells) (areas : (file slot : ℕ) → 1 ≤ file → file < 4 → mid.content (area_file file) slot ≡ zeros (area_file file)) (run : RunsBehind IsJournal mid new)
    (journals : (member slot : ℕ) → 1 ≤ member → member < 17 → new.content (ruj_file member) slot ≡ zeros (ruj_file member)) where
  area_apart : (f : ℕ) → IsJournal (area_file f) → ⊥
  area_apart f is = let bad : Area ≡ Ruj = is in cc

  pub is_blank : IsBlank new.content
  is_blank = record {
    area = λ f slot is. (run.others told (area_file f) (area_apart f)).content slot ∙ areas f slot is.first (let last = is.last in omega (arith, last));
    journal = λ m slot is. journals m slot is.first (let last = is.last in omega (arith, last));
  }
