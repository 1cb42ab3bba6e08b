-- One step of a backup without a line.
use Rattle.std.specs.Prelude.{OnOk, OnErr, Ok, Err, is_ok}
use Rattle.std.proofs.Common.{◌≡◌, ℕ, true, false, IsTrue, Result, List, [], None, ◌⊎◌, refl, sym, ap, subst, ◌∙◌}
use Rattle.rdb_types.specs.declared.keys.Limits.{Limits}
use Rattle.rdb_outside.specs.Disk.{View, Pending, LeavesOnly}
use Rattle.backup_file.specs.declared.line.BackupLine.{BackupLine}
use Rattle.backup_making.specs.declared.making.Backup.{Backup}
use Rattle.backup_making.specs.declared.making.Stage.{Stage}
use Rattle.backup_making.specs.declared.making.Stage.TheVariants.{Begun, Blanked, Open, Closed, Headed}
use Rattle.backup_making.specs.Making.{file_of, Former, Steps, IsAt, IsEnded, StandsAt, advanced, next_stage, head_of}
use Rattle.stable_lines.specs.Progress.{Progress}
use Rattle.stable_lines.specs.Facts.{Facts}
use Rattle.line_moves.proofs.Runs.{on_ok}
use Rattle.copied_lines.proofs.Oks.{on_fail}
use Rattle.copied_lines.proofs.Runs.{facts_step, leaves_step}
use Rattle.whole_backup.specs.BackedUp.{MightHold}
use Rattle.whole_backup.specs.Making.{IsBeginning, IsEnding}
use Rattle.whole_backup.proofs.Early.{is_early, starts_at, beginning_now, ending_now}

pub number_on : (b c : Backup) → c ≡ advanced b None → c.number ≡ b.number
number_on b c moved = ap (λ (x : Backup). x.number) moved

stage_on : (b c : Backup) → c ≡ advanced b None → c.stage ≡ next_stage b.stage None
stage_on b c moved = ap (λ (x : Backup). x.stage) moved

-- before its lines
pub step_beginning : {T E : Type 0} (former : Former) (now : Progress) (old new : View) (b c : Backup) (result : Result T E) → Steps (file_of b.number) old new (is_ok result) → IsTrue old.tells → OnOk result (c ≡ advanced b None) → is_early b.stage ≡ true → is_early (next_stage b.stage None) ≡ true
    → IsAt former old b [] → OnOk result (IsAt former new c []) → OnErr result (IsAt former new b []) → Facts (Pending old) now → LeavesOnly old new (IsBeginning now former b.number)
step_beginning former now old new b c (Ok x) steps t moved early next at done failed facts = leaves_step b.number old new true steps t (IsBeginning now former b.number) (beginning_now now former old b [] early at facts)
    (λ image left. subst (λ (n : ℕ). IsBeginning now former n image) (number_on b c moved)
    (beginning_now now former new c [] (subst (λ (s : Stage). is_early s ≡ true) (sym (stage_on b c moved)) next) done (facts_step b.number old new true steps t now facts) image left))
step_beginning former now old new b c (Err e) steps t moved early next at done failed facts = leaves_step b.number old new false steps t (IsBeginning now former b.number) (beginning_now now former old b [] early at facts)
    (beginning_now now former new b [] early failed (facts_step b.number old new false steps t now facts))

abbrev pub IsLate : Stage → Type 0
IsLate stage = (stage ≡ Open) ⊎ (is_early stage ≡ false)

-- behind its lines
pub step_ending : {T E : Type 0} (former : Former) (now : Progress) (old new : View) (b c : Backup) (lines : List BackupLine) (result : Result T E) → Steps (file_of b.number) old new (is_ok result) → IsTrue old.tells → OnOk result (c ≡ advanced b None) → IsLate b.stage → IsLate (next_stage b.stage None)
    → IsAt former old b lines → OnOk result (IsAt former new c lines) → OnErr result (IsAt former new b lines) → Facts (Pending old) now → LeavesOnly old new (IsEnding now (head_of b lines) lines b.number)
step_ending former now old new b c lines (Ok x) steps t moved late next at done failed facts = leaves_step b.number old new true steps t (IsEnding now (head_of b lines) lines b.number) (ending_now now former old b lines late at facts)
    (λ image left. subst (λ (y : Backup). IsEnding now (head_of y lines) lines y.number image) moved
    (ending_now now former new c lines (subst IsLate (sym (stage_on b c moved)) next) done (facts_step b.number old new true steps t now facts) image left))
step_ending former now old new b c lines (Err e) steps t moved late next at done failed facts = leaves_step b.number old new false steps t (IsEnding now (head_of b lines) lines b.number) (ending_now now former old b lines late at facts)
    (ending_now now former new b lines late failed (facts_step b.number old new false steps t now facts))

-- ---- the same, of what the call answers

pub record IsAdvance {T E : Type 0} (old new : View) (b c : Backup) (result : Result T E) : Type 0 where
  pub steps : Steps (file_of b.number) old new (is_ok result)
  pub moved : OnOk result (c ≡ advanced b None)
  pub done : OnOk result (IsTrue old.tells → (former : Former) (lines : List BackupLine) → IsAt former old b lines → IsAt former new c lines)
  pub not_done : OnErr result (IsTrue old.tells → (former : Former) (lines : List BackupLine) → IsAt former old b lines → IsAt former new b lines)

module _ {T E : Type 0} (former : Former) (now : Progress) (old new : View) (b c : Backup) (result : Result T E) (is : IsAdvance old new b c result) (t : IsTrue old.tells) (stage : Stage) (at_stage : b.stage ≡ stage) (facts : Facts (Pending old) now) where
  early_step : is_early stage ≡ true → is_early (next_stage stage None) ≡ true → IsAt former old b [] → LeavesOnly old new (IsBeginning now former b.number)
  early_step early next at = step_beginning former now old new b c result is.steps t is.moved (ap is_early at_stage ∙ early) (ap (λ (s : Stage). is_early (next_stage s None)) at_stage ∙ next) at
      (on_ok _ _ result (λ done. done t former [] at) is.done) (on_fail _ _ result (λ failed. failed t former [] at) is.not_done) facts

  pub late_step : IsLate stage → IsLate (next_stage stage None) → (lines : List BackupLine) → IsAt former old b lines → LeavesOnly old new (IsEnding now (head_of b lines) lines b.number)
  late_step late next lines at = step_ending former now old new b c lines result is.steps t is.moved (subst IsLate (sym at_stage) late) (subst (λ (s : Stage). IsLate (next_stage s None)) (sym at_stage) next) at
      (on_ok _ _ result (λ done. done t former lines at) is.done) (on_fail _ _ result (λ failed. failed t former lines at) is.not_done) facts

-- ---- a backup begins: two steps

abbrev pub begun_with : ℕ → Limits → ℕ → Backup
begun_with number limits last = record { number = number; limits = limits; last_group = last; lines = 0; stage = Begun }

module _ (number : ℕ) (limits : Limits) (last : ℕ) (b : Backup) (fresh : b ≡ begun_with number limits last) where
  pub begun_number : b.number ≡ number
  begun_number = ap (λ (x : Backup). x.number) fresh

  pub begins_at : (former : Former) (v : View) → MightHold former v number → IsAt former v b []
  begins_at former v might = starts_at former v b (ap (λ (x : Backup). x.stage) fresh) (ap (λ (x : Backup). x.lines) fresh) (subst (λ (n : ℕ). MightHold former v n) (sym begun_number) might)

  pub first_begins : {T E : Type 0} (former : Former) (now : Progress) (old new : View) (c : Backup) (result : Result T E) → IsAdvance old new b c result → IsTrue old.tells → Facts (Pending old) now → MightHold former old number → LeavesOnly old new (IsBeginning now former number)
  first_begins former now old new c result is t facts might = subst (λ (n : ℕ). LeavesOnly old new (IsBeginning now former n)) begun_number
      (early_step former now old new b c result is t Begun (ap (λ (x : Backup). x.stage) fresh) facts refl refl (begins_at former old might))

  module _ (c : Backup) (moved : c ≡ advanced b None) where
    pub blanked_number : c.number ≡ number
    blanked_number = number_on b c moved ∙ begun_number

    pub blanked_stage : c.stage ≡ Blanked
    blanked_stage = stage_on b c moved ∙ ap (λ (x : Backup). next_stage x.stage None) fresh

    pub second_begins : {T E : Type 0} (former : Former) (now : Progress) (old new : View) (d : Backup) (result : Result T E) → IsAdvance old new c d result → IsTrue old.tells → Facts (Pending old) now → IsAt former old c [] → LeavesOnly old new (IsBeginning now former number)
    second_begins former now old new d result is t facts at = subst (λ (n : ℕ). LeavesOnly old new (IsBeginning now former n)) blanked_number
        (early_step former now old new c d result is t Blanked blanked_stage facts refl refl at)

-- ---- and ends: three

-- what a later step leaves, in the words of the backup before
pub ending_before : (now : Progress) (old new : View) (lines : List BackupLine) (b c : Backup) → c ≡ advanced b None → LeavesOnly old new (IsEnding now (head_of c lines) lines c.number) → LeavesOnly old new (IsEnding now (head_of b lines) lines b.number)
ending_before now old new lines b c moved leaves = subst (λ (x : Backup). LeavesOnly old new (IsEnding now (head_of x lines) lines x.number)) moved leaves

module _ (b c : Backup) (opens : b.stage ≡ Open) (moved : c ≡ advanced b None) where
  pub closed_stage : c.stage ≡ Closed
  closed_stage = stage_on b c moved ∙ ap (λ (s : Stage). next_stage s None) opens

  pub headed_stage : (d : Backup) → d ≡ advanced c None → d.stage ≡ Headed
  headed_stage d more = stage_on c d more ∙ ap (λ (s : Stage). next_stage s None) closed_stage

pub ended_at : (former : Former) (v : View) (lines : List BackupLine) (b c d e : Backup) → b.stage ≡ Open → c ≡ advanced b None → d ≡ advanced c None → e ≡ advanced d None → IsAt former v e lines → IsEnded v (file_of b.number) (head_of b lines) lines
ended_at former v lines b c d e opens moved more last at =
    let next : Backup → Backup = λ x. advanced x None in
    let all : e ≡ advanced (advanced (advanced b None) None) None = last ∙ ap next more ∙ ap (λ (x : Backup). next (next x)) moved in
    subst (λ (s : Stage). StandsAt former v (file_of b.number) (head_of b lines) lines (next_stage (next_stage (next_stage s None) None) None)) opens
    (subst (λ (x : Backup). StandsAt former v (file_of x.number) (head_of x lines) lines x.stage) all at.stands)

-- of a call that succeeded two facts are known
pub both_done : {T E : Type 0} (A B C : Type 0) (result : Result T E) → (A → B → C) → OnOk result A → OnOk result B → OnOk result C
both_done A B C (Ok x) to a b = to a b
both_done A B C (Err e) to a b = a
