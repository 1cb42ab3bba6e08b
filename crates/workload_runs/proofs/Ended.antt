-- How a workload ended, by how its runs did.
use Rattle.std.proofs.Common.{◌≡◌, ◌≤◌, ◌+◌, ℕ, true, false, List, [], ◌∷◌, ◌⊎◌, inl, inr, refl, sym, subst, ◌∙◌, arith}
use Rattle.std.proofs.lemmas.Bool.{or_parts}
use Rattle.std.proofs.lemmas.Bool.Decides.{nat_tests}
use Rattle.rdb_outside.specs.Causes.{Rose}
use Rattle.rdb_outside.specs.Disk.{View}
use Rattle.rdb_meaning.specs.declared.tables.Tables.{Tables}
use Rattle.rdb_account.specs.declared.event.Event.{Event}
use Rattle.session_states.specs.declared.item_queue.WholeScript.{WholeScript}
use Rattle.line_runs.specs.line_cluster.Deaths.{RoseBy}
use Rattle.workload_replies.specs.Replies.{has_death}
use Rattle.workload_runs.specs.Reports.{Reports}
use Rattle.workload_runs.specs.Runs.{Frame, AreRuns, EndIf}
use Rattle.workload_runs.specs.Statuses.{is_run_status, is_unharmed, is_workload_status, IsWhole, deaths_of_last, have_death, last_of}
use Rattle.workload_runs.proofs.Chain.{less}
use Rattle.workload_runs.proofs.Reporting.{ended, gave-up}
use Rattle.workload_runs.proofs.Tallies.{no-deaths, rose-past, rose-until}

-- the status that is told, of this one
abbrev pub Seen : ℕ → ℕ → Type 0
Seen status said = (status ≡ said) ⊎ ((status ≡ 5) × (said ≡ 3))

-- the status behind the report, of that of the runs
abbrev pub Keeps : ℕ → ℕ → Type 0
Keeps said runs = (said ≡ runs) ⊎ (runs ≡ 0)

-- ---- statuses

-- any other status than 5 is the one that was said
pub said-so : (n status said : ℕ) → Seen status said → (n ≡ 5 → ⊥) → status ≡ n → said ≡ n
said-so n status said (inl same) other is = sym same ∙ is
said-so n status said (inr (five, three)) other is = absurd (other (sym is ∙ five))

pub whole-is-not-five : (status : ℕ) → IsWhole status → status ≡ 5 → ⊥
whole-is-not-five status whole five = grind arith

pub whole-runs : (status said runs : ℕ) → Seen status said → Keeps said runs → IsWhole status → IsWhole runs
whole-runs status said runs (inl same) (inl kept) whole = subst IsWhole (same ∙ kept) whole
whole-runs status said runs (inr (five, three)) (inl kept) whole = absurd (whole-is-not-five status whole five)
whole-runs status said runs seen (inr zero_is) whole = inl zero_is

-- what is left where nothing failed
pub unharmed : (status : ℕ) → is_workload_status status ≡ true → (status ≡ 3 → ⊥) → (status ≡ 6 → ⊥) → (status ≡ 7 → ⊥) → (status ≡ 9 → ⊥) → is_unharmed status ≡ true
unharmed status is disk sink faults taken = elim (one-of status is disk sink faults taken) [
  | inl it ↦ subst (λ (n : ℕ). is_unharmed n ≡ true) (sym it) refl
  | inr (inl it) ↦ subst (λ (n : ℕ). is_unharmed n ≡ true) (sym it) refl
  | inr (inr (inl it)) ↦ subst (λ (n : ℕ). is_unharmed n ≡ true) (sym it) refl
  | inr (inr (inr it)) ↦ subst (λ (n : ℕ). is_unharmed n ≡ true) (sym it) refl
]
  where
    one-of : (n : ℕ) → is_workload_status n ≡ true → (n ≡ 3 → ⊥) → (n ≡ 6 → ⊥) → (n ≡ 7 → ⊥) → (n ≡ 9 → ⊥) → (n ≡ 0) ⊎ (n ≡ 4) ⊎ (n ≡ 5) ⊎ (n ≡ 8)
    one-of n said three six seven nine = grind (arith, nat_tests)

-- the status that is told is one of those of a workload
pub seen-status : (status said : ℕ) → Seen status said → is_workload_status said ≡ true → is_workload_status status ≡ true
seen-status status said (inl same) is = subst (λ (n : ℕ). is_workload_status n ≡ true) (sym same) is
seen-status status said (inr (five, three)) is = subst (λ (n : ℕ). is_workload_status n ≡ true) (sym five) refl

-- where no database was made it is no failure of the sink
pub unmade-status : (said : ℕ) → (said ≡ 3) ⊎ (said ≡ 9) → is_workload_status said ≡ true
unmade-status said (inl is) = subst (λ (n : ℕ). is_workload_status n ≡ true) (sym is) refl
unmade-status said (inr is) = subst (λ (n : ℕ). is_workload_status n ≡ true) (sym is) refl

pub unmade-not-six : (status said : ℕ) → Seen status said → (said ≡ 3) ⊎ (said ≡ 9) → status ≡ 6 → ⊥
unmade-not-six status said seen which six = grind arith

-- runs don't end as where a database is there
pub runs-not-nine : (runs : ℕ) → is_run_status runs ≡ true → runs ≡ 9 → ⊥
runs-not-nine runs is nine = grind (arith, nat_tests)

-- nor as where faults were listed
pub runs-not-seven : (runs : ℕ) → is_run_status runs ≡ true → runs ≡ 7 → ⊥
runs-not-seven runs is seven = grind (arith, nat_tests)

-- nobody died where no database was made
pub unmade-not-eight : (status said : ℕ) → Seen status said → (said ≡ 3) ⊎ (said ≡ 9) → status ≡ 8 → ⊥
unmade-not-eight status said seen which eight = grind arith

-- nothing was verified where no database was made
pub unmade-not-seven : (status said : ℕ) → Seen status said → (said ≡ 3) ⊎ (said ≡ 9) → status ≡ 7 → ⊥
unmade-not-seven status said seen which seven = grind arith

-- nothing is refused where no database was made
pub unmade-not-four : (status said : ℕ) → Seen status said → (said ≡ 3) ⊎ (said ≡ 9) → status ≡ 4 → ⊥
unmade-not-four status said seen which four = grind arith

-- ---- accounts

pub seen-runs : (status said runs : ℕ) (f : Frame) (t : Tables) (ss : List (List WholeScript)) (accounts all : List (List Event))
    → Seen status said → Keeps said runs → accounts ≡ all → AreRuns (EndIf (IsWhole runs)) f t ss all → AreRuns (EndIf (IsWhole status)) f t ss accounts
seen-runs status said runs f t ss accounts all seen kept same are =
    subst (λ (es : List (List Event)). AreRuns (EndIf (IsWhole status)) f t ss es) (sym same)
    (less (EndIf (IsWhole runs)) (EndIf (IsWhole status)) (λ o n es ended whole. ended (whole-runs status said runs seen kept whole)) f t ss all are)

-- ---- the report

-- there is none where no database was made
pub unmade-report : (disk : View) (last : List Event) (status said : ℕ) (SinkTells : Type 0) (old : List ℕ) → Seen status said → (said ≡ 3) ⊎ (said ≡ 9) → Reports disk last status SinkTells old old
unmade-report disk last status said SinkTells old (inl same) (inl three) = gave-up disk last status SinkTells old old (inl (same ∙ three)) (λ tells. refl)
unmade-report disk last status said SinkTells old (inl same) (inr nine) = ended disk last status SinkTells old old (inr (same ∙ nine)) (λ tells. refl)
unmade-report disk last status said SinkTells old (inr (five, three)) which = gave-up disk last status SinkTells old old (inr (inr five)) (λ tells. refl)

-- ---- faults. Those of the disk before it was watched, behind the making of the files, behind the runs, and at the end.

module _ (a b c d : ℕ) (before : a ≤ b) (later : c ≤ d) where
  pub harmed-all : (accounts all : List (List Event)) → accounts ≡ all → RoseBy (deaths_of_last all) b c → RoseBy (deaths_of_last accounts) a d
  harmed-all accounts all same rose =
      subst (λ (es : List (List Event)). RoseBy (deaths_of_last es) a d) (sym same)
      (rose-until (deaths_of_last all) a c d (rose-past (deaths_of_last all) a b c before rose) later)

  one-more : RoseBy 0 b c → Rose c d → RoseBy 1 a d
  one-more rose more = omega (arith, before, rose, more)

  -- a device call failed in the last run, or in the verification behind three in which nobody died
  pub stopped-all : (accounts all : List (List Event)) (said runs : ℕ) → accounts ≡ all → Keeps said runs → said ≡ 3
      → (runs ≡ 3 → RoseBy (deaths_of_last all + 1) b c) → (runs ≡ 0 → have_death all ≡ false) → RoseBy (deaths_of_last all) b c → (runs ≡ 0 → Rose c d)
      → RoseBy (deaths_of_last accounts + 1) a d
  stopped-all accounts all said runs same (inl kept) three stopped lived rose more =
      subst (λ (es : List (List Event)). RoseBy (deaths_of_last es + 1) a d) (sym same)
      (rose-until (deaths_of_last all + 1) a c d (rose-past (deaths_of_last all + 1) a b c before (stopped (sym kept ∙ three))) later)
  stopped-all accounts all said runs same (inr zero_is) three stopped lived rose more =
      let none = no-deaths (last_of all) (last-lived all (lived zero_is)) in
      subst (λ (es : List (List Event)). RoseBy (deaths_of_last es + 1) a d) (sym same)
      (subst (λ (n : ℕ). RoseBy (n + 1) a d) (sym none) (one-more (subst (λ (n : ℕ). RoseBy n b c) none rose) (more zero_is)))
    where
      last-lived : (es : List (List Event)) → have_death es ≡ false → has_death (last_of es) ≡ false
      last-lived [] lives = refl
      last-lived (e ∷ []) lives = (or_parts (has_death e) false lives).0
      last-lived (e ∷ x ∷ es) lives = last-lived (x ∷ es) (or_parts (has_death e) (have_death (x ∷ es)) lives).1
