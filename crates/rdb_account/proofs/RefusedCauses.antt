-- Accounts that are not legal: refusals and deaths without their cause.
use Rattle.std.proofs.Common.{arith}
use Rattle.std.specs.Prelude.{ℕ, refl, ◌≡◌, ◌==◌, ◌||◌, if◌then◌else◌, Bool, false, List, [], ◌∷◌}
use Rattle.rdo_ast.specs.declared.reply.Reply.TheVariants as r
use Rattle.rdo_ast.specs.Tree.{Uttered, said, commit}
use Rattle.lock_needs.specs.vms_queues.declared.lock_mode.Mode.TheVariants.{CR, PW, EX}
use Rattle.lock_needs.specs.rdb_types.declared.session.Cause.TheVariants as cause
use Rattle.rdb_account.specs.Events.{Event, Began, Demoted, Said, Died, Recovered, need}
use Rattle.rdb_account.specs.Places.{Opening, is_write}
use Rattle.rdb_account.specs.Legal.{IsLegal, AreWhole}
use Rattle.rdb_account.proofs.Worked.{writer, start_writing, done, catalog, line1, read_row, set_row, base, beside}

abbrev pub changing_script : ℕ → List Uttered
changing_script s =
    if s == 1 then (start_writing ∷ set_row 1 99 ∷ said commit ∷ []) else (if s == 2 then (start_writing ∷ read_row 1 ∷ said commit ∷ []) else [])

abbrev pub changing_opening : Opening
changing_opening = beside changing_script base

-- ---- limits

abbrev pub full_without_cause_events : List Event
full_without_cause_events =
    Began 1 writer ∷
    Said 1 start_writing [] done ∷
    Said 1 (set_row 1 99) [] (r.AreaFull 65536) ∷ []

-- AREAFULL, while there is room on the first pages.
pub full_without_cause : IsLegal changing_opening full_without_cause_events → ⊥
full_without_cause h = let wrong = h.steps.1.1.0.1.2.1.1 in grind arith

abbrev pub crowded : Opening
crowded = record changing_opening { limits = record { pages = 0; snapshots = 0; entries = 0; slots = 0 } }

abbrev pub commit_script : ℕ → List Uttered
commit_script s = if s == 1 then (start_writing ∷ said commit ∷ []) else []

abbrev pub full_commit_events : List Event
full_commit_events =
    Began 1 writer ∷
    Said 1 start_writing [] done ∷
    Said 1 (said commit) [] (r.AreaFull 0) ∷ []

-- COMMIT is answered AREAFULL.
pub full_commit : IsLegal (record crowded { script = commit_script }) full_commit_events → ⊥
full_commit h = let wrong = h.steps.1.1.0.1.2.1.0.allowed in grind arith

abbrev pub full_for_nothing_events : List Event
full_for_nothing_events =
    Began 1 writer ∷
    Said 1 start_writing [] done ∷
    Said 1 (said commit) [] (r.AijFull 0) ∷ []

-- The journal is full for a COMMIT that writes nothing.
pub full_for_nothing : IsLegal (record crowded { script = commit_script }) full_for_nothing_events → ⊥
full_for_nothing h = let wrong = h.steps.1.1.0.1.2.1.1 in grind arith

-- What is protected from others isn't written yet.
pub protected_is_unwritten : is_write (need line1 PW) ≡ false
protected_is_unwritten = refl

-- ---- deaths

-- nobody may die, or only the sessions that there are
abbrev pub immortal : Opening
immortal = record changing_opening { may_die = λ s c. false }

abbrev pub of_two : Opening
of_two = record changing_opening { may_die = λ s c. (s == 1) || (s == 2) }

abbrev pub all_die_events : List Event
all_die_events = Died 1 cause.Gate ∷ Died 2 cause.Device ∷ Recovered 1 false 0 ∷ Recovered 2 false 0 ∷ []

-- All sessions die, and nothing is wrong with any.
pub all_die : IsLegal immortal all_die_events → ⊥
all_die h = let wrong = h.steps.0.1 in grind arith

abbrev pub are_two : ℕ → Bool
are_two s = (s == 1) || (s == 2)

-- Sessions that died have not come to their scripts' ends.
pub dead_are_not_whole : AreWhole are_two of_two all_die_events → ⊥
dead_are_not_whole h = let wrong = (h 1 refl).0 in grind arith

abbrev pub nobody_dies_events : List Event
nobody_dies_events = Died 77 cause.Gate ∷ Recovered 77 false 0 ∷ []

-- A session dies that isn't there.
pub nobody_dies : IsLegal of_two nobody_dies_events → ⊥
nobody_dies h = let wrong = h.steps.0.1 in grind arith

abbrev pub demoted_when_dead_events : List Event
demoted_when_dead_events = Died 1 cause.Gate ∷ Recovered 1 false 0 ∷ Demoted 1 catalog EX CR ∷ []

-- A session that is dead and recovered gives back a lock.
pub demoted_when_dead : IsLegal of_two demoted_when_dead_events → ⊥
demoted_when_dead h = let wrong = h.steps.1.1.0 in grind arith

abbrev pub nobody_is_demoted_events : List Event
nobody_is_demoted_events = Demoted 77 catalog EX CR ∷ []

-- A session gives back a lock that isn't there.
pub nobody_is_demoted : IsLegal of_two nobody_is_demoted_events → ⊥
nobody_is_demoted h = let wrong = h.steps.0 in grind arith
