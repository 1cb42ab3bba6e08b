-- Accounts that are not legal: needs that nothing asks for, that conflict, and lock refusals out of place.
use Rattle.std.proofs.Common.{arith}
use Rattle.std.specs.Prelude.{ℕ, ◌==◌, if◌then◌else◌, List, [], ◌∷◌}
use Rattle.rdo_ast.specs.declared.reply.Reply.TheVariants as r
use Rattle.rdo_ast.specs.declared.reply.Standing.TheVariants.{ReadOnly}
use Rattle.rdo_ast.specs.Tree.{Uttered, said, start_read_only, commit}
use Rattle.lock_needs.specs.vms_queues.declared.lock_mode.Mode.TheVariants.{PR, EX}
use Rattle.rdb_account.specs.Events.{Event, Began, Wanted, Got, Said, Committed, need}
use Rattle.rdb_account.specs.Places.{Opening}
use Rattle.rdb_account.specs.Legal.{IsLegal}
use Rattle.rdb_account.proofs.Worked.{writer, start_writing, done, catalog, area, line1, line2, journal, read_row, set_row, add_to_row, base, beside}

abbrev pub one_row_script : ℕ → List Uttered
one_row_script s =
    if s == 1 then (start_writing ∷ set_row 1 99 ∷ said commit ∷ [])
    else (if s == 2 then (start_writing ∷ add_to_row 1 1 ∷ said commit ∷ []) else (if s == 3 then (said start_read_only ∷ read_row 1 ∷ said commit ∷ []) else []))

abbrev pub one_row_opening : Opening
one_row_opening = beside one_row_script base

-- ---- needs

abbrev pub two_change_events : List Event
two_change_events =
    Began 1 writer ∷
    Said 1 start_writing [] done ∷
    Began 2 writer ∷
    Said 2 start_writing [] done ∷
    Got 1 (need line1 EX) ∷
    Got 2 (need line1 EX) ∷ []

-- Two sessions may change one line.
pub two_change : IsLegal one_row_opening two_change_events → ⊥
two_change h = let wrong = h.steps.1.1.1.1.1.0.3 in grind arith

abbrev pub made_up_want_events : List Event
made_up_want_events =
    Began 1 writer ∷
    Said 1 start_writing [] done ∷
    Wanted 1 (need catalog EX) catalog ∷ []

-- A statement that changes a row wants the catalog for itself.
pub made_up_want : IsLegal one_row_opening made_up_want_events → ⊥
made_up_want h = let wrong = h.steps.1.1.0.3 in grind arith

abbrev pub journal_before_commit_events : List Event
journal_before_commit_events =
    Began 1 writer ∷
    Said 1 start_writing [] done ∷
    Got 1 (need journal EX) ∷ []

-- The journal is got before COMMIT.
pub journal_before_commit : IsLegal one_row_opening journal_before_commit_events → ⊥
journal_before_commit h = let wrong = h.steps.1.1.0.2 in grind arith

abbrev pub second_want_events : List Event
second_want_events =
    Began 1 writer ∷
    Said 1 start_writing [] done ∷
    Wanted 1 (need line1 PR) area ∷
    Wanted 1 (need line2 PR) area ∷ []

-- A session wants another need while one is open.
pub second_want : IsLegal one_row_opening second_want_events → ⊥
second_want h = let wrong = h.steps.1.1.1.0.2 in grind arith

abbrev pub reader_wants_events : List Event
reader_wants_events =
    Began 3 ReadOnly ∷
    Said 3 (said start_read_only) [] done ∷
    Wanted 3 (need line1 PR) area ∷ []

-- A reader wants a lock.
pub reader_wants : IsLegal one_row_opening reader_wants_events → ⊥
reader_wants h = let wrong = h.steps.1.1.0.1 in grind arith

-- ---- refusals

abbrev pub refused_at_once_events : List Event
refused_at_once_events =
    Began 1 writer ∷
    Said 1 start_writing [] done ∷
    Got 1 (need line1 EX) ∷
    Began 2 writer ∷
    Said 2 start_writing [] done ∷
    Wanted 2 (need line1 EX) line1 ∷
    Said 2 (add_to_row 1 1) [] (r.LockConflict 1) ∷ []

-- LOCKCONFLICT under WAIT.
pub refused_at_once : IsLegal one_row_opening refused_at_once_events → ⊥
refused_at_once h = let wrong = h.steps.1.1.1.1.1.1.0.1.2.1.1 in grind arith

abbrev pub made_up_deadlock_events : List Event
made_up_deadlock_events =
    Began 1 writer ∷
    Said 1 start_writing [] done ∷
    Began 2 writer ∷
    Said 2 start_writing [] done ∷
    Got 1 (need catalog EX) ∷
    Got 2 (need catalog EX) ∷
    Wanted 1 (need catalog EX) catalog ∷
    Wanted 2 (need catalog EX) catalog ∷
    Said 1 (set_row 1 99) [] (r.Deadlock (1 ∷ 2 ∷ 1 ∷ [])) ∷ []

-- Needs and wants are made up so that a statement is refused as a deadlock.
pub made_up_deadlock : IsLegal one_row_opening made_up_deadlock_events → ⊥
made_up_deadlock h = let wrong = h.steps.1.1.1.1.0.2 in grind arith

-- ---- order

abbrev pub item_skipped_events : List Event
item_skipped_events =
    Began 1 writer ∷
    Said 1 start_writing [] done ∷
    Said 1 (said commit) [] r.NoMemory ∷ []

-- An item of a script is passed over.
pub item_skipped : IsLegal one_row_opening item_skipped_events → ⊥
item_skipped h = let wrong = h.steps.1.1.0.0 in grind arith

abbrev pub readers_script : ℕ → List Uttered
readers_script s = if s == 1 then (said start_read_only ∷ said commit ∷ []) else (if s == 2 then (said start_read_only ∷ said commit ∷ []) else [])

abbrev pub moments_fall_events : List Event
moments_fall_events =
    Began 1 ReadOnly ∷
    Said 1 (said start_read_only) [] done ∷
    Committed 1 5 ∷
    Said 1 (said commit) [] done ∷
    Began 2 ReadOnly ∷
    Said 2 (said start_read_only) [] done ∷
    Committed 2 4 ∷ []

-- A commit's moment lies before that of an earlier one.
pub moments_fall : IsLegal (beside readers_script base) moments_fall_events → ⊥
moments_fall h = let wrong = h.steps.1.1.1.1.1.1.0.1 in omega arith
