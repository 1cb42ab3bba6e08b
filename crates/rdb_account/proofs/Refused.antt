-- Accounts that are not legal, each of a wrong body.
use Rattle.std.proofs.Common.{arith}
use Rattle.std.specs.Prelude.{ℕ, ◌==◌, if◌then◌else◌, false, List, [], ◌∷◌}
use Rattle.rdo_ast.specs.declared.reply.Reply.TheVariants as r
use Rattle.rdo_ast.specs.declared.reply.Standing.TheVariants.{ReadOnly}
use Rattle.rdo_ast.specs.Tree.{Uttered, said, start_read_only, commit}
use Rattle.lock_needs.specs.vms_queues.declared.lock_mode.Mode.TheVariants.{PR, EX}
use Rattle.lock_needs.specs.rdb_types.declared.session.Cause.TheVariants as cause
use Rattle.rdb_account.specs.Events.{Event, Began, Wanted, Got, Said, Committed, Died, Recovered, need}
use Rattle.rdb_account.specs.Places.{Opening}
use Rattle.rdb_account.specs.Legal.{IsLegal}
use Rattle.rdb_account.proofs.Worked.{writer, start_writing, done, catalog, area, index_area, line1, index_node, read_row, set_row, add_to_row, shows_one, base, beside}

abbrev pub lost_update_script : ℕ → List Uttered
lost_update_script s = if s == 1 then (start_writing ∷ read_row 1 ∷ add_to_row 1 1 ∷ said commit ∷ []) else (if s == 2 then (start_writing ∷ read_row 1 ∷ add_to_row 1 5 ∷ said commit ∷ []) else [])

abbrev pub lost_update_opening : Opening
lost_update_opening = beside lost_update_script base

abbrev pub lost_update_events : List Event
lost_update_events =
    Began 1 writer ∷
    Said 1 start_writing [] done ∷
    Began 2 writer ∷
    Said 2 start_writing [] done ∷
    Wanted 1 (need catalog PR) catalog ∷
    Got 1 (need catalog PR) ∷
    Wanted 1 (need index_node PR) index_area ∷
    Got 1 (need index_node PR) ∷
    Wanted 1 (need line1 PR) area ∷
    Got 1 (need line1 PR) ∷
    Said 1 (read_row 1) [] (shows_one 10) ∷
    Wanted 2 (need catalog PR) catalog ∷
    Got 2 (need catalog PR) ∷
    Wanted 2 (need index_node PR) index_area ∷
    Got 2 (need index_node PR) ∷
    Wanted 2 (need line1 PR) area ∷
    Got 2 (need line1 PR) ∷
    Said 2 (read_row 1) [] (shows_one 10) ∷
    Said 1 (add_to_row 1 1) [] done ∷
    Committed 1 1 ∷
    Said 1 (said commit) [] done ∷
    Said 2 (add_to_row 1 5) [] done ∷ []

-- Locks are given back after each statement: session 2 wrote over what session 1 had committed since it read.
pub lost_update : IsLegal lost_update_opening lost_update_events → ⊥
lost_update h = let wrong = h.steps.1.1.1.1.1.1.1.1.1.1.1.1.1.1.1.1.1.1.1.1.1.0.1.2.0 in grind arith

abbrev pub lost_update_at_commit_events : List Event
lost_update_at_commit_events =
    Began 1 writer ∷
    Said 1 start_writing [] done ∷
    Began 2 writer ∷
    Said 2 start_writing [] done ∷
    Wanted 1 (need catalog PR) catalog ∷
    Got 1 (need catalog PR) ∷
    Wanted 1 (need index_node PR) index_area ∷
    Got 1 (need index_node PR) ∷
    Wanted 1 (need line1 PR) area ∷
    Got 1 (need line1 PR) ∷
    Said 1 (read_row 1) [] (shows_one 10) ∷
    Wanted 2 (need catalog PR) catalog ∷
    Got 2 (need catalog PR) ∷
    Wanted 2 (need index_node PR) index_area ∷
    Got 2 (need index_node PR) ∷
    Wanted 2 (need line1 PR) area ∷
    Got 2 (need line1 PR) ∷
    Said 2 (read_row 1) [] (shows_one 10) ∷
    Said 1 (add_to_row 1 1) [] done ∷
    Said 2 (add_to_row 1 5) [] done ∷
    Committed 1 1 ∷
    Said 1 (said commit) [] done ∷
    Committed 2 2 ∷ []

-- The same where session 2 had changed the row before the other commit: it is refused at its own.
pub lost_update_at_commit : IsLegal lost_update_opening lost_update_at_commit_events → ⊥
lost_update_at_commit h = let wrong = h.steps.1.1.1.1.1.1.1.1.1.1.1.1.1.1.1.1.1.1.1.1.1.1.0.2.0 in grind arith

abbrev pub later_commit_script : ℕ → List Uttered
later_commit_script s = if s == 1 then (start_writing ∷ set_row 1 99 ∷ said commit ∷ []) else (if s == 2 then (said start_read_only ∷ read_row 1 ∷ []) else [])

abbrev pub later_commit_opening : Opening
later_commit_opening = beside later_commit_script base

abbrev pub later_commit_events : List Event
later_commit_events =
    Began 2 ReadOnly ∷
    Said 2 (said start_read_only) [] done ∷
    Began 1 writer ∷
    Said 1 start_writing [] done ∷
    Said 1 (set_row 1 99) [] done ∷
    Committed 1 1 ∷
    Said 1 (said commit) [] done ∷
    Said 2 (read_row 1) [] (shows_one 99) ∷ []

-- A reader sees a commit that ended after its start.
pub later_commit : IsLegal later_commit_opening later_commit_events → ⊥
later_commit h = let wrong = h.steps.1.1.1.1.1.1.1.0.1.2 in grind arith

abbrev pub silent_commit_events : List Event
silent_commit_events =
    Began 1 writer ∷
    Said 1 start_writing [] done ∷
    Said 1 (set_row 1 99) [] done ∷
    Said 1 (said commit) [] done ∷ []

-- COMMIT is answered without its Committed event.
pub silent_commit : IsLegal later_commit_opening silent_commit_events → ⊥
silent_commit h = let wrong = h.steps.1.1.1.0.1.1 in grind arith

abbrev pub invented_deadlock_events : List Event
invented_deadlock_events =
    Began 1 writer ∷
    Said 1 start_writing [] done ∷
    Began 2 writer ∷
    Said 2 start_writing [] done ∷
    Wanted 1 (need catalog PR) catalog ∷
    Got 1 (need catalog PR) ∷
    Wanted 1 (need index_node PR) index_area ∷
    Got 1 (need index_node PR) ∷
    Wanted 1 (need line1 PR) area ∷
    Got 1 (need line1 PR) ∷
    Said 1 (read_row 1) [] (shows_one 10) ∷
    Wanted 2 (need line1 EX) area ∷
    Said 2 (read_row 1) [] (r.Deadlock (2 ∷ 1 ∷ 2 ∷ [])) ∷ []

-- A Deadlock with no cycle of waits.
pub invented_deadlock : IsLegal lost_update_opening invented_deadlock_events → ⊥
invented_deadlock h = let wrong = h.steps.1.1.1.1.1.1.1.1.1.1.1.1.0.1.2.1.1 in grind arith

abbrev pub dying_script : ℕ → List Uttered
dying_script s = if s == 1 then (start_writing ∷ set_row 1 11 ∷ said commit ∷ read_row 1 ∷ []) else (if s == 2 then (start_writing ∷ read_row 1 ∷ []) else [])

abbrev pub dying_opening : Opening
dying_opening = beside dying_script base

abbrev pub reply_of_the_dead_events : List Event
reply_of_the_dead_events =
    Began 1 writer ∷
    Said 1 start_writing [] done ∷
    Died 1 cause.Gate ∷
    Said 1 (set_row 1 11) [] done ∷ []

-- A dead session answers.
pub reply_of_the_dead : IsLegal dying_opening reply_of_the_dead_events → ⊥
reply_of_the_dead h = let wrong = h.steps.1.1.1.0.1.0 in grind arith

abbrev pub answer_while_frozen_events : List Event
answer_while_frozen_events =
    Began 1 writer ∷
    Said 1 start_writing [] done ∷
    Began 2 writer ∷
    Said 2 start_writing [] done ∷
    Died 1 cause.Gate ∷
    Said 2 (read_row 1) [] (shows_one 10) ∷ []

-- Another session answers before the dead one is recovered.
pub answer_while_frozen : IsLegal dying_opening answer_while_frozen_events → ⊥
answer_while_frozen h = let wrong = h.steps.1.1.1.1.1.0.1.0 in grind arith

abbrev pub undone_commit_events : List Event
undone_commit_events =
    Began 1 writer ∷
    Said 1 start_writing [] done ∷
    Said 1 (set_row 1 11) [] done ∷
    Committed 1 1 ∷
    Said 1 (said commit) [] done ∷
    Died 1 cause.Gate ∷
    Recovered 1 false 1 ∷
    Began 2 writer ∷
    Said 2 start_writing [] done ∷
    Said 2 (read_row 1) [] (shows_one 10) ∷ []

-- A death undoes a commit.
pub undone_commit : IsLegal dying_opening undone_commit_events → ⊥
undone_commit h = let wrong = h.steps.1.1.1.1.1.1.1.1.1.0.1.2.1 in grind arith

abbrev pub start_without_transaction_events : List Event
start_without_transaction_events =
    Said 1 start_writing [] done ∷ []

-- START_TRANSACTION is answered Done and begins nothing.
pub start_without_transaction : IsLegal dying_opening start_without_transaction_events → ⊥
start_without_transaction h = let wrong = h.steps.0.1.2.1 in grind arith
