-- Accounts of online backups, and which of them count.
use Rattle.std.proofs.Common.{arith}
use Rattle.std.specs.Prelude.{refl, ◌≡◌, ℕ, ◌==◌, if◌then◌else◌, false, List, [], ◌∷◌, length, Some, None}
use Rattle.rdo_ast.specs.declared.reply.Reply.TheVariants as r
use Rattle.rdo_ast.specs.declared.reply.Standing.TheVariants.{ReadOnly}
use Rattle.rdo_ast.specs.Tree.{Uttered, said, start_read_only, commit, back_up}
use Rattle.rdb_meaning.specs.Contents.{no_tables}
use Rattle.lock_needs.specs.vms_queues.declared.lock_mode.Mode.TheVariants.{EX}
use Rattle.lock_needs.specs.rdb_types.declared.session.Cause.TheVariants as cause
use Rattle.rdb_account.specs.Events.{Event, Began, Wanted, Got, Said, Committed, RolledBack, Died, Recovered, need}
use Rattle.rdb_account.specs.Places.{Opening, place}
use Rattle.rdb_account.specs.Legal.{IsLegal}
use Rattle.rdb_account.specs.Backups.{Backup, no_backup, backups}
use Rattle.rdb_account.proofs.Worked.{writer, start_writing, define_a, done, area_one, base, beside}

abbrev backing_up : Uttered
backing_up = said (back_up 1)

-- what a session began, and nothing that counts
abbrev begun_alone : ℕ → Backup
begun_alone s = record { by = Some s; counted = None }

abbrev done_at_once : ℕ → Backup
done_at_once s = record { by = Some s; counted = Some (record { moment = 0; tables = base }) }

-- ---- lawful

abbrev beside_writer_script : ℕ → List Uttered
beside_writer_script s = if s == 1 then (backing_up ∷ []) else (if s == 2 then (start_writing ∷ define_a ∷ said commit ∷ []) else [])

abbrev beside_writer : Opening
beside_writer = beside beside_writer_script no_tables

abbrev amid_commit_events : List Event
amid_commit_events =
    Began 1 ReadOnly ∷
    Began 2 writer ∷
    Wanted 2 (need area_one EX) area_one ∷
    Got 2 (need area_one EX) ∷
    Said 2 start_writing [] done ∷
    Said 2 define_a [] done ∷
    Committed 2 1 ∷
    Said 2 (said commit) [] done ∷
    Committed 1 2 ∷
    Said 1 backing_up [] done ∷ []

pub amid_commit : IsLegal beside_writer amid_commit_events
amid_commit = record {
  steps = ((refl, refl, refl), ((refl, refl, refl), ((refl, refl, refl, refl), ((refl, refl, refl, refl), ((refl, (refl, refl, (refl, refl))), ((refl, (refl, refl, (refl, refl))), ((refl, omega arith, (refl, refl)), ((refl, (refl, refl, refl)), ((refl, omega arith, refl), ((refl, (refl, refl, refl)), tt))))))))));
  settled = refl;
}

-- It counts, with the tables before the commit of another, which came meanwhile.
pub amid_commit_counts : backups beside_writer amid_commit_events 1 ≡ record { by = Some 1; counted = Some (record { moment = 2; tables = no_tables }) }
amid_commit_counts = refl

pub amid_commit_adds : length (place beside_writer amid_commit_events).tables.relations ≡ 1
amid_commit_adds = refl

abbrev inside_script : ℕ → List Uttered
inside_script s = if s == 1 then (said start_read_only ∷ backing_up ∷ said commit ∷ []) else []

abbrev inside : Opening
inside = beside inside_script base

abbrev refused_inside_events : List Event
refused_inside_events = Began 1 ReadOnly ∷ Said 1 (said start_read_only) [] done ∷ Said 1 backing_up [] r.InTransaction ∷ Committed 1 0 ∷ Said 1 (said commit) [] done ∷ []

-- It is refused inside a transaction.
pub refused_inside : IsLegal inside refused_inside_events
refused_inside = record {
  steps = ((refl, refl, refl), ((refl, (refl, refl, refl)), ((refl, (refl, refl, refl)), ((refl, omega arith, refl), ((refl, (refl, refl, refl)), tt)))));
  settled = refl;
}

pub refused_inside_counts : backups inside refused_inside_events 1 ≡ no_backup
refused_inside_counts = refl

abbrev two_script : ℕ → List Uttered
two_script s = if s == 1 then (backing_up ∷ []) else (if s == 2 then (backing_up ∷ []) else [])

abbrev two : Opening
two = beside two_script base

abbrev earlier_events : List Event
earlier_events = Began 1 ReadOnly ∷ Began 2 ReadOnly ∷ Committed 1 0 ∷ Said 1 backing_up [] done ∷ []

abbrev later_events : List Event
later_events = Began 1 ReadOnly ∷ Began 2 ReadOnly ∷ Committed 1 0 ∷ Said 1 backing_up [] done ∷ Committed 2 0 ∷ Said 2 backing_up [] done ∷ []

-- Of two that have one number the one that began later counts.
pub later : IsLegal two later_events
later = record {
  steps = ((refl, refl, refl), ((refl, refl, refl), ((refl, omega arith, refl), ((refl, (refl, refl, refl)), ((refl, omega arith, refl), ((refl, (refl, refl, refl)), tt))))));
  settled = refl;
}

pub earlier_counts : backups two earlier_events 1 ≡ begun_alone 2
earlier_counts = refl

pub later_counts : backups two later_events 1 ≡ done_at_once 2
later_counts = refl

abbrev death_in_it_events : List Event
death_in_it_events = Began 2 ReadOnly ∷ Committed 2 0 ∷ Said 2 backing_up [] done ∷ Began 1 ReadOnly ∷ Died 1 cause.Gate ∷ Recovered 1 false 0 ∷ []

-- A death in it: neither it counts nor the one before.
pub death_in_it : IsLegal two death_in_it_events
death_in_it = record {
  steps = ((refl, refl, refl), ((refl, omega arith, refl), ((refl, (refl, refl, refl)), ((refl, refl, refl), ((refl, refl), ((refl, omega arith, tt), tt))))));
  settled = refl;
}

pub death_in_it_counts : backups two death_in_it_events 1 ≡ begun_alone 1
death_in_it_counts = refl

abbrev no_memory_events : List Event
no_memory_events = Began 1 ReadOnly ∷ Said 1 backing_up [] r.NoMemory ∷ RolledBack 1 ∷ []

-- No memory is found, and no transaction is left.
pub no_memory : IsLegal two no_memory_events
no_memory = record {
  steps = ((refl, refl, refl), ((refl, (refl, refl, (tt, refl))), (refl, tt)));
  settled = refl;
}

pub no_memory_counts : backups two no_memory_events 1 ≡ begun_alone 1
no_memory_counts = refl

-- ---- unlawful

-- It is answered as done, and its transaction goes on.
pub uncommitted : IsLegal two (Began 1 ReadOnly ∷ Said 1 backing_up [] done ∷ []) → ⊥
uncommitted h = let wrong = h.steps.1.0.1.1 in grind arith

-- It is answered as done, and began nothing.
pub unbegun : IsLegal two (Said 1 backing_up [] done ∷ []) → ⊥
unbegun h = let wrong = h.steps.0.1.1 in grind arith

-- It is done inside a transaction,
pub done_inside : IsLegal inside (Began 1 ReadOnly ∷ Said 1 (said start_read_only) [] done ∷ Said 1 backing_up [] done ∷ []) → ⊥
done_inside h = let wrong = h.steps.1.1.0.1.1 in grind arith

-- and ends it, though something was said in it.
pub ends_another : IsLegal inside (Began 1 ReadOnly ∷ Said 1 (said start_read_only) [] done ∷ Committed 1 0 ∷ Said 1 backing_up [] done ∷ []) → ⊥
ends_another h = let wrong = h.steps.1.1.0.2 in grind arith

abbrev in_writer_script : ℕ → List Uttered
in_writer_script s = if s == 1 then (start_writing ∷ backing_up ∷ []) else []

-- It commits what a read-write transaction wrote.
pub ends_a_writer : IsLegal (beside in_writer_script base) (Began 1 writer ∷ Said 1 start_writing [] done ∷ Committed 1 0 ∷ Said 1 backing_up [] done ∷ []) → ⊥
ends_a_writer h = let wrong = h.steps.1.1.0.2.1 in grind arith
