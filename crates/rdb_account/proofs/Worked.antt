-- Worked accounts that are legal.
use Rattle.std.proofs.Common.{arith}
use Rattle.std.specs.Prelude.{refl, ℕ, ◌==◌, if◌then◌else◌, Bool, true, false, pos, List, [], ◌∷◌, None, codes}
use Rattle.lock_needs.specs.rdb_types.declared.values.Value.TheVariants.{Number}
use Rattle.lock_needs.specs.rdb_types.declared.values.Scaled.{Scaled}
use Rattle.lock_needs.specs.rdb_types.declared.keys.Dbkey.{Dbkey}
use Rattle.lock_needs.specs.rdb_types.declared.values.FieldType.{FieldType}
use Rattle.lock_needs.specs.rdb_types.declared.values.DataType.TheVariants as data_type
use Rattle.rdo_ast.specs.declared.syntax.Comparison.TheVariants as by
use Rattle.rdo_ast.specs.declared.syntax.Arithmetic.TheVariants.{Plus}
use Rattle.rdo_ast.specs.declared.syntax.Reservation.{Reservation}
use Rattle.rdo_ast.specs.declared.syntax.Share.TheVariants.{Shared, Protected}
use Rattle.rdo_ast.specs.declared.syntax.DefinedType.TheVariants.{Own}
use Rattle.rdo_ast.specs.declared.reply.Reply.{Reply}
use Rattle.rdo_ast.specs.declared.reply.Reply.TheVariants as r
use Rattle.rdo_ast.specs.declared.reply.Standing.{Standing}
use Rattle.rdo_ast.specs.declared.reply.Standing.TheVariants.{ReadOnly, ReadWrite}
use Rattle.rdo_ast.specs.Tree.{Name, Expression, number, field, chain, no_operation, operation, compare, no_test, test, no_conjunction, conjunction, With, without_condition, with_condition, ranging, Act, store, for_each, print, value, all_fields, modify, act, no_act, Uttered, said, start_read_only, start_read_write, commit, rollback, perform, define_relation}
use Rattle.rdb_meaning.specs.declared.tables.Tables.{Tables}
use Rattle.rdb_meaning.specs.Contents.{no_tables}
use Rattle.rdb_meaning.specs.Numbers.{numeral}
use Rattle.lock_needs.specs.vms_queues.declared.lock_mode.Mode.TheVariants.{CR, CW, PR, PW, EX}
use Rattle.lock_needs.specs.rdb_types.declared.session.Cause.TheVariants as cause
use Rattle.lock_needs.specs.rdb_types.declared.node.Level.TheVariants as level
use Rattle.lock_needs.specs.rdb_types.declared.node.Node.{Node}
use Rattle.rdb_account.specs.Events.{Event, Began, Wanted, Got, Demoted, Said, Committed, RolledBack, Died, Recovered, need}
use Rattle.rdb_account.specs.Places.{Opening}
use Rattle.rdb_account.specs.Legal.{IsLegal}

abbrev pub writer : Standing
writer = ReadWrite true []

abbrev pub writer_now : Standing
writer_now = ReadWrite false []

abbrev pub start_writing : Uttered
start_writing = said (start_read_write true [])

abbrev pub start_now : Uttered
start_now = said (start_read_write false [])

abbrev pub done : Reply
done = r.Done []

abbrev pub area_of : ℕ → Node
area_of n = record { level = level.Area; area = n; at = 0; line = 0 }

abbrev pub catalog : Node
catalog = area_of 1

abbrev pub area_one : Node
area_one = area_of 1

abbrev pub area : Node
area = area_of 16

abbrev pub index_area : Node
index_area = area_of 17

abbrev pub range0 : Node
range0 = record { level = level.Range; area = 16; at = 0; line = 0 }

abbrev pub page2 : Node
page2 = record { level = level.Page; area = 16; at = 2; line = 0 }

abbrev pub line1 : Node
line1 = record { level = level.Line; area = 16; at = 2; line = 0 }

abbrev pub line2 : Node
line2 = record { level = level.Line; area = 16; at = 2; line = 1 }

abbrev pub index_node : Node
index_node = record { level = level.Line; area = 17; at = 2; line = 0 }

abbrev pub journal : Node
journal = record { level = level.Journal; area = 0; at = 0; line = 0 }

abbrev pub first_line : Dbkey
first_line = record { area = 16; page = 2; line = 0 }

abbrev pub second_line : Dbkey
second_line = record { area = 16; page = 2; line = 1 }

abbrev pub t : Name
t = codes "T"

abbrev pub a : Name
a = codes "A"

abbrev pub n : Name
n = codes "N"

abbrev pub e : Name
e = codes "E"

abbrev pub k : Name
k = codes "K"

abbrev pub v : Name
v = codes "V"

abbrev pub word : FieldType
word = record { kind = data_type.Word; scale = 0; size = 0 }

abbrev pub longword : FieldType
longword = record { kind = data_type.Longword; scale = 0; size = 0 }

abbrev pub quadword : FieldType
quadword = record { kind = data_type.Quadword; scale = 0; size = 0 }

abbrev pub ref : Name → Name → Expression
ref x f = field (record { variable = x; field = f })

abbrev pub whole : ℕ → Expression
whole i = number (pos i) 0

abbrev pub row_number : ℕ → With
row_number i = with_condition (conjunction (test (compare by.Equal (ref e k) (whole i)) no_test) no_conjunction)

abbrev pub for_rows : Name → With → Act → Uttered
for_rows relation c body = said (perform (for_each (ranging None (record { variable = e; relation = relation } ∷ []) c) [] (act body no_act)))

abbrev pub read_row : ℕ → Uttered
read_row i = for_rows t (row_number i) (print (value (ref e v) ∷ []))

abbrev pub changes_to : ℕ → Expression → Uttered
changes_to i x = for_rows t (row_number i) (modify e (record { left = record { variable = e; field = v }; right = x } ∷ []))

abbrev pub set_row : ℕ → ℕ → Uttered
set_row i x = changes_to i (whole x)

abbrev pub add_to_row : ℕ → ℕ → Uttered
add_to_row i x = changes_to i (chain (ref e v) (operation Plus (whole x) no_operation))

abbrev pub all_rows : Uttered
all_rows = for_rows t without_condition (print (all_fields e ∷ []))

abbrev pub define_a : Uttered
define_a = said (define_relation a (record { name = n; kind = Own word } ∷ []))

abbrev pub store_seven : Uttered
store_seven = said (perform (store (record { variable = e; relation = a }) (record { left = record { variable = e; field = n }; right = whole 7 } ∷ [])))

abbrev pub read_a : Uttered
read_a = for_rows a without_condition (print (value (ref e n) ∷ []))

abbrev pub print_five : Uttered
print_five = said (perform (print (value (whole 5) ∷ [])))

abbrev pub reserving : Bool → Bool → List Reservation
reserving true writes = record { relation = t; share = Protected; writes = writes } ∷ []
reserving false writes = record { relation = t; share = Shared; writes = writes } ∷ []

abbrev pub protected_writer : Standing
protected_writer = ReadWrite true (reserving true true)

abbrev pub start_protected : Uttered
start_protected = said (start_read_write true (reserving true true))

abbrev pub shared_writer_now : Standing
shared_writer_now = ReadWrite false (reserving false true)

abbrev pub start_shared_now : Uttered
start_shared_now = said (start_read_write false (reserving false true))

abbrev pub shown : ℕ → Scaled
shown i = numeral (pos i) 0

abbrev pub shows_one : ℕ → Reply
shows_one i = r.Done ((shown i ∷ []) ∷ [])

abbrev pub shows_two : ℕ → ℕ → ℕ → ℕ → Reply
shows_two i x j y = r.Done ((shown i ∷ shown x ∷ []) ∷ (shown j ∷ shown y ∷ []) ∷ [])

abbrev pub base : Tables
base = record {
  globals = [];
  relations = (
    t,
    record {
      area = 16;
      fields = record { name = k; kind = longword; version = 1 } ∷ record { name = v; kind = quadword; version = 1 } ∷ [];
      rows = (first_line, Number (pos 1) ∷ Number (pos 10) ∷ []) ∷ (second_line, Number (pos 2) ∷ Number (pos 20) ∷ []) ∷ [];
    },
  ) ∷ [];
  indexes = (codes "TK", record { area = 17; relation = 16; unique = true; fields = 0 ∷ [] }) ∷ [];
}

abbrev pub beside : (ℕ → List Uttered) → Tables → Opening
beside script tables = record {
  word = codes "PERS";
  script = script;
  stops = λ s. false;
  tables = tables;
  limits = record { pages = 65536; snapshots = 65536; entries = 65535; slots = 262144 };
  has_owner = λ file page. false;
  group_slots = 0;
  moment = 0;
  may_die = λ s cause. true;
}

abbrev pub by_turns_script : ℕ → List Uttered
by_turns_script s = if s == 1 then (start_writing ∷ define_a ∷ store_seven ∷ said commit ∷ []) else (if s == 2 then (start_writing ∷ read_a ∷ said rollback ∷ []) else [])

abbrev pub by_turns_opening : Opening
by_turns_opening = beside by_turns_script no_tables

abbrev pub by_turns_events : List Event
by_turns_events =
    Began 1 writer ∷
    Wanted 1 (need area_one EX) area_one ∷
    Got 1 (need area_one EX) ∷
    Said 1 start_writing [] done ∷
    Said 1 define_a [] done ∷
    Began 2 writer ∷
    Wanted 2 (need area_one EX) area_one ∷
    Said 1 store_seven (first_line ∷ []) done ∷
    Committed 1 1 ∷
    Said 1 (said commit) [] done ∷
    Got 2 (need area_one EX) ∷
    Said 2 start_writing [] done ∷
    Said 2 read_a [] (shows_one 7) ∷
    RolledBack 2 ∷
    Said 2 (said rollback) [] done ∷ []

pub by_turns : IsLegal by_turns_opening by_turns_events
by_turns = record {
  steps = ((refl, refl, refl), ((refl, refl, refl, refl), ((refl, refl, refl, refl), ((refl, (refl, refl, (refl, refl))), ((refl, (refl, refl, (refl, refl))), ((refl, refl, refl), ((refl, refl, refl, refl), ((refl, (refl, refl, (refl, refl))), ((refl, omega arith, (refl, refl)), ((refl, (refl, refl, refl)), ((refl, refl, refl, refl), ((refl, (refl, refl, (refl, refl))), ((refl, (refl, refl, (refl, refl))), ((refl, refl, refl), ((refl, (refl, refl, refl)), tt)))))))))))))));
  settled = refl;
}

abbrev pub two_writers_script : ℕ → List Uttered
two_writers_script s = if s == 1 then (start_writing ∷ read_row 1 ∷ add_to_row 1 1 ∷ said commit ∷ []) else (if s == 2 then (start_writing ∷ read_row 2 ∷ add_to_row 2 1 ∷ said commit ∷ []) else [])

abbrev pub two_writers_opening : Opening
two_writers_opening = beside two_writers_script base

abbrev pub two_writers_events : List Event
two_writers_events =
    Began 1 writer ∷
    Said 1 start_writing [] done ∷
    Began 2 writer ∷
    Said 2 start_writing [] done ∷
    Wanted 1 (need catalog PR) catalog ∷
    Got 1 (need catalog PR) ∷
    Wanted 1 (need index_node PR) index_area ∷
    Got 1 (need index_node PR) ∷
    Wanted 1 (need line1 PR) area ∷
    Got 1 (need line1 PR) ∷
    Said 1 (read_row 1) [] (shows_one 10) ∷
    Wanted 2 (need catalog PR) catalog ∷
    Got 2 (need catalog PR) ∷
    Wanted 2 (need index_node PR) index_area ∷
    Got 2 (need index_node PR) ∷
    Wanted 2 (need line2 PR) area ∷
    Got 2 (need line2 PR) ∷
    Said 2 (read_row 2) [] (shows_one 20) ∷
    Demoted 2 area PR CR ∷
    Wanted 1 (need line1 EX) area ∷
    Demoted 2 range0 PR CR ∷
    Wanted 1 (need line1 EX) range0 ∷
    Demoted 2 page2 PR CR ∷
    Wanted 1 (need line1 EX) page2 ∷
    Wanted 1 (need line1 EX) line1 ∷
    Got 1 (need line1 EX) ∷
    Said 1 (add_to_row 1 1) [] done ∷
    Wanted 2 (need line2 EX) area ∷
    Wanted 2 (need line2 EX) range0 ∷
    Wanted 2 (need line2 EX) page2 ∷
    Wanted 2 (need line2 EX) line2 ∷
    Got 2 (need line2 EX) ∷
    Said 2 (add_to_row 2 1) [] done ∷
    Wanted 1 (need journal EX) journal ∷
    Got 1 (need journal EX) ∷
    Committed 1 1 ∷
    Said 1 (said commit) [] done ∷
    Wanted 2 (need journal EX) journal ∷
    Got 2 (need journal EX) ∷
    Committed 2 2 ∷
    Said 2 (said commit) [] done ∷ []

pub two_writers : IsLegal two_writers_opening two_writers_events
two_writers = record {
  steps = ((refl, refl, refl), ((refl, (refl, refl, (refl, refl))), ((refl, refl, refl), ((refl, (refl, refl, (refl, refl))), ((refl, refl, refl, refl), ((refl, refl, refl, refl), ((refl, refl, refl, refl), ((refl, refl, refl, refl), ((refl, refl, refl, refl), ((refl, refl, refl, refl), ((refl, (refl, refl, (refl, refl))), ((refl, refl, refl, refl), ((refl, refl, refl, refl), ((refl, refl, refl, refl), ((refl, refl, refl, refl), ((refl, refl, refl, refl), ((refl, refl, refl, refl), ((refl, (refl, refl, (refl, refl))), (refl, ((refl, refl, refl, refl), (refl, ((refl, refl, refl, refl), (refl, ((refl, refl, refl, refl), ((refl, refl, refl, refl), ((refl, refl, refl, refl), ((refl, (refl, refl, (refl, refl))), ((refl, refl, refl, refl), ((refl, refl, refl, refl), ((refl, refl, refl, refl), ((refl, refl, refl, refl), ((refl, refl, refl, refl), ((refl, (refl, refl, (refl, refl))), ((refl, refl, refl, refl), ((refl, refl, refl, refl), ((refl, omega arith, (refl, refl)), ((refl, (refl, refl, refl)), ((refl, refl, refl, refl), ((refl, refl, refl, refl), ((refl, omega arith, (refl, refl)), ((refl, (refl, refl, refl)), tt)))))))))))))))))))))))))))))))))))))))));
  settled = refl;
}

abbrev pub deadlock_script : ℕ → List Uttered
deadlock_script s = if s == 1 then (start_writing ∷ read_row 1 ∷ add_to_row 1 1 ∷ said commit ∷ []) else (if s == 2 then (start_writing ∷ read_row 1 ∷ add_to_row 1 5 ∷ said rollback ∷ []) else [])

abbrev pub deadlock_opening : Opening
deadlock_opening = beside deadlock_script base

abbrev pub deadlock_events : List Event
deadlock_events =
    Began 1 writer ∷
    Said 1 start_writing [] done ∷
    Began 2 writer ∷
    Said 2 start_writing [] done ∷
    Wanted 1 (need catalog PR) catalog ∷
    Got 1 (need catalog PR) ∷
    Wanted 1 (need index_node PR) index_area ∷
    Got 1 (need index_node PR) ∷
    Wanted 1 (need line1 PR) area ∷
    Got 1 (need line1 PR) ∷
    Said 1 (read_row 1) [] (shows_one 10) ∷
    Wanted 2 (need catalog PR) catalog ∷
    Got 2 (need catalog PR) ∷
    Wanted 2 (need index_node PR) index_area ∷
    Got 2 (need index_node PR) ∷
    Wanted 2 (need line1 PR) area ∷
    Got 2 (need line1 PR) ∷
    Said 2 (read_row 1) [] (shows_one 10) ∷
    Demoted 2 area PR CR ∷
    Wanted 1 (need line1 EX) area ∷
    Demoted 2 range0 PR CR ∷
    Wanted 1 (need line1 EX) range0 ∷
    Demoted 2 page2 PR CR ∷
    Wanted 1 (need line1 EX) page2 ∷
    Wanted 1 (need line1 EX) line1 ∷
    Wanted 2 (need line1 EX) area ∷
    Wanted 2 (need line1 EX) range0 ∷
    Wanted 2 (need line1 EX) page2 ∷
    Wanted 2 (need line1 EX) line1 ∷
    Said 2 (add_to_row 1 5) [] (r.Deadlock (2 ∷ 1 ∷ 2 ∷ [])) ∷
    RolledBack 2 ∷
    Said 2 (said rollback) [] done ∷
    Got 1 (need line1 EX) ∷
    Said 1 (add_to_row 1 1) [] done ∷
    Wanted 1 (need journal EX) journal ∷
    Got 1 (need journal EX) ∷
    Committed 1 1 ∷
    Said 1 (said commit) [] done ∷ []

pub deadlock : IsLegal deadlock_opening deadlock_events
deadlock = record {
  steps = ((refl, refl, refl), ((refl, (refl, refl, (refl, refl))), ((refl, refl, refl), ((refl, (refl, refl, (refl, refl))), ((refl, refl, refl, refl), ((refl, refl, refl, refl), ((refl, refl, refl, refl), ((refl, refl, refl, refl), ((refl, refl, refl, refl), ((refl, refl, refl, refl), ((refl, (refl, refl, (refl, refl))), ((refl, refl, refl, refl), ((refl, refl, refl, refl), ((refl, refl, refl, refl), ((refl, refl, refl, refl), ((refl, refl, refl, refl), ((refl, refl, refl, refl), ((refl, (refl, refl, (refl, refl))), (refl, ((refl, refl, refl, refl), (refl, ((refl, refl, refl, refl), (refl, ((refl, refl, refl, refl), ((refl, refl, refl, refl), ((refl, refl, refl, refl), ((refl, refl, refl, refl), ((refl, refl, refl, refl), ((refl, refl, refl, refl), ((refl, (refl, refl, (refl, ((refl, refl), refl)))), ((refl, refl, refl), ((refl, (refl, refl, refl)), ((refl, refl, refl, refl), ((refl, (refl, refl, (refl, refl))), ((refl, refl, refl, refl), ((refl, refl, refl, refl), ((refl, omega arith, (refl, refl)), ((refl, (refl, refl, refl)), tt))))))))))))))))))))))))))))))))))))));
  settled = refl;
}

abbrev pub no_wait_script : ℕ → List Uttered
no_wait_script s = if s == 1 then (start_writing ∷ set_row 1 11 ∷ said commit ∷ start_protected ∷ said commit ∷ []) else (if s == 2 then (start_now ∷ read_row 1 ∷ said rollback ∷ start_shared_now ∷ said rollback ∷ []) else [])

abbrev pub no_wait_opening : Opening
no_wait_opening = beside no_wait_script base

abbrev pub no_wait_events : List Event
no_wait_events =
    Began 1 writer ∷
    Said 1 start_writing [] done ∷
    Wanted 1 (need catalog PR) catalog ∷
    Got 1 (need catalog PR) ∷
    Wanted 1 (need index_node PR) index_area ∷
    Got 1 (need index_node PR) ∷
    Wanted 1 (need line1 PR) area ∷
    Got 1 (need line1 PR) ∷
    Wanted 1 (need line1 EX) area ∷
    Got 1 (need line1 EX) ∷
    Said 1 (set_row 1 11) [] done ∷
    Began 2 writer_now ∷
    Said 2 start_now [] done ∷
    Wanted 2 (need catalog PR) catalog ∷
    Got 2 (need catalog PR) ∷
    Wanted 2 (need index_node PR) index_area ∷
    Got 2 (need index_node PR) ∷
    Demoted 1 area EX CW ∷
    Wanted 2 (need line1 PR) area ∷
    Demoted 1 range0 EX CW ∷
    Wanted 2 (need line1 PR) range0 ∷
    Demoted 1 page2 EX CW ∷
    Wanted 2 (need line1 PR) page2 ∷
    Wanted 2 (need line1 PR) line1 ∷
    Said 2 (read_row 1) [] (r.LockConflict 1) ∷
    RolledBack 2 ∷
    Said 2 (said rollback) [] done ∷
    Wanted 1 (need journal EX) journal ∷
    Got 1 (need journal EX) ∷
    Committed 1 1 ∷
    Said 1 (said commit) [] done ∷
    Began 1 protected_writer ∷
    Wanted 1 (need catalog PR) catalog ∷
    Got 1 (need catalog PR) ∷
    Wanted 1 (need area PW) area ∷
    Got 1 (need area PW) ∷
    Said 1 start_protected [] done ∷
    Began 2 shared_writer_now ∷
    Wanted 2 (need catalog PR) catalog ∷
    Got 2 (need catalog PR) ∷
    Wanted 2 (need area CW) area ∷
    Said 2 start_shared_now [] (r.LockConflict 1) ∷
    RolledBack 2 ∷
    Said 2 (said rollback) [] r.NoTransaction ∷
    Committed 1 2 ∷
    Said 1 (said commit) [] done ∷ []

pub no_wait : IsLegal no_wait_opening no_wait_events
no_wait = record {
  steps = ((refl, refl, refl), ((refl, (refl, refl, (refl, refl))), ((refl, refl, refl, refl), ((refl, refl, refl, refl), ((refl, refl, refl, refl), ((refl, refl, refl, refl), ((refl, refl, refl, refl), ((refl, refl, refl, refl), ((refl, refl, refl, refl), ((refl, refl, refl, refl), ((refl, (refl, refl, (refl, refl))), ((refl, refl, refl), ((refl, (refl, refl, (refl, refl))), ((refl, refl, refl, refl), ((refl, refl, refl, refl), ((refl, refl, refl, refl), ((refl, refl, refl, refl), (refl, ((refl, refl, refl, refl), (refl, ((refl, refl, refl, refl), (refl, ((refl, refl, refl, refl), ((refl, refl, refl, refl), ((refl, (refl, refl, (refl, ((refl, refl), refl)))), ((refl, refl, refl), ((refl, (refl, refl, refl)), ((refl, refl, refl, refl), ((refl, refl, refl, refl), ((refl, omega arith, (refl, refl)), ((refl, (refl, refl, refl)), ((refl, refl, refl), ((refl, refl, refl, refl), ((refl, refl, refl, refl), ((refl, refl, refl, refl), ((refl, refl, refl, refl), ((refl, (refl, refl, (refl, refl))), ((refl, refl, refl), ((refl, refl, refl, refl), ((refl, refl, refl, refl), ((refl, refl, refl, refl), ((refl, (refl, refl, (refl, ((refl, refl), refl)))), (refl, ((refl, (refl, refl, (refl, refl))), ((refl, omega arith, (refl, refl)), ((refl, (refl, refl, refl)), tt))))))))))))))))))))))))))))))))))))))))))))));
  settled = refl;
}

abbrev pub death_script : ℕ → List Uttered
death_script s = if s == 1 then (start_writing ∷ set_row 1 0 ∷ print_five ∷ []) else (if s == 2 then (start_writing ∷ set_row 2 21 ∷ said commit ∷ said start_read_only ∷ all_rows ∷ []) else [])

abbrev pub death_opening : Opening
death_opening = beside death_script base

abbrev pub death_events : List Event
death_events =
    Began 1 writer ∷
    Said 1 start_writing [] done ∷
    Wanted 1 (need catalog PR) catalog ∷
    Got 1 (need catalog PR) ∷
    Wanted 1 (need index_node PR) index_area ∷
    Got 1 (need index_node PR) ∷
    Wanted 1 (need line1 PR) area ∷
    Got 1 (need line1 PR) ∷
    Wanted 1 (need line1 EX) area ∷
    Got 1 (need line1 EX) ∷
    Said 1 (set_row 1 0) [] done ∷
    Began 2 writer ∷
    Said 2 start_writing [] done ∷
    Wanted 2 (need catalog PR) catalog ∷
    Got 2 (need catalog PR) ∷
    Wanted 2 (need index_node PR) index_area ∷
    Got 2 (need index_node PR) ∷
    Wanted 2 (need line2 PR) area ∷
    Got 2 (need line2 PR) ∷
    Wanted 2 (need line2 EX) area ∷
    Got 2 (need line2 EX) ∷
    Said 2 (set_row 2 21) [] done ∷
    Died 1 cause.Gate ∷
    Recovered 1 false 1 ∷
    Wanted 2 (need journal EX) journal ∷
    Got 2 (need journal EX) ∷
    Committed 2 2 ∷
    Said 2 (said commit) [] done ∷
    Began 2 ReadOnly ∷
    Said 2 (said start_read_only) [] done ∷
    Said 2 all_rows [] (shows_two 1 10 2 21) ∷
    RolledBack 2 ∷ []

pub death : IsLegal death_opening death_events
death = record {
  steps = ((refl, refl, refl), ((refl, (refl, refl, (refl, refl))), ((refl, refl, refl, refl), ((refl, refl, refl, refl), ((refl, refl, refl, refl), ((refl, refl, refl, refl), ((refl, refl, refl, refl), ((refl, refl, refl, refl), ((refl, refl, refl, refl), ((refl, refl, refl, refl), ((refl, (refl, refl, (refl, refl))), ((refl, refl, refl), ((refl, (refl, refl, (refl, refl))), ((refl, refl, refl, refl), ((refl, refl, refl, refl), ((refl, refl, refl, refl), ((refl, refl, refl, refl), ((refl, refl, refl, refl), ((refl, refl, refl, refl), ((refl, refl, refl, refl), ((refl, refl, refl, refl), ((refl, (refl, refl, (refl, refl))), ((refl, refl), ((refl, omega arith, tt), ((refl, refl, refl, refl), ((refl, refl, refl, refl), ((refl, omega arith, (refl, refl)), ((refl, (refl, refl, refl)), ((refl, refl, refl), ((refl, (refl, refl, refl)), ((refl, (refl, refl, refl)), ((refl, refl, refl), tt))))))))))))))))))))))))))))))));
  settled = refl;
}
