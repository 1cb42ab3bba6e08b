-- What refuses a definition or a deletion, and the tables that it leaves.
use Rattle.std.specs.Prelude.{◌≡◌, Bool, true, false, List, [], ◌∷◌, None, Result, Ok, Err}
use Rattle.std.specs.FinMap.Entries.{find}
use Rattle.rdb_types.specs.declared.keys.Dbkey.{Dbkey}
use Rattle.rdb_types.specs.declared.memory.NoMemory.{NoMemory}
use Rattle.rdo_ast.specs.declared.reply.Standing.{Standing}
use Rattle.rdo_ast.specs.Tree.{Command, invoke, start_read_only, start_read_write, commit, rollback, finish, back_up, define_field, define_relation, define_index, delete_relation, delete_index}
use Rattle.rdb_meaning.specs.declared.tables.Tables.{Tables}
use Rattle.rdb_meaning.specs.Contents.{relation_named}
use Rattle.rdb_types.specs.Order.{chars_order}
use Rattle.rdb_meaning.specs.Checks.{Refusal, or_else, needs_some, use_of, reservation_refusal}
use Rattle.rdb_meaning.specs.Defining.{field_names, with_field, relation_names, with_relation, index_names, index_refusal, with_index, without_relation, without_index}
use Rattle.rdb_meaning.specs.Meaning.{Meaning, means, needs_read_write, reservations_of, index_uses}
use Rattle.rdb_tables.specs.declared.told.Told.{Told}

abbrev pub is_definition : Command → Bool
is_definition (define_field n type) = true
is_definition (define_relation n fs) = true
is_definition (define_index d) = true
is_definition (delete_relation n) = true
is_definition (delete_index n) = true
is_definition _ = false

-- the statements that leave the tables as they are, whatever they come to
abbrev pub leaves_tables : Command → Bool
leaves_tables (invoke text) = true
leaves_tables start_read_only = true
leaves_tables (start_read_write wait rs) = true
leaves_tables commit = true
leaves_tables rollback = true
leaves_tables finish = true
leaves_tables (back_up n) = true
leaves_tables _ = false

abbrev pub refusal_of : Command → Standing → Tables → Refusal
refusal_of (define_field n type) s t = or_else (needs_read_write s) (field_names n t)
refusal_of (define_relation n fs) s t = or_else (needs_read_write s) (relation_names n fs t)
refusal_of (define_index d) s t =
    or_else (needs_read_write s) (or_else (index_names d t)
    (or_else (reservation_refusal (reservations_of s) (use_of true d.relation ∷ [])) (index_refusal d t)))
refusal_of (delete_relation n) s t =
    or_else (needs_read_write s) (or_else (needs_some n (relation_named n t)) (reservation_refusal (reservations_of s) (use_of true n ∷ [])))
refusal_of (delete_index n) s t =
    or_else (needs_read_write s) (or_else (needs_some n (find chars_order n t.indexes))
    (reservation_refusal (reservations_of s) (index_uses (find chars_order n t.indexes) t)))
refusal_of _ s t = None

abbrev pub after_of : Command → Tables → Tables
after_of (define_field n type) t = with_field n type t
after_of (define_relation n fs) t = with_relation n fs t
after_of (define_index d) t = with_index d t
after_of (delete_relation n) t = without_relation n t
after_of (delete_index n) t = without_index n t
after_of _ t = t

-- An answer to a statement that stores no row and may change the tables.
abbrev pub Redefines : Result Told NoMemory → (List Dbkey → Meaning) → Tables → Tables → Type 0
Redefines (Ok d) m old new = ((left : List Dbkey) → m left ≡ means d.reply new d.standing left) × (d.taken ≡ [])
Redefines (Err e) m old new = new ≡ old
