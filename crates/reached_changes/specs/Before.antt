-- What refuses a statement before its work: by the standing, by names, reservations and types.
use Rattle.std.specs.Prelude.{ℕ, Bool, true, false, not, List, [], ◌∷◌}
use Rattle.rdo_ast.specs.declared.reply.Standing.{Standing}
use Rattle.rdo_ast.specs.Tree.{Command, perform, define_field, define_relation, define_index}
use Rattle.rdb_meaning.specs.declared.tables.Tables.{Tables}
use Rattle.rdb_meaning.specs.Checks.{Refusal, or_else, use_of, reservation_refusal, is_retrieval}
use Rattle.rdb_meaning.specs.Defining.{index_names}
use Rattle.rdb_meaning.specs.Meaning.{needs_read_write, reservations_of, command_refusal}

-- That the keys of an index are too long, or repeat, is found in its work.
abbrev pub refusal_before : List ℕ → Command → Standing → Tables → Refusal
refusal_before word (define_index d) standing t = or_else (needs_read_write standing) (or_else (index_names d t) (reservation_refusal (reservations_of standing) (use_of true d.relation ∷ [])))
refusal_before word c standing t = command_refusal word c standing t

-- the changes that may take a room: a deletion takes none
abbrev pub takes_room : Command → Bool
takes_room (perform a) = not (is_retrieval a)
takes_room (define_field n type) = true
takes_room (define_relation n fs) = true
takes_room (define_index d) = true
takes_room _ = false
