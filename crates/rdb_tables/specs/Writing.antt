-- What hinders the writing of a row.
use Rattle.std.specs.Prelude.{◌≡◌, Bool, true, false, Option, Some, None, Result, Ok, Err}
use Rattle.rdb_types.specs.declared.keys.Dbkey.{Dbkey}
use Rattle.rdo_ast.specs.declared.reply.Reply.{Reply}
use Rattle.rdo_ast.specs.declared.reply.Reply.TheVariants as r
use Rattle.rdo_ast.specs.Tree.{Name}
use Rattle.rdb_meaning.specs.declared.tables.Tables.{Tables}
use Rattle.rdb_meaning.specs.Contents.{Row, relation_named, fields_of, is_too_long}
use Rattle.rdb_meaning.specs.Execution.{taken_by, Assigned, assigned, unassigned}
use Rattle.rdb_tables.specs.declared.stop.Stop.{Stop}
use Rattle.rdb_tables.specs.declared.stop.Stop.TheVariants as stop

abbrev pub obstacle_of : Bool → Option Name → Option Reply
obstacle_of true taken = Some r.TooLong
obstacle_of false (Some index) = Some (r.Duplicate index)
obstacle_of false None = None

-- the row's image is too long, or else another row has its key of a unique index
abbrev pub obstacle : Name → Row → Dbkey → Tables → Option Reply
obstacle n row own t = obstacle_of (is_too_long (fields_of (relation_named n t)) row) (taken_by n row own t)

abbrev pub Finds : Result (Unit {0}) Stop → Option Reply → Type 0
Finds (Ok _) o = o ≡ None
Finds (Err stop.Overflow) o = ⊥
Finds (Err stop.TooLong) o = o ≡ Some r.TooLong
Finds (Err (stop.Duplicate index)) o = o ≡ Some (r.Duplicate index)
Finds (Err stop.Memory) o = Unit {0}

-- the row that assignments make
abbrev pub Makes : Result Row Stop → Assigned → Type 0
Makes (Ok row) a = a ≡ assigned row
Makes (Err stop.Overflow) a = a ≡ unassigned r.Overflow
Makes (Err stop.TooLong) a = a ≡ unassigned r.TooLong
Makes (Err (stop.Duplicate index)) a = ⊥
Makes (Err stop.Memory) a = Unit {0}
