-- Bound statements: which are refused before they are bound, what one was written as, and when it is bound.
use Rattle.std.specs.Prelude.{[], None}
use Rattle.rdo_ast.specs.declared.reply.Standing.{Standing}
use Rattle.rdo_ast.specs.Tree.{Command, invoke, start_read_only, start_read_write, commit, rollback, finish, back_up, perform, define_field, define_relation, define_index, delete_relation, delete_index}
use Rattle.rdb_meaning.specs.declared.tables.Tables.{Tables}
use Rattle.rdb_meaning.specs.Checks.{Refusal}
use Rattle.rdb_meaning.specs.Meaning.{act_refusal}
use Rattle.rdo_bind.specs.declared.statement.BoundStatement.{BoundStatement}
use Rattle.rdo_bind.specs.declared.statement.BoundStatement.TheVariants as s
use Rattle.rdo_bind.specs.Acting.{act_of, named_act, IsBoundAct}

-- The statements that are no actions are refused when they are done.
abbrev pub command_refusal : Command → Standing → Tables → Refusal
command_refusal (perform a) standing t = act_refusal a standing t
command_refusal _ standing t = None

abbrev pub written_command : BoundStatement → Command
written_command (s.Invoke text) = invoke text
written_command s.StartReadOnly = start_read_only
written_command (s.StartReadWrite wait rs) = start_read_write wait rs
written_command s.Commit = commit
written_command s.Rollback = rollback
written_command s.Finish = finish
written_command (s.BackUp n) = back_up n
written_command (s.Act a) = perform (named_act (act_of a))
written_command (s.DefineField n kind) = define_field n kind
written_command (s.DefineRelation n fs) = define_relation n fs
written_command (s.DefineIndex d) = define_index d
written_command (s.DeleteRelation n) = delete_relation n
written_command (s.DeleteIndex n) = delete_index n

-- no variable is bound around a statement
abbrev pub IsBoundStatement : BoundStatement → Tables → Type 0
IsBoundStatement (s.Act a) t = IsBoundAct (act_of a) t []
IsBoundStatement _ t = Unit {0}
