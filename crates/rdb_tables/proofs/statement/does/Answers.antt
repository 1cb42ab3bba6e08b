use Rattle.std.proofs.Common.{rules}
use Rattle.rdo_ast.specs.Views.{act_of, uttered_of}
use Rattle.rdb_tables.proofs.Telling.{does_act, takes_nothing, says_first, redefines_first}
use Rattle.rdb_tables.proofs.statement.does.Goals as goal

pub returns-in-Statement-Act-clause-meaning : goal.returns-in-Statement-Act-clause-meaning
returns-in-Statement-Act-clause-meaning c =
    does_act c.act.result c.args.word.now c.args.standing.now (uttered_of c.args.item.now) (act_of c.in-Statement-Act.action) c.args.choices.now c.args.tables.now c.act.new.tables
    (search rules) c.act.ensures.meaning

pub returns-in_ok-copied-in-SyntaxAt-clause-chosen : goal.returns-in_ok-copied-in-SyntaxAt-clause-chosen
returns-in_ok-copied-in-SyntaxAt-clause-chosen c = takes_nothing _ c.args.choices.now c.plain.result.taken (search rules)

pub returns-in-Statement-DefineField-clause-chosen : goal.returns-in-Statement-DefineField-clause-chosen
returns-in-Statement-DefineField-clause-chosen c = redefines_first c.definition.result _ _ _ _ c.args.choices.now c.definition.ensures.meaning

pub returns-in-Statement-Invoke-clause-chosen : goal.returns-in-Statement-Invoke-clause-chosen
returns-in-Statement-Invoke-clause-chosen c = says_first c.transaction.result _ _ _ c.args.choices.now c.transaction.ensures.meaning
