use Rattle.std.proofs.Common.{sym, subst, ◌≡◌, None}
use Rattle.rdo_ast.specs.declared.syntax.Statement.{Statement}
use Rattle.rdo_ast.specs.Tree.{said}
use Rattle.rdo_ast.specs.Views.{command_of}
use Rattle.line_view.specs.Held.{knows}
use Rattle.rdo_exec.specs.Coming.{Comes, Asks}
use Rattle.rdo_ast.specs.Views.{act_of}
use Rattle.rdo_exec.proofs.Locks.{acted_asks}
use Rattle.rdo_exec.proofs.Viewing.{defining_not_act, defining_writes}
use Rattle.rdo_exec.specs.Ways.{IsViewing}
use Rattle.rdb_meaning.specs.Meaning.{standing_refusal}
use Rattle.rdo_exec.specs.Needed.{ItemNeeds}
use Rattle.rdo_exec.proofs.FirstNeeds.{defining_needs}
use Rattle.rdo_exec.proofs.statements.work_by.Goals as goal

pub returns-in-Act-clause-comes : goal.returns-in-Act-clause-comes
returns-in-Act-clause-comes c = λ word.
    subst (λ (s : Statement). Comes word c.args.standing.now (said (command_of s)) (knows c.args.known) c.act_by.result.found) (sym c.in-Act.is) (c.act_by.ensures.comes word)

pub define_by-requires-clause-writing : goal.define_by-requires-clause-writing
define_by-requires-clause-writing c =
    defining_writes (command_of c.args.statement.now) c.args.standing.now (defining_not_act c.args.statement.now c.in_default.not-Act c.requires.way) c.requires.standing

pub define_by-requires-clause-defining : goal.define_by-requires-clause-defining
define_by-requires-clause-defining c = defining_not_act c.args.statement.now c.in_default.not-Act c.requires.way

pub returns-in-Act-clause-asked : goal.returns-in-Act-clause-asked
returns-in-Act-clause-asked c =
    let is = c.in-Act.is in
    subst (λ (s : Statement). Asks c.args.standing.now (said (command_of s)) (knows c.args.known) c.act_by.result.found) (sym is)
    (acted_asks (act_of c.in-Act.action) (knows c.args.known) c.args.standing.now c.act_by.result.found (subst (λ (s : Statement). standing_refusal (command_of s) c.args.standing.now ≡ None) is c.requires.standing) (subst (λ (s : Statement). IsViewing (command_of s)) is c.requires.way) c.act_by.ensures.stays)

pub returns-in-Act-clause-needs : goal.returns-in-Act-clause-needs
returns-in-Act-clause-needs c = subst (λ (s : Statement). ItemNeeds (said (command_of s)) (knows c.args.known) c.act_by.result.found) (sym c.in-Act.is) c.act_by.ensures.needs

pub returns-in_default-clause-needs : goal.returns-in_default-clause-needs
returns-in_default-clause-needs c = defining_needs (command_of c.args.statement.now) (knows c.args.known) c.define_by.result.found (defining_not_act c.args.statement.now c.in_default.not-Act c.requires.way)
