use Rattle.std.proofs.Common.{◌≡◌, None, sym, subst}
use Rattle.rdo_ast.specs.declared.reply.Standing.{Standing}
use Rattle.rdo_ast.specs.declared.syntax.Statement.{Statement}
use Rattle.rdo_ast.specs.Tree.{said, start_read_write}
use Rattle.rdo_ast.specs.Views.{command_of}
use Rattle.rdb_meaning.specs.Meaning.{standing_refusal}
use Rattle.line_view.specs.Held.{knows}
use Rattle.rdo_exec.specs.Ways.{IsReserving}
use Rattle.rdo_exec.specs.Coming.{Asks, Comes}
use Rattle.rdo_exec.proofs.Viewing.{is_closed}
use Rattle.rdo_exec.proofs.statements.reserving.Goals as goal

pub reserve-requires : goal.reserve-requires
reserve-requires c = subst (λ (s : Statement). IsReserving (command_of s)) c.in-StartReadWrite.is c.requires.way

pub returns-clause-asked : goal.returns-clause-asked
returns-clause-asked c =
    let is = c.in-StartReadWrite.is in
    let shut = is_closed c.args.standing.now (subst (λ (s : Statement). standing_refusal (command_of s) c.args.standing.now ≡ None) is c.requires.standing) in
    subst (λ (s : Statement). Asks c.args.standing.now (said (command_of s)) (knows c.args.known.now) c.reserve.result) (sym is)
    (subst (λ (x : Standing). Asks x (said (start_read_write c.in-StartReadWrite.wait c.in-StartReadWrite.reserved)) (knows c.args.known.now) c.reserve.result) (sym shut) c.reserve.ensures.asked)

pub returns-clause-comes : goal.returns-clause-comes
returns-clause-comes c = λ word.
    let is = c.in-StartReadWrite.is in
    let shut = is_closed c.args.standing.now (subst (λ (s : Statement). standing_refusal (command_of s) c.args.standing.now ≡ None) is c.requires.standing) in
    subst (λ (s : Statement). Comes word c.args.standing.now (said (command_of s)) (knows c.args.known.now) c.reserve.result) (sym is)
    (subst (λ (x : Standing). Comes word x (said (start_read_write c.in-StartReadWrite.wait c.in-StartReadWrite.reserved)) (knows c.args.known.now) c.reserve.result) (sym shut) (c.reserve.ensures.comes word))
