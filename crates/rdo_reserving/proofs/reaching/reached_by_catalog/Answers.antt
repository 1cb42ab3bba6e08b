use Rattle.line_view.specs.Held.{knows}
use Rattle.rdo_ast.specs.Views.{command_of}
use Rattle.rdo_reserving.proofs.Reached.{reached-over}
use Rattle.rdo_reserving.proofs.reaching.reached_by_catalog.Goals as goal

pub returns-in-Ok : goal.returns-in-Ok
returns-in-Ok c is = rw c.in-Statement.is (reached-over (knows c.args.known.now) c.in-Ok.catalog c.args.standing.now (command_of c.in-Statement.statement) c.in-Ok.ensures.catalog (c.is_reached_in.ensures.before is) (c.is_reached_in.ensures.takes_room is))
