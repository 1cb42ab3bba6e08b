use Rattle.std.proofs.Common.{sym}
use Rattle.rdo_bind.specs.Acting.{act_of}
use Rattle.rdo_acts.proofs.Wanting.{begin_wants}
use Rattle.rdo_acts.proofs.acting.begin.Goals as goal

pub returns-clause-runs : goal.returns-clause-runs
returns-clause-runs c all t holds = c.run_action.ensures.runs all t t holds (sym c.new-values.ensures)

pub returns-clause-areas : goal.returns-clause-areas
returns-clause-areas c all t holds = c.run_action.ensures.areas all t t holds (sym c.new-values.ensures)

pub returns-clause-lacks : goal.returns-clause-lacks
returns-clause-lacks c none first t sound = c.run_action.ensures.lacks none first t sound (sym c.new-values.ensures)

pub returns-clause-wants : goal.returns-clause-wants
returns-clause-wants c all t holds = begin_wants c.args.given.now all t (act_of c.args.action.now) c.run_action.result (c.run_action.ensures.wants all t t holds (sym c.new-values.ensures))
