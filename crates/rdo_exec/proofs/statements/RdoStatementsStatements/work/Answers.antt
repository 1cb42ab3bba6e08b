use Rattle.rdo_exec.proofs.Answered.{has_cause}
use Rattle.rdo_exec.proofs.Outside.{outside_names}
use Rattle.rdo_exec.proofs.statements.RdoStatementsStatements.work.Goals as goal

pub returns-clause-cause : goal.returns-clause-cause
returns-clause-cause c = has_cause c.args.job c.worked-known.result.found c.worked-known.ensures.left

pub returns-clause-outside : goal.returns-clause-outside
returns-clause-outside c = outside_names c.args.job c.worked-known.result.found c.worked-known.ensures.outside

pub returns-clause-settled : goal.returns-clause-settled
returns-clause-settled c = λ is. c.worked-known.ensures.outside is.closed is.none
