use Rattle.std.proofs.Common.{refl}
use Rattle.rdo_ast.specs.Tree.{said, perform}
use Rattle.line_view.specs.Held.{knows}
use Rattle.rdo_bind.specs.Acting.{written_act}
use Rattle.session_jobs.specs.declared.jobs.Found.TheVariants.{NoMemory}
use Rattle.rdo_exec.proofs.Answered.{says_nothing}
use Rattle.rdo_exec.proofs.acting.run.Goals as goal

pub run_with-requires-clause-together : goal.run_with-requires-clause-together
run_with-requires-clause-together c = record { present = c.in-Ok.ensures.present; tables = c.in-Ok.ensures.tables; only = c.in-Ok.ensures.only; indexed = c.in-Ok.ensures.indexed }

pub returns-in-Err-clause-comes : goal.returns-in-Err-clause-comes
returns-in-Err-clause-comes c = λ word standing free is. says_nothing word standing (said (perform (written_act c.args.action.now))) (knows c.args.known) NoMemory refl

pub returns-in-Err-clause-stays : goal.returns-in-Err-clause-stays
returns-in-Err-clause-stays c = λ all t sound agrees. tt

pub returns-in-Err-clause-needs : goal.returns-in-Err-clause-needs
returns-in-Err-clause-needs c = λ all t sound agrees. tt
