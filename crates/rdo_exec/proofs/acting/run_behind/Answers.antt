use Rattle.std.proofs.Common.{◌≡◌, Result, refl, subst}
use Rattle.std.specs.Prelude.{IfOk}
use Rattle.rdb_types.specs.declared.memory.NoMemory.{NoMemory}
use Rattle.rdo_ast.specs.declared.reply.Standing.{Standing}
use Rattle.rdb_meaning.specs.Meaning.{standing_for}
use Rattle.rdo_ast.specs.Tree.{said, perform}
use Rattle.line_view.specs.Held.{knows}
use Rattle.rdo_bind.specs.Acting.{written_act}
use Rattle.session_jobs.specs.declared.jobs.Found.TheVariants as found
use Rattle.rdo_exec.proofs.Answered.{says_nothing}
use Rattle.rdo_exec.proofs.acting.run_behind.Goals as goal

pub returns-in-Ok-clause-comes : goal.returns-in-Ok-clause-comes
returns-in-Ok-clause-comes c = λ word standing free is.
    c.run.ensures.comes word standing free (subst (λ (r : Result Standing NoMemory). IfOk r (λ left. left ≡ standing_for (written_act c.args.action.now) standing)) c.in-Ok.is is)

pub returns-in-Err-clause-comes : goal.returns-in-Err-clause-comes
returns-in-Err-clause-comes c = λ word standing free is. says_nothing word standing (said (perform (written_act c.args.action.now))) (knows c.args.known) found.NoMemory refl

pub returns-in-Err-clause-stays : goal.returns-in-Err-clause-stays
returns-in-Err-clause-stays c = λ all t sound agrees. tt

pub returns-in-Err-clause-needs : goal.returns-in-Err-clause-needs
returns-in-Err-clause-needs c = λ all t sound agrees. tt
