use Rattle.std.proofs.Common.{ap, sym, ◌∙◌, refl}
use Rattle.session_jobs.specs.declared.jobs.Job.{Job}
use Rattle.session_limits.proofs.of_session_states.Outside.{forgoes-outside}
use Rattle.session_measure.proofs.Nearer.{nearer-said}
use Rattle.stage_steps.proofs.Jobs.{answered-from}
use Rattle.stage_steps.proofs.outside.answer_outside.Goals as goal

pub returns-in_default : goal.returns-in_default
returns-in_default g c =
    record {
      says = λ s c' word left total. rw c.refused.ensures (forgoes-outside g.S.Statements.stands g.met.S.Statements.orderly s c' c.args.item left total);
      cause = tt;
      nearer = λ s b d left total. nearer-said s b d _ _ _ refl left total;
    }

pub returns-in-Done : goal.returns-in-Done
returns-in-Done g c =
    record {
      says = λ s c' word left total. rw (ap (λ (j : Job). j.item) c.work-job.ensures.job) (answered-from g.S.Statements.stands g.met.S.Statements.orderly s c' c.args.item _ _ c.work-job.result.found c.in-Done.done c.requires (c.in-Ok.ensures ∙ sym word) c.new.ensures c.in-Done.is c.work-job.ensures.right left total);
      cause = tt;
      nearer = λ s b d left total. nearer-said s b d _ _ _ refl left total;
    }

pub returns-in-NoMemory-clause-says : goal.returns-in-NoMemory-clause-says
returns-in-NoMemory-clause-says g c s c' word left total =
    rw c.refused-in-NoMemory.ensures (rw (ap (λ (j : Job). j.item) c.work-job.ensures.job) (forgoes-outside g.S.Statements.stands g.met.S.Statements.orderly s c' c.args.item left total))

pub returns-in-NoMemory-clause-nearer : goal.returns-in-NoMemory-clause-nearer
returns-in-NoMemory-clause-nearer g c s b d left total = nearer-said s b d _ _ _ refl left total
