use Rattle.rmu_recover.proofs.fitting.fit_next.Goals as goal

pub returns-in-Behind-clause-behind : goal.returns-in-Behind-clause-behind
returns-in-Behind-clause-behind g c = c.in_ok-reached.ensures.behind c.in-Behind.reached c.in-Behind.is

pub returns-in-Behind-clause-fitted : goal.returns-in-Behind-clause-fitted
returns-in-Behind-clause-fitted g c = c.in_ok-reached.ensures.fitted c.in-Behind.reached c.in-Behind.is

pub returns-in-Unfit-clause-unfit : goal.returns-in-Unfit-clause-unfit
returns-in-Unfit-clause-unfit g c = λ key is. c.in_ok-reached.ensures.unfit c.in-Unfit.key c.in-Unfit.is
