use Rattle.rmu_recover.proofs.journals.pass_next.Goals as goal

pub returns-in-Some-clause-reached : goal.returns-in-Some-clause-reached
returns-in-Some-clause-reached g c = λ t journal has.
    record { begins = c.in_ok-reached.ensures.no_gap t journal has c.in-Some.reached c.in-Some.is; is = c.in_ok-reached.ensures.reached t journal has c.in-Some.reached c.in-Some.is }

pub returns-in-Some-clause-grows : goal.returns-in-Some-clause-grows
returns-in-Some-clause-grows g c = c.in_ok-reached.ensures.grows c.in-Some.reached c.in-Some.is

pub returns-in-Some-clause-last : goal.returns-in-Some-clause-last
returns-in-Some-clause-last g c = c.in_ok-reached.ensures.last c.in-Some.reached c.in-Some.is

pub returns-in-Some-clause-above : goal.returns-in-Some-clause-above
returns-in-Some-clause-above g c = c.in_ok-reached.ensures.above c.in-Some.reached c.in-Some.is

pub returns-in-Some-clause-ceiling : goal.returns-in-Some-clause-ceiling
returns-in-Some-clause-ceiling g c = c.in_ok-reached.ensures.ceiling c.in-Some.reached c.in-Some.is

pub returns-in-None-clause-gap : goal.returns-in-None-clause-gap
returns-in-None-clause-gap g c = λ number is t journal has. c.in_ok-reached.ensures.gap t journal has c.in-None.is
