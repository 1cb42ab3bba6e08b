use Rattle.stable_lines.specs.History.{state_of, state_with}
use Rattle.stable_lines.proofs.Histories as histories
use Rattle.stable_lines.proofs.history.images_since_a_commit.Goals as goal

pub returns-clause-commit : goal.returns-clause-commit
returns-clause-commit g c = λ history now at facts. histories.since_commit (g.D.Disk.view c.args.disk.now) history now at facts

pub returns-clause-goes_on : goal.returns-clause-goes_on
returns-clause-goes_on g c = λ moment k old new since on. histories.since_stays (g.D.Disk.view c.args.disk.now) moment k old new since on

pub returns-clause-takes_off : goal.returns-clause-takes_off
returns-clause-takes_off g c = λ history now flight at. histories.at_takes_off history now flight at

pub returns-clause-lands : goal.returns-clause-lands
returns-clause-lands g c = λ history now flight at. histories.at_lands history now flight at

pub returns-clause-empty : goal.returns-clause-empty
returns-clause-empty g c = λ history now none at. histories.at_empty history now none at

pub returns-clause-empty_beside : goal.returns-clause-empty_beside
returns-clause-empty_beside g c = λ history now flight is at. histories.at_empty_beside history now flight is at

pub returns-clause-tried : goal.returns-clause-tried
returns-clause-tried g c = λ history commits now flight. histories.try_goes_on history commits (state_with now flight)

pub returns-clause-reached : goal.returns-clause-reached
returns-clause-reached g c = λ history now. histories.commit_goes_on history (state_of now)
