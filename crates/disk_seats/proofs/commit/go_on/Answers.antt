use Rattle.line_seat.proofs.CommitSteps.{if_ok}
use Rattle.disk_seats.specs.Ledgers.{this_commit, progress_of}
use Rattle.disk_seats.proofs.HeldUp.{held_facts}
use Rattle.disk_seats.proofs.CommitTurns.{step_facts}
use Rattle.disk_seats.proofs.commit.go_on.Goals as goal

pub returns-clause-keeps : goal.returns-clause-keeps
returns-clause-keeps g c = let v = g.D.Disk.view in λ t ledger member o f was commits.
    let old = v c.args.disk.now in let new = v c.commit_step.new.disk in let w = c.commit_step.ensures.writes in
    let its = this_commit member o c.args.stage c.args.group c.args.lines.now c.args.classes.now f in
    let stands = was.commit its commits in
    held_facts old new w.0 w.1 t w.3 w.2 ledger its was commits (c.commit_step.ensures.keeps t ledger.base member o f stands.is stands.facts)
    (c.commit_step.ensures.changes t (progress_of ledger) was.facts) c.requires.distinct

pub returns-clause-goes_on : goal.returns-clause-goes_on
returns-clause-goes_on g c = let v = g.D.Disk.view in
    if_ok _ _ c.commit_step.result (λ next on t ledger member o f was classes commits.
    let old = v c.args.disk.now in let new = v c.commit_step.new.disk in let w = c.commit_step.ensures.writes in
    let its = this_commit member o c.args.stage c.args.group c.args.lines.now c.args.classes.now f in
    let stands = was.commit its commits in
    step_facts old new w.0 w.1 t w.3 w.2 ledger its was commits (c.commit_step.ensures.keeps t ledger.base member o f stands.is stands.facts) (c.commit_step.ensures.changes t (progress_of ledger) was.facts)
    next (on t ledger.base member o f stands.is classes stands.facts)) c.commit_step.ensures.goes_on

pub returns-clause-changes : goal.returns-clause-changes
returns-clause-changes g c = λ t ledger was. c.commit_step.ensures.changes t (progress_of ledger) was.facts

pub returns-clause-classes : goal.returns-clause-classes
returns-clause-classes g c = λ t ledger was by_area its had. c.commit_step.ensures.classes t (progress_of ledger) was.facts by_area its had

pub returns-clause-owners : goal.returns-clause-owners
returns-clause-owners g c = λ t ledger was there area is_file is_data lies. c.commit_step.ensures.owners t (progress_of ledger) was.facts there area is_file is_data lies

pub returns-clause-bad : goal.returns-clause-bad
returns-clause-bad g c = λ file slot is t ledger member o f by_area was commits room.
    let stands = was.commit (this_commit member o c.args.stage c.args.group c.args.lines.now c.args.classes.now f) commits in
    c.commit_step.ensures.bad file slot is t ledger.base member o f by_area stands.is stands.facts room
