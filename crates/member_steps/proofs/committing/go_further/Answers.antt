use Rattle.std.proofs.Common.{rules}
use Rattle.member_steps.specs.Turns.{plan_of}
use Rattle.member_steps.proofs.JournalsStay.{area_or_journal, journals_beside, no_journal}
use Rattle.member_steps.proofs.OwnersSaid.{goes_so}
use Rattle.member_steps.proofs.committing.go_further.Goals as goal

pub returns-in_err-next-clause-keeps : goal.returns-in_err-next-clause-keeps
returns-in_err-next-clause-keeps g c = λ t ledger member o all flight was facts. c.go_on.ensures.keeps t ledger member (record { tsn = o.tsn; entries = all }) flight was facts

pub returns-clause-keeps : goal.returns-clause-keeps
returns-clause-keeps g c = λ t ledger member o all flight was facts. c.go_on.ensures.keeps t ledger member (record { tsn = o.tsn; entries = all }) flight was facts

pub returns-clause-goes_on : goal.returns-clause-goes_on
returns-clause-goes_on g c = let w = g.D.Disk.view c.go_on.new.disk in λ t ledger member o all flight was classes facts. (
  c.in_ok-next.ensures.goes_on t ledger member (record { tsn = o.tsn; entries = all }) flight was classes facts,
  goes_so c.in_ok-next.next w w.moment ledger (plan_of member o all c.args.group c.args.lines.now c.args.classes.now flight) c.args.stage,
)

pub returns-in_err-next-clause-bad : goal.returns-in_err-next-clause-bad
returns-in_err-next-clause-bad g c = λ file slot is t ledger member o all flight by_area was facts room.
    c.go_on.ensures.bad file slot (search rules) t ledger member (record { tsn = o.tsn; entries = all }) flight by_area was facts room

pub returns-in_err-next-clause-journals : goal.returns-in_err-next-clause-journals
returns-in_err-next-clause-journals g c = let v = g.D.Disk.view in let writes = c.go_on.ensures.writes in λ t member slot.
    journals_beside (v c.args.disk.now) (v c.go_on.new.disk) writes.0 writes.1 t (no_journal writes.0 writes.1 writes.2) writes.3 member slot

pub returns-clause-journals : goal.returns-clause-journals
returns-clause-journals g c = let v = g.D.Disk.view in let writes = c.go_on.ensures.writes in λ t member slot.
    journals_beside (v c.args.disk.now) (v c.go_on.new.disk) writes.0 writes.1 t (no_journal writes.0 writes.1 writes.2) writes.3 member slot

pub returns-in_err-next-clause-files : goal.returns-in_err-next-clause-files
returns-in_err-next-clause-files g c = let writes = c.go_on.ensures.writes in (writes.0, writes.1, area_or_journal writes.0 writes.1 writes.2, writes.3)

pub returns-clause-files : goal.returns-clause-files
returns-clause-files g c = let writes = c.go_on.ensures.writes in (writes.0, writes.1, area_or_journal writes.0 writes.1 writes.2, writes.3)
