use Rattle.std.proofs.Common.{◌∙◌, sym, subst}
use Rattle.workload_runs.specs.line_runs.Openings.{HasNoNumbers}
use Rattle.workload_runs.proofs.Stops.{over-told, unsound-told}
use Rattle.rdb_top.proofs.top.run_of.Goals as goal

pub returns-then-given-clause-bad : goal.returns-then-given-clause-bad
returns-then-given-clause-bad g c file slot is = subst (λ disk. HasNoNumbers (g.D.Disk.view disk)) c.new-disk.ensures (c.say_in_order.ensures.bad file slot (sym c.unwatched.ensures.fault ∙ is))

pub returns-else-given-clause-bad : goal.returns-else-given-clause-bad
returns-else-given-clause-bad g c file slot is = subst (λ disk. HasNoNumbers (g.D.Disk.view disk)) c.new-disk.ensures (c.say_in_threads.ensures.bad file slot (sym c.unwatched-else-given.ensures.fault ∙ is))

pub returns-then-given-clause-agrees : goal.returns-then-given-clause-agrees
returns-then-given-clause-agrees g c told = unsound-told c.say_in_order.result.halt c.unwatched.result.halt c.unwatched.ensures.halt (c.say_in_order.ensures.agrees told)

pub returns-else-given-clause-agrees : goal.returns-else-given-clause-agrees
returns-else-given-clause-agrees g c told = unsound-told c.say_in_threads.result.halt c.unwatched-else-given.result.halt c.unwatched-else-given.ensures.halt (c.say_in_threads.ensures.agrees told)

pub returns-then-given-clause-used_up : goal.returns-then-given-clause-used_up
returns-then-given-clause-used_up g c told over = rw c.unwatched.ensures.disk (c.say_in_order.ensures.spent told (over-told c.say_in_order.result.halt c.unwatched.result.halt c.unwatched.ensures.halt over))

pub returns-else-given-clause-used_up : goal.returns-else-given-clause-used_up
returns-else-given-clause-used_up g c told over = rw c.unwatched-else-given.ensures.disk (c.say_in_threads.ensures.spent told (over-told c.say_in_threads.result.halt c.unwatched-else-given.result.halt c.unwatched-else-given.ensures.halt over))

pub returns-then-given-clause-backups_before : goal.returns-then-given-clause-backups_before
returns-then-given-clause-backups_before g c told opened = rw c.unwatched.ensures.events (rw c.unwatched.ensures.disk (c.say_in_order.ensures.backups_before told (sym c.unwatched.ensures.fault ∙ opened)))

pub returns-else-given-clause-backups_before : goal.returns-else-given-clause-backups_before
returns-else-given-clause-backups_before g c told opened = rw c.unwatched-else-given.ensures.events (rw c.unwatched-else-given.ensures.disk (c.say_in_threads.ensures.backups_before told (sym c.unwatched-else-given.ensures.fault ∙ opened)))
