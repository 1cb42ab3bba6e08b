use Rattle.std.proofs.Common.{map, refl, ap, subst, sym, ◌∙◌}
use Rattle.std.proofs.lemmas.Bool.{false≢true}
use Rattle.std.proofs.lemmas.Option.{none-some}
use Rattle.rdb_account.specs.Events.{event_of}
use Rattle.line_drive.specs.line_cluster.Deaths.{RoseBy, failures}
use Rattle.line_drive.specs.line_cluster.Sound.{is_over_slot}
use Rattle.line_runs.proofs.Opening.{rose-none, same-fault}
use Rattle.line_runs.proofs.runs.say_in_threads.Goals as goal

pub returns-in-Err-clause-bad : goal.returns-in-Err-clause-bad
returns-in-Err-clause-bad g c file slot is = c.in-Err.ensures.bad file slot (same-fault c.in-Err.unopened.fault _ c.unsaid.result.fault c.unsaid.ensures.fault is)

pub returns-in-Ok-clause-legal : goal.returns-in-Ok-clause-legal
returns-in-Ok-clause-legal g c told = rw c.ended.ensures.events (c.run_in_threads.ensures.legal told)

pub returns-in-Ok-clause-images : goal.returns-in-Ok-clause-images
returns-in-Ok-clause-images g c told opened = rw c.ended.ensures.events (c.ended.ensures.images g.O.Origin.opening (map event_of c.run_in_threads.result.events) (c.run_in_threads.ensures.images told))

pub returns-in-Ok-clause-backups : goal.returns-in-Ok-clause-backups
returns-in-Ok-clause-backups g c told opened = rw c.ended.ensures.events (c.ended.ensures.backups g.O.Origin.opening (map event_of c.run_in_threads.result.events) (c.run_in_threads.ensures.images told))

pub returns-in-Ok-clause-left : goal.returns-in-Ok-clause-left
returns-in-Ok-clause-left g c told whole =
    let ended = sym c.ended.ensures.is_whole ∙ whole in
    rw c.ended.ensures.events (c.ended.ensures.left g.O.Origin.opening (map event_of c.run_in_threads.result.events) (c.run_in_threads.ensures.left ended told) (c.run_in_threads.ensures.outside ended))

pub returns-in-Ok-clause-harmed : goal.returns-in-Ok-clause-harmed
returns-in-Ok-clause-harmed g c told =
    let more = failures (map event_of c.run_in_threads.result.events) c.run_in_threads.result.halt in
    rw c.ended.ensures.events (rw c.ended.ensures.halt (subst (λ n. RoseBy more n (g.D.Disk.view c.ended.result.disk).faults) (c.requires.faults told) (c.ended.ensures.faults g.O.Origin.faults more (c.run_in_threads.ensures.faults told))))

pub returns-in-Err-clause-harmed : goal.returns-in-Err-clause-harmed
returns-in-Err-clause-harmed g c told = rw c.unsaid.ensures.events (rw c.unsaid.ensures.halt (rw c.unsaid.ensures.disk (rose-none _ _ (c.in-Err.ensures.later told))))

pub returns-in-Err-clause-images : goal.returns-in-Err-clause-images
returns-in-Err-clause-images g c told opened = absurd (none-some c.in-Err.unopened.fault (sym opened ∙ c.unsaid.ensures.fault))

pub returns-in-Err-clause-backups : goal.returns-in-Err-clause-backups
returns-in-Err-clause-backups g c told opened = absurd (none-some c.in-Err.unopened.fault (sym opened ∙ c.unsaid.ensures.fault))

pub returns-in-Err-clause-left : goal.returns-in-Err-clause-left
returns-in-Err-clause-left g c told whole = absurd (false≢true (sym c.unsaid.ensures.is_whole ∙ whole))

pub returns-in-Ok-clause-agrees : goal.returns-in-Ok-clause-agrees
returns-in-Ok-clause-agrees g c told = rw c.ended.ensures.halt (c.run_in_threads.ensures.agrees told)

pub returns-in-Err-clause-agrees : goal.returns-in-Err-clause-agrees
returns-in-Err-clause-agrees g c told = rw c.unsaid.ensures.halt refl

pub returns-in-Ok-clause-spent : goal.returns-in-Ok-clause-spent
returns-in-Ok-clause-spent g c told over = c.ended.ensures.spent (c.run_in_threads.ensures.spent told (ap is_over_slot (sym c.ended.ensures.halt) ∙ over))

pub returns-in-Err-clause-spent : goal.returns-in-Err-clause-spent
returns-in-Err-clause-spent g c told over = absurd (false≢true (ap is_over_slot (sym c.unsaid.ensures.halt) ∙ over))

pub returns-in-Ok-clause-gave_up : goal.returns-in-Ok-clause-gave_up
returns-in-Ok-clause-gave_up g c told unopened = absurd (unopened c.ended.ensures.fault)

pub returns-in-Err-clause-gave_up : goal.returns-in-Err-clause-gave_up
returns-in-Err-clause-gave_up g c told unopened = rw c.unsaid.ensures.disk (c.in-Err.ensures.gave_up told)

pub returns-in-Ok-clause-backups_before : goal.returns-in-Ok-clause-backups_before
returns-in-Ok-clause-backups_before g c told opened = rw c.ended.ensures.events (c.ended.ensures.backups_before g.O.Origin.opening (map event_of c.run_in_threads.result.events) (c.run_in_threads.ensures.images told))

pub returns-in-Err-clause-backups_before : goal.returns-in-Err-clause-backups_before
returns-in-Err-clause-backups_before g c told opened = absurd (none-some c.in-Err.unopened.fault (sym opened ∙ c.unsaid.ensures.fault))
