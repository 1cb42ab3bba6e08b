use Rattle.std.proofs.Common.{None, inl, inr, ap, map, subst, sym, refl, ◌∙◌}
use Rattle.std.proofs.lemmas.Bool.{false≢true}
use Rattle.std.proofs.lemmas.Option.{none-some}
use Rattle.workload_runs.specs.line_cluster.Sound.{is_over_slot}
use Rattle.rdb_account.specs.Events.{event_of}
use Rattle.rdb_account.specs.Legal.{IsLegal}
use Rattle.workload_runs.specs.line_cluster.Turned.{HaveAllEnded}
use Rattle.workload_runs.specs.line_drive.Turns.{KeepsTurns}
use Rattle.workload_runs.specs.line_runs.Openings.{said_to}
use Rattle.command_words.specs.Words.{word_of, order_in}
use Rattle.rdb_top.specs.Deaths.{letting}
use Rattle.rdb_top.specs.Runs.{scripts_of, IsWhole}
use Rattle.rdb_top.proofs.Saying.{prefix-of-scripts, backups-of-scripts, before-of-scripts, all-of-scripts}
use Rattle.rdb_top.proofs.Failures.{rose-deaths, rose-stopped, rose-unopened}
use Rattle.rdb_top.proofs.Unsaid.{is-opened, nobody-died, nothing-said, stop-is-no-end, stop-is-no-failure, stop-is-no-fault}
use Rattle.rdb_top.proofs.Upward.{scripts-length}
use Rattle.workload_runs.proofs.Stops.{over-told, unsound-told}
use Rattle.rdb_top.proofs.top.run_rdo.Goals as goal

pub returns-in-Ok-clause-legal : goal.returns-in-Ok-clause-legal
returns-in-Ok-clause-legal g c told tells =
    rw c.finish_scripts.ensures.events (subst (λ qs. IsLegal (said_to (letting c.args.asked.given.death g.O.Origin.opening) (word_of c.args.asked.words.now) qs) (map event_of c.say_scripts-ran.result.events)) (c.in-Ok.ensures.items tells) (c.say_scripts-ran.ensures.legal told))

pub returns-in-Ok-clause-whole : goal.returns-in-Ok-clause-whole
returns-in-Ok-clause-whole g c told tells whole =
    rw c.finish_scripts.ensures.events (subst (λ qs. HaveAllEnded (said_to (letting c.args.asked.given.death g.O.Origin.opening) (word_of c.args.asked.words.now) qs) c.args.asked.given.count (map event_of c.say_scripts-ran.result.events)) (c.in-Ok.ensures.items tells)
    (c.say_scripts-ran.ensures.whole told (c.finish_scripts.ensures.whole whole)))

pub returns-in-Ok-clause-order : goal.returns-in-Ok-clause-order
returns-in-Ok-clause-order g c has_order told tells whole =
    rw c.finish_scripts.ensures.events (subst (λ qs. KeepsTurns (said_to (letting c.args.asked.given.death g.O.Origin.opening) (word_of c.args.asked.words.now) qs) c.args.asked.given.count (order_in c.args.asked.words.now) c.say_scripts-ran.result.events) (c.in-Ok.ensures.items tells)
    (c.say_scripts-ran.ensures.order has_order told (c.finish_scripts.ensures.whole whole)))

pub returns-in-Ok-clause-account : goal.returns-in-Ok-clause-account
returns-in-Ok-clause-account g c told = (
  c.in-Ok.items.items,
  c.in-Ok.ensures.length,
  c.in-Ok.ensures.items,
  (
    rw c.finish_scripts.ensures.events (c.say_scripts-ran.ensures.legal told),
    (λ whole. rw c.finish_scripts.ensures.events (c.say_scripts-ran.ensures.whole told (c.finish_scripts.ensures.whole whole))),
    (λ has_order whole. rw c.finish_scripts.ensures.events (c.say_scripts-ran.ensures.order has_order told (c.finish_scripts.ensures.whole whole))),
  ),
)

pub returns-in-Err-clause-account : goal.returns-in-Err-clause-account
returns-in-Err-clause-account g c told =
    let unended : IsWhole c.unsaid.result.status → ⊥ = λ whole. stop-is-no-end c.in-Err.stop (subst IsWhole (c.unsaid.ensures.status ∙ c.status_of.ensures) whole) in (
      scripts_of (g.S.Source.left c.args.scripts.now) c.args.asked.given.count,
      scripts-length (g.S.Source.left c.args.scripts.now) c.args.asked.given.count,
      (λ tells. refl),
      (rw c.unsaid.ensures.events (nothing-said _), (λ whole. absurd (unended whole)), (λ has_order whole. absurd (unended whole))),
    )

pub returns-in-Ok-clause-harmed : goal.returns-in-Ok-clause-harmed
returns-in-Ok-clause-harmed g c told = rw c.finish_scripts.ensures.events (rw c.finish_scripts.ensures.disk (rose-deaths (map event_of c.say_scripts-ran.result.events) c.say_scripts-ran.result.halt _ _ (c.say_scripts-ran.ensures.harmed told)))

pub returns-in-Err-clause-harmed : goal.returns-in-Err-clause-harmed
returns-in-Err-clause-harmed g c told = rw c.unsaid.ensures.disk (rose-deaths (map event_of c.unsaid.result.events) None _ _ (nobody-died c.unsaid.result.events None _ c.unsaid.ensures.events refl))

pub returns-in-Ok-clause-device : goal.returns-in-Ok-clause-device
returns-in-Ok-clause-device g c is = rw c.finish_scripts.ensures.disk (elim (c.finish_scripts.ensures.failed is) [
  | inl unopened ↦ c.say_scripts-ran.ensures.failed unopened
  | inr halt ↦ c.say_scripts-ran.ensures.stopped halt
])

pub returns-in-Ok-clause-stopped : goal.returns-in-Ok-clause-stopped
returns-in-Ok-clause-stopped g c told is =
    let events = map event_of c.say_scripts-ran.result.events in
    rw c.finish_scripts.ensures.events (rw c.finish_scripts.ensures.disk (elim (c.finish_scripts.ensures.failed is) [
      | inl unopened ↦ rose-unopened c.say_scripts-ran.result.events _ _ (c.say_scripts-ran.ensures.unsaid (λ none. none-some _ (sym none ∙ unopened))) (c.say_scripts-ran.ensures.failed unopened)
      | inr halt ↦ rose-stopped events c.say_scripts-ran.result.halt _ _ halt (c.say_scripts-ran.ensures.harmed told)
    ]))

pub returns-in-Err-clause-stopped : goal.returns-in-Err-clause-stopped
returns-in-Err-clause-stopped g c told is = absurd (stop-is-no-failure c.in-Err.stop (sym (c.unsaid.ensures.status ∙ c.status_of.ensures) ∙ is))

pub returns-in-Ok-clause-refused : goal.returns-in-Ok-clause-refused
returns-in-Ok-clause-refused g c is = elim (c.finish_scripts.ensures.bad is) [
  | inl bad ↦ inl (c.say_scripts-ran.ensures.bad bad.0 bad.1 bad.2)
  | inr over ↦ inr over
]

pub returns-in-Err-clause-refused : goal.returns-in-Err-clause-refused
returns-in-Err-clause-refused g c is = absurd (stop-is-no-fault c.in-Err.stop (sym (c.unsaid.ensures.status ∙ c.status_of.ensures) ∙ is))

pub returns-in-Ok-clause-agrees : goal.returns-in-Ok-clause-agrees
returns-in-Ok-clause-agrees g c told = unsound-told c.say_scripts-ran.result.halt c.finish_scripts.result.halt c.finish_scripts.ensures.halt (c.say_scripts-ran.ensures.agrees told)

pub returns-in-Err-clause-agrees : goal.returns-in-Err-clause-agrees
returns-in-Err-clause-agrees g c told = rw c.unsaid.ensures.halt refl

pub returns-in-Err-clause-halted : goal.returns-in-Err-clause-halted
returns-in-Err-clause-halted g c why is = absurd (none-some why (sym c.unsaid.ensures.halt ∙ is))

pub returns-in-Ok-clause-images : goal.returns-in-Ok-clause-images
returns-in-Ok-clause-images g c told tells some =
    let opened = is-opened c.say_scripts-ran.result.fault c.say_scripts-ran.result.events c.say_scripts-ran.ensures.unsaid (λ none. some (c.finish_scripts.ensures.events ∙ none)) in
    rw c.finish_scripts.ensures.events (rw c.finish_scripts.ensures.disk
    (prefix-of-scripts _ (g.D.Disk.view c.say_scripts-ran.result.disk) g.O.Origin.opening (map event_of c.say_scripts-ran.result.events) c.args.asked.given.death (word_of c.args.asked.words.now) _ _ (c.in-Ok.ensures.items tells)
    (c.say_scripts-ran.ensures.images told opened)))

pub returns-in-Ok-clause-backups : goal.returns-in-Ok-clause-backups
returns-in-Ok-clause-backups g c told tells some =
    let opened = is-opened c.say_scripts-ran.result.fault c.say_scripts-ran.result.events c.say_scripts-ran.ensures.unsaid (λ none. some (c.finish_scripts.ensures.events ∙ none)) in
    rw c.finish_scripts.ensures.events (rw c.finish_scripts.ensures.disk
    (backups-of-scripts _ (g.D.Disk.view c.say_scripts-ran.result.disk) g.O.Origin.opening (map event_of c.say_scripts-ran.result.events) c.args.asked.given.death (word_of c.args.asked.words.now) _ _ (c.in-Ok.ensures.items tells)
    (c.say_scripts-ran.ensures.backups told opened)))

pub returns-in-Ok-clause-left : goal.returns-in-Ok-clause-left
returns-in-Ok-clause-left g c told tells whole =
    rw c.finish_scripts.ensures.events (rw c.finish_scripts.ensures.disk
    (all-of-scripts _ (g.D.Disk.view c.say_scripts-ran.result.disk) g.O.Origin.opening (map event_of c.say_scripts-ran.result.events) c.args.asked.given.death (word_of c.args.asked.words.now) _ _ (c.in-Ok.ensures.items tells)
    (c.say_scripts-ran.ensures.left told (c.finish_scripts.ensures.whole whole))))

pub returns-in-Err-clause-images : goal.returns-in-Err-clause-images
returns-in-Err-clause-images g c told tells some = absurd (some c.unsaid.ensures.events)

pub returns-in-Err-clause-backups : goal.returns-in-Err-clause-backups
returns-in-Err-clause-backups g c told tells some = absurd (some c.unsaid.ensures.events)

pub returns-in-Err-clause-left : goal.returns-in-Err-clause-left
returns-in-Err-clause-left g c told tells whole = absurd (stop-is-no-end c.in-Err.stop (subst IsWhole (c.unsaid.ensures.status ∙ c.status_of.ensures) whole))

pub returns-in-Ok-clause-used_up : goal.returns-in-Ok-clause-used_up
returns-in-Ok-clause-used_up g c told over = rw c.finish_scripts.ensures.disk (c.say_scripts-ran.ensures.used_up told (over-told c.say_scripts-ran.result.halt c.finish_scripts.result.halt c.finish_scripts.ensures.halt over))

pub returns-in-Err-clause-used_up : goal.returns-in-Err-clause-used_up
returns-in-Err-clause-used_up g c told over = absurd (false≢true (ap is_over_slot (sym c.unsaid.ensures.halt) ∙ over))

pub returns-in-Ok-clause-backups_before : goal.returns-in-Ok-clause-backups_before
returns-in-Ok-clause-backups_before g c told tells some =
    let opened = is-opened c.say_scripts-ran.result.fault c.say_scripts-ran.result.events c.say_scripts-ran.ensures.unsaid (λ none. some (c.finish_scripts.ensures.events ∙ none)) in
    rw c.finish_scripts.ensures.events (rw c.finish_scripts.ensures.disk
    (before-of-scripts (g.D.Disk.view c.args.disk) (g.D.Disk.view c.say_scripts-ran.result.disk) g.O.Origin.opening (map event_of c.say_scripts-ran.result.events) c.args.asked.given.death (word_of c.args.asked.words.now) _ _ (c.in-Ok.ensures.items tells)
    (c.say_scripts-ran.ensures.backups_before told opened)))

pub returns-in-Err-clause-backups_before : goal.returns-in-Err-clause-backups_before
returns-in-Err-clause-backups_before g c told tells some = absurd (some c.unsaid.ensures.events)
