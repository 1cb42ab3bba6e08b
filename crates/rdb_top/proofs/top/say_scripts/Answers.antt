use Rattle.std.proofs.Common.{Option, ◌++◌, length, ap, map, refl, subst, sym, ◌∙◌}
use Rattle.std.proofs.lemmas.Bool.{false≢true}
use Rattle.std.proofs.lemmas.Option.{none-some}
use Rattle.rdb_drive.specs.Boards.{MayDie}
use Rattle.rdb_account.specs.Events.{event_of}
use Rattle.rdb_account.specs.Legal.{IsLegal}
use Rattle.workload_runs.specs.line_cluster.Sound.{is_over_slot}
use Rattle.workload_runs.specs.line_cluster.Turned.{HaveAllEnded}
use Rattle.workload_runs.specs.line_drive.Boards.{mortals_of}
use Rattle.workload_runs.specs.line_drive.Turns.{KeepsTurns}
use Rattle.workload_runs.specs.line_runs.Openings.{said_to}
use Rattle.command_words.specs.Words.{order_in, word_of}
use Rattle.command_words.specs.declared.deaths.Death.{Death}
use Rattle.rdb_top.specs.Deaths.{letting, sessions_dying}
use Rattle.rdb_top.proofs.Deaths.{may-fail, mortals}
use Rattle.rdb_top.proofs.Saying.{opens, prefix-of-word, backups-of-word, before-of-word, all-of-word}
use Rattle.rdb_top.proofs.Unsaid.{nobody-died}
use Rattle.rdb_top.proofs.top.say_scripts.Goals as goal

pub run_of-requires-clause-mortals : goal.run_of-requires-clause-mortals
run_of-requires-clause-mortals g c κs within =
    let all = mortals c.args.asked.given.death (g.G.Gate.mortals c.args.gate.now) g.O.Origin.opening c.in-Ok.field-0.word c.args.scripts.items c.args.asked.given.count c.requires.last.death c.requires.mortals in
    let long = subst (λ n. MayDie (sessions_dying c.args.asked.given.death ++ g.G.Gate.mortals c.args.gate.now) (mortals_of (said_to (letting c.args.asked.given.death g.O.Origin.opening) c.in-Ok.field-0.word c.args.scripts.items) n)) (sym c.requires.count) all in
    subst (λ (death : Option Death). MayDie (sessions_dying death ++ g.G.Gate.mortals c.of.result.gate.now) (mortals_of (said_to (letting c.args.asked.given.death g.O.Origin.opening) c.in-Ok.field-0.word c.args.scripts.items) (length c.args.scripts.items))) (sym c.of.ensures.death)
    (subst (λ gate. MayDie (sessions_dying c.args.asked.given.death ++ g.G.Gate.mortals gate) (mortals_of (said_to (letting c.args.asked.given.death g.O.Origin.opening) c.in-Ok.field-0.word c.args.scripts.items) (length c.args.scripts.items))) (sym c.of.ensures.gate) long)

pub run_of-requires-clause-mortal : goal.run_of-requires-clause-mortal
run_of-requires-clause-mortal g c κs within = may-fail c.args.asked.given.death g.O.Origin.opening c.in-Ok.field-0.word c.args.scripts.items c.requires.mortal

pub run_of-requires-clause-opens : goal.run_of-requires-clause-opens
run_of-requires-clause-opens g c κs within =
    λ told. opens _ (g.D.Disk.view c.args.disk) c.args.asked.given.death g.O.Origin.opening c.in-Ok.field-0.word c.args.scripts.items (c.requires.opens told)

pub run_of-requires-clause-faults : goal.run_of-requires-clause-faults
run_of-requires-clause-faults g c κs within = λ told. refl

pub run_of-requires-clause-began : goal.run_of-requires-clause-began
run_of-requires-clause-began g c κs within = refl

pub returns-in-Ok-clause-harmed : goal.returns-in-Ok-clause-harmed
returns-in-Ok-clause-harmed g c told = c.run_of.ensures.harmed told

pub returns-in-Err-clause-harmed : goal.returns-in-Err-clause-harmed
returns-in-Err-clause-harmed g c told = rw c.unopened.ensures.disk (nobody-died c.unopened.result.events c.unopened.result.halt _ c.unopened.ensures.events c.unopened.ensures.halt)

pub returns-in-Err-clause-stopped : goal.returns-in-Err-clause-stopped
returns-in-Err-clause-stopped g c is = absurd (none-some _ (sym c.unopened.ensures.halt ∙ is))

pub returns-in-Ok-clause-agrees : goal.returns-in-Ok-clause-agrees
returns-in-Ok-clause-agrees g c told = c.run_of.ensures.agrees told

pub returns-in-Err-clause-agrees : goal.returns-in-Err-clause-agrees
returns-in-Err-clause-agrees g c told = rw c.unopened.ensures.halt refl

pub returns-in-Ok-clause-legal : goal.returns-in-Ok-clause-legal
returns-in-Ok-clause-legal g c told =
    subst (λ w. IsLegal (said_to (letting c.args.asked.given.death g.O.Origin.opening) w c.args.scripts.items) (map event_of c.run_of.result.events)) c.in-Ok.ensures.word (c.run_of.ensures.legal told)

pub returns-in-Ok-clause-whole : goal.returns-in-Ok-clause-whole
returns-in-Ok-clause-whole g c told whole =
    subst (λ n. HaveAllEnded (said_to (letting c.args.asked.given.death g.O.Origin.opening) (word_of c.args.asked.words.now) c.args.scripts.items) n (map event_of c.run_of.result.events)) c.requires.count
    (subst (λ w. HaveAllEnded (said_to (letting c.args.asked.given.death g.O.Origin.opening) w c.args.scripts.items) (length c.args.scripts.items) (map event_of c.run_of.result.events)) c.in-Ok.ensures.word (c.run_of.ensures.whole told whole))

pub returns-in-Ok-clause-order : goal.returns-in-Ok-clause-order
returns-in-Ok-clause-order g c has_order told whole =
    subst (λ w. KeepsTurns (said_to (letting c.args.asked.given.death g.O.Origin.opening) w c.args.scripts.items) c.args.asked.given.count (order_in c.args.asked.words.now) c.run_of.result.events) c.in-Ok.ensures.word
    (subst (λ n. KeepsTurns (said_to (letting c.args.asked.given.death g.O.Origin.opening) c.in-Ok.field-0.word c.args.scripts.items) n (order_in c.args.asked.words.now) c.run_of.result.events) c.requires.count
    (subst (λ turns. KeepsTurns (said_to (letting c.args.asked.given.death g.O.Origin.opening) c.in-Ok.field-0.word c.args.scripts.items) (length c.args.scripts.items) turns c.run_of.result.events) (c.as_slice.ensures ∙ c.in-Ok.ensures.order)
    (c.run_of.ensures.order has_order told whole)))

pub returns-in-Ok-clause-images : goal.returns-in-Ok-clause-images
returns-in-Ok-clause-images g c told opened = prefix-of-word _ (g.D.Disk.view c.run_of.result.disk) g.O.Origin.opening (map event_of c.run_of.result.events) c.args.asked.given.death _ _ c.args.scripts.items c.in-Ok.ensures.word (c.run_of.ensures.images told opened)

pub returns-in-Ok-clause-backups : goal.returns-in-Ok-clause-backups
returns-in-Ok-clause-backups g c told opened = backups-of-word _ (g.D.Disk.view c.run_of.result.disk) g.O.Origin.opening (map event_of c.run_of.result.events) c.args.asked.given.death _ _ c.args.scripts.items c.in-Ok.ensures.word (c.run_of.ensures.backups told opened)

pub returns-in-Ok-clause-left : goal.returns-in-Ok-clause-left
returns-in-Ok-clause-left g c told whole = all-of-word _ (g.D.Disk.view c.run_of.result.disk) g.O.Origin.opening (map event_of c.run_of.result.events) c.args.asked.given.death _ _ c.args.scripts.items c.in-Ok.ensures.word (c.run_of.ensures.left told whole)

pub returns-in-Err-clause-images : goal.returns-in-Err-clause-images
returns-in-Err-clause-images g c told opened = absurd (none-some _ (sym opened ∙ c.unopened.ensures.fault))

pub returns-in-Err-clause-backups : goal.returns-in-Err-clause-backups
returns-in-Err-clause-backups g c told opened = absurd (none-some _ (sym opened ∙ c.unopened.ensures.fault))

pub returns-in-Err-clause-left : goal.returns-in-Err-clause-left
returns-in-Err-clause-left g c told whole = absurd (false≢true (sym c.unopened.ensures.is_whole ∙ whole))

pub returns-in-Ok-clause-used_up : goal.returns-in-Ok-clause-used_up
returns-in-Ok-clause-used_up g c told over = c.run_of.ensures.used_up told over

pub returns-in-Err-clause-used_up : goal.returns-in-Err-clause-used_up
returns-in-Err-clause-used_up g c told over = absurd (false≢true (ap is_over_slot (sym c.unopened.ensures.halt) ∙ over))

pub returns-in-Ok-clause-backups_before : goal.returns-in-Ok-clause-backups_before
returns-in-Ok-clause-backups_before g c told opened = before-of-word (g.D.Disk.view c.args.disk) (g.D.Disk.view c.run_of.result.disk) g.O.Origin.opening (map event_of c.run_of.result.events) c.args.asked.given.death _ _ c.args.scripts.items c.in-Ok.ensures.word (c.run_of.ensures.backups_before told opened)

pub returns-in-Err-clause-backups_before : goal.returns-in-Err-clause-backups_before
returns-in-Err-clause-backups_before g c told opened = absurd (none-some _ (sym opened ∙ c.unopened.ensures.fault))

pub run_of-requires-clause-former : goal.run_of-requires-clause-former
run_of-requires-clause-former g c κs within = record { in_use = λ is. is; stood = λ number since b has. has }
