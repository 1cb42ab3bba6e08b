use Rattle.std.proofs.Common.{◌≡◌, arith, inl, inr, map, refl, sym, subst}
use Rattle.rdb_account.specs.Events.{event_of}
use Rattle.line_runs.specs.line_cluster.Turned.{HaveAllEnded}
use Rattle.line_runs.specs.Openings.{HasNoNumbers}
use Rattle.sound_maps.specs.Maps.{IsSoundWith}
use Rattle.workload_runs.specs.Runs.{Frame, IsRun}
use Rattle.workload_runs.specs.Statuses.{IsWhole}
use Rattle.workload_runs.proofs.Chain.{ended-by}
use Rattle.workload_runs.proofs.Left.{held-by}
use Rattle.workload_runs.proofs.Stops.{halted-told, over-slot, over-told, refused-told, slot-over, spent-none, unsound-told}
use Rattle.workload_runs.proofs.Tallies.{died-by, harmed-by, stopped-by, ended-status, no-fewer}
use Rattle.workload_runs.proofs.part.run_part.Goals as goal

pub returns-then-status-ne0-clause-runs : goal.returns-then-status-ne0-clause-runs
returns-then-status-ne0-clause-runs g c told more =
    let o = g.O.Origin.opening in
    let s = c.args.said.scripts.items in
    let ran = c.say-ran.result in
    let f : Frame = record { word = o.word; may_die = o.may_die } in
    let run : IsRun f o.tables s (map event_of ran.events) = record { opening = o; named = refl; lets = refl; begins = refl; follows = c.requires.scripts; stops = c.requires.stops; legal = c.say-ran.ensures.legal told } in
    ended-by ran.fault f o.tables s more ran.events c.ended_by.result.accounts c.end_of_run-ended.result.status c.ended_by.result.status
    c.ended_by.ensures.begun c.ended_by.ensures.unsaid run
    (λ whole. subst (λ n. HaveAllEnded o n (map event_of ran.events)) (sym c.requires.sessions) (c.say-ran.ensures.whole told (c.end_of_run-ended.ensures.whole whole).0))

pub returns-then-status-ne0-clause-status : goal.returns-then-status-ne0-clause-status
returns-then-status-ne0-clause-status g c =
    ended-status c.say-ran.result.fault c.say-ran.result.halt c.say-ran.result.events c.ended_by.result.accounts c.end_of_run-ended.result.status c.ended_by.result.status 0 0
    c.ended_by.ensures.begun c.ended_by.ensures.unsaid c.end_of_run-ended.ensures.status c.if-status-ne0.true

pub returns-then-status-ne0-clause-died : goal.returns-then-status-ne0-clause-died
returns-then-status-ne0-clause-died g c =
    died-by c.say-ran.result.fault c.say-ran.result.halt c.say-ran.result.events c.ended_by.result.accounts c.end_of_run-ended.result.status c.ended_by.result.status 0 0
    c.ended_by.ensures.begun c.ended_by.ensures.unsaid (λ eight. (c.end_of_run-ended.ensures.whole (inr (inr (inr eight)))).1) c.end_of_run-ended.ensures.died

pub returns-then-status-ne0-clause-harmed : goal.returns-then-status-ne0-clause-harmed
returns-then-status-ne0-clause-harmed g c told =
    rw c.ended_by.ensures.disk (harmed-by c.say-ran.result.fault c.say-ran.result.halt c.say-ran.result.events c.ended_by.result.accounts c.end_of_run-ended.result.status c.ended_by.result.status _ _
    c.ended_by.ensures.begun c.ended_by.ensures.unsaid (c.say-ran.ensures.harmed told))

pub returns-then-status-ne0-clause-stopped : goal.returns-then-status-ne0-clause-stopped
returns-then-status-ne0-clause-stopped g c told =
    rw c.ended_by.ensures.disk (stopped-by c.say-ran.result.fault c.say-ran.result.halt c.say-ran.result.events c.ended_by.result.accounts c.end_of_run-ended.result.status c.ended_by.result.status _ _
    c.ended_by.ensures.begun c.ended_by.ensures.unsaid c.end_of_run-ended.ensures.device c.say-ran.ensures.failed (c.say-ran.ensures.harmed told))

pub returns-then-status-ne0-clause-halted : goal.returns-then-status-ne0-clause-halted
returns-then-status-ne0-clause-halted g c =
    halted-told c.end_of_run-ended.result.halt c.end_of_run-ended.result.status c.ended_by.result.halt c.ended_by.result.status c.ended_by.ensures.halt c.end_of_run-ended.ensures.halted

-- it was opened, and stopped over no line; over a slot only where its numbers are used up
pub returns-then-status-ne0-clause-refused : goal.returns-then-status-ne0-clause-refused
returns-then-status-ne0-clause-refused g c told =
    let v = g.D.Disk.view in
    let said = c.say-ran.result.halt in
    let halt = c.end_of_run-ended.result.halt in
    refused-told (v c.ended_by.result.disk) halt c.end_of_run-ended.result.status c.ended_by.result.halt c.ended_by.result.status c.ended_by.ensures.halt
    (λ four. elim (c.end_of_run-ended.ensures.bad four) [
      | inl bad ↦ absurd (c.requires.numbers told (c.say-ran.ensures.bad bad.0 bad.1 bad.2))
      | inr over ↦
          let slot = over-slot halt (unsound-told said halt c.end_of_run-ended.ensures.halt (c.say-ran.ensures.agrees told)) over in
          let spent = c.say-ran.ensures.spent told (over-told said halt c.end_of_run-ended.ensures.halt (slot-over halt slot)) in
          subst (λ d. HasNoNumbers (v d)) (sym c.ended_by.ensures.disk) (spent-none (v c.say-ran.result.disk) c.told_is_left.ensures spent)
    ])

pub returns-then-status-ne0-clause-holds : goal.returns-then-status-ne0-clause-holds
returns-then-status-ne0-clause-holds g c told more =
    let v = g.D.Disk.view in
    let o = g.O.Origin.opening in
    let s = c.args.said.scripts.items in
    let ran = c.say-ran.result in
    let f : Frame = record { word = o.word; may_die = o.may_die } in
    let run : IsRun f o.tables s (map event_of ran.events) = record { opening = o; named = refl; lets = refl; begins = refl; follows = c.requires.scripts; stops = c.requires.stops; legal = c.say-ran.ensures.legal told } in
    rw c.ended_by.ensures.disk (held-by IsSoundWith (v ran.disk) _ f o.tables s more ran.events run ran.fault c.ended_by.result.accounts c.end_of_run-ended.result.status c.ended_by.result.status
    c.ended_by.ensures.begun c.ended_by.ensures.unsaid
    (λ opened. record {
      images = inl (c.say-ran.ensures.images told opened);
      left = λ whole. c.say-ran.ensures.left told (c.end_of_run-ended.ensures.whole whole).0;
    })
    (λ unopened same. (
      (λ whole. unopened (c.end_of_run-ended.ensures.whole (subst IsWhole same whole)).1),
      c.say-ran.ensures.gave_up told unopened,
    )))

pub returns-clause-no_fewer : goal.returns-clause-no_fewer
returns-clause-no_fewer g c told = no-fewer (map event_of c.say-ran.result.events) c.say-ran.result.halt _ _ (c.say-ran.ensures.harmed told)

pub returns-clause-images : goal.returns-clause-images
returns-clause-images g c told =
    let zero_is : c.end_of_run-ended.result.status ≡ 0 = omega arith in
    c.say-ran.ensures.images told (c.end_of_run-ended.ensures.whole (inl zero_is)).1
