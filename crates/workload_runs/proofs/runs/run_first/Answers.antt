use Rattle.std.proofs.Common.{[], ◌∷◌, None, length, map, inr, refl, sym, ap, subst, ◌∙◌, arith}
use Rattle.rdb_outside.specs.Disk.{View}
use Rattle.rdb_outside.specs.Moments.{each_slot}
use Rattle.rdb_account.specs.Events.{event_of}
use Rattle.rdb_account.specs.Places.{place}
use Rattle.line_runs.specs.line_cluster.Turned.{HaveAllEnded}
use Rattle.line_runs.specs.Openings.{HasNoNumbers, said_to}
use Rattle.sound_maps.specs.Maps.{IsSoundWith}
use Rattle.workload_runs.specs.Left.{EndsHeld}
use Rattle.workload_runs.specs.Runs.{IsRun, opening_on}
use Rattle.workload_runs.specs.Statuses.{IsWhole}
use Rattle.workload_runs.specs.declared.preparing.Part.TheVariants.{Transfers, Last}
use Rattle.workload_runs.specs.Scripts.{scripts_in}
use Rattle.workload_runs.proofs.Left.{held-alone, held-before, held-behind, held-front, prefix-read, held-as-said}
use Rattle.workload_runs.proofs.Opening.{opens-read}
use Rattle.workload_runs.proofs.Outcomes.{HasEnded, Outcome, as-given, as-said, frame_of, goes-on, none-begun}
use Rattle.workload_runs.proofs.Stops.{IsRefused, halted-told, has-numbers, nobody-halted, refused-told, used-up}
use Rattle.workload_runs.proofs.runs.run_first.Goals as goal

-- the next run opens with what this one has committed
pub run_transfers-behind-requires-clause-opens : goal.run_transfers-behind-requires-clause-opens
run_transfers-behind-requires-clause-opens g c κs within = λ told.
    let v = g.D.Disk.view in
    let old = v c.in-Ok.done.disk in
    let o = g.O.Origin.opening in
    let p = c.in-Ok-prepare.prepared in
    let tells = (c.in-Ok.ensures.images told).tells in
    let it = (c.in-Ok.ensures.left told).each old.content (each_slot old old.content (c.told_is_left.ensures tells)) in
    rw c.as_slice-in-Ok-prepare.ensures (opens-read IsSoundWith old (v c.prepare.new.disk) c.prepare.ensures.reads tells p.stand (c.in-Ok-prepare.ensures.limits tells) (c.in-Ok-prepare.ensures.next tells)
    (place o (map event_of c.in-Ok.done.events)).tables o.may_die p.said.word p.said.scripts.items it.0 it.1 it.2)

pub run_transfers-behind-requires-clause-numbers : goal.run_transfers-behind-requires-clause-numbers
run_transfers-behind-requires-clause-numbers g c κs within = λ told.
    let v = g.D.Disk.view in
    let old = v c.in-Ok.done.disk in
    let tells = (c.in-Ok.ensures.images told).tells in
    let it = (c.in-Ok.ensures.left told).each old.content (each_slot old old.content (c.told_is_left.ensures tells)) in
    has-numbers old (v c.prepare.new.disk) c.prepare.ensures.reads tells it.0 it.1 c.in-Ok-prepare.ensures.numbers

-- some statement wasn't done
pub returns-then-not-all_done : goal.returns-then-not-all_done
returns-then-not-all_done g c =
    let v = g.D.Disk.view in
    let o = g.O.Origin.opening in
    let told = g.O.Origin.told in
    let s = c.args.ready.prepared.said.scripts.items in
    let ss = scripts_in Transfers c.args.ready.plan.now.accounts ∷ scripts_in Last c.args.ready.plan.now.accounts ∷ [] in
    let e = c.in-Ok.done.events in
    let a = (v c.args.disk).faults in
    let b = (v c.in-Ok.done.disk).faults in
    let run : HasEnded told o g.O.Origin.sessions s e a b = record {
      count = c.requires.sessions;
      follows = c.requires.scripts;
      stops = c.requires.stops;
      legal = c.in-Ok.ensures.legal;
      whole = c.in-Ok.ensures.whole;
      lived = c.in-Ok.ensures.lived;
      no_fewer = c.in-Ok.ensures.no_fewer;
    } in
    let it = as-said _ _ _ _ _ _ _ _ _ _ _ c.requires.says
    (goes-on told o g.O.Origin.sessions s ss e [] c.one_run.result.accounts 2 5 c.one_run.result.status a b b (v c.one_run.result.disk).faults run
    (none-begun told (frame_of o) (place o (map event_of e)).tables ss 2 b b 5 (inr (inr refl)) (omega arith) (λ three. absurd (let no : ⊥ = omega (arith, three) in no)))
    c.one_run.ensures.accounts (ap (λ (x : View). x.faults) (ap v c.one_run.ensures.disk))) in
    record {
      runs = it.runs;
      status = it.status;
      count = it.count;
      lived = it.lived;
      died = it.died;
      harmed = it.harmed;
      stopped = it.stopped;
      halted = halted-told None 5 c.one_run.result.halt c.one_run.result.status c.one_run.ensures.halt (nobody-halted None 5 refl);
      refused = λ it_is.
          refused-told (v c.one_run.result.disk) None 5 c.one_run.result.halt c.one_run.result.status c.one_run.ensures.halt
          (λ four. absurd (let no : ⊥ = omega (arith, four) in no));
      holds = λ it_is.
          let own : IsRun (frame_of o) o.tables s (map event_of e) = record { opening = o; named = refl; lets = refl; begins = refl; follows = c.requires.scripts; stops = c.requires.stops; legal = c.in-Ok.ensures.legal it_is } in
          held-as-said IsSoundWith _ _ _ _ _ _ _ _ _ _ c.requires.says
          (held-alone IsSoundWith (v c.one_run.result.disk) _ (frame_of o) o.tables s ss e own c.one_run.result.accounts 5 c.one_run.result.status c.one_run.ensures.accounts
          (subst (λ d. EndsHeld IsSoundWith (IsWhole 5) (v d) o (length s) (map event_of e)) (sym c.one_run.ensures.disk)
          (held-before IsSoundWith (v c.in-Ok.done.disk) o (length s) 5 (map event_of e) (inr (inr refl)) (c.in-Ok.ensures.images it_is))));
    }

-- the next one wasn't begun
pub returns-in-Err-prepare : goal.returns-in-Err-prepare
returns-in-Err-prepare g c =
    let v = g.D.Disk.view in
    let o = g.O.Origin.opening in
    let told = g.O.Origin.told in
    let s = c.args.ready.prepared.said.scripts.items in
    let ss = scripts_in Transfers c.args.ready.plan.now.accounts ∷ scripts_in Last c.args.ready.plan.now.accounts ∷ [] in
    let e = c.in-Ok.done.events in
    let a = (v c.args.disk).faults in
    let b = (v c.in-Ok.done.disk).faults in
    let run : HasEnded told o g.O.Origin.sessions s e a b = record {
      count = c.requires.sessions;
      follows = c.requires.scripts;
      stops = c.requires.stops;
      legal = c.in-Ok.ensures.legal;
      whole = c.in-Ok.ensures.whole;
      lived = c.in-Ok.ensures.lived;
      no_fewer = c.in-Ok.ensures.no_fewer;
    } in
    let it = as-said _ _ _ _ _ _ _ _ _ _ _ c.requires.says
    (goes-on told o g.O.Origin.sessions s ss e [] c.one_run-in-Err-prepare.result.accounts 2 c.in-Err-prepare.status c.one_run-in-Err-prepare.result.status a b (v c.prepare.new.disk).faults (v c.one_run-in-Err-prepare.result.disk).faults run
    (none-begun told (frame_of o) (place o (map event_of e)).tables ss 2 b (v c.prepare.new.disk).faults c.in-Err-prepare.status c.in-Err-prepare.ensures.status c.prepare.ensures.reads.no_fewer (λ three. c.in-Err-prepare.ensures.failed (cc)))
    c.one_run-in-Err-prepare.ensures.accounts (ap (λ (x : View). x.faults) (ap v c.one_run-in-Err-prepare.ensures.disk))) in
    record {
      runs = it.runs;
      status = it.status;
      count = it.count;
      lived = it.lived;
      died = it.died;
      harmed = it.harmed;
      stopped = it.stopped;
      halted = halted-told None c.in-Err-prepare.status c.one_run-in-Err-prepare.result.halt c.one_run-in-Err-prepare.result.status c.one_run-in-Err-prepare.ensures.halt (nobody-halted None c.in-Err-prepare.status refl);
      refused = λ it_is.
          refused-told (v c.one_run-in-Err-prepare.result.disk) None c.in-Err-prepare.status c.one_run-in-Err-prepare.result.halt c.one_run-in-Err-prepare.result.status c.one_run-in-Err-prepare.ensures.halt
          (λ four. (subst (λ d. HasNoNumbers (v d)) (sym c.one_run-in-Err-prepare.ensures.disk) (used-up (v c.in-Ok.done.disk) (v c.prepare.new.disk) c.prepare.ensures.reads (c.in-Err-prepare.ensures.refused (cc)))));
      holds = λ it_is.
          let own : IsRun (frame_of o) o.tables s (map event_of e) = record { opening = o; named = refl; lets = refl; begins = refl; follows = c.requires.scripts; stops = c.requires.stops; legal = c.in-Ok.ensures.legal it_is } in
          held-as-said IsSoundWith _ _ _ _ _ _ _ _ _ _ c.requires.says
          (held-alone IsSoundWith (v c.one_run-in-Err-prepare.result.disk) _ (frame_of o) o.tables s ss e own c.one_run-in-Err-prepare.result.accounts c.in-Err-prepare.status c.one_run-in-Err-prepare.result.status c.one_run-in-Err-prepare.ensures.accounts
          (subst (λ d. EndsHeld IsSoundWith (IsWhole c.in-Err-prepare.status) (v d) o (length s) (map event_of e)) (sym c.one_run-in-Err-prepare.ensures.disk)
          (held-before IsSoundWith (v c.prepare.new.disk) o (length s) c.in-Err-prepare.status (map event_of e) c.in-Err-prepare.ensures.status (prefix-read IsSoundWith o (v c.in-Ok.done.disk) (v c.prepare.new.disk) (map event_of e) c.prepare.ensures.reads (c.in-Ok.ensures.images it_is).tells (c.in-Ok.ensures.left it_is) (c.in-Ok.ensures.images it_is)))));
    }

-- it was
pub returns-in-Ok-prepare : goal.returns-in-Ok-prepare
returns-in-Ok-prepare g c =
    let v = g.D.Disk.view in
    let o = g.O.Origin.opening in
    let told = g.O.Origin.told in
    let s = c.args.ready.prepared.said.scripts.items in
    let ss = scripts_in Transfers c.args.ready.plan.now.accounts ∷ scripts_in Last c.args.ready.plan.now.accounts ∷ [] in
    let e = c.in-Ok.done.events in
    let a = (v c.args.disk).faults in
    let b = (v c.in-Ok.done.disk).faults in
    let word = c.in-Ok-prepare.prepared.said.word in
    let seen = c.as_slice-in-Ok-prepare.result.now in
    let mid = (v c.prepare.new.disk).faults in
    let next = c.run_transfers-behind.result in
    let run : HasEnded told o g.O.Origin.sessions s e a b = record {
      count = c.requires.sessions;
      follows = c.requires.scripts;
      stops = c.requires.stops;
      legal = c.in-Ok.ensures.legal;
      whole = c.in-Ok.ensures.whole;
      lived = c.in-Ok.ensures.lived;
      no_fewer = c.in-Ok.ensures.no_fewer;
    } in
    let given : Outcome told (record { word = word; may_die = o.may_die }) (place o (map event_of seen)).tables ss 2 mid (v next.disk).faults next.accounts next.status = record {
      runs = c.run_transfers-behind.ensures.runs;
      status = c.run_transfers-behind.ensures.status;
      count = c.run_transfers-behind.ensures.count;
      lived = c.run_transfers-behind.ensures.lived;
      died = c.run_transfers-behind.ensures.died;
      harmed = c.run_transfers-behind.ensures.harmed;
      stopped = c.run_transfers-behind.ensures.stopped;
    } in
    let it = as-said _ _ _ _ _ _ _ _ _ _ _ c.requires.says
    (goes-on told o g.O.Origin.sessions s ss e next.accounts c.in_front.result.accounts 2 next.status c.in_front.result.status a b (v next.disk).faults (v c.in_front.result.disk).faults run
    (as-given told o ss word seen e 2 b mid (v next.disk).faults next.accounts next.status (c.in-Ok-prepare.ensures.word ∙ c.requires.named) c.as_slice-in-Ok-prepare.ensures c.prepare.ensures.reads.no_fewer given)
    c.in_front.ensures.accounts (ap (λ (x : View). x.faults) (ap v c.in_front.ensures.disk))) in
    record {
      runs = it.runs;
      status = it.status;
      count = it.count;
      lived = it.lived;
      died = it.died;
      harmed = it.harmed;
      stopped = it.stopped;
      halted = halted-told next.halt next.status c.in_front.result.halt c.in_front.result.status c.in_front.ensures.halt c.run_transfers-behind.ensures.halted;
      refused = λ it_is.
          refused-told (v c.in_front.result.disk) next.halt next.status c.in_front.result.halt c.in_front.result.status c.in_front.ensures.halt (subst (λ d. IsRefused (v d) next.status) (sym c.in_front.ensures.disk) (c.run_transfers-behind.ensures.refused it_is));
      holds = λ it_is.
          let own : IsRun (frame_of o) o.tables s (map event_of e) = record { opening = o; named = refl; lets = refl; begins = refl; follows = c.requires.scripts; stops = c.requires.stops; legal = c.in-Ok.ensures.legal it_is } in
          let all = subst (λ n. HaveAllEnded o n (map event_of e)) (sym c.requires.sessions) (c.in-Ok.ensures.whole it_is) in
          held-as-said IsSoundWith _ _ _ _ _ _ _ _ _ _ c.requires.says
          (held-front IsSoundWith (v c.in_front.result.disk) _ (frame_of o) o.tables s ss e own next.accounts c.in_front.result.accounts next.status c.in_front.result.status c.in_front.ensures.accounts all
          (held-behind IsSoundWith o (said_to (opening_on (v c.prepare.new.disk).content c.in-Ok-prepare.prepared.stand (place o (map event_of seen)).tables o.may_die) word c.in-Ok-prepare.prepared.said.scripts.items) (length s) (v c.in-Ok.done.disk) (v c.prepare.new.disk) (v c.in_front.result.disk) (v next.disk) e seen word ss next.accounts next.status (c.in-Ok.ensures.left it_is) c.prepare.ensures.reads (c.in-Ok.ensures.images it_is).tells
          (ap v c.in_front.ensures.disk) c.as_slice-in-Ok-prepare.ensures (c.in-Ok-prepare.ensures.word ∙ c.requires.named) refl (c.run_transfers-behind.ensures.holds it_is)));
    }

pub returns-in-Err-clause-refused : goal.returns-in-Err-clause-refused
returns-in-Err-clause-refused g c told = c.in-Err.ensures.refused told
