use Rattle.std.proofs.Common.{[], ◌∷◌, None, length, map, inl, refl, sym, ap, subst, arith}
use Rattle.rdb_outside.specs.Disk.{View}
use Rattle.rdb_account.specs.Events.{event_of}
use Rattle.rdb_account.specs.Places.{place}
use Rattle.sound_maps.specs.Maps.{IsSoundWith}
use Rattle.workload_runs.specs.Left.{EndsHeld}
use Rattle.workload_runs.specs.Runs.{IsRun}
use Rattle.workload_runs.specs.Statuses.{IsWhole}
use Rattle.workload_runs.proofs.Left.{held-alone, held-as-said}
use Rattle.workload_runs.proofs.Outcomes.{HasEnded, as-said, ends-here, frame_of, goes-on, no-more}
use Rattle.workload_runs.proofs.Stops.{halted-told, nobody-halted, refused-told}
use Rattle.workload_runs.proofs.runs.run_last.Goals as goal

pub returns-in-Ok : goal.returns-in-Ok
returns-in-Ok g c =
    let v = g.D.Disk.view in
    let o = g.O.Origin.opening in
    let told = g.O.Origin.told in
    let s = c.args.ready.prepared.said.scripts.items in
    let e = c.in-Ok.done.events in
    let a = (v c.args.disk).faults in
    let b = (v c.in-Ok.done.disk).faults in
    let run : HasEnded told o g.O.Origin.sessions s e a b = record {
      count = c.requires.sessions;
      follows = c.requires.scripts;
      stops = c.requires.stops;
      legal = c.in-Ok.ensures.legal;
      whole = c.in-Ok.ensures.whole;
      lived = c.in-Ok.ensures.lived;
      no_fewer = c.in-Ok.ensures.no_fewer;
    } in
    let it = as-said _ _ _ _ _ _ _ _ _ _ _ c.requires.says
    (goes-on told o g.O.Origin.sessions s [] e [] c.one_run.result.accounts 0 0 c.one_run.result.status a b b (v c.one_run.result.disk).faults run
    (no-more told (frame_of o) (place o (map event_of e)).tables b) c.one_run.ensures.accounts (ap (λ (x : View). x.faults) (ap v c.one_run.ensures.disk))) in
    record {
      runs = it.runs;
      status = it.status;
      count = it.count;
      lived = it.lived;
      died = it.died;
      harmed = it.harmed;
      stopped = it.stopped;
      halted = halted-told None 0 c.one_run.result.halt c.one_run.result.status c.one_run.ensures.halt (nobody-halted None 0 refl);
      refused = λ it_is. refused-told (v c.one_run.result.disk) None 0 c.one_run.result.halt c.one_run.result.status c.one_run.ensures.halt (λ four. absurd (let no : ⊥ = omega (arith, four) in no));
      holds = λ it_is.
          let own : IsRun (frame_of o) o.tables s (map event_of e) = record { opening = o; named = refl; lets = refl; begins = refl; follows = c.requires.scripts; stops = c.requires.stops; legal = c.in-Ok.ensures.legal it_is } in
          held-as-said IsSoundWith _ _ _ _ _ _ _ _ _ _ c.requires.says
          (held-alone IsSoundWith (v c.one_run.result.disk) _ (frame_of o) o.tables s [] e own c.one_run.result.accounts 0 c.one_run.result.status c.one_run.ensures.accounts
          (subst (λ d. EndsHeld IsSoundWith (IsWhole 0) (v d) o (length s) (map event_of e)) (sym c.one_run.ensures.disk)
          (record { images = inl (c.in-Ok.ensures.images it_is); left = λ whole. c.in-Ok.ensures.left it_is })));
    }

pub returns-in-Err : goal.returns-in-Err
returns-in-Err g c =
    let v = g.D.Disk.view in
    let o = g.O.Origin.opening in
    let ended = c.in-Err.ended in
    let it = as-said _ _ _ _ _ _ _ _ _ _ _ c.requires.says
    (ends-here g.O.Origin.told (frame_of o) o.tables (c.args.ready.prepared.said.scripts.items ∷ []) 1 (v c.args.disk).faults (v ended.disk).faults ended.accounts ended.status
    (λ is. c.in-Err.ensures.runs is []) c.in-Err.ensures.status c.in-Err.ensures.died c.in-Err.ensures.harmed c.in-Err.ensures.stopped) in
    record {
      runs = it.runs;
      status = it.status;
      count = it.count;
      lived = it.lived;
      died = it.died;
      harmed = it.harmed;
      stopped = it.stopped;
      halted = c.in-Err.ensures.halted;
      refused = c.in-Err.ensures.refused;
      holds = λ it_is. held-as-said IsSoundWith _ _ _ _ _ _ _ _ _ _ c.requires.says (c.in-Err.ensures.holds it_is []);
    }
