use Rattle.std.proofs.Common.{◌≡◌, true}
use Rattle.workload_runs.proofs.Stops.{halted-seen}
use Rattle.workload_runs.proofs.whole.unwatched.Goals as goal

pub returns-clause-halted : goal.returns-clause-halted
returns-clause-halted g c =
    halted-seen c.args.ended.halt c.seen.result c.args.ended.status c.status_seen.result (c.has_failed-has_failed.result ≡ true) c.seen.ensures.halt c.seen.ensures.failed c.status_seen.ensures.same c.status_seen.ensures.status c.requires
