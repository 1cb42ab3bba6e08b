use Rattle.std.proofs.Common.{◌≡◌, arith}
use Rattle.workload_runs.specs.Statuses.{last_of}
use Rattle.workload_runs.proofs.Reporting.{last-is}
use Rattle.workload_runs.proofs.ending.counted_by_last.Goals as goal

pub returns-in-len1-up : goal.returns-in-len1-up
returns-in-len1-up c =
    let last : last_of c.args.accounts.now ≡ c.last-item.result = last-is c.args.accounts.now c.last-item.result _ c.last-item.is (omega (arith, c.in-len1-up.len_at_least)) in
    cc
