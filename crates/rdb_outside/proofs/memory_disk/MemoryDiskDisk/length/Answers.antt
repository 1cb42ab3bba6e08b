use Rattle.std.proofs.Common.{ap, inl}
use Rattle.rdb_outside.specs.Failing.{is_settled}
use Rattle.rdb_outside.proofs.Calls.{counts_ok, counts_err, passes, passes_or}
use Rattle.rdb_outside.proofs.Events.{still}
use Rattle.rdb_outside.proofs.memory_disk.MemoryDiskDisk.length.Goals as goal

pub returns-in_err-call-clause-counts : goal.returns-in_err-call-clause-counts
returns-in_err-call-clause-counts c = counts_err c.from_residual.result _ _ _ _ _ c.from_residual.ensures.0 c.in_err-call.ensures.err c.in_err-call.ensures.rose

pub returns-in_err-call-clause-kept : goal.returns-in_err-call-clause-kept
returns-in_err-call-clause-kept c = λ told. passes_or _ _ _ _ _ c.plain.ensures c.in_err-call.ensures.err

pub returns-clause-counts : goal.returns-clause-counts
returns-clause-counts c = counts_ok _ _ _ _ _ _ c.in_ok-call.ensures.ok.0 c.in_ok-call.ensures.ok.1

pub returns-clause-kept : goal.returns-clause-kept
returns-clause-kept c = λ told. passes _ _ _ _ _ c.plain.ensures c.in_ok-call.ensures.ok.0

pub returns-in_err-call-clause-still : goal.returns-in_err-call-clause-still
returns-in_err-call-clause-still c = still _ _ c.plain.result c.args.self.now.faults c.call.new.faults (ap is_settled c.plain.ensures) c.in_err-call.ensures.err

pub returns-clause-still : goal.returns-clause-still
returns-clause-still c = still _ _ c.plain.result c.args.self.now.faults c.call.new.faults (ap is_settled c.plain.ensures) (inl c.in_ok-call.ensures.ok.0)
