use Rattle.std.proofs.Common.{inl, refl, ◌∙◌, length}
use Rattle.std.proofs.lemmas.Result.{MatchResult-from_err}
use Rattle.rdb_outside.specs.Told.{plan_of}
use Rattle.rdb_outside.proofs.Calls.{counts_ok, counts_err}
use Rattle.rdb_outside.proofs.Events.{adds_by, puts_by, same_by, same_or_puts, fails_does, may_by, still}
use Rattle.rdb_outside.proofs.memory_disk.MemoryDiskDisk.write.Goals as goal

pub returns-in_err-call-clause-counts : goal.returns-in_err-call-clause-counts
returns-in_err-call-clause-counts c = counts_err c.from_residual.result _ _ _ _ _ c.from_residual.ensures.0 c.in_err-call.ensures.err c.in_err-call.ensures.rose

pub returns-in_err-call-clause-pending : goal.returns-in_err-call-clause-pending
returns-in_err-call-clause-pending c = λ told. adds_by _ _ _ c.writing-event.result c.args.self.now.faults c.call.new.faults _ _ _ refl c.writing-event.ensures.plain c.writing-event.ensures.puts c.in_err-call.ensures.err

pub returns-in_err-call-clause-failed : goal.returns-in_err-call-clause-failed
returns-in_err-call-clause-failed c = MatchResult-from_err c.from_residual.result _ _ c.from_residual.ensures.0 (λ e told. same_or_puts _ _ c.writing-event.result _ _ _ c.writing-event.ensures.puts c.in_err-call.ensures.err)

pub returns-clause-counts : goal.returns-clause-counts
returns-clause-counts c = counts_ok _ _ _ _ _ _ c.in_ok-call.ensures.ok.0 c.in_ok-call.ensures.ok.1

pub returns-clause-pending : goal.returns-clause-pending
returns-clause-pending c = λ told. adds_by _ _ _ c.writing-event.result c.args.self.now.faults c.call.new.faults _ _ _ refl c.writing-event.ensures.plain c.writing-event.ensures.puts (inl c.in_ok-call.ensures.ok.0)

pub returns-clause-written : goal.returns-clause-written
returns-clause-written c = λ told. puts_by _ _ c.writing-event.result _ _ _ (let w = c.is_to_fail_at-fails.ensures.works c.in_ok-call.ensures.works.0 in c.writing-event.ensures.does w.1 ∙ fails_does (plan_of c.args.self.now) (length c.args.self.now.log.items) w.0) c.writing-event.ensures.puts c.in_ok-call.ensures.ok.0

pub returns-in_err-call-clause-done : goal.returns-in_err-call-clause-done
returns-in_err-call-clause-done c = λ does less fits. puts_by _ _ c.writing-event.result _ _ _ (c.writing-event.ensures.does fits ∙ does) c.writing-event.ensures.puts (c.call.ensures.kept less)

pub returns-in_err-call-clause-lost : goal.returns-in_err-call-clause-lost
returns-in_err-call-clause-lost c = λ lost. same_by _ _ c.writing-event.result (c.writing-event.ensures.lost lost) c.in_err-call.ensures.err

pub returns-clause-done : goal.returns-clause-done
returns-clause-done c = λ does less fits. puts_by _ _ c.writing-event.result _ _ _ (c.writing-event.ensures.does fits ∙ does) c.writing-event.ensures.puts c.in_ok-call.ensures.ok.0

pub returns-clause-lost : goal.returns-clause-lost
returns-clause-lost c = λ lost. same_by _ _ c.writing-event.result (c.writing-event.ensures.lost lost) (inl c.in_ok-call.ensures.ok.0)

pub returns-in_err-call-clause-may : goal.returns-in_err-call-clause-may
returns-in_err-call-clause-may c = λ less fits. may_by _ _ c.writing-event.result c.call.new.faults _ _ _ (c.writing-event.ensures.may fits) c.writing-event.ensures.puts (c.call.ensures.kept less)

pub returns-clause-may : goal.returns-clause-may
returns-clause-may c = λ less fits. may_by _ _ c.writing-event.result c.call.new.faults _ _ _ (c.writing-event.ensures.may fits) c.writing-event.ensures.puts c.in_ok-call.ensures.ok.0

pub returns-in_err-call-clause-still : goal.returns-in_err-call-clause-still
returns-in_err-call-clause-still c = still _ _ c.writing-event.result c.args.self.now.faults c.call.new.faults c.writing-event.ensures.plain c.in_err-call.ensures.err

pub returns-clause-still : goal.returns-clause-still
returns-clause-still c = still _ _ c.writing-event.result c.args.self.now.faults c.call.new.faults c.writing-event.ensures.plain (inl c.in_ok-call.ensures.ok.0)
