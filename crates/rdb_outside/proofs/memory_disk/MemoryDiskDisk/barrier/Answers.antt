use Rattle.std.proofs.Common.{inl, refl, ◌∙◌, ap, sym, length}
use Rattle.rdb_outside.specs.Failing.{may_be_left, is_settled}
use Rattle.rdb_outside.specs.Told.{plan_of}
use Rattle.rdb_outside.proofs.Calls.{counts_ok, counts_err, stable}
use Rattle.rdb_outside.proofs.Events.{keeps_by, barrier_left, barrier_does, barrier_plain, fails_does, still}
use Rattle.rdb_outside.proofs.memory_disk.MemoryDiskDisk.barrier.Goals as goal

pub returns-in_err-call-clause-counts : goal.returns-in_err-call-clause-counts
returns-in_err-call-clause-counts c = counts_err c.from_residual.result _ _ _ _ _ c.from_residual.ensures.0 c.in_err-call.ensures.err c.in_err-call.ensures.rose

pub returns-in_err-call-clause-kept : goal.returns-in_err-call-clause-kept
returns-in_err-call-clause-kept c = λ told. keeps_by _ _ _ c.as_kept-event.result _ _ refl (ap (λ e. may_be_left e.effect) c.as_kept-event.ensures ∙ barrier_left _ c.plain.result c.plain.ensures) c.in_err-call.ensures.err

pub returns-clause-counts : goal.returns-clause-counts
returns-clause-counts c = counts_ok _ _ _ _ _ _ c.in_ok-call.ensures.ok.0 c.in_ok-call.ensures.ok.1

pub returns-clause-kept : goal.returns-clause-kept
returns-clause-kept c = λ told. keeps_by _ _ _ c.as_kept-event.result _ _ refl (ap (λ e. may_be_left e.effect) c.as_kept-event.ensures ∙ barrier_left _ c.plain.result c.plain.ensures) (inl c.in_ok-call.ensures.ok.0)

pub returns-clause-stable : goal.returns-clause-stable
returns-clause-stable c = λ told. stable _ _ c.as_kept-event.result _ (ap (λ e. e.effect) c.as_kept-event.ensures ∙ barrier_does _ c.plain.result c.plain.ensures (fails_does (plan_of c.args.self.now) (length c.args.self.now.log.items) (sym c.is_to_fail-fails.ensures ∙ c.in_ok-call.ensures.works.0))) c.in_ok-call.ensures.ok.0

pub returns-in_err-call-clause-still : goal.returns-in_err-call-clause-still
returns-in_err-call-clause-still c = λ not_done. still _ _ c.as_kept-event.result c.args.self.now.faults c.call.new.faults (ap (λ e. is_settled e.effect) c.as_kept-event.ensures ∙ barrier_plain _ c.plain.result c.plain.ensures not_done) c.in_err-call.ensures.err

pub returns-clause-still : goal.returns-clause-still
returns-clause-still c = λ not_done. still _ _ c.as_kept-event.result c.args.self.now.faults c.call.new.faults (ap (λ e. is_settled e.effect) c.as_kept-event.ensures ∙ barrier_plain _ c.plain.result c.plain.ensures not_done) (inl c.in_ok-call.ensures.ok.0)
