use Rattle.std.proofs.Common.{◌≡◌, ◌∙◌, inl, inr, sym, subst}
use Rattle.workload_runs.proofs.Stops.{nobody-halted, stopped-bad, unopened-bad}
use Rattle.workload_runs.proofs.saying.end_of_run.Goals as goal

pub returns-in-Some-clause-bad : goal.returns-in-Some-clause-bad
returns-in-Some-clause-bad g c four = inl (unopened-bad c.args.ran.now.fault c.in-Some.fault c.in-Some.is (sym c.status_of_fault.ensures ∙ (sym c.of.ensures.status ∙ four)))

pub returns-in-Some-clause-halted : goal.returns-in-Some-clause-halted
returns-in-Some-clause-halted g c = nobody-halted c.of.result.halt c.of.result.status c.of.ensures.halt

pub returns-then-not-ran-clause-bad : goal.returns-then-not-ran-clause-bad
returns-then-not-ran-clause-bad g c four = inr (stopped-bad c.args.ran.now.halt (sym c.status_of_halt.ensures.same ∙ four))
