use Rattle.std.proofs.Common.{◌∙◌, ◌⊎◌, ℕ, Option, inl, inr, ap, subst, sym}
use Rattle.workload_runs.specs.line_cluster.declared.sessions.Halt.{Halt}
use Rattle.workload_runs.specs.Statuses.{IsOverLine, IsOverSlot}
use Rattle.workload_runs.proofs.Stops.{stopped-bad, unopened-bad}
use Rattle.rdb_top.proofs.Stopped.{whole-is-good}
use Rattle.rdb_top.proofs.finishing.finish_scripts.Goals.{in-Some, in-None+then-is_whole, in-None+else-is_whole}
use Rattle.rdb_top.proofs.finishing.finish_scripts.Goals as goal

abbrev status : ℕ × Option Halt → ℕ
status p = p.0

abbrev halt : ℕ × Option Halt → Option Halt
halt p = p.1

pub returns-clause-bad : goal.returns-clause-bad
returns-clause-bad g c = elim c.match-fault.branch [
  | in-Some w ↦ λ is. inl (unopened-bad c.args.ran.fault w.in-Some.fault w.in-Some.is (sym w.status_of_fault.ensures ∙ (ap status (sym w.status-is) ∙ is)))
  | in-None+then-is_whole w ↦ λ is. absurd (whole-is-good w.status_whole.result w.status_whole.ensures.status (ap status (sym w.status-is) ∙ is))
  | in-None+else-is_whole w ↦ λ is. inr (subst (λ h. IsOverSlot h ⊎ IsOverLine h) (ap halt (sym w.status-is)) (stopped-bad c.args.ran.halt (sym w.status_stopped-status.ensures.status ∙ (ap status (sym w.status-is) ∙ is))))
]
