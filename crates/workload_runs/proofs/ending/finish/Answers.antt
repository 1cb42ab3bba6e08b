use Rattle.std.proofs.Common.{◌≡◌, ◌∙◌, inl, refl, sym, ap, subst, arith}
use Rattle.rdb_outside.specs.Disk.{OnlyReads}
use Rattle.rdb_outside.specs.Runs.{no_calls}
use Rattle.workload_runs.specs.Statuses.{last_of}
use Rattle.workload_runs.proofs.Reporting.{of-runs, same-report}
use Rattle.workload_runs.proofs.Stops.{stopped-not-whole}
use Rattle.workload_runs.proofs.Tallies.{left-over}
use Rattle.workload_runs.proofs.ending.finish.Goals as goal
use Rattle.workload_runs.proofs.ending.finish.Goals.{then-status-eq0, else-status-eq0}

pub returns-clause-reports : goal.returns-clause-reports
returns-clause-reports g c = elim c.if-status-eq0.branch [
  | then-status-eq0 w ↦
      same-report _ _ _ _ _ _ _ _ _ _ (ap g.D.Disk.view w.disk-is) (ap last_of (sym w.as_slice.ensures)) w.status-is (ap g.K.Sink.taken w.out-is) w.report-status.ensures.reports
  | else-status-eq0 w ↦
      same-report _ _ _ _ _ _ _ _ _ _ (ap g.D.Disk.view w.disk-is) refl w.status-is (ap g.K.Sink.taken w.out-is)
      (of-runs (g.D.Disk.view c.args.runs.disk) (last_of c.args.runs.accounts) c.args.runs.status _ _ _ (left-over c.args.runs.status c.args.runs.status c.requires.status (λ zero_is. omega arith) (inl refl)) (λ tells. refl))
]

pub returns-clause-reads : goal.returns-clause-reads
returns-clause-reads g c =
    let v = g.D.Disk.view in
    elim c.if-status-eq0.branch [
      | then-status-eq0 w ↦ subst (λ d. OnlyReads (v c.args.runs.disk) (v d)) (sym w.disk-is) w.report-status.ensures.reads
      | else-status-eq0 w ↦ subst (λ d. OnlyReads (v c.args.runs.disk) (v d)) (sym w.disk-is) (no_calls (v c.args.runs.disk))
    ]

-- behind whole runs nobody was stopped
pub returns-clause-halted : goal.returns-clause-halted
returns-clause-halted g c why is = elim c.if-status-eq0.branch [
  | then-status-eq0 w ↦ let zero_is : c.args.runs.status ≡ 0 = omega arith in absurd (stopped-not-whole why (sym zero_is ∙ c.requires.halted why is))
  | else-status-eq0 w ↦ w.status-is ∙ c.requires.halted why is
]
