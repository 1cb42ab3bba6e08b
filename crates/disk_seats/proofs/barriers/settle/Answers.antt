use Rattle.line_opening.proofs.of_line_moves.Runs.{on_ok}
use Rattle.disk_seats.specs.Ledgers.{progress_of}
use Rattle.disk_seats.proofs.Settled.{read_behind, gained_behind}
use Rattle.disk_seats.proofs.barriers.settle.Goals as goal

pub returns-clause-keeps : goal.returns-clause-keeps
returns-clause-keeps g c = let v = g.D.Disk.view in λ t ledger was.
    read_behind (v c.args.disk.now) (v c.make_stable.new.disk) ledger t c.make_stable.ensures.reads was (c.make_stable.ensures.keeps t (progress_of ledger) was.facts)

pub returns-clause-gains : goal.returns-clause-gains
returns-clause-gains g c = let v = g.D.Disk.view in
    on_ok _ _ c.make_stable.result (λ stable t ledger was.
    gained_behind (v c.args.disk.now) (v c.make_stable.new.disk) ledger t c.make_stable.ensures.reads was (c.make_stable.ensures.keeps t (progress_of ledger) was.facts) (stable t)) c.make_stable.ensures.stable
