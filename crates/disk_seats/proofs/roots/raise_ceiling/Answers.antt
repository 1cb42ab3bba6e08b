use Rattle.std.proofs.Common.{◌∙◌, sym, arith}
use Rattle.disk_seats.specs.Ledgers.{progress_of}
use Rattle.disk_seats.proofs.Progresses.{same_next, same_limits}
use Rattle.disk_seats.proofs.Rooted.{rooted}
use Rattle.disk_seats.proofs.roots.raise_ceiling.Goals as goal

pub returns-clause-keeps : goal.returns-clause-keeps
returns-clause-keeps g c = let v = g.D.Disk.view in λ t ledger was limits ceiling.
    let old = v c.args.disk.now in let new = v c.write_root.new.disk in
    let next = same_next old ledger was in
    rooted old new ledger c.args.root.now t c.write_root.ensures.writes was
    (c.write_root.ensures.keeps t (progress_of ledger) was.facts (limits ∙ sym (same_limits old ledger was)) (omega (arith, next, ceiling))) c.requires.whole (c.write_root.ensures.roots t)
