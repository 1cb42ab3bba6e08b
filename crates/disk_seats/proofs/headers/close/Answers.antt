use Rattle.std.proofs.Common.{◌∙◌, arith}
use Rattle.disk_seats.specs.Ledgers.{progress_of, resting}
use Rattle.disk_seats.proofs.Progresses.{same_going, same_next}
use Rattle.disk_seats.proofs.OwnSeat.{stands_so}
use Rattle.disk_seats.proofs.MemberCalls.{closed_behind}
use Rattle.disk_seats.proofs.headers.close.Goals as goal

pub returns-clause-keeps : goal.returns-clause-keeps
returns-clause-keeps g c = let v = g.D.Disk.view in λ t ledger was is drawn.
    let old = v c.args.disk.now in let new = v c.close_header.new.disk in
    let next = same_next old ledger was in
    closed_behind old new ledger c.args.member t was is c.close_header.ensures.writes (c.close_header.ensures.headers t)
    (c.close_header.ensures.keeps t (progress_of ledger) was.facts (same_going old ledger was c.args.member ∙ stands_so old ledger was c.args.member resting is) (omega (arith, next, drawn)))
