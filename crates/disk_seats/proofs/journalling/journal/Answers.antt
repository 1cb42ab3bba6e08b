use Rattle.std.proofs.Common.{arith}
use Rattle.line_opening.proofs.of_line_moves.Runs.{on_ok}
use Rattle.disk_seats.specs.Ledgers.{progress_of, changing}
use Rattle.disk_seats.proofs.Progresses.{seat_now}
use Rattle.disk_seats.proofs.OwnSeat.{stands_so, seat_of, may_change}
use Rattle.disk_seats.proofs.Standings.{not_changing}
use Rattle.disk_seats.proofs.MemberCalls.{broken_behind, journalled_behind}
use Rattle.disk_seats.proofs.journalling.journal.Goals as goal

pub returns-clause-keeps : goal.returns-clause-keeps
returns-clause-keeps g c = let v = g.D.Disk.view in λ t ledger o all n was is going same at.
    let old = v c.args.disk.now in let new = v c.journal_line.new.disk in
    let off = not_changing old ledger c.args.member was all n is in
    let seat = seat_now old ledger was c.args.member off o all n is (seat_of old ledger.base c.args.member o all n going (stands_so old ledger was c.args.member (changing all n) is)) in
    broken_behind old new ledger c.args.member t was o all n c.args.index is going (omega (arith, at)) c.journal_line.ensures.writes
    (c.journal_line.ensures.keeps t (progress_of ledger) o all n was.facts seat same at)

pub returns-clause-journalled : goal.returns-clause-journalled
returns-clause-journalled g c = let v = g.D.Disk.view in
    on_ok _ _ c.journal_line.result (λ journalled t ledger o all n was is going same at names none left within.
    let old = v c.args.disk.now in let new = v c.journal_line.new.disk in
    let off = not_changing old ledger c.args.member was all n is in
    let seat = seat_now old ledger was c.args.member off o all n is (seat_of old ledger.base c.args.member o all n going (stands_so old ledger was c.args.member (changing all n) is)) in
    journalled_behind old new ledger c.args.member t was o all n c.args.index is going (omega (arith, at)) c.journal_line.ensures.writes
    (c.journal_line.ensures.keeps t (progress_of ledger) o all n was.facts seat same at) _ left
    (journalled t (progress_of ledger) o all n was.facts seat same at (may_change old ledger was c.args.member o all n c.args.key is going off names none left within))) c.journal_line.ensures.journalled
