use Rattle.std.proofs.Common.{None}
use Rattle.line_moves.specs.stable_lines.Progress.{without}
use Rattle.line_moves.proofs.of_stable_lines.Turns.{going_here}
use Rattle.line_seat.proofs.Ends.{is_undone, drawn}
use Rattle.line_seat.proofs.ending.roll_back.Goals as goal

pub returns-clause-undone : goal.returns-clause-undone
returns-clause-undone g c = let old = g.D.Disk.view c.args.disk.now in λ t now o all n was holds.
    c.close_header.ensures.keeps t (without c.args.member now) (is_undone old now c.args.member o all n was holds) (going_here now c.args.member None) (drawn old now c.args.member o all n was holds)
