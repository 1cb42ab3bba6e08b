use Rattle.std.proofs.Common.{arith}
use Rattle.rdb_drive.proofs.Rounds.{over_on, not_over_on}
use Rattle.rdb_drive.proofs.order.go_round.Goals as goal
use Rattle.rdb_drive.proofs.order.go_round.Goals.{in-Over, in_default}

pub loop-turns-preserved : goal.loop-turns-preserved
loop-turns-preserved g c =
    elim c.match-turn.branch [
      | in-Over w ↦ over_on _ _ _ (omega arith) _ _ w.are_over-is _ _ _ _ w.in-Over.is c.loop-turns.invariant c.turn.ensures
      | in_default w ↦ not_over_on _ _ _ (omega arith) _ _ w.are_over-is _ _ _ _ w.in_default.not-Halts w.in_default.not-Over c.loop-turns.invariant c.turn.ensures
    ]
