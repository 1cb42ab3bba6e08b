use Rattle.member_rooms.proofs.Found.{IsFurther}
use Rattle.member_rooms.proofs.rooms.free_line.Given as goal

abbrev pub invariant-loop-passed : goal.invariant-loop-passed
invariant-loop-passed l = IsFurther l.fn.from l.behind
