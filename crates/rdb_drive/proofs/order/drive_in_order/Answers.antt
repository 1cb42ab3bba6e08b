use Rattle.std.proofs.Common.{rules}
use Rattle.rdb_drive.proofs.Rounds.{order_more, order_on, went_round}
use Rattle.rdb_drive.proofs.order.drive_in_order.Goals as goal

pub loop-number-preserved : goal.loop-number-preserved
loop-number-preserved g c =
    order_more _ _ _ _ _ _ _ _ c.loop-number-test.true (search rules) c.in_default.not-Halts c.loop-number.invariant c.turn.ensures

pub returns-in-Over-clause-order : goal.returns-in-Over-clause-order
returns-in-Over-clause-order g c =
    let b = g.X.Driven.board in
    let r = c.in-Over.ensures in
    λ t. order_on c.args.order.now g.X.Driven.sessions (b c.args.x.now) (b c.loop-bench.x) (b c.go_round.new.x) c.loop-bench.invariant r.0 r.1

pub loop-bench-preserved : goal.loop-bench-preserved
loop-bench-preserved g c =
    let b = g.X.Driven.board in
    let r = went_round g.X.Driven.sessions (b c.loop-bench.x) (b c.go_round.new.x) c.go_round.result c.in_default-go_round.not-Halts c.in_default-go_round.not-Over c.go_round.ensures in
    order_on c.args.order.now g.X.Driven.sessions (b c.args.x.now) (b c.loop-bench.x) (b c.go_round.new.x) c.loop-bench.invariant r.0 r.1
