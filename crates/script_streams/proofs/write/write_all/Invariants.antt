use Rattle.std.proofs.Common.{◌≡◌, ◌≤◌, ◌-◌, ◌++◌, true, take, length}
use Rattle.script_streams.proofs.write.write_all.Given as goal

abbrev pub invariant-loop-at : goal.invariant-loop-at
invariant-loop-at g l =
    (l.at ≤ length l.bytes)
    × (g.K.Sink.tells l.sink ≡ g.K.Sink.tells l.fn.sink)
    × (g.K.Sink.tells l.fn.sink ≡ true → g.K.Sink.taken l.sink ≡ g.K.Sink.taken l.fn.sink ++ take l.at l.bytes)
    × (g.K.Sink.faults l.fn.sink ≤ g.K.Sink.faults l.sink)

abbrev pub decreases-loop-at : goal.decreases-loop-at
decreases-loop-at g l = length l.bytes - l.at
