use Rattle.std.proofs.Common.{◌≡◌}
use Rattle.rdb_top.specs.Runs.{transcripts}
use Rattle.rdb_top.proofs.scripts.render_all.Given as goal

abbrev pub invariant-loop-done : goal.invariant-loop-done
invariant-loop-done l = l.bytes ≡ transcripts l.done l.events
