use Rattle.std.proofs.Common.{◌≤◌, length}
use Rattle.session_desk.proofs.scripts.script_of.Given as goal

abbrev pub invariant-loop : goal.invariant-loop
invariant-loop l = length l.items ≤ l.counter
