use Rattle.std.proofs.Common.{◌≡◌, drop}
use Rattle.line_account.specs.session_stands.Sessions.{dead_in}
use Rattle.line_cluster.proofs.falls.first_dead.Given as goal

abbrev pub invariant-loop-at : goal.invariant-loop-at
invariant-loop-at g l = dead_in (drop l.at l.members) ≡ dead_in l.members
