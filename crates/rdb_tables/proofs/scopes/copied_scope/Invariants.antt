use Rattle.std.proofs.Common.{◌≡◌, take}
use Rattle.rdb_tables.proofs.scopes.copied_scope.Given as goal

abbrev pub invariant-loop-binding : goal.invariant-loop-binding
invariant-loop-binding l = l.copy ≡ take l.binding-index l.scope
