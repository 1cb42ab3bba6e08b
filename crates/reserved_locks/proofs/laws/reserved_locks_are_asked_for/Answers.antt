use Rattle.reserved_locks.proofs.Asked.{locks-asked}
use Rattle.reserved_locks.proofs.laws.reserved_locks_are_asked_for.Goals as goal

pub returns : goal.returns
returns g c = locks-asked g.S.Statements.stands g.met.S.Statements.orderly
