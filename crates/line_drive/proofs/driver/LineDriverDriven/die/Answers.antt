use Rattle.std.proofs.Common.{subst}
use Rattle.rdb_types.specs.declared.session.Cause.TheVariants.{Gate}
use Rattle.rdb_drive.specs.Steps.{DeathOf}
use Rattle.line_cluster.specs.Turned.{Sessions}
use Rattle.line_drive.specs.Boards.{board_of}
use Rattle.line_drive.proofs.Counting.{driven-dying}
use Rattle.line_drive.proofs.Dying.{dies, may-die}
use Rattle.line_drive.proofs.driver.LineDriverDriven.die.Goals as goal

pub die-requires-clause-mortal : goal.die-requires-clause-mortal
die-requires-clause-mortal g c = may-die g.O.Origin.opening g.O.Origin.sessions c.args.s.number c.requires.mortal

pub invariant_of-self : goal.invariant_of-self
invariant_of-self g c = driven-dying (g.O.Origin.opening).stops g.O.Origin.sessions c.args.s.number Gate c.self.inside.answers c.self.inside.cluster c.die.new.self c.self.invariant c.die.ensures.came

pub returns : goal.returns
returns g c =
    subst (λ (v : Sessions). DeathOf g.O.Origin.sessions c.args.s.number (board_of g.O.Origin.told g.O.Origin.opening v) (board_of g.O.Origin.told g.O.Origin.opening c.die.new.self)) c.self.view_is
    (dies g.O.Origin.told g.O.Origin.opening g.O.Origin.sessions c.self.inside.cluster c.die.new.self c.facts.ensures.bounds c.facts-2.ensures.bounds c.facts-2.ensures.count c.facts-2.ensures.seated c.facts-2.ensures.locks c.args.s.number c.requires.session.0 Gate
    (λ told going e. c.facts-2.ensures.over told going c.args.s.number c.requires.session.0 e) c.die.ensures.came)
