use Rattle.session_states.proofs.Gathering.{gathers-on, drops-on, drops-read, reads-more-of-it, reads-on, houses-in-turn, lodges-more, lodges-on, drops-lodging}
use Rattle.session_states.proofs.laws.gathering.needs_are_read_in_turn.Goals as goal

pub returns-clause-gathers : goal.returns-clause-gathers
returns-clause-gathers g c = gathers-on g.S.Statements.stands g.met.S.Statements.orderly

pub returns-clause-more : goal.returns-clause-more
returns-clause-more g c = reads-more-of-it g.S.Statements.stands g.met.S.Statements.orderly

pub returns-clause-read_on : goal.returns-clause-read_on
returns-clause-read_on g c = reads-on g.S.Statements.stands g.met.S.Statements.orderly

pub returns-clause-drops : goal.returns-clause-drops
returns-clause-drops g c = drops-on g.S.Statements.stands g.met.S.Statements.orderly

pub returns-clause-drops_read : goal.returns-clause-drops_read
returns-clause-drops_read g c = drops-read g.S.Statements.stands g.met.S.Statements.orderly

pub returns-clause-houses : goal.returns-clause-houses
returns-clause-houses g c = houses-in-turn g.S.Statements.stands g.met.S.Statements.orderly

pub returns-clause-lodging : goal.returns-clause-lodging
returns-clause-lodging g c = lodges-more g.S.Statements.stands g.met.S.Statements.orderly

pub returns-clause-lodged_on : goal.returns-clause-lodged_on
returns-clause-lodged_on g c = lodges-on g.S.Statements.stands g.met.S.Statements.orderly

pub returns-clause-drops_lodging : goal.returns-clause-drops_lodging
returns-clause-drops_lodging g c = drops-lodging g.S.Statements.stands g.met.S.Statements.orderly
