use Rattle.version_writing.proofs.Sifted.{taken-less}
use Rattle.version_writing.proofs.sifting.give_at.Goals as goal

pub returns-clause-taken : goal.returns-clause-taken
returns-clause-taken c = taken-less c.args.stock.now.slots c.give.new.self.slots c.args.taken.now c.args.last c.args.place c.requires.taken c.requires.place c.give.ensures.given
