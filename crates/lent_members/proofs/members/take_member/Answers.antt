use Rattle.lent_members.proofs.Places.{set-set}
use Rattle.lent_members.proofs.members.take_member.Goals as goal

pub returns-clause-rest : goal.returns-clause-rest
returns-clause-rest g c m = set-set c.args.members.now.items c.args.at c.replace.new.dest m
