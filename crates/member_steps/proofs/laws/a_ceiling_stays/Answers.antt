use Rattle.new_database.specs.Maker.{root_file}
use Rattle.member_steps.proofs.Ceilings.{stays_written, stays_raised}
use Rattle.member_steps.proofs.laws.a_ceiling_stays.Goals as goal

pub returns-clause-reads : goal.returns-clause-reads
returns-clause-reads g c = λ ceiling reads was content root q is. was content root ((reads.keeps c.requires).pending root_file 0 content q) is

pub returns-clause-writes : goal.returns-clause-writes
returns-clause-writes g c = let v = g.D.Disk.view in λ ceiling file slot other rest was. stays_written (v c.args.before.now) (v c.args.after.now) ceiling file slot c.requires other rest was

pub returns-clause-raised : goal.returns-clause-raised
returns-clause-raised g c = let v = g.D.Disk.view in λ ceiling root le roots was. stays_raised (v c.args.before.now) (v c.args.after.now) ceiling root le roots was
