use Rattle.root_file.proofs.Readings.{one_attached}
use Rattle.root_file.proofs.one_member.Goals as goal

pub returns-clause-attached : goal.returns-clause-attached
returns-clause-attached c = one_attached
