use Rattle.std.proofs.Common.{refl}
use Rattle.lent_members.proofs.members.is_patient_away.Goals as goal

pub returns-in-Writing : goal.returns-in-Writing
returns-in-Writing c job = rw c.in-Writing.is refl

pub returns-in-Reading : goal.returns-in-Reading
returns-in-Reading c job = rw c.in-Reading.is refl
