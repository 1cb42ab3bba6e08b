use Rattle.partial_backup.proofs.Standing.{whole}
use Rattle.partial_backup.proofs.laws.a_copy_is_whole.Goals as goal

pub returns : goal.returns
returns c = λ classes lines b image copied limits ordered fit. whole classes lines b image copied fit limits ordered
