use Rattle.std.proofs.Common.{◌-◌, length}
use Rattle.rdb_hostdisk.proofs.files.read_all.Given as goal

abbrev pub decreases-loop-at : goal.decreases-loop-at
decreases-loop-at l = length l.into - l.at
