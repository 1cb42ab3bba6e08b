use Rattle.std.proofs.Common.{length}
use Rattle.rdo_values.specs.Views.{expression_of}
use Rattle.access_paths.proofs.KnownBefore.{before_settled}
use Rattle.access_paths.proofs.limits.narrowed_by.Goals as goal

pub value-requires : goal.value-requires
value-requires c = before_settled (length c.args.rows.now) (expression_of c.args.other.now) c.requires
