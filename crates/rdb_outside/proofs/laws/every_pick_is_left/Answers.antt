use Rattle.std.proofs.Common.{arith}
use Rattle.rdb_outside.specs.Told.{calls_of}
use Rattle.rdb_outside.proofs.Crashes.{picked_is_image}
use Rattle.rdb_outside.proofs.laws.every_pick_is_left.Goals as goal

pub returns : goal.returns
returns c = λ d t keep le. record { calls = t; from = omega arith; made = le; is_image = picked_is_image (calls_of d t) keep }
