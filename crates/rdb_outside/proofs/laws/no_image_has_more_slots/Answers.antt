use Rattle.rdb_outside.specs.Told.{calls_of}
use Rattle.rdb_outside.proofs.Bare.{image_bare}
use Rattle.rdb_outside.proofs.Within.{within_take}
use Rattle.rdb_outside.proofs.laws.no_image_has_more_slots.Goals as goal

pub returns : goal.returns
returns c = λ d t image left. image_bare d.slots (calls_of d left.calls) image (within_take d.slots d.log.items left.calls d.within) left.is_image
