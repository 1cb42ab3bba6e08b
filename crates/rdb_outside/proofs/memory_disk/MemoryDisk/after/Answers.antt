use Rattle.std.proofs.Common.{◌∙◌, ap}
use Rattle.rdb_outside.specs.Picks.{turned, bit_of}
use Rattle.rdb_outside.specs.Told.{calls_of}
use Rattle.rdb_outside.proofs.Crashes.{picked_same}
use Rattle.rdb_outside.proofs.Bits.{bits_turned}
use Rattle.rdb_outside.proofs.memory_disk.MemoryDisk.after.Goals as goal

pub returns-clause-image : goal.returns-clause-image
returns-clause-image c = λ f i. c.in_ok-disk.ensures.image f i ∙ ap (λ m. m f i) (picked_same (turned c.bits.result) (bit_of c.args.pick) (calls_of c.args.self.now c.args.moment.number) (λ k less. bits_turned c.args.pick c.bits.result c.bits.ensures.all c.bits.ensures.each k))
