use Rattle.std.proofs.Common.{ap, arith}
use Rattle.rdb_outside.specs.Picks.{bit_of}
use Rattle.rdb_outside.specs.Told.{calls_of}
use Rattle.rdb_outside.proofs.Bits.{number_of, number_small, number_picks}
use Rattle.rdb_outside.proofs.Crashes.{picked_same}
use Rattle.rdb_outside.proofs.laws.a_number_picks_of_32.Goals as goal

pub returns : goal.returns
returns c = λ d t keep few. record {
  pick = number_of keep 0 32;
  small = number_small keep;
  same = λ f i. ap (λ m. m f i) (picked_same (bit_of (number_of keep 0 32)) keep (calls_of d t) (λ k less. number_picks keep k (omega (arith, less, few))));
}
