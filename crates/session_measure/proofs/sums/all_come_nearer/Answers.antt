use Rattle.std.proofs.Common.{refl, ap}
use Rattle.session_measure.specs.Weights.{unopened}
use Rattle.session_measure.proofs.Nearer.{same-weight}
use Rattle.session_measure.proofs.AllNearer.{all-nearer, all-served}
use Rattle.session_measure.proofs.sums.all_come_nearer.Goals as goal

pub returns-clause-nearer : goal.returns-clause-nearer
returns-clause-nearer g = all-nearer

pub returns-clause-served : goal.returns-clause-served
returns-clause-served g = λ k l s t c d e m n rest us long has hers keeps same falls. all-served k l s c d m n rest us long e t has hers same falls keeps

pub returns-clause-others : goal.returns-clause-others
returns-clause-others g = λ k t c d m opened steps. same-weight k k t c d m refl (ap unopened opened) steps
