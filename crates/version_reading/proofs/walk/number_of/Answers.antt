use Rattle.std.proofs.Common.{rules}
use Rattle.version_reading.proofs.walk.number_of.Goals as goal

pub returns-then-area-eq1 : goal.returns-then-area-eq1
returns-then-area-eq1 c = search rules

pub returns-then-area-eq0 : goal.returns-then-area-eq0
returns-then-area-eq0 c = search rules

pub returns-else-area-eq0 : goal.returns-else-area-eq0
returns-else-area-eq0 c = search rules
