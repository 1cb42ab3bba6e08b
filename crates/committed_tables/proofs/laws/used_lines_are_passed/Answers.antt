use Rattle.committed_tables.proofs.EverUsed.{none_before, none_left}
use Rattle.committed_tables.proofs.laws.used_lines_are_passed.Goals as goal

pub returns-clause-next : goal.returns-clause-next
returns-clause-next c = λ pages file lines area from key other image was owner first same behind is less. none_before pages file lines area from was owner key other image first same behind is less

pub returns-clause-none : goal.returns-clause-none
returns-clause-none c = λ pages file lines area from key image was owner none same behind is. none_left pages file lines area from was owner none key image same behind is
