use Rattle.committed_tables.proofs.Finding.{next_committed, none_committed}
use Rattle.committed_tables.proofs.laws.used_lines_are_committed.Goals as goal

pub returns-clause-next : goal.returns-clause-next
returns-clause-next c = λ pages file lines area from key was owner is. next_committed pages file lines area from was owner key is

pub returns-clause-none : goal.returns-clause-none
returns-clause-none c = λ pages file lines area from key image was owner none same behind is. none_committed pages file lines area from was owner none key image same behind is
