use Rattle.committed_tables.proofs.Following.{laid_behind, other_behind, taken_behind}
use Rattle.committed_tables.proofs.laws.a_table_follows_commits.Goals as goal

pub returns-clause-laid : goal.returns-clause-laid
returns-clause-laid c = λ pages kept file lines key image was owner is_line puts. laid_behind pages kept file lines key image was owner is_line puts

pub returns-clause-other : goal.returns-clause-other
returns-clause-other c = λ pages file lines key image was away. other_behind pages file lines key image was away

pub returns-clause-taken : goal.returns-clause-taken
returns-clause-taken c = λ pages kept file lines page area class was first free puts. taken_behind pages kept file lines page area class was first free puts
