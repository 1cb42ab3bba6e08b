use Rattle.committed_tables.proofs.EverUsed.{used_begin, used_behind_line, used_behind_page}
use Rattle.committed_tables.proofs.laws.a_table_keeps_used_lines.Goals as goal

pub returns-clause-begins : goal.returns-clause-begins
returns-clause-begins c = λ pages file lines was. used_begin pages file lines was

pub returns-clause-laid : goal.returns-clause-laid
returns-clause-laid c = λ pages kept file lines key has was is_line puts. used_behind_line pages kept key has is_line puts file lines was

pub returns-clause-taken : goal.returns-clause-taken
returns-clause-taken c = λ pages kept file lines page area class was first free puts. used_behind_page pages kept file lines page area class was free puts
