use Rattle.rmu_verify.proofs.Soundness.{all_pass, all_owned, sound}
use Rattle.rmu_verify.proofs.laws.no_fault_is_sound.Goals as goal

pub returns-clause-pages : goal.returns-clause-pages
returns-clause-pages c = λ image groups are. all_pass image groups are

pub returns-clause-owners : goal.returns-clause-owners
returns-clause-owners c = λ image groups are. all_owned image groups are

pub returns-clause-lines : goal.returns-clause-lines
returns-clause-lines c = λ image groups are all stands. sound image groups are all stands
