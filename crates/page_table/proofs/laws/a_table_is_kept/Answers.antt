use Rattle.page_table.proofs.KeptAnew.{page_kept, owner_kept}
use Rattle.page_table.proofs.laws.a_table_is_kept.Goals as goal

pub returns-clause-page : goal.returns-clause-page
returns-clause-page c = λ old new file pages page used table kept was plain beside owned says puts. page_kept old new file pages page table was plain used kept beside owned says puts

pub returns-clause-owner : goal.returns-clause-owner
returns-clause-owner c = λ old new file pages page table was plain beside owners unused owned. owner_kept old new file pages page table was plain beside owners unused owned
