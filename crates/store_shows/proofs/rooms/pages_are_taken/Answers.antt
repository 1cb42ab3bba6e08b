use Rattle.store_shows.proofs.Taken.{is_taken, page_is_taken}
use Rattle.store_shows.proofs.rooms.pages_are_taken.Goals as goal

pub returns-clause-takes : goal.returns-clause-takes
returns-clause-takes c = λ tables kept old new file class key was has owner fresh puts beside limits snaps slots. page_is_taken tables kept old new file class key was has owner fresh.first puts beside limits snaps slots

pub returns-clause-was : goal.returns-clause-was
returns-clause-was c = λ tables space file key has owner none. record { file = file; lies = owner; taken = is_taken tables space has file key.page none }
