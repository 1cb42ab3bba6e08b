use Rattle.sound_statements.proofs.GoneIndexes.{index_deleted, index_deleted_whole}
use Rattle.sound_statements.proofs.laws.delete_index_stays_sound.Goals as goal

pub returns : goal.returns
returns c = record { line = index_deleted; nodes = index_deleted_whole }
