use Rattle.sound_statements.proofs.GoneRelations.{relation_deleted, relation_deleted_whole}
use Rattle.sound_statements.proofs.laws.delete_relation_stays_sound.Goals as goal

pub returns : goal.returns
returns c = record { emptied = relation_deleted; rows = relation_deleted_whole }
