use Rattle.deleted_areas.proofs.Deleted.{relation_deleted, index_deleted}
use Rattle.deleted_areas.proofs.OwnRelation.{index_used}
use Rattle.deleted_areas.proofs.laws.deletions_keep_to_what_they_name.Goals as goal

pub returns : goal.returns
returns c = record { relation = relation_deleted; index = index_deleted; own = index_used }
