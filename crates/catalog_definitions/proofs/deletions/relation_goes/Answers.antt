use Rattle.catalog_definitions.proofs.DeletedRelations as relations
use Rattle.catalog_definitions.proofs.deletions.relation_goes.Goals as goal

pub returns : goal.returns
returns c = relations.relation_goes
