use Rattle.catalog_definitions.proofs.DeletedIndexes as indexes
use Rattle.catalog_definitions.proofs.deletions.index_goes.Goals as goal

pub returns : goal.returns
returns c = indexes.index_goes
