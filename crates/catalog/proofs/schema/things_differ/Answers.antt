use Rattle.catalog.proofs.Differences as differences
use Rattle.catalog.proofs.schema.things_differ.Goals as goal

pub returns : goal.returns
returns c = differences.things_differ
