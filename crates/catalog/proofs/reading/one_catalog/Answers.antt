use Rattle.catalog.proofs.Agreements as agreements
use Rattle.catalog.proofs.reading.one_catalog.Goals as goal

pub returns : goal.returns
returns c = agreements.one_catalog
