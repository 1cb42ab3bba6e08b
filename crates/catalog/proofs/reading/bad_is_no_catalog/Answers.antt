use Rattle.catalog.proofs.Agreements.{no_catalog}
use Rattle.catalog.proofs.reading.bad_is_no_catalog.Goals as goal

pub returns : goal.returns
returns c = no_catalog
