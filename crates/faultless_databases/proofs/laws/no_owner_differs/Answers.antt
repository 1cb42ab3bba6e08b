use Rattle.faultless_databases.proofs.Pages.{none_differs}
use Rattle.faultless_databases.proofs.laws.no_owner_differs.Goals as goal

pub returns : goal.returns
returns c = λ classes lines journal image kept. none_differs image kept.root.limits.pages kept.well_formed
