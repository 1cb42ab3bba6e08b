use Rattle.faultless_databases.proofs.Pages.{none_fails}
use Rattle.faultless_databases.proofs.laws.no_page_fails.Goals as goal

pub returns : goal.returns
returns c = λ classes lines journal image kept. none_fails image kept.root.limits.pages kept.well_formed
