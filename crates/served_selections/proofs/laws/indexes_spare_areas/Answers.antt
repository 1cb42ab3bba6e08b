use Rattle.served_selections.proofs.Lacked.{all_by_index}
use Rattle.served_selections.proofs.laws.indexes_spare_areas.Goals as goal

pub returns : goal.returns
returns c sources t rs need served read = all_by_index sources t need rs served read
