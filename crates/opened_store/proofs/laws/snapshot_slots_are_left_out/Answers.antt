use Rattle.opened_store.proofs.Snapless.{kept-beside}
use Rattle.opened_store.proofs.laws.snapshot_slots_are_left_out.Goals as goal

pub returns : goal.returns
returns c = kept-beside
