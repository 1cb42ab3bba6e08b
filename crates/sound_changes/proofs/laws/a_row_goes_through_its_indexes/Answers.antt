use Rattle.sound_changes.proofs.InTurn.{stored_in_turn, modified_in_turn, erased_in_turn}
use Rattle.sound_changes.proofs.laws.a_row_goes_through_its_indexes.Goals as goal

pub returns : goal.returns
returns c = record { store = stored_in_turn; modify = modified_in_turn; erase = erased_in_turn }
