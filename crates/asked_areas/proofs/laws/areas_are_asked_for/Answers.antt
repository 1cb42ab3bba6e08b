use Rattle.asked_areas.proofs.Asked.{action_asked, action_written, definition_asked, definition_written, index_asked, index_written}
use Rattle.asked_areas.proofs.laws.areas_are_asked_for.Goals as goal

pub returns : goal.returns
returns c = record { action = action_asked; action_writes = action_written; definition = definition_asked; definition_writes = definition_written; index = index_asked; index_writes = index_written }
