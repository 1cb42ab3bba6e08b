use Rattle.asked_areas.proofs.Jobs.{action_asks, action_writes, definition_asks_for, definition_writes, index_asks, index_writes}
use Rattle.asked_areas.proofs.laws.jobs_ask_for_their_areas.Goals as goal

pub returns : goal.returns
returns c = record { action = action_asks; action_writes = action_writes; definition = definition_asks_for; definition_writes = definition_writes; index = index_asks; index_writes = index_writes }
