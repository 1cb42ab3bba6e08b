use Rattle.view_stages.proofs.Defining.{definition_ends, definition_barred}
use Rattle.view_stages.proofs.laws.a_definition_is_right.Goals as goal

pub returns : goal.returns
returns c = record { done = definition_ends; refused = definition_barred }
