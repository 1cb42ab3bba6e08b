use Rattle.rdo_acts.specs.Selections.{chosen_in_act}
use Rattle.served_actions.proofs.Spared.{indexed, spared}
use Rattle.served_actions.proofs.laws.indexes_spare_areas_of_actions.Goals as goal

pub returns : goal.returns
returns c = record {
  reading = λ t sources a vs need served read. indexed t sources need (chosen_in_act a vs) served read;
  writing = λ t sources a vs need served wants. spared t sources need a vs served wants;
}
