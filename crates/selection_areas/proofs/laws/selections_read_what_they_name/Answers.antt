use Rattle.selection_areas.proofs.Used.{ranging_lacks, expression_lacks, condition_lacks}
use Rattle.selection_areas.proofs.laws.selections_read_what_they_name.Goals as goal

pub returns : goal.returns
returns c = record { selection = ranging_lacks; expression = expression_lacks; condition = condition_lacks }
