use Rattle.sound_changes.proofs.Given.{taken_by_others, all_others, nowhere_is_other}
use Rattle.sound_changes.proofs.laws.a_key_is_taken.Goals as goal

pub returns : goal.returns
returns c = record { taken = taken_by_others; new = all_others; nowhere = nowhere_is_other }
