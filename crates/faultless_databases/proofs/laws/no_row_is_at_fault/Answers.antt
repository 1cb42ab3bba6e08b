use Rattle.faultless_databases.proofs.Rows.{no_row, no_stray}
use Rattle.faultless_databases.proofs.Standing.{sound_over}
use Rattle.faultless_databases.proofs.laws.no_row_is_at_fault.Goals as goal

pub returns-clause-rows : goal.returns-clause-rows
returns-clause-rows c = λ all is d decodes. no_row all d (sound_over all d is decodes)

pub returns-clause-strays : goal.returns-clause-strays
returns-clause-strays c = λ all is d decodes. no_stray all d (sound_over all d is decodes)
