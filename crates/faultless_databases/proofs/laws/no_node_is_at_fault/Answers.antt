use Rattle.faultless_databases.proofs.Indexes.{no_index}
use Rattle.faultless_databases.proofs.Standing.{sound_over}
use Rattle.faultless_databases.proofs.laws.no_node_is_at_fault.Goals as goal

pub returns : goal.returns
returns c = λ all is d decodes nodes names finds. (no_index all d (sound_over all d is decodes) nodes names finds).0
