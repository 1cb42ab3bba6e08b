use Rattle.std.proofs.Common.{sym, ◌∙◌}
use Rattle.record_format.proofs.Values.{no_number}
use Rattle.node_search.proofs.value.value_at.Goals as goal

pub returns-in-1-clause-none : goal.returns-in-1-clause-none
returns-in-1-clause-none c = no_number c.args.bytes.now c.args.at c.number_at_place.result (sym c.u8_at.ensures ∙ c.in-1.is) c.number_at_place.ensures.none
