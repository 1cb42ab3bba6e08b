use Rattle.rdo_parser.proofs.ScriptLaws.{in_order, stop_in_order}
use Rattle.rdo_parser.proofs.law.items_in_order.Goals as goal

pub returns : goal.returns
returns c = record { items = in_order; stop = stop_in_order }
