use Rattle.std.proofs.Common.{◌≡◌, ◌++◌, length}
use Rattle.rdo_parser.specs.Script.{ends_in_stop, script_items}
use Rattle.script_queues.proofs.queues.read_whole.Given as goal

abbrev pub invariant-loop-e : goal.invariant-loop-e
invariant-loop-e l = (script_items l.text ≡ l.items ++ l.script.items) × (l.script.stops ≡ ends_in_stop l.text)

abbrev pub decreases-loop-e : goal.decreases-loop-e
decreases-loop-e l = length l.script.items
