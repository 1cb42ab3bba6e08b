use Rattle.std.proofs.Common.{◌≡◌, map, drop}
use Rattle.rdo_ast.specs.Views.{shown_of}
use Rattle.rdo_exec.specs.Ways.{all_plain}
use Rattle.rdo_exec.proofs.plainness.all_plain.Given as goal

abbrev pub invariant-loop-item : goal.invariant-loop-item
invariant-loop-item l = all_plain (map shown_of l.items) ≡ all_plain (map shown_of (drop l.item-index l.items))
