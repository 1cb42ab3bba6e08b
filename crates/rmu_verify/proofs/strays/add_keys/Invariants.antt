use Rattle.std.proofs.Common.{◌≡◌, ◌++◌, drop}
use Rattle.line_view.specs.Knowledge.{keys_of}
use Rattle.rmu_verify.proofs.strays.add_keys.Given as goal

abbrev pub invariant-loop-key : goal.invariant-loop-key
invariant-loop-key l = l.keys ++ keys_of (drop l.key-index l.key-items) ≡ l.fn.keys ++ keys_of l.found
