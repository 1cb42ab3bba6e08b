use Rattle.std.proofs.Common.{◌≡◌, ◌≤◌, min, drop}
use Rattle.rdo_values.proofs.ScaleChains.{chain_scale}
use Rattle.rdo_values.proofs.scales.+scales.Given as goal

abbrev pub invariant-chain_scale-loop-operation : goal.invariant-chain_scale-loop-operation
invariant-chain_scale-loop-operation l = record {
  small : l.scale ≤ 19;
  whole : min (chain_scale l.fn.first l.operations) 19 ≡ min (chain_scale l.scale (drop l.operation-index l.operations)) 19;
}
