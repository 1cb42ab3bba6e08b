use Rattle.std.proofs.Common.{◌≡◌, ◌≤◌, min, drop}
use Rattle.rdb_evaluation.proofs.Scales.{chain_scale}
use Rattle.rdb_evaluation.proofs.scale.+scales.Given as goal

abbrev pub invariant-chain_scale-loop-operation : goal.invariant-chain_scale-loop-operation
invariant-chain_scale-loop-operation l = record {
  small : l.scale ≤ 19;
  whole : min (chain_scale l.tables l.scope l.fn.first l.operations) 19 ≡ min (chain_scale l.tables l.scope l.scale (drop l.operation-index l.operations)) 19;
}
