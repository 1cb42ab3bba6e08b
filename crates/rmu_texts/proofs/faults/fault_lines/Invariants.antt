use Rattle.std.proofs.Common.{◌≡◌, ◌++◌, take}
use Rattle.std.specs.List.{flat_map}
use Rattle.rmu_texts.specs.Faults.{fault_line}
use Rattle.rmu_texts.proofs.faults.fault_lines.Given as goal

abbrev pub invariant-loop-fault : goal.invariant-loop-fault
invariant-loop-fault l = l.out ≡ l.initial.out ++ flat_map fault_line (take l.fault-index l.faults)
