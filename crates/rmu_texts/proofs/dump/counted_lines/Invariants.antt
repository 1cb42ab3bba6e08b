use Rattle.std.proofs.Common.{◌≡◌, ◌++◌, take}
use Rattle.std.specs.List.{flat_map}
use Rattle.rmu_texts.specs.Dump.{counted_line}
use Rattle.rmu_texts.proofs.dump.counted_lines.Given as goal

abbrev pub invariant-loop-counted : goal.invariant-loop-counted
invariant-loop-counted l = l.out ≡ l.initial.out ++ flat_map (counted_line l.words) (take l.counted-index l.all)
