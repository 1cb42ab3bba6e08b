use Rattle.std.proofs.Common.{◌≡◌, ◌++◌, map}
use Rattle.rmu_verify.specs.Listing.{key_fault}
use Rattle.rmu_verify.proofs.listing.add_keys.Given as goal

abbrev pub invariant-loop-key : goal.invariant-loop-key
invariant-loop-key l = l.faults ≡ l.fn.faults ++ map (key_fault l.kind) (map (λ r. r.now) l.yielded)
