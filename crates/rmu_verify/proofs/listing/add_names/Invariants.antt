use Rattle.std.proofs.Common.{◌≡◌, ◌++◌, map, take}
use Rattle.rmu_texts.specs.declared.faults.VerifyFault.TheVariants as fault
use Rattle.rmu_verify.proofs.listing.add_names.Given as goal

abbrev pub invariant-loop-name : goal.invariant-loop-name
invariant-loop-name l = l.faults ≡ l.fn.faults ++ map (λ e. fault.Index e.0) (take l.name-index l.names)
