use Rattle.std.proofs.Common.{◌≡◌, ◌∷◌, ◌++◌, take}
use Rattle.std.specs.List.{flat_map}
use Rattle.rdb_account.specs.Transcript.{scaled_text}
use Rattle.rdb_account.proofs.text.row_rest.Given as goal

abbrev pub invariant-loop-value : goal.invariant-loop-value
invariant-loop-value l = l.out ≡ l.initial.out ++ flat_map (λ v. 32 ∷ scaled_text v) (take l.value-index l.values)
