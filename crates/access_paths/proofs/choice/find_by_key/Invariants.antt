use Rattle.std.proofs.Common.{◌≡◌, map, drop}
use Rattle.rdo_values.specs.Views.{testing_of, conjunction_with}
use Rattle.access_paths.specs.Choice.{first_by_key}
use Rattle.access_paths.proofs.choice.find_by_key.Given as goal

abbrev pub invariant-loop-index : goal.invariant-loop-index
invariant-loop-index l =
    first_by_key l.rows (conjunction_with (map testing_of l.tests)) l.indexes ≡ first_by_key l.rows (conjunction_with (map testing_of l.tests)) (drop l.index-index l.indexes)
