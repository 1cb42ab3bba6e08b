use Rattle.std.proofs.Common.{◌≡◌, [], map, drop}
use Rattle.rdo_values.specs.Views.{testing_of, conjunction_with}
use Rattle.access_paths.specs.declared.equated.EquatedKey.TheVariants.{To}
use Rattle.access_paths.specs.Equated.{key_from}
use Rattle.access_paths.proofs.equated.key_at.Given as goal

abbrev pub invariant-loop-position : goal.invariant-loop-position
invariant-loop-position l =
    key_from l.rows (conjunction_with (map testing_of l.tests)) (To []) l.positions ≡ key_from l.rows (conjunction_with (map testing_of l.tests)) l.key (drop l.position-index l.positions)
