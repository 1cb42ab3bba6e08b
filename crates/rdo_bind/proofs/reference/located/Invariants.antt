use Rattle.std.proofs.Common.{◌≡◌, drop, option_map}
use Rattle.rdo_values.specs.Places.{behind}
use Rattle.rdo_bind.proofs.Locating.{located_from}
use Rattle.rdo_bind.proofs.reference.located.Given as goal

abbrev pub invariant-loop-binding : goal.invariant-loop-binding
invariant-loop-binding l =
    located_from l.tables l.reference l.scope ≡ option_map (behind l.before) (located_from l.tables l.reference (drop l.binding-index l.scope))
