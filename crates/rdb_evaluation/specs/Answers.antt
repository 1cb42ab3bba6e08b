-- What an answer of the code says of a definition's value. Want of memory says nothing.
use Rattle.std.specs.Prelude.{◌≡◌, List, Result, Ok, Err}
use Rattle.rdb_types.specs.declared.keys.Dbkey.{Dbkey}
use Rattle.rdb_types.specs.declared.values.Scaled.{Scaled}
use Rattle.rdo_ast.specs.Tree.{Ranging, ranging, With}
use Rattle.rdb_meaning.specs.Evaluation.{Selected, these, not_computed, Gathered, values, lost}
use Rattle.rdo_arithmetic.specs.declared.stop.Stop.{Stop}
use Rattle.rdo_arithmetic.specs.declared.stop.Stop.TheVariants as stop

-- the tuples of a selection
abbrev pub Selects : Result (List (List Dbkey)) Stop → Selected → Type 0
Selects (Ok ks) s = s ≡ these ks
Selects (Err stop.Overflow) s = s ≡ not_computed
Selects (Err stop.Memory) s = Unit {0}

-- the value of an expression for each of the tuples
abbrev pub Gathers : Result (List Scaled) Stop → Gathered → Type 0
Gathers (Ok vs) g = g ≡ values vs
Gathers (Err stop.Overflow) g = g ≡ lost
Gathers (Err stop.Memory) g = Unit {0}

abbrev pub condition_in : Ranging → With
condition_in (ranging first ss c) = c
