-- What selections and conditions are by the definitions that theirs spell out.
use Rattle.std.proofs.Common.{◌≡◌, refl}
use Rattle.rdo_ast.specs.Tree.{Conjunction, Condition, conjunction, Ranging, ranging}
use Rattle.rdb_meaning.specs.declared.tables.Tables.{Tables}
use Rattle.rdb_meaning.specs.Comparison.{verdict_of}
use Rattle.rdb_meaning.specs.Evaluation.{Scope, on_selected, first_of, some_holds, verdict_of_condition, matching, selected}
use Rattle.rdb_meaning.specs.Selecting.{first_count}

-- the first of the tuples that match
pub selected_is : (r : Ranging) (t : Tables) (scope : Scope) → selected r t scope ≡ on_selected (first_of (first_count r)) (matching r t scope)
selected_is (ranging first ss c) t scope = refl

-- a condition with an OR at its top
pub one_part : (c d : Conjunction) (ds : Condition) (t : Tables) (scope : Scope) →
    verdict_of_condition (conjunction c (conjunction d ds)) t scope ≡ verdict_of (some_holds (conjunction c (conjunction d ds)) t scope)
one_part c d ds t scope = refl
