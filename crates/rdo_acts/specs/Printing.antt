-- What PRINT prints of the values of the variables around it.
use Rattle.std.specs.Prelude.{◌≡◌, ℕ, ◌+◌, List, [], ◌∷◌, slice_get}
use Rattle.rdb_types.specs.declared.values.FieldType.{FieldType}
use Rattle.rdb_types.specs.declared.values.Scaled.{Scaled}
use Rattle.rdo_ast.specs.Tree.{Shown}
use Rattle.rdb_meaning.specs.declared.tables.Tables.{Tables}
use Rattle.rdb_meaning.specs.Contents.{Row}
use Rattle.rdb_meaning.specs.Evaluation.{Scope, scaled_if}
use Rattle.rdb_meaning.specs.Execution.{World, Ran, Line, no_line, printed, printed_in}
use Rattle.rdo_acts.specs.declared.stop.Refusal.{Refusal}
use Rattle.rdo_acts.specs.declared.stop.Refusal.TheVariants.{Overflow, TooLong, Duplicate, Unwritten}

-- the values from this place on, each as a field of its type has it
abbrev pub values_line : List FieldType → ℕ → Row → List Scaled
values_line [] place values = []
values_line (kind ∷ kinds) place values = scaled_if kind (slice_get values place) ∷ values_line kinds (place + 1) values

-- there is no line where a value overflows
abbrev pub IsNoLine : Refusal → Line → Type 0
IsNoLine Overflow l = l ≡ no_line
IsNoLine TooLong l = ⊥
IsNoLine (Duplicate name) l = ⊥
IsNoLine (Unwritten reason) l = ⊥

abbrev pub prints : List Shown → Scope → Tables → World → Ran
prints items scope start w = printed_in w (printed items w.tables scope)
