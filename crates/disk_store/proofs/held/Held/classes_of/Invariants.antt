use Rattle.std.proofs.Common.{◌≡◌, ℕ, Some, length}
use Rattle.std.specs.Prelude.{slice_get}
use Rattle.rdb_types.specs.declared.keys.Dbkey.{Dbkey}
use Rattle.rdb_types.specs.declared.keys.Line.{Line}
use Rattle.disk_store.specs.Commits.{HasClass}
use Rattle.disk_store.proofs.held.Held.classes_of.Given as goal

abbrev pub invariant-loop-line : goal.invariant-loop-line
invariant-loop-line l = record {
  long : length l.classes.items ≡ l.line-index;
  each : (i : ℕ) (line : Dbkey × Line) (class : ℕ) → slice_get l.lines i ≡ Some line → slice_get l.classes.items i ≡ Some class → HasClass l.self.tables line class;
}
