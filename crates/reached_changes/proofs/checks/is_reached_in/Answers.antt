use Rattle.std.proofs.Common.{◌≡◌, None, Result, Ok, Err, ◌∙◌, sym, ap}
use Rattle.rdb_meaning.specs.declared.tables.Tables.{Tables}
use Rattle.rdb_meaning.specs.Checks.{Refusal, or_else}
use Rattle.rdb_checks.specs.declared.stop.Stop.{Stop}
use Rattle.rdb_checks.specs.declared.stop.Stop.TheVariants.{Refused, Memory}
use Rattle.rdb_checks.specs.Answers.{Finds}
use Rattle.rdb_definitions.specs.Answers.{Defines}
use Rattle.reached_changes.proofs.checks.is_reached_in.Goals as goal

-- what a definition answers says what refuses it
finds : {A : Type 0} (x : Result A Stop) (refusal : Refusal) (old new after : Tables) → Defines x refusal old new after → Finds x refusal
finds (Ok y) refusal old new after d = d.0
finds (Err (Refused reply)) refusal old new after d = d.0
finds (Err Memory) refusal old new after d = tt

neither : (a b : Refusal) → a ≡ None → b ≡ None → or_else a b ≡ None
neither a b p q = ap (λ x. or_else x b) p ∙ q

pub returns-else-not-is_writing-clause-before : goal.returns-else-not-is_writing-clause-before
returns-else-not-is_writing-clause-before c is word = rw c.in-DefineField.is (neither _ _ (c.is_writing.ensures c.if-not-is_writing.false) (c.passes-in-DefineField.ensures _ (finds _ _ _ _ _ c.define_field.ensures) is))

pub returns-else-not-is_writing-2-clause-before : goal.returns-else-not-is_writing-2-clause-before
returns-else-not-is_writing-2-clause-before c is word = rw (c.in-DefineRelation.is, sym c.as_slice.ensures) (neither _ _ (c.is_writing-in-DefineRelation.ensures c.if-not-is_writing-2.false) (c.passes-in-DefineRelation.ensures _ (finds _ _ _ _ _ c.define_relation.ensures) is))
