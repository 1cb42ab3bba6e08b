-- The row that assignments make, and that of a STORE: what it begins with, and the values that its assignments see.
use Rattle.std.proofs.Common.{◌≡◌, List, [], ◌∷◌, ◌++◌, map, length, Option, Some, None, Result, Err, sym, ap, subst, ◌∙◌, append-nil}
use Rattle.std.specs.List.{All}
use Rattle.rdb_types.specs.declared.values.Field.{Field}
use Rattle.rdo_ast.specs.declared.syntax.Range.{Range}
use Rattle.rdb_meaning.specs.declared.tables.Relation.{Relation}
use Rattle.rdb_meaning.specs.declared.tables.Tables.{Tables}
use Rattle.rdb_meaning.specs.Contents.{Row, relation_named, fields_of}
use Rattle.rdb_meaning.specs.Checks.{assignments_uses}
use Rattle.rdb_meaning.specs.Evaluation.{Scope, bind_source}
use Rattle.rdb_meaning.specs.Execution.{Assigned, assigned, assign}
use Rattle.line_view.specs.Knowledge.{Lines}
use Rattle.catalog.specs.declared.reading.Catalog.{Catalog}
use Rattle.statement_view.specs.Over.{Over}
use Rattle.row_writes.specs.Rows.{IsSoundView}
use Rattle.rdo_values.specs.Rows.{values_of, row_of, variables_of}
use Rattle.rdo_bind.specs.declared.assign.BoundAssign.{BoundAssign}
use Rattle.rdo_bind.specs.Assigning.{written_assign, IsBoundAssign}
use Rattle.rdo_bind.proofs.Lists.{variables_behind}
use Rattle.rdo_acts.specs.Scopes.{missing_values}
use Rattle.rdo_acts.specs.Ends.{ActStop, reply_of, IsUnassigned, Computes}
use Rattle.rdo_acts.specs.Areas.{ReadsFor}
use Rattle.rdo_acts.proofs.VariableRow.{none_values, row_joined}

-- ---- the values of the variable that is stored

pub stored_values : (t : Tables) (scope : Scope) (s : Range) (table : Relation) (fields : List Field) → relation_named s.relation t ≡ Some table → table.fields ≡ fields → row_of t (scope ++ bind_source s None ∷ []) ≡ row_of t scope ++ missing_values (length fields)
stored_values t scope s table fields named same =
    row_joined t scope (bind_source s None ∷ [])
    ∙ ap (λ (vs : Row). row_of t scope ++ vs) (append-nil (values_of (fields_of (relation_named s.relation t)) []))
    ∙ ap (λ (o : Option Relation). row_of t scope ++ values_of (fields_of o) []) named
    ∙ ap (λ (fs : List Field). row_of t scope ++ values_of fs []) same
    ∙ ap (λ (vs : Row). row_of t scope ++ vs) (none_values fields)

-- ---- the row

module _ (c : Catalog) (view : Over) (fields : List Field) (assigns : List BoundAssign) where
  abbrev made : Tables → Scope → Row → Assigned
  made t scope row = assign (map written_assign assigns) fields t scope row

  -- what is said of the row that the assignments make of this one
  abbrev Makes : {T : Type 0} → (T → Row) → Row → Tables → Scope → Result T ActStop → Type 0
  Makes row begun t scope result = Computes result view (λ x. made t scope begun ≡ assigned (row x)) (λ refusal. IsUnassigned (reply_of refusal) (made t scope begun))

  -- the same where these are the values of all variables
  abbrev pub MakesRow : {T : Type 0} → Row → (T → Row) → Row → Result T ActStop → Type 0
  MakesRow values row begun result = (first : Lines) (t : Tables) (scope : Scope) → IsSoundView view c t first → All (IsBoundAssign t (variables_of scope)) assigns → row_of t scope ≡ values → Makes row begun t scope result

  -- what is said of the row that is stored, where these are the values of the variables outside
  abbrev pub MakesNewRow : {T : Type 0} → Row → (T → Row) → Result T ActStop → Type 0
  MakesNewRow values row result = (first : Lines) (t : Tables) (scope : Scope) (s : Range) (table : Relation) → IsSoundView view c t first → relation_named s.relation t ≡ Some table → table.fields ≡ fields
      → All (IsBoundAssign t (variables_of scope ++ s ∷ [])) assigns → row_of t scope ≡ values
      → Makes row (missing_values (length fields)) t (scope ++ bind_source s None ∷ []) result

  -- The row that is stored is made of missing values, where those of its variable are missing too.
  pub new_row_made : {T : Type 0} (values all begun : Row) (result : Result T ActStop) (row : T → Row) → all ≡ values ++ missing_values (length fields) → begun ≡ missing_values (length fields) → MakesRow all row begun result → MakesNewRow values row result
  new_row_made values all begun result row whole begins each = λ first t scope s table sound named same are own.
      let within : Scope = scope ++ bind_source s None ∷ [] in
      let seen : row_of t within ≡ all = stored_values t scope s table fields named same ∙ ap (λ (vs : Row). vs ++ missing_values (length fields)) own ∙ sym whole in
      subst (λ (o : Row). Makes row o t within result) begins
      (each first t within sound (subst (λ (vs : List Range). All (IsBoundAssign t vs) assigns) (sym (variables_behind (s ∷ []) scope)) are) seen)

  -- what is lacked for the row that is stored
  abbrev pub ReadsRow : {T : Type 0} → Row → Result T ActStop → Type 0
  ReadsRow values result = (first : Lines) (t : Tables) (scope : Scope) → IsSoundView view c t first → All (IsBoundAssign t (variables_of scope)) assigns → row_of t scope ≡ values → ReadsFor t (assignments_uses (map written_assign assigns)) result

  abbrev pub ReadsNewRow : {T : Type 0} → Row → Result T ActStop → Type 0
  ReadsNewRow values result = (first : Lines) (t : Tables) (scope : Scope) (s : Range) (table : Relation) → IsSoundView view c t first → relation_named s.relation t ≡ Some table → table.fields ≡ fields
      → All (IsBoundAssign t (variables_of scope ++ s ∷ [])) assigns → row_of t scope ≡ values → ReadsFor t (assignments_uses (map written_assign assigns)) result

  pub new_row_reads : (T U : Type 0) (values all : Row) (stop : ActStop) → all ≡ values ++ missing_values (length fields) → ReadsRow {T = T} all (Err stop) → ReadsNewRow {T = U} values (Err stop)
  new_row_reads T U values all stop whole each = λ first t scope s table sound named same are own.
      let within : Scope = scope ++ bind_source s None ∷ [] in
      let seen : row_of t within ≡ all = stored_values t scope s table fields named same ∙ ap (λ (vs : Row). vs ++ missing_values (length fields)) own ∙ sym whole in
      each first t within sound (subst (λ (vs : List Range). All (IsBoundAssign t vs) assigns) (sym (variables_behind (s ∷ []) scope)) are) seen
