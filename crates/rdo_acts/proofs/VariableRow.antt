-- The values of a variable's row, read over the view of a statement.
use Rattle.std.proofs.Common.{◌≡◌, ℕ, ◌+◌, ◌<◌, zero, suc, true, false, cond, List, [], ◌∷◌, ◌++◌, map, length, take, get_or, Option, Some, None, refl, sym, ap, subst, ◌∙◌, arith, append-nil, append_assoc}
use Rattle.std.specs.Prelude.{IsSome, option_and_then}
use Rattle.std.specs.List.{AllByRecursion}
use Rattle.std.specs.Ordering.{is_eq}
use Rattle.std.specs.FinMap.Entries.{find}
use Rattle.std.proofs.lemmas.List.{map-append, take_more}
use Rattle.std.proofs.lemmas.Option.{none-some, same_Some}
use Rattle.rdb_types.specs.declared.keys.Dbkey.{Dbkey}
use Rattle.rdb_types.specs.declared.values.Field.{Field}
use Rattle.rdb_types.specs.declared.values.Value.TheVariants.{Missing}
use Rattle.rdb_types.specs.Order.{dbkey_order}
use Rattle.rdb_meaning.specs.declared.tables.Relation.{Relation}
use Rattle.rdb_meaning.specs.declared.tables.Tables.{Tables}
use Rattle.rdb_meaning.specs.Contents.{Row, relation_named, fields_of, row_at}
use Rattle.rdb_meaning.specs.Evaluation.{Scope, row_now}
use Rattle.line_view.specs.Knowledge.{Lines, lines_in}
use Rattle.statement_view.specs.Over.{Over, laid_over}
use Rattle.relation_rows.specs.Relations.{stored_row, HasRows}
use Rattle.row_writes.specs.Rows.{IsSoundView}
use Rattle.sound_changes.proofs.Schemas.{catalogs_schema}
use Rattle.rdo_values.specs.declared.bound.BoundRange.{BoundRange}
use Rattle.rdo_values.specs.Rows.{values_of, row_or_none, row_of}
use Rattle.rdo_values.specs.Places.{IsRangeOf}
use Rattle.rdo_select.specs.declared.source.Source.{Source}
use Rattle.rdo_select.specs.Sources.{source_at, IsSourceOf, HasSource}
use Rattle.rdo_select.proofs.RowsAtHand.{IsWhole, all_whole}
use Rattle.bound_alone.proofs.Same.{range}
use Rattle.rdo_acts.specs.declared.scope.BoundRow.{BoundRow}
use Rattle.rdo_acts.specs.declared.work.Given.{Given}
use Rattle.rdo_acts.specs.Scopes.{binding_of, scope_of, AreRowsOf, missing_values}
use Rattle.rdo_acts.specs.Ends.{GoTogether}

-- ---- one of the variables

pub one_of : {X : Type 0} (P : X → Type 0) (xs : List X) (i : ℕ) (x : X) → AllByRecursion P xs → i < length xs → x ≡ get_or xs i x → P x
one_of P [] i x each within is = absurd (omega arith)
one_of P (y ∷ ys) zero x each within is = subst P (sym is) each.0
one_of P (y ∷ ys) (suc i) x each within is = one_of P ys i x each.1 (omega arith) is

-- ---- its relation

range_there : (s : BoundRange) (o : Option Relation) → IsRangeOf s o → (rel : Relation) × (o ≡ Some rel) × (s.area ≡ rel.area) × (s.width ≡ length rel.fields)
range_there s (Some rel) is = (rel, refl, is.0, is.1)
range_there s None is = absurd is

no_source : (o : Option Source) → IsSome o → None ≡ o → ⊥
no_source (Some source) some none = let bad : ⊥ = cc in bad
no_source None some none = let bad : ⊥ = cc in bad

-- its source is there
pub has_source : (given : Given) → GoTogether given → (v : BoundRow) → AreRowsOf given.schema.now.tables (v ∷ []) → None ≡ source_at v.range.now.area given.sources.now.entries → ⊥
has_source given together v is none =
    let s : BoundRange = v.range.now in
    let there = range_there s (relation_named s.range.relation given.schema.now.tables) is.0 in
    no_source (source_at s.area given.sources.now.entries) (subst (λ (a : ℕ). IsSome (source_at a given.sources.now.entries)) (sym there.2) (together.present s.range.relation there.0 there.1)) none

source_is : (all : Lines) (rel : Relation) (source : Source) (o : Option Source) → o ≡ Some source → HasSource all rel o → IsSourceOf all rel source
source_is all rel source o is has = subst (HasSource all rel) is has

-- ---- its values

found_whole : (fields : List Field) (key : Dbkey) (rows : List (Dbkey × Row)) (row : Row) → AllByRecursion (IsWhole fields) (map stored_row rows) → find dbkey_order key rows ≡ Some row → values_of fields row ≡ row
found_whole fields key [] row whole found = absurd (none-some row found)
found_whole fields key (e ∷ es) row whole found =
    elim (is_eq (dbkey_order key e.0)) as (λ b. cond b (Some e.1) (find dbkey_order key es) ≡ Some row → values_of fields row ≡ row) [
      | true ↦ λ h. subst (λ (x : Row). values_of fields x ≡ x) (same_Some e.1 row h) whole.0
      | false ↦ λ h. found_whole fields key es row whole.1 h
    ] found

pub none_values : (fields : List Field) → values_of fields [] ≡ missing_values (length fields)
none_values [] = refl
none_values (f ∷ fs) = ap (λ (row : Row). Missing ∷ row) (none_values fs)

row_found : (rows : List (Dbkey × Row)) (key : Option Dbkey) (row : Row) → Some row ≡ option_and_then (λ k. find dbkey_order k rows) key → (k : Dbkey) × (find dbkey_order k rows ≡ Some row)
row_found rows None row is = absurd (none-some row (sym is))
row_found rows (Some k) row is = (k, sym is)

module _ (given : Given) (view : Over) (first : Lines) (t : Tables) (v : BoundRow) (source : Source) (together : GoTogether given) (is : AreRowsOf given.schema.now.tables (v ∷ [])) (at : source_at v.range.now.area given.sources.now.entries ≡ Some source)
    (sound : IsSoundView view given.schema.now t first) where
  abbrev all : Lines
  all = laid_over view.lines first

  abbrev s : BoundRange
  s = v.range.now

  there : (rel : Relation) × (relation_named s.range.relation t ≡ Some rel) × (s.area ≡ rel.area) × (s.width ≡ length rel.fields)
  there = range_there s (relation_named s.range.relation t) (range given.schema.now.tables t (catalogs_schema all given.schema.now t (sound.sound).are) s s.range.relation is.0)

  pub table : Relation
  table = there.0

  pub table_named : relation_named s.range.relation t ≡ Some table
  unfolding table
  table_named = there.1

  pub has_rows : HasRows all source.relation table
  unfolding table
  has_rows =
      let own : source_at (there.0).area given.sources.now.entries ≡ Some source = ap (λ (a : ℕ). source_at a given.sources.now.entries) (sym there.2) ∙ at in
      (source_is all there.0 source (source_at (there.0).area given.sources.now.entries) own (together.tables all t sound.sound s.range.relation there.0 there.1)).0

  row_is : row_of t (scope_of (v ∷ [])) ≡ values_of (there.0).fields (row_or_none (option_and_then (λ k. find dbkey_order k (there.0).rows) v.key))
  row_is =
      append-nil (values_of (fields_of (relation_named s.range.relation t)) (row_or_none (row_now t (binding_of v))))
      ∙ ap (λ (o : Option Relation). values_of (fields_of o) (row_or_none (option_and_then (λ k. row_at k o) v.key))) there.1

  -- those of the row that was found
  pub some_values : (row : Row) → Some row ≡ option_and_then (λ k. find dbkey_order k table.rows) v.key → row ≡ row_of t (scope_of (v ∷ []))
  unfolding table
  some_values row found =
      let own = row_found (there.0).rows v.key row found in
      let has = has_rows in
      let whole : AllByRecursion (IsWhole (there.0).fields) (map stored_row (there.0).rows) =
      subst (λ (fs : List Field). AllByRecursion (IsWhole fs) (map stored_row (there.0).rows)) has.fields (all_whole source.relation (lines_in source.relation.area all) (map stored_row (there.0).rows) has.rows) in
      sym (row_is ∙ ap (λ (o : Option Row). values_of (there.0).fields (row_or_none o)) (sym found) ∙ found_whole (there.0).fields own.0 (there.0).rows row whole own.1)

  -- missing ones where there is no row
  pub no_values : (row : Row) → row ≡ missing_values s.width → None ≡ option_and_then (λ k. find dbkey_order k table.rows) v.key → row ≡ row_of t (scope_of (v ∷ []))
  unfolding table
  no_values row missing none =
      missing ∙ ap missing_values there.3
      ∙ sym (row_is ∙ ap (λ (o : Option Row). values_of (there.0).fields (row_or_none o)) (sym none) ∙ none_values (there.0).fields)

-- ---- the values of all variables, one behind the other

pub row_joined : (t : Tables) (scope more : Scope) → row_of t (scope ++ more) ≡ row_of t scope ++ row_of t more
row_joined t [] more = refl
row_joined t (b ∷ scope) more =
    let own = values_of (fields_of (relation_named b.relation t)) (row_or_none (row_now t b)) in
    ap (λ (row : Row). own ++ row) (row_joined t scope more) ∙ sym (append_assoc own (row_of t scope) (row_of t more))

pub values_more : (t : Tables) (vs : List BoundRow) (i : ℕ) (v : BoundRow) (before more after : Row) → i < length vs → v ≡ get_or vs i v → after ≡ before ++ more → before ≡ row_of t (scope_of (take i vs)) → more ≡ row_of t (scope_of (v ∷ [])) → after ≡ row_of t (scope_of (take (i + 1) vs))
values_more t vs i v before more after within is joined so own =
    joined ∙ ap (λ (row : Row). row ++ more) so ∙ ap (λ (row : Row). row_of t (scope_of (take i vs)) ++ row) own
    ∙ sym (row_joined t (scope_of (take i vs)) (scope_of (v ∷ [])))
    ∙ ap (row_of t) (sym (map-append binding_of (take i vs) (v ∷ [])))
    ∙ ap (λ (x : BoundRow). row_of t (scope_of (take i vs ++ x ∷ []))) is
    ∙ ap (λ (xs : List BoundRow). row_of t (scope_of xs)) (sym (take_more vs i v within))
