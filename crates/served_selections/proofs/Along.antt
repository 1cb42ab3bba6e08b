-- Selections read the relations that their ranges name, each as its tests choose behind rows of the variables before it.
use Rattle.std.proofs.Common.{◌≡◌, ℕ, suc, ◌+◌, true, false, cond, List, [], ◌∷◌, ◌++◌, map, length, Option, Some, None, inl, inr, refl, sym, ap, subst, ◌∙◌, append-nil, length-append, arith}
use Rattle.std.proofs.lemmas.List.{length-map, map-append}
use Rattle.std.specs.List.{AllByRecursion}
use Rattle.std.specs.FinMap.Entries.{find}
use Rattle.rdb_types.specs.declared.keys.Dbkey.{Dbkey}
use Rattle.rdb_types.specs.declared.values.Field.{Field}
use Rattle.rdb_types.specs.Order.{dbkey_order}
use Rattle.rdo_ast.specs.declared.syntax.Range.{Range}
use Rattle.rdb_meaning.specs.declared.tables.Relation.{Relation}
use Rattle.rdb_meaning.specs.declared.tables.Tables.{Tables}
use Rattle.rdb_meaning.specs.Numbers.{Computed, is, overflow}
use Rattle.rdb_meaning.specs.Comparison.{Verdict, chosen, passed_over, undecided}
use Rattle.rdb_meaning.specs.Contents.{Row, relation_named, rows_of, fields_of}
use Rattle.rdb_meaning.specs.Evaluation.{Scope, Tuple, bind_source, bind_tuple, row_now, computed, verdict_of_condition, selected}
use Rattle.line_view.specs.Knowledge.{Lines, IsInOrder, lines_in}
use Rattle.relation_rows.specs.declared.stored.StoredRow.{StoredRow}
use Rattle.relation_rows.specs.Relations.{stored_row}
use Rattle.sorted_index_laws.specs.Nodes.{AnyByRecursion}
use Rattle.sorted_index_laws.proofs.Ordered.{all_append}
use Rattle.access_paths.specs.declared.choice.Access.TheVariants.{Scan}
use Rattle.access_paths.specs.Choice.{choice}
use Rattle.index_rows.specs.Indexed.{positions_in}
use Rattle.index_rows.specs.Given.{reached}
use Rattle.rdo_values.specs.declared.bound.BoundRange.{BoundRange}
use Rattle.rdo_values.specs.Tree.{Expression, number, text, field, negative, chain, count, statistic, known, Operations, no_operation, operation, Testing, compare, between, containing, starting_with, missing, any, negated, group, decided, Conjunction, no_test, test, Condition, no_conjunction, conjunction, Ranging, ranging, without_condition, with_condition}
use Rattle.rdo_values.specs.Named.{named, named_condition, named_ranging}
use Rattle.rdo_values.specs.Rows.{values_of, row_or_none, row_of, variable_of, variables_of}
use Rattle.rdo_values.specs.Filled.{verdict_at}
use Rattle.rdo_values.specs.Places.{IsRangeOf, AreRanges, ranges_in, IsBound, AreBound, IsBoundTesting, IsBoundConjunction, IsBoundCondition, IsBoundRanging}
use Rattle.rdo_values.proofs.Tuples.{variables_of_tuple, row_of_tuple}
use Rattle.rdo_select.specs.declared.source.Source.{Source}
use Rattle.rdo_select.specs.declared.crossing.Found.{Found}
use Rattle.rdo_select.specs.Asking.{condition_asks}
use Rattle.rdo_select.specs.Chosen.{tests_alone}
use Rattle.rdo_select.specs.Crossed.{behind, no_range}
use Rattle.rdo_select.specs.Readings.{Reading}
use Rattle.rdo_select.specs.Sources.{Listed, source_at, IsSourceOf, HasSource, AreSourcesOf}
use Rattle.rdo_select.specs.Work.{Work, reads_all, nothing_read, followed_by, for_each, with_verdict, with_value, valued, judged, Ranged, with_source, ranged, is_read_once, scan_of, read_once, reading_by, given_by, read_behind, rows_behind, crossing, come_by, ranges_work, tuples_known, read_for, read_for_operations, read_for_test, read_for_tests, read_for_condition, selecting}
use Rattle.rdo_select.proofs.RowsAtHand.{IsWhole, all_whole, rows_found}
use Rattle.served_selections.specs.Ranges.{Chosen, chosen_from, chosen_in, chosen_in_operations, chosen_in_test, chosen_in_tests, chosen_in_condition, chosen_in_ranging}
use Rattle.served_selections.specs.Served.{access_behind}
use Rattle.served_selections.proofs.Lists.{any_left, any_right, all_kept, all_through}
use Rattle.served_selections.proofs.Lengths.{IsOver, selected_over}

-- ---- work, reading by reading

module _ (P : Reading → Type 0) where
  abbrev pub Each : Work → Type 0
  Each w = AllByRecursion P w.readings

  followed_each : (a b : Work) → Each a → Each b → Each (followed_by a b)
  followed_each a b h k = elim a.goes_on as (λ g. AllByRecursion P (cond g (a.readings ++ b.readings) a.readings)) [
    | true ↦ all_append P a.readings b.readings h k
    | false ↦ h
  ]

  for_each_of : {X : Type 0} (Q : X → Type 0) (f : X → Work) → ((x : X) → Q x → Each (f x)) → (xs : List X) → AllByRecursion Q xs → Each (for_each f xs)
  for_each_of Q f each [] h = tt
  for_each_of Q f each (x ∷ xs) h = followed_each (f x) (for_each f xs) (each x h.0) (for_each_of Q f each xs h.1)

  value_each : (c : Computed) → Each (with_value c)
  value_each (is v) = tt
  value_each overflow = tt

  verdict_each : (v : Verdict) → Each (with_verdict v)
  verdict_each chosen = tt
  verdict_each passed_over = tt
  verdict_each undecided = tt

  pub valued_each : (rs : List Reading) (c : Computed) → AllByRecursion P rs → Each (valued rs c)
  valued_each rs c h = followed_each (reads_all rs) (with_value c) h (value_each c)

  pub judged_each : (rs : List Reading) (v : Verdict) → AllByRecursion P rs → Each (judged rs v)
  judged_each rs v h = followed_each (reads_all rs) (with_verdict v) h (verdict_each v)

-- ---- a variable more

pub one_more_variable : (scope : Scope) (vs : List Range) (s : Range) (k : Option Dbkey) → variables_of scope ≡ vs → variables_of (scope ++ bind_source s k ∷ []) ≡ vs ++ s ∷ []
one_more_variable scope vs s k same = map-append variable_of scope (bind_source s k ∷ []) ∙ ap (λ l. l ++ s ∷ []) same

row_with : (t : Tables) (scope : Scope) (s : Range) (k : Dbkey) (entries : List (Dbkey × Row)) (row : Row) → rows_of (relation_named s.relation t) ≡ entries → find dbkey_order k entries ≡ Some row → values_of (fields_of (relation_named s.relation t)) row ≡ row → row_of t (scope ++ bind_source s (Some k) ∷ []) ≡ row_of t scope ++ row
row_with t scope s k entries row rows found whole =
    row_of_tuple t (s ∷ []) (k ∷ []) scope
    ∙ ap (λ own. row_of t scope ++ own) (append-nil (values_of (fields_of (relation_named s.relation t)) (row_or_none (row_now t (bind_source s (Some k)))))
    ∙ ap (λ es. values_of (fields_of (relation_named s.relation t)) (row_or_none (find dbkey_order k es))) rows
    ∙ ap (λ r. values_of (fields_of (relation_named s.relation t)) (row_or_none r)) found ∙ whole)

-- ---- ranges and their sources

-- The relation of the range is read so, behind rows of the variables before it.
pub record IsReadAt (all : Lines) (t : Tables) (sources : Listed) (reading : Reading) (c : Chosen) : Type 0 where
  pub relation : Relation
  pub named : relation_named c.range.range.relation t ≡ Some relation
  pub stands : source_at c.range.area sources ≡ Some reading.source
  pub is : IsSourceOf all relation reading.source
  pub scope : Scope
  pub variables : variables_of scope ≡ c.before
  pub access : reading.access ≡ access_behind c.tests (row_of t scope) reading.source

module _ (all : Lines) (sorted : IsInOrder all) (t : Tables) (sources : Listed) (are : AreSourcesOf all t sources) where
  -- behind a variable bound to the row stand its values
  abbrev pub IsRowOf : Range → StoredRow → Type 0
  IsRowOf s x = (scope : Scope) → row_of t (scope ++ bind_source s (Some x.key) ∷ []) ≡ row_of t scope ++ x.row

  record IsIn (s : BoundRange) (r : Ranged) : Type 0 where
    pub relation : Relation
    pub named : relation_named s.range.relation t ≡ Some relation
    pub stands : source_at s.area sources ≡ Some r.source
    pub is : IsSourceOf all relation r.source
    pub rows : AllByRecursion (IsRowOf s.range) r.rows

  abbrev AreIn : List BoundRange → List Ranged → Type 0
  AreIn [] [] = Unit {0}
  AreIn [] (r ∷ rs) = ⊥
  AreIn (s ∷ ss) [] = ⊥
  AreIn (s ∷ ss) (r ∷ rs) = IsIn s r × AreIn ss rs

  rows_are : (s : Range) (rel : Relation) (fields : List Field) → relation_named s.relation t ≡ Some rel → fields ≡ rel.fields → (es : List (Dbkey × Row)) → AllByRecursion (IsWhole fields) (map stored_row es)
      → AllByRecursion (λ (e : Dbkey × Row). find dbkey_order e.0 rel.rows ≡ Some e.1) es → AllByRecursion (IsRowOf s) (map stored_row es)
  rows_are s rel fields named same [] whole found = tt
  rows_are s rel fields named same (e ∷ es) whole found = (
    λ scope. row_with t scope s e.0 rel.rows e.1 (ap rows_of named) found.0 (ap (λ fs. values_of fs e.1) (ap fields_of named ∙ sym same) ∙ whole.0),
    rows_are s rel fields named same es whole.1 found.1,
  )

  -- each row of a source stands behind a variable that is bound to it
  pub rows_of_source : (s : Range) (rel : Relation) (source : Source) → relation_named s.relation t ≡ Some rel → IsSourceOf all rel source → AllByRecursion (IsRowOf s) (map stored_row rel.rows)
  rows_of_source s rel source there own =
      rows_are s rel source.relation.fields.now there own.0.fields rel.rows (all_whole source.relation (lines_in source.relation.area all) (map stored_row rel.rows) own.0.rows) (rows_found source.relation all rel.rows sorted own.0.rows)

  source_in : (s : BoundRange) (ss : List BoundRange) (rel : Relation) (rest : List Ranged) → relation_named s.range.relation t ≡ Some rel → AreIn ss rest → (o : Option Source) → source_at s.area sources ≡ o → HasSource all rel o → AreIn (s ∷ ss) (with_source o (map stored_row rel.rows) rest)
  source_in s ss rel rest named more None at has = absurd has
  source_in s ss rel rest named more (Some source) at has = (
    record {
      relation = rel;
      named = named;
      stands = at;
      is = has;
      rows = rows_of_source s.range rel source named has;
    },
    more,
  )

  range_in : (s : BoundRange) (ss : List BoundRange) (o : Option Relation) (rest : List Ranged) → relation_named s.range.relation t ≡ o → IsRangeOf s o → AreIn ss rest → AreIn (s ∷ ss) (with_source (source_at s.area sources) (map stored_row (rows_of o)) rest)
  range_in s ss None rest named of more = absurd of
  range_in s ss (Some rel) rest named of more =
      source_in s ss rel rest named more (source_at s.area sources) refl (subst (λ (a : ℕ). HasSource all rel (source_at a sources)) (sym of.0) (are s.range.relation rel named))

  ranges_in_tables : (ss : List BoundRange) → AreRanges ss t → AreIn ss (ranged t sources ss)
  ranges_in_tables [] of = tt
  ranges_in_tables (s ∷ ss) of = range_in s ss (relation_named s.range.relation t) (ranged t sources ss) refl of.0 (ranges_in_tables ss of.1)

  -- ---- tuples that are come by

  rows_come_by : (tests : Conjunction) (before : Row) (s : BoundRange) (r : Ranged) → IsIn s r → AllByRecursion (IsRowOf s.range) (rows_behind tests before r)
  rows_come_by tests before s r own = elim (is_read_once tests r.source) as (λ b. AllByRecursion (IsRowOf s.range) (cond b r.rows (given_by (reading_by tests before r.source) r.rows))) [
    | true ↦ own.rows
    | false ↦ all_kept (IsRowOf s.range) (λ (x : StoredRow). reached (positions_in r.source.indexes.now (choice r.source.indexes.now before tests)) (choice r.source.indexes.now before tests) (x.key, x.row)) r.rows own.rows
  ]

  -- so many Dbkeys
  abbrev HasKeys : ℕ → Found → Type 0
  HasKeys n p = length p.tuple ≡ n

  come_by_keys : (tests : Conjunction) (ss : List BoundRange) (rs : List Ranged) → AreIn ss rs → (n : ℕ) (p : Found) → HasKeys n p → AllByRecursion (HasKeys (n + length ss)) (come_by tests rs p)
  come_by_keys tests [] [] own n p h = (h ∙ omega arith, tt)
  come_by_keys tests [] (r ∷ rs) own n p h = absurd own
  come_by_keys tests (s ∷ ss) [] own n p h = absurd own
  come_by_keys tests (s ∷ ss) (r ∷ rs) own n p h =
      all_through (HasKeys (n + length (s ∷ ss))) (IsRowOf s.range) (λ x. come_by tests rs (behind p x))
      (λ x of. subst (λ (m : ℕ). AllByRecursion (HasKeys m) (come_by tests rs (behind p x))) (more n (length ss))
      (come_by_keys tests ss rs own.1 (suc n) (behind p x) (length-append p.tuple (x.key ∷ []) ∙ ap (λ m. m + 1) h ∙ omega arith)))
      (rows_behind tests p.row r) (rows_come_by tests p.row s r own.0)
    where
      more : (a b : ℕ) → suc a + b ≡ a + suc b
      more a b = omega arith

  -- ---- ranges

  module _ (P : Reading → Type 0) where
    abbrev Covers : List Chosen → Type 0
    Covers cs = (reading : Reading) → AnyByRecursion (IsReadAt all t sources reading) cs → P reading

    covers_left : (a b : List Chosen) → Covers (a ++ b) → Covers a
    covers_left a b covers reading h = covers reading (any_left (IsReadAt all t sources reading) a b h)

    covers_right : (a b : List Chosen) → Covers (a ++ b) → Covers b
    covers_right a b covers reading h = covers reading (any_right (IsReadAt all t sources reading) a b h)

    once_reads : (tests : Conjunction) (ss : List BoundRange) (rs : List Ranged) → AreIn ss rs → (scope : Scope) (vs : List Range) → variables_of scope ≡ vs → Covers (chosen_from ss vs tests) → AllByRecursion P (read_once tests rs)
    once_reads tests [] [] own scope vs same covers = tt
    once_reads tests [] (r ∷ rs) own scope vs same covers = absurd own
    once_reads tests (s ∷ ss) [] own scope vs same covers = absurd own
    once_reads tests (s ∷ ss) (r ∷ rs) own scope vs same covers =
        let more = once_reads tests ss rs own.1 (scope ++ bind_source s.range None ∷ []) (vs ++ s.range ∷ []) (one_more_variable scope vs s.range None same) (λ reading h. covers reading (inr h)) in
        elim (is_read_once tests r.source) as (λ b. is_read_once tests r.source ≡ b → AllByRecursion P (cond b (scan_of r.source ∷ []) [] ++ read_once tests rs)) [
          | true ↦ λ once. (
            covers (scan_of r.source) (inl (record {
              relation = own.0.relation;
              named = own.0.named;
              stands = own.0.stands;
              is = own.0.is;
              scope = scope;
              variables = same;
              access = sym (ap (λ b. cond b Scan (choice r.source.indexes.now (row_of t scope) tests)) once);
            })),
            more,
          )
          | false ↦ λ once. more
        ] refl

    behind_reads : (tests : Conjunction) (s : BoundRange) (ss : List BoundRange) (r : Ranged) → IsIn s r → (before : Row) (scope : Scope) (vs : List Range) → row_of t scope ≡ before → variables_of scope ≡ vs → Covers (chosen_from (s ∷ ss) vs tests) → AllByRecursion P (read_behind tests before r.source)
    behind_reads tests s ss r own before scope vs row same covers =
        elim (is_read_once tests r.source) as (λ b. is_read_once tests r.source ≡ b → AllByRecursion P (cond b [] (reading_by tests before r.source ∷ []))) [
          | true ↦ λ once. tt
          | false ↦ λ once. (
            covers (reading_by tests before r.source) (inl (record {
              relation = own.relation;
              named = own.named;
              stands = own.stands;
              is = own.is;
              scope = scope;
              variables = same;
              access = ap (λ b. choice r.source.indexes.now b tests) (sym row) ∙ sym (ap (λ b. cond b Scan (choice r.source.indexes.now (row_of t scope) tests)) once);
            })),
            tt,
          )
        ] refl

    crossing_reads : (judge : Row → Work) → ((row : Row) → Each P (judge row)) → (tests : Conjunction) (ss : List BoundRange) (rs : List Ranged) → AreIn ss rs → (p : Found) (scope : Scope) (vs : List Range) → row_of t scope ≡ p.row → variables_of scope ≡ vs → Covers (chosen_from ss vs tests) → Each P (crossing judge tests rs p)
    crossing_reads judge judges tests [] [] own p scope vs row same covers = judges p.row
    crossing_reads judge judges tests [] (r ∷ rs) own p scope vs row same covers = absurd own
    crossing_reads judge judges tests (s ∷ ss) [] own p scope vs row same covers = absurd own
    crossing_reads judge judges tests (s ∷ ss) (r ∷ rs) own p scope vs row same covers =
        followed_each P (reads_all (read_behind tests p.row r.source)) (for_each (λ x. crossing judge tests rs (behind p x)) (rows_behind tests p.row r)) (behind_reads tests s ss r own.0 p.row scope vs row same covers)
        (for_each_of P (IsRowOf s.range) (λ x. crossing judge tests rs (behind p x))
        (λ x of. crossing_reads judge judges tests ss rs own.1 (behind p x) (scope ++ bind_source s.range (Some x.key) ∷ []) (vs ++ s.range ∷ []) (of scope ∙ ap (λ b. b ++ x.row) row) (one_more_variable scope vs s.range (Some x.key) same) (λ reading h. covers reading (inr h)))
        (rows_behind tests p.row r) (rows_come_by tests p.row s r own.0))

    work_reads : (judge : Row → Work) → ((row : Row) → Each P (judge row)) → (tests : Conjunction) (ss : List BoundRange) (rs : List Ranged) → AreIn ss rs → (scope : Scope) (vs : List Range) → variables_of scope ≡ vs → Covers (chosen_from ss vs tests) → Each P (ranges_work judge tests rs (row_of t scope))
    work_reads judge judges tests ss rs own scope vs same covers =
        followed_each P (reads_all (read_once tests rs)) (crossing judge tests rs (no_range (row_of t scope))) (once_reads tests ss rs own scope vs same covers)
        (crossing_reads judge judges tests ss rs own (no_range (row_of t scope)) scope vs refl same covers)

    -- ---- expressions, conditions and selections

    bound_tuple : (ss : List Range) (ks : Tuple) (scope : Scope) (vs : List Range) → variables_of scope ≡ vs → IsOver ss ks → variables_of (bind_tuple ss ks scope) ≡ vs ++ ss
    bound_tuple ss ks scope vs same over = variables_of_tuple ss ks scope over ∙ ap (λ l. l ++ ss) same

    mutual
      pub expression_reads : (e : Expression) (scope : Scope) (vs : List Range) → variables_of scope ≡ vs → IsBound e t vs → Covers (chosen_in e vs) → AllByRecursion P (read_for e t sources scope)
      expression_reads (number n scale) scope vs same bound covers = tt
      expression_reads (text s) scope vs same bound covers = tt
      expression_reads (field r) scope vs same bound covers = tt
      expression_reads (negative e) scope vs same bound covers = expression_reads e scope vs same bound covers
      expression_reads (chain e os) scope vs same bound covers =
          all_append P (read_for e t sources scope) (read_for_operations os t sources scope) (expression_reads e scope vs same bound.0 (covers_left (chosen_in e vs) (chosen_in_operations os vs) covers))
          (operations_read os scope vs same bound.1 (covers_right (chosen_in e vs) (chosen_in_operations os vs) covers))
      expression_reads (count r) scope vs same bound covers = selection_reads r scope vs same bound covers
      expression_reads (statistic s e r) scope vs same bound covers =
          let at : Tuple → Work = λ ks. valued (read_for e t sources (bind_tuple (ranges_in r) ks scope)) (computed (named e) t (bind_tuple (ranges_in r) ks scope)) in
          followed_each P (selecting r t sources scope) (for_each at (tuples_known (selected (named_ranging r) t scope)))
          (selection_reads r scope vs same bound.1 (covers_right (chosen_in e (vs ++ ranges_in r)) (chosen_in_ranging r vs) covers))
          (for_each_of P (IsOver (ranges_in r)) at
          (λ ks over. valued_each P (read_for e t sources (bind_tuple (ranges_in r) ks scope)) (computed (named e) t (bind_tuple (ranges_in r) ks scope))
          (expression_reads e (bind_tuple (ranges_in r) ks scope) (vs ++ ranges_in r) (bound_tuple (ranges_in r) ks scope vs same over) bound.0 (covers_left (chosen_in e (vs ++ ranges_in r)) (chosen_in_ranging r vs) covers)))
          (tuples_known (selected (named_ranging r) t scope)) (selected_over r t scope))
      expression_reads (known e v) scope vs same bound covers = expression_reads e scope vs same bound covers

      operations_read : (os : Operations) (scope : Scope) (vs : List Range) → variables_of scope ≡ vs → AreBound os t vs → Covers (chosen_in_operations os vs) → AllByRecursion P (read_for_operations os t sources scope)
      operations_read no_operation scope vs same bound covers = tt
      operations_read (operation op e os) scope vs same bound covers =
          all_append P (read_for e t sources scope) (read_for_operations os t sources scope) (expression_reads e scope vs same bound.0 (covers_left (chosen_in e vs) (chosen_in_operations os vs) covers))
          (operations_read os scope vs same bound.1 (covers_right (chosen_in e vs) (chosen_in_operations os vs) covers))

      test_reads : (c : Testing) (scope : Scope) (vs : List Range) → variables_of scope ≡ vs → IsBoundTesting c t vs → Covers (chosen_in_test c vs) → AllByRecursion P (read_for_test c t sources scope)
      test_reads (compare op a b) scope vs same bound covers =
          all_append P (read_for a t sources scope) (read_for b t sources scope) (expression_reads a scope vs same bound.0 (covers_left (chosen_in a vs) (chosen_in b vs) covers))
          (expression_reads b scope vs same bound.1 (covers_right (chosen_in a vs) (chosen_in b vs) covers))
      test_reads (between a low high) scope vs same bound covers =
          let rest = covers_right (chosen_in a vs) (chosen_in low vs ++ chosen_in high vs) covers in
          all_append P (read_for a t sources scope) (read_for low t sources scope ++ read_for high t sources scope)
          (expression_reads a scope vs same bound.0 (covers_left (chosen_in a vs) (chosen_in low vs ++ chosen_in high vs) covers))
          (all_append P (read_for low t sources scope) (read_for high t sources scope) (expression_reads low scope vs same bound.1 (covers_left (chosen_in low vs) (chosen_in high vs) rest)) (expression_reads high scope vs same bound.2 (covers_right (chosen_in low vs) (chosen_in high vs) rest)))
      test_reads (containing a b) scope vs same bound covers =
          all_append P (read_for a t sources scope) (read_for b t sources scope) (expression_reads a scope vs same bound.0 (covers_left (chosen_in a vs) (chosen_in b vs) covers))
          (expression_reads b scope vs same bound.1 (covers_right (chosen_in a vs) (chosen_in b vs) covers))
      test_reads (starting_with a b) scope vs same bound covers =
          all_append P (read_for a t sources scope) (read_for b t sources scope) (expression_reads a scope vs same bound.0 (covers_left (chosen_in a vs) (chosen_in b vs) covers))
          (expression_reads b scope vs same bound.1 (covers_right (chosen_in a vs) (chosen_in b vs) covers))
      test_reads (missing e) scope vs same bound covers = expression_reads e scope vs same bound covers
      test_reads (any r) scope vs same bound covers = selection_reads r scope vs same bound covers
      test_reads (negated c) scope vs same bound covers = test_reads c scope vs same bound covers
      test_reads (group c) scope vs same bound covers = condition_reads c scope vs same bound covers
      test_reads (decided c v) scope vs same bound covers = test_reads c scope vs same bound covers

      tests_read : (cs : Conjunction) (scope : Scope) (vs : List Range) → variables_of scope ≡ vs → IsBoundConjunction cs t vs → Covers (chosen_in_tests cs vs) → AllByRecursion P (read_for_tests cs t sources scope)
      tests_read no_test scope vs same bound covers = tt
      tests_read (test c cs) scope vs same bound covers =
          all_append P (read_for_test c t sources scope) (read_for_tests cs t sources scope) (test_reads c scope vs same bound.0 (covers_left (chosen_in_test c vs) (chosen_in_tests cs vs) covers))
          (tests_read cs scope vs same bound.1 (covers_right (chosen_in_test c vs) (chosen_in_tests cs vs) covers))

      pub condition_reads : (c : Condition) (scope : Scope) (vs : List Range) → variables_of scope ≡ vs → IsBoundCondition c t vs → Covers (chosen_in_condition c vs) → AllByRecursion P (read_for_condition c t sources scope)
      condition_reads no_conjunction scope vs same bound covers = tt
      condition_reads (conjunction c cs) scope vs same bound covers =
          all_append P (read_for_tests c t sources scope) (read_for_condition cs t sources scope) (tests_read c scope vs same bound.0 (covers_left (chosen_in_tests c vs) (chosen_in_condition cs vs) covers))
          (condition_reads cs scope vs same bound.1 (covers_right (chosen_in_tests c vs) (chosen_in_condition cs vs) covers))

      pub selection_reads : (r : Ranging) (scope : Scope) (vs : List Range) → variables_of scope ≡ vs → IsBoundRanging r t vs → Covers (chosen_in_ranging r vs) → AllByRecursion P (selecting r t sources scope).readings
      selection_reads (ranging first ss without_condition) scope vs same bound covers =
          work_reads (λ row. nothing_read) (λ row. tt) no_test ss (ranged t sources ss) (ranges_in_tables ss bound.0) scope vs same covers
      selection_reads (ranging first ss (with_condition c)) scope vs same bound covers =
          let rs = ranged t sources ss in
          let ts = tests_alone c in
          let own = ranges_in_tables ss bound.0 in
          let named_ranges = map (λ (s : BoundRange). s.range) ss in
          let at : Found → Scope = λ p. bind_tuple named_ranges p.tuple scope in
          let judged_at : Found → Work = λ p. judged (read_for_condition c t sources (at p)) (verdict_of_condition (named_condition c) t (at p)) in
          let count : 0 + length ss ≡ length ss = omega arith in
          let from = covers_left (chosen_from ss vs ts) (chosen_in_condition c (vs ++ named_ranges)) covers in
          let within = covers_right (chosen_from ss vs ts) (chosen_in_condition c (vs ++ named_ranges)) covers in
          elim (condition_asks c) as (λ b. AllByRecursion P (cond b
          (followed_by (ranges_work (λ row. nothing_read) ts rs (row_of t scope)) (for_each judged_at (come_by ts rs (no_range (row_of t scope)))))
          (ranges_work (λ row. with_verdict (verdict_at row c)) ts rs (row_of t scope))).readings) [
            | true ↦
                followed_each P (ranges_work (λ row. nothing_read) ts rs (row_of t scope)) (for_each judged_at (come_by ts rs (no_range (row_of t scope))))
                (work_reads (λ row. nothing_read) (λ row. tt) ts ss rs own scope vs same from)
                (for_each_of P (HasKeys (0 + length ss)) judged_at
                (λ p keys. judged_each P (read_for_condition c t sources (at p)) (verdict_of_condition (named_condition c) t (at p))
                (condition_reads c (at p) (vs ++ named_ranges) (bound_tuple named_ranges p.tuple scope vs same (keys ∙ count ∙ sym (length-map ss (λ (s : BoundRange). s.range)))) bound.1 within))
                (come_by ts rs (no_range (row_of t scope))) (come_by_keys ts ss rs own 0 (no_range (row_of t scope)) refl))
            | false ↦ work_reads (λ row. with_verdict (verdict_at row c)) (λ row. verdict_each P (verdict_at row c)) ts ss rs own scope vs same from
          ]
