-- Selections read the sources of the relations that they name.
use Rattle.std.proofs.Common.{◌≡◌, ℕ, true, false, cond, List, [], ◌∷◌, ◌++◌, map, Option, Some, None, inl, inr, refl, sym, subst}
use Rattle.std.specs.List.{AllByRecursion}
use Rattle.rdo_ast.specs.declared.syntax.Range.{Range}
use Rattle.rdb_meaning.specs.declared.tables.Relation.{Relation}
use Rattle.rdb_meaning.specs.declared.tables.Tables.{Tables}
use Rattle.rdb_meaning.specs.Numbers.{Computed, is, overflow}
use Rattle.rdb_meaning.specs.Comparison.{Verdict, chosen, passed_over, undecided}
use Rattle.rdb_meaning.specs.Contents.{Row, relation_named, rows_of}
use Rattle.rdb_meaning.specs.Checks.{Use, expression_uses, operations_uses, testing_uses, conjunction_uses, condition_uses, ranging_uses, source_uses}
use Rattle.rdb_meaning.specs.Evaluation.{Scope, bind_tuple, computed, verdict_of_condition, selected}
use Rattle.line_view.specs.declared.need.Need.{Need}
use Rattle.line_view.specs.Knowledge.{Knowledge, Lines}
use Rattle.relation_rows.specs.declared.stored.StoredRow.{StoredRow}
use Rattle.relation_rows.specs.Relations.{stored_row}
use Rattle.sorted_index_laws.proofs.Ordered.{all_append}
use Rattle.statement_view.specs.Areas.{is_among, IsNeedOf}
use Rattle.row_writes.proofs.AreaLists.{Wider}
use Rattle.rdo_values.specs.declared.bound.BoundRange.{BoundRange}
use Rattle.rdo_values.specs.Tree.{Expression, number, text, field, negative, chain, count, statistic, known, Operations, no_operation, operation, Testing, compare, between, containing, starting_with, missing, any, negated, group, decided, Conjunction, no_test, test, Condition, no_conjunction, conjunction, Ranging, ranging, without_condition, with_condition}
use Rattle.rdo_values.specs.Named.{named, named_operations, named_testing, named_conjunction, named_condition, named_ranging}
use Rattle.rdo_values.specs.Rows.{row_of}
use Rattle.rdo_values.specs.Filled.{verdict_at}
use Rattle.rdo_values.specs.Places.{IsRangeOf, AreRanges, ranges_in, IsBound, AreBound, IsBoundTesting, IsBoundConjunction, IsBoundCondition, IsBoundRanging}
use Rattle.rdo_select.specs.declared.source.Source.{Source}
use Rattle.rdo_select.specs.declared.crossing.Found.{Found}
use Rattle.rdo_select.specs.Asking.{condition_asks}
use Rattle.rdo_select.specs.Chosen.{tests_alone}
use Rattle.rdo_select.specs.Crossed.{behind, no_range}
use Rattle.rdo_select.specs.Readings.{Reading, LacksFirst}
use Rattle.rdo_select.specs.Sources.{Listed, source_at, IsSourceOf, HasSource, AreSourcesOf, IsShown, IsAccessOf}
use Rattle.rdo_select.specs.Work.{Work, reads_all, nothing_read, followed_by, for_each, with_verdict, with_value, valued, judged, Ranged, with_source, ranged, is_read_once, scan_of, read_once, reading_by, read_behind, rows_behind, crossing, come_by, ranges_work, tuples_known, read_for, read_for_operations, read_for_test, read_for_tests, read_for_condition, selecting, valuing, judging}
use Rattle.used_areas.specs.Areas.{relation_areas, areas_read}
use Rattle.used_areas.proofs.More.{left_of, right_of, read_left, read_right}
use Rattle.selection_areas.specs.Areas.{areas_of_source, areas_at, ArePlaced}
use Rattle.selection_areas.proofs.OneReading.{reading_needs}

-- ---- work, reading by reading

module _ (P : Reading → Type 0) where
  abbrev Each : Work → Type 0
  Each w = AllByRecursion P w.readings

  followed_each : (a b : Work) → Each a → Each b → Each (followed_by a b)
  followed_each a b h k = elim a.goes_on as (λ g. AllByRecursion P (cond g (a.readings ++ b.readings) a.readings)) [
    | true ↦ all_append P a.readings b.readings h k
    | false ↦ h
  ]

  for_each_each : {X : Type 0} (f : X → Work) → ((x : X) → Each (f x)) → (xs : List X) → Each (for_each f xs)
  for_each_each f each [] = tt
  for_each_each f each (x ∷ xs) = followed_each (f x) (for_each f xs) (each x) (for_each_each f each xs)

  value_each : (c : Computed) → Each (with_value c)
  value_each (is v) = tt
  value_each overflow = tt

  verdict_each : (v : Verdict) → Each (with_verdict v)
  verdict_each chosen = tt
  verdict_each passed_over = tt
  verdict_each undecided = tt

  valued_each : (rs : List Reading) (c : Computed) → AllByRecursion P rs → Each (valued rs c)
  valued_each rs c h = followed_each (reads_all rs) (with_value c) h (value_each c)

  judged_each : (rs : List Reading) (v : Verdict) → AllByRecursion P rs → Each (judged rs v)
  judged_each rs v h = followed_each (reads_all rs) (with_verdict v) h (verdict_each v)

-- ---- sources that are used

module _ (all : Lines) (t : Tables) (sources : Listed) (are : AreSourcesOf all t sources) (placed : ArePlaced t sources) (used : List ℕ) where
  -- a source of a relation, whose areas are among those that are used
  abbrev IsUsed : Source → Type 0
  IsUsed source = (rel : Relation) × IsSourceOf all rel source × Wider (areas_of_source source) used

  abbrev pub Reads : Reading → Type 0
  Reads r = IsUsed r.source × IsAccessOf r.source r.access

  abbrev AreUsed : List Ranged → Type 0
  AreUsed = AllByRecursion (λ (r : Ranged). IsUsed r.source)

  abbrev Covers : List Use → Type 0
  Covers us = Wider (areas_read t us) used

  covers_left : (us vs : List Use) → Covers (us ++ vs) → Covers us
  covers_left us vs wider a h = wider a (read_left t us vs a h)

  covers_right : (us vs : List Use) → Covers (us ++ vs) → Covers vs
  covers_right us vs wider a h = wider a (read_right t us vs a h)

  with_used : (rel : Relation) (source : Option Source) (x : List StoredRow) (rest : List Ranged) → HasSource all rel source → Wider (areas_at source) used → AreUsed rest → AreUsed (with_source source x rest)
  with_used rel (Some source) x rest has wider more = ((rel, has, wider), more)
  with_used rel None x rest has wider more = more

  range_used : (s : BoundRange) (o : Option Relation) (x : List StoredRow) (rest : List Ranged) → relation_named s.range.relation t ≡ o → IsRangeOf s o → Wider (relation_areas t o) used → AreUsed rest → AreUsed (with_source (source_at s.area sources) x rest)
  range_used s (Some rel) x rest named of wider more =
      subst (λ (a : ℕ). AreUsed (with_source (source_at a sources) x rest)) (sym of.0) (with_used rel (source_at rel.area sources) x rest (are s.range.relation rel named) (λ a h. wider a (subst (λ (l : List ℕ). is_among l a ≡ true) (placed s.range.relation rel named) h)) more)
  range_used s None x rest named of wider more = absurd of

  ranges_used : (ss : List BoundRange) → AreRanges ss t → Covers (source_uses (map (λ (s : BoundRange). s.range) ss)) → AreUsed (ranged t sources ss)
  ranges_used [] of covers = tt
  ranges_used (s ∷ ss) of covers =
      let own = relation_areas t (relation_named s.range.relation t) in
      let rest = areas_read t (source_uses (map (λ (s : BoundRange). s.range) ss)) in
      range_used s (relation_named s.range.relation t) (map stored_row (rows_of (relation_named s.range.relation t))) (ranged t sources ss) refl of.0 (λ a h. covers a (left_of own rest a h)) (ranges_used ss of.1 (λ a h. covers a (right_of own rest a h)))

  -- ---- ranges

  once_reads : (tests : Conjunction) (rs : List Ranged) → AreUsed rs → AllByRecursion Reads (read_once tests rs)
  once_reads tests [] each = tt
  once_reads tests (r ∷ rs) each =
      let rest = once_reads tests rs each.1 in
      elim (is_read_once tests r.source) as (λ b. AllByRecursion Reads (cond b (scan_of r.source ∷ []) [] ++ read_once tests rs)) [
        | true ↦ ((each.0, inl refl), rest)
        | false ↦ rest
      ]

  behind_reads : (tests : Conjunction) (before : Row) (source : Source) → IsUsed source → AllByRecursion Reads (read_behind tests before source)
  behind_reads tests before source own = elim (is_read_once tests source) as (λ b. AllByRecursion Reads (cond b [] (reading_by tests before source ∷ []))) [
    | true ↦ tt
    | false ↦ ((own, inr (before, tests, refl)), tt)
  ]

  crossing_reads : (judge : Row → Work) → ((row : Row) → Each Reads (judge row)) → (tests : Conjunction) (rs : List Ranged) → AreUsed rs → (p : Found) → Each Reads (crossing judge tests rs p)
  crossing_reads judge judges tests [] each p = judges p.row
  crossing_reads judge judges tests (r ∷ rs) each p =
      followed_each Reads (reads_all (read_behind tests p.row r.source)) (for_each (λ x. crossing judge tests rs (behind p x)) (rows_behind tests p.row r)) (behind_reads tests p.row r.source each.0)
      (for_each_each Reads (λ x. crossing judge tests rs (behind p x)) (λ x. crossing_reads judge judges tests rs each.1 (behind p x)) (rows_behind tests p.row r))

  work_reads : (judge : Row → Work) → ((row : Row) → Each Reads (judge row)) → (tests : Conjunction) (rs : List Ranged) (outer : Row) → AreUsed rs → Each Reads (ranges_work judge tests rs outer)
  work_reads judge judges tests rs outer each =
      followed_each Reads (reads_all (read_once tests rs)) (crossing judge tests rs (no_range outer)) (once_reads tests rs each) (crossing_reads judge judges tests rs each (no_range outer))

  -- ---- expressions, conditions and selections

  mutual
    expression : (e : Expression) (vs : List Range) (scope : Scope) → IsBound e t vs → Covers (expression_uses (named e)) → AllByRecursion Reads (read_for e t sources scope)
    expression (number n scale) vs scope bound covers = tt
    expression (text s) vs scope bound covers = tt
    expression (field r) vs scope bound covers = tt
    expression (negative e) vs scope bound covers = expression e vs scope bound covers
    expression (chain e os) vs scope bound covers =
        all_append Reads (read_for e t sources scope) (read_for_operations os t sources scope) (expression e vs scope bound.0 (covers_left (expression_uses (named e)) (operations_uses (named_operations os)) covers))
        (operations os vs scope bound.1 (covers_right (expression_uses (named e)) (operations_uses (named_operations os)) covers))
    expression (count r) vs scope bound covers = selection r vs scope bound covers
    expression (statistic s e r) vs scope bound covers =
        followed_each Reads (selecting r t sources scope)
        (for_each (λ ks. valued (read_for e t sources (bind_tuple (ranges_in r) ks scope)) (computed (named e) t (bind_tuple (ranges_in r) ks scope))) (tuples_known (selected (named_ranging r) t scope)))
        (selection r vs scope bound.1 (covers_right (expression_uses (named e)) (ranging_uses (named_ranging r)) covers))
        (for_each_each Reads (λ ks. valued (read_for e t sources (bind_tuple (ranges_in r) ks scope)) (computed (named e) t (bind_tuple (ranges_in r) ks scope)))
        (λ ks. valued_each Reads (read_for e t sources (bind_tuple (ranges_in r) ks scope)) (computed (named e) t (bind_tuple (ranges_in r) ks scope))
        (expression e (vs ++ ranges_in r) (bind_tuple (ranges_in r) ks scope) bound.0 (covers_left (expression_uses (named e)) (ranging_uses (named_ranging r)) covers)))
        (tuples_known (selected (named_ranging r) t scope)))
    expression (known e v) vs scope bound covers = expression e vs scope bound covers

    operations : (os : Operations) (vs : List Range) (scope : Scope) → AreBound os t vs → Covers (operations_uses (named_operations os)) → AllByRecursion Reads (read_for_operations os t sources scope)
    operations no_operation vs scope bound covers = tt
    operations (operation op e os) vs scope bound covers =
        all_append Reads (read_for e t sources scope) (read_for_operations os t sources scope) (expression e vs scope bound.0 (covers_left (expression_uses (named e)) (operations_uses (named_operations os)) covers))
        (operations os vs scope bound.1 (covers_right (expression_uses (named e)) (operations_uses (named_operations os)) covers))

    testing : (c : Testing) (vs : List Range) (scope : Scope) → IsBoundTesting c t vs → Covers (testing_uses (named_testing c)) → AllByRecursion Reads (read_for_test c t sources scope)
    testing (compare op a b) vs scope bound covers =
        all_append Reads (read_for a t sources scope) (read_for b t sources scope) (expression a vs scope bound.0 (covers_left (expression_uses (named a)) (expression_uses (named b)) covers)) (expression b vs scope bound.1 (covers_right (expression_uses (named a)) (expression_uses (named b)) covers))
    testing (between a low high) vs scope bound covers =
        let rest = covers_right (expression_uses (named a)) (expression_uses (named low) ++ expression_uses (named high)) covers in
        all_append Reads (read_for a t sources scope) (read_for low t sources scope ++ read_for high t sources scope) (expression a vs scope bound.0 (covers_left (expression_uses (named a)) (expression_uses (named low) ++ expression_uses (named high)) covers))
        (all_append Reads (read_for low t sources scope) (read_for high t sources scope) (expression low vs scope bound.1 (covers_left (expression_uses (named low)) (expression_uses (named high)) rest)) (expression high vs scope bound.2 (covers_right (expression_uses (named low)) (expression_uses (named high)) rest)))
    testing (containing a b) vs scope bound covers =
        all_append Reads (read_for a t sources scope) (read_for b t sources scope) (expression a vs scope bound.0 (covers_left (expression_uses (named a)) (expression_uses (named b)) covers)) (expression b vs scope bound.1 (covers_right (expression_uses (named a)) (expression_uses (named b)) covers))
    testing (starting_with a b) vs scope bound covers =
        all_append Reads (read_for a t sources scope) (read_for b t sources scope) (expression a vs scope bound.0 (covers_left (expression_uses (named a)) (expression_uses (named b)) covers)) (expression b vs scope bound.1 (covers_right (expression_uses (named a)) (expression_uses (named b)) covers))
    testing (missing e) vs scope bound covers = expression e vs scope bound covers
    testing (any r) vs scope bound covers = selection r vs scope bound covers
    testing (negated c) vs scope bound covers = testing c vs scope bound covers
    testing (group c) vs scope bound covers = condition c vs scope bound covers
    testing (decided c v) vs scope bound covers = testing c vs scope bound covers

    tests : (cs : Conjunction) (vs : List Range) (scope : Scope) → IsBoundConjunction cs t vs → Covers (conjunction_uses (named_conjunction cs)) → AllByRecursion Reads (read_for_tests cs t sources scope)
    tests no_test vs scope bound covers = tt
    tests (test c cs) vs scope bound covers =
        all_append Reads (read_for_test c t sources scope) (read_for_tests cs t sources scope) (testing c vs scope bound.0 (covers_left (testing_uses (named_testing c)) (conjunction_uses (named_conjunction cs)) covers))
        (tests cs vs scope bound.1 (covers_right (testing_uses (named_testing c)) (conjunction_uses (named_conjunction cs)) covers))

    condition : (c : Condition) (vs : List Range) (scope : Scope) → IsBoundCondition c t vs → Covers (condition_uses (named_condition c)) → AllByRecursion Reads (read_for_condition c t sources scope)
    condition no_conjunction vs scope bound covers = tt
    condition (conjunction c cs) vs scope bound covers =
        all_append Reads (read_for_tests c t sources scope) (read_for_condition cs t sources scope) (tests c vs scope bound.0 (covers_left (conjunction_uses (named_conjunction c)) (condition_uses (named_condition cs)) covers))
        (condition cs vs scope bound.1 (covers_right (conjunction_uses (named_conjunction c)) (condition_uses (named_condition cs)) covers))

    selection : (r : Ranging) (vs : List Range) (scope : Scope) → IsBoundRanging r t vs → Covers (ranging_uses (named_ranging r)) → AllByRecursion Reads (selecting r t sources scope).readings
    selection (ranging first ss without_condition) vs scope bound covers =
        work_reads (λ row. nothing_read) (λ row. tt) no_test (ranged t sources ss) (row_of t scope) (ranges_used ss bound.0 (covers_left (source_uses (map (λ (s : BoundRange). s.range) ss)) [] covers))
    selection (ranging first ss (with_condition c)) vs scope bound covers =
        let rs = ranged t sources ss in
        let ts = tests_alone c in
        let at : Found → Scope = λ p. bind_tuple (map (λ (s : BoundRange). s.range) ss) p.tuple scope in
        let each = ranges_used ss bound.0 (covers_left (source_uses (map (λ (s : BoundRange). s.range) ss)) (condition_uses (named_condition c)) covers) in
        elim (condition_asks c) as (λ b. AllByRecursion Reads (cond b
        (followed_by (ranges_work (λ row. nothing_read) ts rs (row_of t scope)) (for_each (λ (p : Found). judged (read_for_condition c t sources (at p)) (verdict_of_condition (named_condition c) t (at p))) (come_by ts rs (no_range (row_of t scope)))))
        (ranges_work (λ row. with_verdict (verdict_at row c)) ts rs (row_of t scope))).readings) [
          | true ↦
              followed_each Reads (ranges_work (λ row. nothing_read) ts rs (row_of t scope)) (for_each (λ (p : Found). judged (read_for_condition c t sources (at p)) (verdict_of_condition (named_condition c) t (at p))) (come_by ts rs (no_range (row_of t scope))))
              (work_reads (λ row. nothing_read) (λ row. tt) ts rs (row_of t scope) each)
              (for_each_each Reads (λ (p : Found). judged (read_for_condition c t sources (at p)) (verdict_of_condition (named_condition c) t (at p)))
              (λ p. judged_each Reads (read_for_condition c t sources (at p)) (verdict_of_condition (named_condition c) t (at p)) (condition c (vs ++ map (λ (s : BoundRange). s.range) ss) (at p) bound.1 (covers_right (source_uses (map (λ (s : BoundRange). s.range) ss)) (condition_uses (named_condition c)) covers)))
              (come_by ts rs (no_range (row_of t scope))))
          | false ↦ work_reads (λ row. with_verdict (verdict_at row c)) (λ row. verdict_each Reads (verdict_at row c)) ts rs (row_of t scope) each
        ]

-- ---- what is lacked

among_read : (P : Reading → Type 0) (before behind : List Reading) (r : Reading) → AllByRecursion P (before ++ r ∷ behind) → P r
among_read P [] behind r each = each.0
among_read P (x ∷ xs) behind r each = among_read P xs behind r each.1

lacked : (seen : Knowledge) (sources : Listed) (t : Tables) (used : List ℕ) (shown : IsShown seen sources t) (placed : ArePlaced t sources) (rs : List Reading) (need : Need) → AllByRecursion (Reads shown.all t sources shown.relations placed used) rs → LacksFirst seen rs need → IsNeedOf used [] need
lacked seen sources t used shown placed rs need each lacks =
    let own = among_read (Reads shown.all t sources shown.relations placed used) lacks.before lacks.behind lacks.reading (subst (AllByRecursion (Reads shown.all t sources shown.relations placed used)) lacks.stands each) in
    reading_needs seen shown.all used lacks.reading.source own.0.0 shown.agrees own.0.1 own.0.2 shown.sorted lacks.reading.access need own.1 lacks.next

pub ranging_lacks : (seen : Knowledge) (sources : Listed) (t : Tables) (scope : Scope) (vs : List Range) (r : Ranging) (need : Need) → IsShown seen sources t → ArePlaced t sources → IsBoundRanging r t vs → LacksFirst seen (selecting r t sources scope).readings need → IsNeedOf (areas_read t (ranging_uses (named_ranging r))) [] need
ranging_lacks seen sources t scope vs r need shown placed bound lacks =
    let used = areas_read t (ranging_uses (named_ranging r)) in
    lacked seen sources t used shown placed (selecting r t sources scope).readings need (selection shown.all t sources shown.relations placed used r vs scope bound (λ a h. h)) lacks

pub expression_lacks : (seen : Knowledge) (sources : Listed) (t : Tables) (scope : Scope) (vs : List Range) (e : Expression) (need : Need) → IsShown seen sources t → ArePlaced t sources → IsBound e t vs → LacksFirst seen (valuing e t sources scope).readings need → IsNeedOf (areas_read t (expression_uses (named e))) [] need
expression_lacks seen sources t scope vs e need shown placed bound lacks =
    let used = areas_read t (expression_uses (named e)) in
    let P = Reads shown.all t sources shown.relations placed used in
    lacked seen sources t used shown placed (valuing e t sources scope).readings need (valued_each P (read_for e t sources scope) (computed (named e) t scope) (expression shown.all t sources shown.relations placed used e vs scope bound (λ a h. h))) lacks

pub condition_lacks : (seen : Knowledge) (sources : Listed) (t : Tables) (scope : Scope) (vs : List Range) (c : Condition) (need : Need) → IsShown seen sources t → ArePlaced t sources → IsBoundCondition c t vs → LacksFirst seen (judging c t sources scope).readings need → IsNeedOf (areas_read t (condition_uses (named_condition c))) [] need
condition_lacks seen sources t scope vs c need shown placed bound lacks =
    let used = areas_read t (condition_uses (named_condition c)) in
    let P = Reads shown.all t sources shown.relations placed used in
    lacked seen sources t used shown placed (judging c t sources scope).readings need (judged_each P (read_for_condition c t sources scope) (verdict_of_condition (named_condition c) t scope) (condition shown.all t sources shown.relations placed used c vs scope bound (λ a h. h))) lacks
