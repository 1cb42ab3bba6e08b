-- A bound form with values in the place of names says what the named form says of the tables and the variables whose row it is.
use Rattle.std.proofs.Common.{◌≡◌, Option, Some, None, slice_get, [], refl, ap, sym, ◌∙◌}
use Rattle.rdb_types.specs.declared.values.Value.{Value}
use Rattle.rdb_types.specs.declared.values.Value.TheVariants.{Missing, Number, Text}
use Rattle.rdb_types.specs.declared.values.FieldType.{FieldType}
use Rattle.rdb_meaning.specs.declared.tables.Tables.{Tables}
use Rattle.rdb_meaning.specs.Numbers.{Computed, is, arithmetic, negation}
use Rattle.rdb_meaning.specs.Comparison.{and_of, or_of, not_of, compared as compared_of, lies_between, on_texts, contains_any_case, begins_with, missing_test, both_parts, verdict_of}
use Rattle.rdb_meaning.specs.Contents.{no_tables}
use Rattle.rdb_meaning.specs.Evaluation.{Scope, scaled_if, computed, computed_after, tested, all_hold, some_holds, parts_verdict, verdict_of_condition}
use Rattle.rdo_values.specs.declared.bound.KnownValue.{KnownValue}
use Rattle.rdo_values.specs.declared.bound.KnownValue.TheVariants as known_value
use Rattle.rdo_values.specs.declared.bound.KnownTruth.{KnownTruth}
use Rattle.rdo_values.specs.declared.bound.KnownTruth.TheVariants as known_truth
use Rattle.rdo_values.specs.Tree.{Expression, number, text, field, negative, chain, count, statistic, known, Operations, no_operation, operation, Testing, compare, between, containing, starting_with, missing, any, negated, group, decided, Conjunction, no_test, test, Condition, no_conjunction, conjunction}
use Rattle.rdo_values.specs.Named.{named, named_operations, named_testing, named_conjunction, named_condition}
use Rattle.rdo_values.specs.Rows.{row_of, variables_of}
use Rattle.rdo_values.specs.Places.{IsBound, AreBound, IsBoundTesting, IsBoundConjunction, IsBoundCondition}
use Rattle.rdo_values.specs.Known.{value_known, truth_known, IsKnown, AreKnown, IsKnownTesting, IsKnownConjunction, IsKnownCondition, IsSettled, AreSettled, IsSettledTesting, IsSettledConjunction, IsSettledCondition}
use Rattle.rdo_values.specs.Filled.{literal, known_literal, known_test, value_at, value_after, truth_at, all_at, some_at, parts_at, verdict_at}
use Rattle.rdo_values.proofs.Reading.{read_located}

pub literal_gives : (kind : FieldType) (v : Option Value) → computed (literal (scaled_if kind v).value (scaled_if kind v).scale) no_tables [] ≡ is (scaled_if kind v)
literal_gives kind (Some Missing) = refl
literal_gives kind (Some (Number n)) = refl
literal_gives kind (Some (Text s)) = refl
literal_gives kind None = refl

pub known_gives : (v : KnownValue) → computed (known_literal v) no_tables [] ≡ value_known v
known_gives known_value.Missing = refl
known_gives (known_value.Number n scale) = refl
known_gives (known_value.Text s) = refl
known_gives known_value.Overflow = refl

pub known_says : (v : KnownTruth) → tested (known_test v) no_tables [] ≡ truth_known v
known_says known_truth.True = refl
known_says known_truth.False = refl
known_says known_truth.Overflow = refl

mutual
  pub filled_value : (t : Tables) (scope : Scope) (e : Expression) → IsSettled e → IsBound e t (variables_of scope) → IsKnown e t scope → value_at (row_of t scope) e ≡ computed (named e) t scope
  filled_value t scope (number n scale) s b k = refl
  filled_value t scope (text x) s b k = refl
  filled_value t scope (field r) s b k = literal_gives r.kind (slice_get (row_of t scope) r.place) ∙ ap is (read_located t scope r.reference (record { place = r.place; kind = r.kind }) b)
  filled_value t scope (negative e) s b k = ap negation (filled_value t scope e s b k)
  filled_value t scope (chain e os) s b k = ap (λ v. value_after (row_of t scope) v os) (filled_value t scope e s.0 b.0 k.0) ∙ filled_after t scope (computed (named e) t scope) os s.1 b.1 k.1
  filled_value t scope (count r) s b k = absurd s
  filled_value t scope (statistic kind e r) s b k = absurd s
  filled_value t scope (known e v) s b k = known_gives v ∙ sym k

  filled_after : (t : Tables) (scope : Scope) (v : Computed) (os : Operations) → AreSettled os → AreBound os t (variables_of scope) → AreKnown os t scope → value_after (row_of t scope) v os ≡ computed_after v (named_operations os) t scope
  filled_after t scope v no_operation s b k = refl
  filled_after t scope v (operation op e os) s b k = ap (λ w. value_after (row_of t scope) (arithmetic op v w) os) (filled_value t scope e s.0 b.0 k.0) ∙ filled_after t scope (arithmetic op v (computed (named e) t scope)) os s.1 b.1 k.1

mutual
  pub filled_truth : (t : Tables) (scope : Scope) (c : Testing) → IsSettledTesting c → IsBoundTesting c t (variables_of scope) → IsKnownTesting c t scope → truth_at (row_of t scope) c ≡ tested (named_testing c) t scope
  filled_truth t scope (compare op x y) s b k = λ i. compared_of op (filled_value t scope x s.0 b.0 k.0 i) (filled_value t scope y s.1 b.1 k.1 i)
  filled_truth t scope (between x low high) s b k = λ i. lies_between (filled_value t scope x s.0 b.0 k.0 i) (filled_value t scope low s.1 b.1 k.1 i) (filled_value t scope high s.2 b.2 k.2 i)
  filled_truth t scope (containing x y) s b k = λ i. on_texts contains_any_case (filled_value t scope x s.0 b.0 k.0 i) (filled_value t scope y s.1 b.1 k.1 i)
  filled_truth t scope (starting_with x y) s b k = λ i. on_texts begins_with (filled_value t scope x s.0 b.0 k.0 i) (filled_value t scope y s.1 b.1 k.1 i)
  filled_truth t scope (missing e) s b k = ap missing_test (filled_value t scope e s b k)
  filled_truth t scope (any r) s b k = absurd s
  filled_truth t scope (negated c) s b k = ap not_of (filled_truth t scope c s b k)
  filled_truth t scope (group c) s b k = filled_some t scope c s b k
  filled_truth t scope (decided c v) s b k = known_says v ∙ sym k

  filled_all : (t : Tables) (scope : Scope) (c : Conjunction) → IsSettledConjunction c → IsBoundConjunction c t (variables_of scope) → IsKnownConjunction c t scope → all_at (row_of t scope) c ≡ all_hold (named_conjunction c) t scope
  filled_all t scope no_test s b k = refl
  filled_all t scope (test c cs) s b k = λ i. and_of (filled_truth t scope c s.0 b.0 k.0 i) (filled_all t scope cs s.1 b.1 k.1 i)

  filled_some : (t : Tables) (scope : Scope) (c : Condition) → IsSettledCondition c → IsBoundCondition c t (variables_of scope) → IsKnownCondition c t scope → some_at (row_of t scope) c ≡ some_holds (named_condition c) t scope
  filled_some t scope no_conjunction s b k = refl
  filled_some t scope (conjunction c cs) s b k = λ i. or_of (filled_all t scope c s.0 b.0 k.0 i) (filled_some t scope cs s.1 b.1 k.1 i)

filled_parts : (t : Tables) (scope : Scope) (c : Conjunction) → IsSettledConjunction c → IsBoundConjunction c t (variables_of scope) → IsKnownConjunction c t scope → parts_at (row_of t scope) c ≡ parts_verdict (named_conjunction c) t scope
filled_parts t scope no_test s b k = refl
filled_parts t scope (test c cs) s b k = λ i. both_parts (verdict_of (filled_truth t scope c s.0 b.0 k.0 i)) (filled_parts t scope cs s.1 b.1 k.1 i)

pub filled_verdict : (t : Tables) (scope : Scope) (c : Condition) → IsSettledCondition c → IsBoundCondition c t (variables_of scope) → IsKnownCondition c t scope → verdict_at (row_of t scope) c ≡ verdict_of_condition (named_condition c) t scope
filled_verdict t scope no_conjunction s b k = refl
filled_verdict t scope (conjunction c no_conjunction) s b k = filled_parts t scope c s.0 b.0 k.0
filled_verdict t scope (conjunction c (conjunction d ds)) s b k = ap verdict_of (filled_some t scope (conjunction c (conjunction d ds)) s b k)
