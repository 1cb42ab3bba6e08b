-- When a form is bound: each of its references has the place and the type of its field in the row of all bound variables.
use Rattle.std.specs.Prelude.{◌≡◌, ℕ, ◌+◌, if◌then◌else◌, List, [], ◌∷◌, ◌++◌, map, length, Option, Some, None, option_map}
use Rattle.rdb_types.specs.declared.values.Field.{Field}
use Rattle.rdb_types.specs.declared.values.FieldType.{FieldType}
use Rattle.rdo_ast.specs.declared.syntax.Reference.{Reference}
use Rattle.rdo_ast.specs.declared.syntax.Range.{Range}
use Rattle.rdb_meaning.specs.declared.tables.Tables.{Tables}
use Rattle.rdb_meaning.specs.declared.tables.Relation.{Relation}
use Rattle.rdb_meaning.specs.Contents.{same_name, relation_named, fields_of, place_of}
use Rattle.rdo_values.specs.declared.bound.BoundReference.{BoundReference}
use Rattle.rdo_values.specs.declared.bound.BoundRange.{BoundRange}
use Rattle.rdo_values.specs.Tree.{Expression, number, text, field, negative, chain, count, statistic, known, Operations, no_operation, operation, Testing, compare, between, containing, starting_with, missing, any, negated, group, decided, Conjunction, no_test, test, Condition, no_conjunction, conjunction, Ranging, ranging, With, without_condition, with_condition}

-- the place of a field in a row, and its type
pub record Place : Type 0 where
  pub place : ℕ
  pub kind : FieldType

abbrev pub place_of_field : ℕ × Field → Place
place_of_field p = record { place = p.0; kind = p.1.kind }

abbrev pub behind : ℕ → Place → Place
behind width p = record { place = width + p.place; kind = p.kind }

-- where a reference's value stands in the row of all variables
abbrev pub located : Reference → Tables → List Range → Option Place
located r t [] = None
located r t (s ∷ ss) =
    if same_name r.variable s.variable
    then option_map place_of_field (place_of r.field (fields_of (relation_named s.relation t)))
    else option_map (behind (length (fields_of (relation_named s.relation t)))) (located r t ss)

abbrev pub IsPlaced : BoundReference → Tables → List Range → Type 0
IsPlaced r t vs = located r.reference t vs ≡ Some (record { place = r.place; kind = r.kind })

abbrev pub IsRangeOf : BoundRange → Option Relation → Type 0
IsRangeOf s (Some r) = (s.area ≡ r.area) × (s.width ≡ length r.fields)
IsRangeOf s None = ⊥

abbrev pub AreRanges : List BoundRange → Tables → Type 0
AreRanges [] t = Unit {0}
AreRanges (s ∷ ss) t = IsRangeOf s (relation_named s.range.relation t) × AreRanges ss t

abbrev pub ranges_in : Ranging → List Range
ranges_in (ranging first ss c) = map (λ s. s.range) ss

-- ---- bound forms: each reference has the place and the type of its field, where the variables outside are vs

abbrev mutual
  pub IsBound : Expression → Tables → List Range → Type 0
  IsBound (number n scale) t vs = Unit {0}
  IsBound (text s) t vs = Unit {0}
  IsBound (field r) t vs = IsPlaced r t vs
  IsBound (negative e) t vs = IsBound e t vs
  IsBound (chain e os) t vs = IsBound e t vs × AreBound os t vs
  IsBound (count r) t vs = IsBoundRanging r t vs
  IsBound (statistic s e r) t vs = IsBound e t (vs ++ ranges_in r) × IsBoundRanging r t vs
  IsBound (known e v) t vs = IsBound e t vs

  pub AreBound : Operations → Tables → List Range → Type 0
  AreBound no_operation t vs = Unit {0}
  AreBound (operation op e os) t vs = IsBound e t vs × AreBound os t vs

  pub IsBoundTesting : Testing → Tables → List Range → Type 0
  IsBoundTesting (compare op a b) t vs = IsBound a t vs × IsBound b t vs
  IsBoundTesting (between a low high) t vs = IsBound a t vs × IsBound low t vs × IsBound high t vs
  IsBoundTesting (containing a b) t vs = IsBound a t vs × IsBound b t vs
  IsBoundTesting (starting_with a b) t vs = IsBound a t vs × IsBound b t vs
  IsBoundTesting (missing e) t vs = IsBound e t vs
  IsBoundTesting (any r) t vs = IsBoundRanging r t vs
  IsBoundTesting (negated c) t vs = IsBoundTesting c t vs
  IsBoundTesting (group c) t vs = IsBoundCondition c t vs
  IsBoundTesting (decided c v) t vs = IsBoundTesting c t vs

  pub IsBoundConjunction : Conjunction → Tables → List Range → Type 0
  IsBoundConjunction no_test t vs = Unit {0}
  IsBoundConjunction (test c cs) t vs = IsBoundTesting c t vs × IsBoundConjunction cs t vs

  pub IsBoundCondition : Condition → Tables → List Range → Type 0
  IsBoundCondition no_conjunction t vs = Unit {0}
  IsBoundCondition (conjunction c cs) t vs = IsBoundConjunction c t vs × IsBoundCondition cs t vs

  pub IsBoundWith : With → Tables → List Range → Type 0
  IsBoundWith without_condition t vs = Unit {0}
  IsBoundWith (with_condition c) t vs = IsBoundCondition c t vs

  pub IsBoundRanging : Ranging → Tables → List Range → Type 0
  IsBoundRanging (ranging first ss c) t vs = AreRanges ss t × IsBoundWith c t (vs ++ map (λ s. s.range) ss)
