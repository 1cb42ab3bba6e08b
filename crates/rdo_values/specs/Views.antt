-- The trees that the bound forms of src/ stand for.
use Rattle.std.specs.Prelude.{List, [], ◌∷◌, Option, Some, None}
use Rattle.rdo_ast.specs.declared.syntax.Arithmetic.{Arithmetic}
use Rattle.rdo_values.specs.declared.bound.BoundExpression.{BoundExpression, fold-BoundExpression}
use Rattle.rdo_values.specs.declared.bound.BoundExpression.TheOpen.{BoundExpression-F, BoundTest-F, BoundCondition-F, BoundConjunction-F, BoundInner-F, BoundOperation-F}
use Rattle.rdo_values.specs.declared.bound.BoundInner.{BoundInner, fold-BoundInner}
use Rattle.rdo_values.specs.declared.bound.BoundOperation.{BoundOperation, fold-BoundOperation}
use Rattle.rdo_values.specs.declared.bound.BoundTest.{BoundTest, fold-BoundTest}
use Rattle.rdo_values.specs.declared.bound.BoundConjunction.{BoundConjunction, fold-BoundConjunction}
use Rattle.rdo_values.specs.declared.bound.BoundCondition.{BoundCondition, fold-BoundCondition}
use Rattle.rdo_values.specs.Tree.{Expression, number, text, field, negative, chain, count, statistic, known, Operations, no_operation, operation, Testing, compare, between, containing, starting_with, missing, any, negated, group, decided, Conjunction, no_test, test, Condition, no_conjunction, conjunction, Ranging, ranging, With, without_condition, with_condition}

-- an operator and its operand, as they are found in a list
pub record Applied : Type 0 where
  pub operator : Arithmetic
  pub operand : Expression

abbrev pub operations_of : List Applied → Operations
operations_of [] = no_operation
operations_of (o ∷ os) = operation o.operator o.operand (operations_of os)

abbrev pub conjunction_with : List Testing → Conjunction
conjunction_with [] = no_test
conjunction_with (t ∷ ts) = test t (conjunction_with ts)

abbrev pub condition_with : List Conjunction → Condition
condition_with [] = no_conjunction
condition_with (c ∷ cs) = conjunction c (condition_with cs)

abbrev pub with_of : Option Condition → With
with_of (Some c) = with_condition c
with_of None = without_condition

-- one level of each type, with what is inside already seen as a tree
abbrev pub expression_step : BoundExpression-F Expression Testing Condition Conjunction Ranging Applied → Expression
expression_step (BoundExpression-F.Number n scale) = number n scale
expression_step (BoundExpression-F.Text t) = text t
expression_step (BoundExpression-F.Field r) = field r
expression_step (BoundExpression-F.Negative e) = negative e
expression_step (BoundExpression-F.Chain e os) = chain e (operations_of os)
expression_step (BoundExpression-F.Count r) = count r
expression_step (BoundExpression-F.Statistic s e r) = statistic s e r
expression_step (BoundExpression-F.Known e v) = known e v

abbrev pub operation_step : BoundOperation-F Expression Testing Condition Conjunction Ranging Applied → Applied
operation_step o = record { operator = o.operator; operand = o.operand }

abbrev pub testing_step : BoundTest-F Expression Testing Condition Conjunction Ranging Applied → Testing
testing_step (BoundTest-F.Compare op a b) = compare op a b
testing_step (BoundTest-F.Between a b c) = between a b c
testing_step (BoundTest-F.Containing a b) = containing a b
testing_step (BoundTest-F.StartingWith a b) = starting_with a b
testing_step (BoundTest-F.Missing e) = missing e
testing_step (BoundTest-F.Any r) = any r
testing_step (BoundTest-F.Not t) = negated t
testing_step (BoundTest-F.Group c) = group c
testing_step (BoundTest-F.Decided t d) = decided t d

abbrev pub conjunction_step : BoundConjunction-F Expression Testing Condition Conjunction Ranging Applied → Conjunction
conjunction_step c = conjunction_with c.tests

abbrev pub condition_step : BoundCondition-F Expression Testing Condition Conjunction Ranging Applied → Condition
condition_step c = condition_with c.conjunctions

abbrev pub ranging_step : BoundInner-F Expression Testing Condition Conjunction Ranging Applied → Ranging
ranging_step r = ranging r.first r.ranges (with_of r.condition)

abbrev pub expression_of : BoundExpression → Expression
expression_of = fold-BoundExpression Expression Testing Condition Conjunction Ranging Applied expression_step testing_step condition_step conjunction_step ranging_step operation_step

abbrev pub ranging_of : BoundInner → Ranging
ranging_of = fold-BoundInner Expression Testing Condition Conjunction Ranging Applied expression_step testing_step condition_step conjunction_step ranging_step operation_step

abbrev pub testing_of : BoundTest → Testing
testing_of = fold-BoundTest Expression Testing Condition Conjunction Ranging Applied expression_step testing_step condition_step conjunction_step ranging_step operation_step

abbrev pub conjunction_of : BoundConjunction → Conjunction
conjunction_of = fold-BoundConjunction Expression Testing Condition Conjunction Ranging Applied expression_step testing_step condition_step conjunction_step ranging_step operation_step

abbrev pub condition_of : BoundCondition → Condition
condition_of = fold-BoundCondition Expression Testing Condition Conjunction Ranging Applied expression_step testing_step condition_step conjunction_step ranging_step operation_step

abbrev pub applied_of : BoundOperation → Applied
applied_of = fold-BoundOperation Expression Testing Condition Conjunction Ranging Applied expression_step testing_step condition_step conjunction_step ranging_step operation_step
