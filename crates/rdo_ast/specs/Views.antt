-- The trees that the values of src/ stand for.
use Rattle.std.specs.Prelude.{List, [], ◌∷◌, map, Option, Some, None}
use Rattle.rdo_ast.specs.declared.syntax.Arithmetic.{Arithmetic}
use Rattle.rdo_ast.specs.declared.syntax.Expression as declared_expression
use Rattle.rdo_ast.specs.declared.syntax.Expression.{fold-Expression}
use Rattle.rdo_ast.specs.declared.syntax.Expression.TheOpen.{Expression-F, Test-F, Condition-F, Conjunction-F, Inner-F, Operation-F}
use Rattle.rdo_ast.specs.declared.syntax.Inner.{Inner, fold-Inner}
use Rattle.rdo_ast.specs.declared.syntax.Operation.{Operation, fold-Operation}
use Rattle.rdo_ast.specs.declared.syntax.Test.{Test, fold-Test}
use Rattle.rdo_ast.specs.declared.syntax.Conjunction as declared
use Rattle.rdo_ast.specs.declared.syntax.Conjunction.{fold-Conjunction}
use Rattle.rdo_ast.specs.declared.syntax.Condition as declared_condition
use Rattle.rdo_ast.specs.declared.syntax.Condition.{fold-Condition}
use Rattle.rdo_ast.specs.declared.syntax.Action.{Action, fold-Action}
use Rattle.rdo_ast.specs.declared.syntax.Action.TheOpen.{Action-F}
use Rattle.rdo_ast.specs.declared.syntax.Assign.{Assign}
use Rattle.rdo_ast.specs.declared.syntax.PrintItem.{PrintItem}
use Rattle.rdo_ast.specs.declared.syntax.PrintItem.TheVariants as print_item
use Rattle.rdo_ast.specs.declared.syntax.Statement.{Statement}
use Rattle.rdo_ast.specs.declared.syntax.Statement.TheVariants as s
use Rattle.rdo_ast.specs.declared.syntax.Item.{Item}
use Rattle.rdo_ast.specs.declared.syntax.Item.TheVariants as i
use Rattle.rdo_ast.specs.Tree.{Expression, number, text, field, negative, chain, count, statistic, Operations, no_operation, operation, Testing, compare, between, containing, starting_with, missing, any, negated, group, Conjunction, no_test, test, Condition, no_conjunction, conjunction, Ranging, ranging, With, without_condition, with_condition, Assignment, Shown, value, all_fields, Act, store, for_each, print, modify, erase, Acts, no_act, act, Command, invoke, start_read_only, start_read_write, commit, rollback, finish, back_up, perform, define_field, define_relation, define_index, delete_relation, delete_index, Uttered, said, syntax_fault}

-- an operator and its operand, as they are found in a list
pub record Applied : Type 0 where
  pub operator : Arithmetic
  pub operand : Expression

abbrev pub operations_of : List Applied → Operations
operations_of [] = no_operation
operations_of (o ∷ os) = operation o.operator o.operand (operations_of os)

abbrev pub conjunction_with : List Testing → Conjunction
conjunction_with [] = no_test
conjunction_with (t ∷ ts) = test t (conjunction_with ts)

abbrev pub condition_with : List Conjunction → Condition
condition_with [] = no_conjunction
condition_with (c ∷ cs) = conjunction c (condition_with cs)

abbrev pub with_of : Option Condition → With
with_of (Some c) = with_condition c
with_of None = without_condition

-- one level of each type, with what is inside already seen as a tree
abbrev pub expression_step : Expression-F Expression Testing Condition Conjunction Ranging Applied → Expression
expression_step (Expression-F.Number n scale) = number n scale
expression_step (Expression-F.Text t) = text t
expression_step (Expression-F.Field r) = field r
expression_step (Expression-F.Negative e) = negative e
expression_step (Expression-F.Chain e os) = chain e (operations_of os)
expression_step (Expression-F.Count r) = count r
expression_step (Expression-F.Statistic s e r) = statistic s e r

abbrev pub operation_step : Operation-F Expression Testing Condition Conjunction Ranging Applied → Applied
operation_step o = record { operator = o.operator; operand = o.operand }

abbrev pub testing_step : Test-F Expression Testing Condition Conjunction Ranging Applied → Testing
testing_step (Test-F.Compare op a b) = compare op a b
testing_step (Test-F.Between a b c) = between a b c
testing_step (Test-F.Containing a b) = containing a b
testing_step (Test-F.StartingWith a b) = starting_with a b
testing_step (Test-F.Missing e) = missing e
testing_step (Test-F.Any r) = any r
testing_step (Test-F.Not t) = negated t
testing_step (Test-F.Group c) = group c

abbrev pub conjunction_step : Conjunction-F Expression Testing Condition Conjunction Ranging Applied → Conjunction
conjunction_step c = conjunction_with c.tests

abbrev pub condition_step : Condition-F Expression Testing Condition Conjunction Ranging Applied → Condition
condition_step c = condition_with c.conjunctions

abbrev pub ranging_step : Inner-F Expression Testing Condition Conjunction Ranging Applied → Ranging
ranging_step r = ranging r.first r.ranges (with_of r.condition)

abbrev pub expression_of : declared_expression.Expression → Expression
expression_of = fold-Expression Expression Testing Condition Conjunction Ranging Applied expression_step testing_step condition_step conjunction_step ranging_step operation_step

abbrev pub ranging_of : Inner → Ranging
ranging_of = fold-Inner Expression Testing Condition Conjunction Ranging Applied expression_step testing_step condition_step conjunction_step ranging_step operation_step

abbrev pub testing_of : Test → Testing
testing_of = fold-Test Expression Testing Condition Conjunction Ranging Applied expression_step testing_step condition_step conjunction_step ranging_step operation_step

abbrev pub conjunction_of : declared.Conjunction → Conjunction
conjunction_of = fold-Conjunction Expression Testing Condition Conjunction Ranging Applied expression_step testing_step condition_step conjunction_step ranging_step operation_step

abbrev pub condition_of : declared_condition.Condition → Condition
condition_of = fold-Condition Expression Testing Condition Conjunction Ranging Applied expression_step testing_step condition_step conjunction_step ranging_step operation_step

abbrev pub applied_of : Operation → Applied
applied_of = fold-Operation Expression Testing Condition Conjunction Ranging Applied expression_step testing_step condition_step conjunction_step ranging_step operation_step

abbrev pub assignment_of : Assign → Assignment
assignment_of a = record { left = a.left; right = expression_of a.right }

abbrev pub shown_of : PrintItem → Shown
shown_of (print_item.Value e) = value (expression_of e)
shown_of (print_item.Fields n) = all_fields n

abbrev pub acts_of : List Act → Acts
acts_of [] = no_act
acts_of (a ∷ as') = act a (acts_of as')

abbrev pub act_step : Action-F Act → Act
act_step (Action-F.Store source assigns) = store source (map assignment_of assigns)
act_step (Action-F.For selection body) = for_each (ranging_of selection.inner) selection.clauses (acts_of body)
act_step (Action-F.Print items) = print (map shown_of items)
act_step (Action-F.Modify name assigns) = modify name (map assignment_of assigns)
act_step (Action-F.Erase name) = erase name

abbrev pub act_of : Action → Act
act_of = fold-Action Act act_step

abbrev pub command_of : Statement → Command
command_of (s.Invoke t) = invoke t
command_of s.StartReadOnly = start_read_only
command_of (s.StartReadWrite wait rs) = start_read_write wait rs
command_of s.Commit = commit
command_of s.Rollback = rollback
command_of s.Finish = finish
command_of (s.BackUp n) = back_up n
command_of (s.Act a) = perform (act_of a)
command_of (s.DefineField n t) = define_field n t
command_of (s.DefineRelation n fs) = define_relation n fs
command_of (s.DefineIndex d) = define_index d
command_of (s.DeleteRelation n) = delete_relation n
command_of (s.DeleteIndex n) = delete_index n

abbrev pub uttered_of : Item → Uttered
uttered_of (i.Statement s) = said (command_of s)
uttered_of (i.SyntaxAt line column) = syntax_fault line column
