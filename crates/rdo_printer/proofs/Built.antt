-- The values of src/ that trees stand for.
use Rattle.std.proofs.Common.{List, [], ◌∷◌, map, Option, Some, None}
use Rattle.rdo_ast.specs.declared.syntax.Expression as declared
use Rattle.rdo_ast.specs.declared.syntax.Expression.TheVariants as e
use Rattle.rdo_ast.specs.declared.syntax.Operation as declared_operation
use Rattle.rdo_ast.specs.declared.syntax.Inner.{Inner, roll-Inner}
use Rattle.rdo_ast.specs.declared.syntax.Test.{Test}
use Rattle.rdo_ast.specs.declared.syntax.Test.TheVariants as t
use Rattle.rdo_ast.specs.declared.syntax.Conjunction as declared_conjunction
use Rattle.rdo_ast.specs.declared.syntax.Condition as declared_condition
use Rattle.rdo_ast.specs.declared.syntax.Assign.{Assign}
use Rattle.rdo_ast.specs.declared.syntax.PrintItem.{PrintItem}
use Rattle.rdo_ast.specs.declared.syntax.PrintItem.TheVariants as p
use Rattle.rdo_ast.specs.declared.syntax.Action.{Action}
use Rattle.rdo_ast.specs.declared.syntax.Action.TheVariants as a
use Rattle.rdo_ast.specs.declared.syntax.Statement.{Statement}
use Rattle.rdo_ast.specs.declared.syntax.Statement.TheVariants as s
use Rattle.rdo_ast.specs.Tree.{Expression, number, text, field, negative, chain, count, statistic, Operations, no_operation, operation, Testing, compare, between, containing, starting_with, missing, any, negated, group, Conjunction, no_test, test, Condition, no_conjunction, conjunction, Ranging, ranging, With, without_condition, with_condition, Assignment, Shown, value, all_fields, Act, store, for_each, print, modify, erase, Acts, no_act, act, Command, invoke, start_read_only, start_read_write, commit, rollback, finish, back_up, perform, define_field, define_relation, define_index, delete_relation, delete_index}

abbrev mutual
  pub built : Expression → declared.Expression
  built (number n scale) = e.Number n scale
  built (text z) = e.Text z
  built (field r) = e.Field r
  built (negative x) = e.Negative (built x)
  built (chain x os) = e.Chain (built x) (built_operations os)
  built (count r) = e.Count (built_inner r)
  built (statistic s x r) = e.Statistic s (built x) (built_inner r)

  pub built_operations : Operations → List declared_operation.Operation
  built_operations no_operation = []
  built_operations (operation o x os) = declared_operation.roll-Operation (record { operator = o; operand = built x }) ∷ built_operations os

  pub built_test : Testing → Test
  built_test (compare o a b) = t.Compare o (built a) (built b)
  built_test (between a low high) = t.Between (built a) (built low) (built high)
  built_test (containing a b) = t.Containing (built a) (built b)
  built_test (starting_with a b) = t.StartingWith (built a) (built b)
  built_test (missing a) = t.Missing (built a)
  built_test (any r) = t.Any (built_inner r)
  built_test (negated x) = t.Not (built_test x)
  built_test (group c) = t.Group (built_condition c)

  pub built_tests : Conjunction → List Test
  built_tests no_test = []
  built_tests (test x xs) = built_test x ∷ built_tests xs

  pub built_conjunctions : Condition → List declared_conjunction.Conjunction
  built_conjunctions no_conjunction = []
  built_conjunctions (conjunction c cs) = declared_conjunction.roll-Conjunction (record { tests = built_tests c }) ∷ built_conjunctions cs

  pub built_condition : Condition → declared_condition.Condition
  built_condition no_conjunction = declared_condition.roll-Condition (record { conjunctions = [] })
  built_condition (conjunction c cs) = declared_condition.roll-Condition (record { conjunctions = declared_conjunction.roll-Conjunction (record { tests = built_tests c }) ∷ built_conjunctions cs })

  pub built_inner : Ranging → Inner
  built_inner (ranging n ranges w) = roll-Inner (record { first = n; ranges = ranges; condition = built_with w })

  pub built_with : With → Option declared_condition.Condition
  built_with without_condition = None
  built_with (with_condition c) = Some (built_condition c)

abbrev pub built_assign : Assignment → Assign
built_assign x = record { left = x.left; right = built x.right }

abbrev pub built_shown : Shown → PrintItem
built_shown (value x) = p.Value (built x)
built_shown (all_fields n) = p.Fields n

abbrev mutual
  pub built_action : Act → Action
  built_action (store into assigns) = a.Store into (map built_assign assigns)
  built_action (for_each over clauses body) = a.For (record { inner = built_inner over; clauses = clauses }) (built_actions body)
  built_action (print items) = a.Print (map built_shown items)
  built_action (modify n assigns) = a.Modify n (map built_assign assigns)
  built_action (erase n) = a.Erase n

  pub built_actions : Acts → List Action
  built_actions no_act = []
  built_actions (act x xs) = built_action x ∷ built_actions xs

abbrev pub built_command : Command → Statement
built_command (invoke file) = s.Invoke file
built_command start_read_only = s.StartReadOnly
built_command (start_read_write waits reserved) = s.StartReadWrite waits reserved
built_command commit = s.Commit
built_command rollback = s.Rollback
built_command finish = s.Finish
built_command (back_up n) = s.BackUp n
built_command (perform x) = s.Act (built_action x)
built_command (define_field n x) = s.DefineField n x
built_command (define_relation n fields) = s.DefineRelation n fields
built_command (define_index d) = s.DefineIndex d
built_command (delete_relation n) = s.DeleteRelation n
built_command (delete_index n) = s.DeleteIndex n
