-- Worked scripts and their items.
use Rattle.std.proofs.Common.{◌≡◌, Bool, List, [], ◌∷◌, ◌++◌, map, refl, Some, None, true, false, pos, replicate}
use Rattle.std.specs.Prelude.{codes}
use Rattle.rdb_types.specs.declared.values.DataType.TheVariants as data_type
use Rattle.rdo_ast.specs.declared.syntax.Reference.{Reference}
use Rattle.rdo_ast.specs.declared.syntax.Range.{Range}
use Rattle.rdo_ast.specs.declared.syntax.Comparison.TheVariants as op
use Rattle.rdo_ast.specs.declared.syntax.Arithmetic.{Arithmetic}
use Rattle.rdo_ast.specs.declared.syntax.Arithmetic.TheVariants as by
use Rattle.rdo_ast.specs.declared.syntax.Expression.{Expression}
use Rattle.rdo_ast.specs.declared.syntax.Expression.TheVariants as e
use Rattle.rdo_ast.specs.declared.syntax.Operation.{Operation, roll-Operation}
use Rattle.rdo_ast.specs.declared.syntax.Inner.{Inner, roll-Inner}
use Rattle.rdo_ast.specs.declared.syntax.Test.{Test}
use Rattle.rdo_ast.specs.declared.syntax.Test.TheVariants as t
use Rattle.rdo_ast.specs.declared.syntax.Conjunction.{Conjunction, roll-Conjunction}
use Rattle.rdo_ast.specs.declared.syntax.Condition.{Condition, roll-Condition}
use Rattle.rdo_ast.specs.declared.syntax.Clause.TheVariants as clause
use Rattle.rdo_ast.specs.declared.syntax.PrintItem.TheVariants as p
use Rattle.rdo_ast.specs.declared.syntax.Action.{Action}
use Rattle.rdo_ast.specs.declared.syntax.Action.TheVariants as a
use Rattle.rdo_ast.specs.declared.syntax.Share.TheVariants as share
use Rattle.rdo_ast.specs.declared.syntax.DefinedType.TheVariants as dtype
use Rattle.rdo_ast.specs.declared.syntax.Statement.TheVariants as s
use Rattle.rdo_ast.specs.declared.syntax.Item.{Item}
use Rattle.rdo_ast.specs.declared.syntax.Item.TheVariants as i
use Rattle.rdo_tokens.specs.Lex.{Text, word_kind, text_value, symbol, token, tokens, same_kind}
use Rattle.rdo_tokens.specs.Input.{kind, spelling, next, left, sees, after, expect, upper, name, same_name, text, number_value, number, whole_number, more_from, separated}
use Rattle.rdo_grammar.specs.Grammar.{ref_from, reference, range, crossed, ranges, first, open_level, with, inner, count, statistic, minus, parenthesized, statistic_by, prim, products_from, products, term_after, term, signed_term, sums_from, sums, expr_after, expr, expr_with, compared, between, compare_after, compare, negated, grouped, any, one_test, tests, conj, conjunctions, cond, cond_at, test_at, expr_at, assign, assigns_from, assigns, printed_ref, printed_name, printed, order, key, keys, references, sorted, reduced, sorted_only, reduced_only, shape, selection, printed_list, point, store, modify, print, body_from, body, for_action, action, action_at}
use Rattle.rdo_parser.specs.Statements.{share_mode, writes, reservation, reservations, wait, reserving, read_write, start_transaction, integer_type, scale, text_type, signed_type, field_type, field_kind, field_definition, pointed_field, fields_from, fields, define_relation, duplicates, index_type, pointed_name, index_fields_from, index_fields, index_head, define_index, define_field, define, delete, invoke, back_up, statement, pointed}
use Rattle.rdo_parser.specs.Script.{begins_stop, parsed_at, syntax_at, next_statement, item_at, items_from, script_items, stops_from, ends_in_stop}

abbrev act : Action → Item
act x = i.Statement (s.Act x)

-- the field of the variable X
abbrev field : Text → Reference
field f = record { variable = codes "X"; field = f }

abbrev of_x : Text → Expression
of_x f = e.Field (field f)

abbrev x_in_t : Range
x_in_t = record { variable = codes "X"; relation = codes "T" }

abbrev applied : Arithmetic → Expression → Operation
applied o x = roll-Operation (record { operator = o; operand = x })

abbrev all_of : List Test → Conjunction
all_of xs = roll-Conjunction (record { tests = xs })

abbrev any_of : List Conjunction → Condition
any_of xs = roll-Condition (record { conjunctions = xs })

texts : List Text
texts =
    codes " ! nothing" ∷
    -- a fault behind a statement, a fault at a line's end, and one at the script's end
    (codes "COMMIT 5 FINISH" ++ 10 ∷ codes "  PRINT 1 + ;" ++ 10 ∷ codes "FINISH. PRINT" ++ 10 ∷ []) ∷
    codes "print 1 + 2 * x.a - -3.50" ∷
    codes "FOR FIRST 3 X IN T WITH X.A = 1 AND NOT X.B MISSING OR (X.A > 2) SORTED BY DESCENDING X.A ERASE X. END_FOR" ∷
    codes "PRINT COUNT OF FIRST 2 X IN T WITH X.A <= 'it''s', X.*" ∷
    -- AND goes to the innermost condition
    codes "PRINT 1 FOR X IN T WITH ANY X IN T WITH X.A BETWEEN 1 AND 2 AND X.B EQ 3 END_FOR" ∷
    -- 16 levels, and one more
    (codes "PRINT " ++ replicate 16 40 ++ 49 ∷ replicate 16 41) ∷
    (codes "PRINT " ++ replicate 17 40 ++ 49 ∷ replicate 17 41) ∷
    codes "START_TRANSACTION READ_WRITE NOWAIT RESERVING T FOR SHARED READ, U FOR EXCLUSIVE WRITE" ∷
    codes "DEFINE RELATION T. A DATATYPE IS SIGNED WORD SCALE -2. B DATATYPE IS TEXT SIZE IS 4. END T RELATION." ∷
    (codes "DEFINE INDEX I FOR T DUPLICATES ARE NOT ALLOWED. A. B. END I INDEX." ++ 10 ∷ codes "DEFINE INDEX I FOR T. A. B. C. D. E. F. G. H. I. END I INDEX") ∷
    -- nothing behind a stop is read, and what is no stop is a fault
    (codes "FINISH $ stop FINISH") ∷
    (codes "$ RMU" ++ 10 ∷ codes "STOP" ++ 10 ∷ codes "COMMIT" ++ 10 ∷ codes "$" ++ 10 ∷ codes "STOP") ∷
    -- a backup's number is a whole one from 1 to 9
    (codes "$ rmu/backup/online 9. $RMU / BACKUP / ONLINE 0" ++ 10 ∷ codes "$ RMU/BACKUP/ONLINE 10" ++ 10 ∷ codes "$ RMU/BACKUP/ONLINE 1.0" ++ 10 ∷ codes "$ RMU/BACKUP 1" ++ 10 ∷ codes "$ COMMIT") ∷ []

items : List (List Item)
items =
    [] ∷
    (i.Statement s.Commit ∷ i.SyntaxAt 1 8 ∷ i.SyntaxAt 2 13 ∷ i.Statement s.Finish ∷ i.SyntaxAt 4 1 ∷ []) ∷
    (act (a.Print (p.Value (e.Chain (e.Number (pos 1) 0) (
    applied by.Plus (e.Chain (e.Number (pos 2) 0) (applied by.Times (of_x (codes "A")) ∷ [])) ∷
    applied by.Minus (e.Negative (e.Number (pos 350) 2)) ∷ [])) ∷ [])) ∷ []) ∷
    (act (a.For (record {
      inner = roll-Inner (record {
        first = Some 3;
        ranges = x_in_t ∷ [];
        condition = Some (any_of (
            all_of (t.Compare op.Equal (of_x (codes "A")) (e.Number (pos 1) 0) ∷ t.Not (t.Missing (of_x (codes "B"))) ∷ []) ∷
            all_of (t.Group (any_of (all_of (t.Compare op.Greater (of_x (codes "A")) (e.Number (pos 2) 0) ∷ []) ∷ [])) ∷ []) ∷ []));
      });
      clauses = clause.Sorted (record { descending = true; reference = field (codes "A") } ∷ []) ∷ [];
    }) (a.Erase (codes "X") ∷ [])) ∷ []) ∷
    (act (a.Print (p.Value (e.Count (roll-Inner (record {
      first = Some 2;
      ranges = x_in_t ∷ [];
      condition = Some (any_of (all_of (
          t.Compare op.LessEqual (of_x (codes "A")) (e.Text (codes "it's")) ∷ []) ∷ []));
    }))) ∷ p.Fields (codes "X") ∷ [])) ∷ []) ∷
    (act (a.Print (p.Value (e.Number (pos 1) 0) ∷ [])) ∷
    act (a.For (record {
      inner = roll-Inner (record {
        first = None;
        ranges = x_in_t ∷ [];
        condition = Some (any_of (all_of (t.Any (roll-Inner (record {
          first = None;
          ranges = x_in_t ∷ [];
          condition = Some (any_of (all_of (
              t.Between (of_x (codes "A")) (e.Number (pos 1) 0) (e.Number (pos 2) 0) ∷ t.Compare op.Equal (of_x (codes "B")) (e.Number (pos 3) 0) ∷ []) ∷ []));
        })) ∷ []) ∷ []));
      });
      clauses = [];
    }) []) ∷ []) ∷
    (act (a.Print (p.Value (e.Number (pos 1) 0) ∷ [])) ∷ []) ∷
    (i.SyntaxAt 1 23 ∷ []) ∷
    (i.Statement (s.StartReadWrite false (
    record { relation = codes "T"; share = share.Shared; writes = false } ∷
    record { relation = codes "U"; share = share.Exclusive; writes = true } ∷ [])) ∷ []) ∷
    (i.Statement (s.DefineRelation (codes "T") (
    record { name = codes "A"; kind = dtype.Own (record { kind = data_type.Word; scale = 2; size = 0 }) } ∷
    record { name = codes "B"; kind = dtype.Own (record { kind = data_type.Text; scale = 0; size = 4 }) } ∷ [])) ∷ []) ∷
    (i.Statement (s.DefineIndex (record { name = codes "I"; relation = codes "T"; unique = true; fields = codes "A" ∷ codes "B" ∷ [] })) ∷ i.SyntaxAt 2 47 ∷ []) ∷
    (i.Statement s.Finish ∷ []) ∷
    (i.SyntaxAt 2 1 ∷ i.Statement s.Commit ∷ []) ∷
    (i.Statement (s.BackUp 9) ∷ i.SyntaxAt 1 47 ∷ i.SyntaxAt 2 21 ∷ i.SyntaxAt 3 21 ∷ i.SyntaxAt 4 14 ∷ i.SyntaxAt 5 3 ∷ []) ∷ []

-- which of the texts come to a stop
stops : List Bool
stops = false ∷ false ∷ false ∷ false ∷ false ∷ false ∷ false ∷ false ∷ false ∷ false ∷ false ∷ true ∷ true ∷ false ∷ []

items_of_texts : map script_items texts ≡ items
unfolding texts items word_kind text_value symbol token tokens same_kind kind spelling next left sees after expect upper name same_name text number_value number whole_number more_from separated ref_from reference range crossed ranges first open_level with inner count statistic minus parenthesized statistic_by prim products_from products term_after term signed_term sums_from sums expr_after expr expr_with compared between compare_after compare negated grouped any one_test tests conj conjunctions cond cond_at test_at expr_at assign assigns_from assigns printed_ref printed_name printed order key keys references sorted reduced sorted_only reduced_only shape selection printed_list point store modify print body_from body for_action action action_at share_mode writes reservation reservations wait reserving read_write start_transaction integer_type scale text_type signed_type field_type field_kind field_definition pointed_field fields_from fields define_relation duplicates index_type pointed_name index_fields_from index_fields index_head define_index define_field define delete invoke back_up statement pointed begins_stop parsed_at syntax_at next_statement item_at items_from
items_of_texts = refl

stops_of_texts : map ends_in_stop texts ≡ stops
unfolding texts stops word_kind text_value symbol token tokens same_kind kind spelling next left sees after expect upper name same_name text number_value number whole_number more_from separated ref_from reference range crossed ranges first open_level with inner count statistic minus parenthesized statistic_by prim products_from products term_after term signed_term sums_from sums expr_after expr expr_with compared between compare_after compare negated grouped any one_test tests conj conjunctions cond cond_at test_at expr_at assign assigns_from assigns printed_ref printed_name printed order key keys references sorted reduced sorted_only reduced_only shape selection printed_list point store modify print body_from body for_action action action_at share_mode writes reservation reservations wait reserving read_write start_transaction integer_type scale text_type signed_type field_type field_kind field_definition pointed_field fields_from fields define_relation duplicates index_type pointed_name index_fields_from index_fields index_head define_index define_field define delete invoke back_up statement pointed begins_stop parsed_at syntax_at next_statement item_at stops_from
stops_of_texts = refl
