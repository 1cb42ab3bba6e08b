-- Worked statements and their texts.
use Rattle.std.proofs.Common.{◌≡◌, [], ◌∷◌, map, refl, Some, None, true, false, pos, arith}
use Rattle.std.specs.Prelude.{codes}
use Rattle.std.proofs.lemmas.Fmt.{decimal_digit}
use Rattle.rdb_types.specs.declared.values.DataType.TheVariants as data_type
use Rattle.rdo_ast.specs.declared.syntax.Reference.{Reference}
use Rattle.rdo_ast.specs.declared.syntax.Comparison.TheVariants as op
use Rattle.rdo_ast.specs.declared.syntax.Arithmetic.TheVariants as by
use Rattle.rdo_ast.specs.declared.syntax.Clause.TheVariants as clause
use Rattle.rdo_ast.specs.declared.syntax.Share.TheVariants as share
use Rattle.rdo_ast.specs.declared.syntax.DefinedType.TheVariants as dtype
use Rattle.rdo_ast.specs.Tree.{number, text, field, negative, chain, no_operation, operation, count, compare, missing, group, negated, test, no_test, conjunction, no_conjunction, ranging, with_condition, value, all_fields, for_each, print, erase, no_act, act, start_read_write, back_up, perform, define_relation, define_index, said, Command}
use Rattle.rdo_tokens.specs.Lex.{Text, same_kind, word_kind}
use Rattle.rdo_printer.specs.Words.{spelling_of, number_text, quoted_text}
use Rattle.rdo_tokens.specs.Input.{upper}
use Rattle.rdo_parser.specs.Script.{script_items}
use Rattle.rdo_ast.specs.Views.{uttered_of}
use Rattle.rdo_printer.specs.Commands.{command_text, script_text}
use Rattle.rdo_printer.specs.Printable.{IsName, IsText, IsPrintable}
use Rattle.rdo_printer.proofs.TextLaws.{script_is_read}

abbrev of_x : Text → Reference
of_x f = record { variable = codes "X"; field = f }

-- an operand stands in parentheses where it would be read otherwise
printed_chains : command_text (perform (print (
    value (chain (number (pos 1) 0) (operation by.Plus (chain (number (pos 250) 2) (operation by.Times (field (of_x (codes "A"))) no_operation)) no_operation)) ∷
    value (negative (chain (number (pos 1) 0) (operation by.Minus (number (pos 2) 0) no_operation))) ∷
    value (chain (count (ranging None (record { variable = codes "Y"; relation = codes "S" } ∷ []) (with_condition (conjunction (test (missing (field (of_x (codes "A")))) no_test) no_conjunction)))) (operation by.Plus (number (pos 5) 3) no_operation)) ∷
    all_fields (codes "X") ∷ [])))
    ≡ codes "PRINT 1 + 2.50 * X . A , - ( 1 - 2 ) , ( COUNT OF Y IN S WITH X . A MISSING ) + 0.005 , X . * . \n"
unfolding spelling_of same_kind number_text
printed_chains = rw (decimal_digit 1 (omega arith)) (rw (decimal_digit 2 (omega arith)) (rw (decimal_digit 0 (omega arith)) refl))

-- quotes are doubled, and a group keeps its parentheses
abbrev loop : Command
loop = perform (for_each
    (ranging (Some 2) (record { variable = codes "X"; relation = codes "T" } ∷ []) (with_condition (conjunction
    (test (group (conjunction (test (compare op.Equal (field (of_x (codes "A"))) (text (codes "it's"))) no_test) no_conjunction)) (test (negated (missing (field (of_x (codes "B"))))) no_test)) no_conjunction)))
    (clause.Sorted (record { descending = true; reference = of_x (codes "B") } ∷ []) ∷ []) (act (erase (codes "X")) no_act))

printed_loop : command_text loop ≡ codes "FOR FIRST 2 X IN T WITH ( X . A = 'it''s' ) AND NOT X . B MISSING SORTED BY DESCENDING X . B ERASE X . END_FOR . \n"
unfolding spelling_of same_kind number_text quoted_text
printed_loop = rw (decimal_digit 2 (omega arith)) refl

is_name_x : IsName (codes "X")
unfolding upper word_kind
is_name_x = record { begins = refl; characters = (refl, tt); short = omega arith; capitals = refl; free = refl }

is_name_t : IsName (codes "T")
unfolding upper word_kind
is_name_t = record { begins = refl; characters = (refl, tt); short = omega arith; capitals = refl; free = refl }

is_name_a : IsName (codes "A")
unfolding upper word_kind
is_name_a = record { begins = refl; characters = (refl, tt); short = omega arith; capitals = refl; free = refl }

is_name_b : IsName (codes "B")
unfolding upper word_kind
is_name_b = record { begins = refl; characters = (refl, tt); short = omega arith; capitals = refl; free = refl }

is_text : IsText (codes "it's")
is_text = record { printable = (refl, (refl, (refl, (refl, tt)))); ends = refl }

printable_loop : IsPrintable loop
unfolding same_kind
printable_loop = (
  (omega arith, ((is_name_x, is_name_t), tt), (((((((is_name_x, is_name_a), refl, is_text), tt), tt), (((is_name_x, is_name_b), refl), tt)), tt))),
  ((is_name_x, is_name_b), tt),
  ((refl, is_name_x), tt),
)

-- so that the script with this statement is read as it
read_loop : map uttered_of (script_items (script_text (loop ∷ []))) ≡ said loop ∷ []
read_loop = script_is_read (loop ∷ []) (printable_loop, tt)

printed_transaction : command_text (start_read_write false (record { relation = codes "T"; share = share.Protected; writes = true } ∷ [])) ≡ codes "START_TRANSACTION READ_WRITE NOWAIT RESERVING T FOR PROTECTED WRITE . \n"
unfolding spelling_of same_kind
printed_transaction = refl

printed_backup : command_text (back_up 9) ≡ codes "$ RMU / BACKUP / ONLINE 9 . \n"
unfolding spelling_of same_kind number_text
printed_backup = rw (decimal_digit 9 (omega arith)) refl

printed_relation : command_text (define_relation (codes "T") (record { name = codes "A"; kind = dtype.Own (record { kind = data_type.Word; scale = 2; size = 0 }) } ∷ record { name = codes "B"; kind = dtype.BasedOn (codes "C") } ∷ []))
    ≡ codes "DEFINE RELATION T . A DATATYPE IS SIGNED WORD SCALE IS - 2 . B BASED ON C . END T RELATION . \n"
unfolding spelling_of same_kind number_text
printed_relation = rw (decimal_digit 2 (omega arith)) refl

printed_index : command_text (define_index (record { name = codes "I"; relation = codes "T"; unique = true; fields = codes "A" ∷ [] })) ≡ codes "DEFINE INDEX I FOR T DUPLICATES ARE NOT ALLOWED . A . END I INDEX . \n"
unfolding spelling_of same_kind
printed_index = refl
