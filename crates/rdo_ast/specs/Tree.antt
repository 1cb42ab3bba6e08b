-- A statement as a tree, with no boxes. Names, references and ranges are those of src/.
use Rattle.std.specs.Prelude.{ℕ, ℤ, Bool, List, Option}
use Rattle.rdb_types.specs.declared.values.FieldType.{FieldType}
use Rattle.rdo_ast.specs.declared.syntax.Reference.{Reference}
use Rattle.rdo_ast.specs.declared.syntax.Range.{Range}
use Rattle.rdo_ast.specs.declared.syntax.Comparison.{Comparison}
use Rattle.rdo_ast.specs.declared.syntax.Statistic.{Statistic}
use Rattle.rdo_ast.specs.declared.syntax.Arithmetic.{Arithmetic}
use Rattle.rdo_ast.specs.declared.syntax.Clause.{Clause}
use Rattle.rdo_ast.specs.declared.syntax.Reservation.{Reservation}
use Rattle.rdo_ast.specs.declared.syntax.FieldDefinition.{FieldDefinition}
use Rattle.rdo_ast.specs.declared.syntax.IndexDefinition.{IndexDefinition}

abbrev pub Name : Type 0
Name = List ℕ

mutual
  pub data Expression : Type 0 where
    -- the digits without the point, and how many of them stand after it
    number : ℤ → ℕ → Expression
    text : List ℕ → Expression
    field : Reference → Expression
    negative : Expression → Expression
    -- a first operand, and the operations on it from the left to the right
    chain : Expression → Operations → Expression
    count : Ranging → Expression
    statistic : Statistic → Expression → Ranging → Expression

  pub data Operations : Type 0 where
    no_operation : Operations
    operation : Arithmetic → Expression → Operations → Operations

  pub data Testing : Type 0 where
    compare : Comparison → Expression → Expression → Testing
    between : Expression → Expression → Expression → Testing
    containing : Expression → Expression → Testing
    starting_with : Expression → Expression → Testing
    missing : Expression → Testing
    any : Ranging → Testing
    negated : Testing → Testing
    -- a condition in parentheses
    group : Condition → Testing

  -- tests joined by AND
  pub data Conjunction : Type 0 where
    no_test : Conjunction
    test : Testing → Conjunction → Conjunction

  -- conjunctions joined by OR
  pub data Condition : Type 0 where
    no_conjunction : Condition
    conjunction : Conjunction → Condition → Condition

  -- FIRST n X IN R CROSS Y IN S, and then WITH condition or none
  pub data Ranging : Type 0 where
    ranging : Option ℕ → List Range → With → Ranging

  pub data With : Type 0 where
    without_condition : With
    with_condition : Condition → With

pub record Assignment : Type 0 where
  pub left : Reference
  pub right : Expression

pub data Shown : Type 0 where
  value : Expression → Shown
  -- E.*
  all_fields : Name → Shown

mutual
  pub data Act : Type 0 where
    store : Range → List Assignment → Act
    for_each : Ranging → List Clause → Acts → Act
    print : List Shown → Act
    modify : Name → List Assignment → Act
    erase : Name → Act

  pub data Acts : Type 0 where
    no_act : Acts
    act : Act → Acts → Acts

pub data Command : Type 0 where
  invoke : List ℕ → Command
  start_read_only : Command
  -- whether it waits, and its reservations, which are empty without RESERVING
  start_read_write : Bool → List Reservation → Command
  commit : Command
  rollback : Command
  finish : Command
  -- the lines that are committed now go into the backup of this number
  back_up : ℕ → Command
  perform : Act → Command
  define_field : Name → FieldType → Command
  define_relation : Name → List FieldDefinition → Command
  define_index : IndexDefinition → Command
  delete_relation : Name → Command
  delete_index : Name → Command

pub data Uttered : Type 0 where
  said : Command → Uttered
  syntax_fault : (line column : ℕ) → Uttered
