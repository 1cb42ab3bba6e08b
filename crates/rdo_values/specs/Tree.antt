-- A bound form as a tree, with no boxes: the tree of a statement with places beside its names, and with what is known of statistics and of ANY.
use Rattle.std.specs.Prelude.{ℕ, ℤ, List, Option}
use Rattle.rdo_ast.specs.declared.syntax.Comparison.{Comparison}
use Rattle.rdo_ast.specs.declared.syntax.Statistic.{Statistic}
use Rattle.rdo_ast.specs.declared.syntax.Arithmetic.{Arithmetic}
use Rattle.rdo_values.specs.declared.bound.BoundReference.{BoundReference}
use Rattle.rdo_values.specs.declared.bound.BoundRange.{BoundRange}
use Rattle.rdo_values.specs.declared.bound.KnownValue.{KnownValue}
use Rattle.rdo_values.specs.declared.bound.KnownTruth.{KnownTruth}

mutual
  pub data Expression : Type 0 where
    number : ℤ → ℕ → Expression
    text : List ℕ → Expression
    field : BoundReference → Expression
    negative : Expression → Expression
    chain : Expression → Operations → Expression
    count : Ranging → Expression
    statistic : Statistic → Expression → Ranging → Expression
    -- an expression, and what it gives at the row at hand
    known : Expression → KnownValue → Expression

  pub data Operations : Type 0 where
    no_operation : Operations
    operation : Arithmetic → Expression → Operations → Operations

  pub data Testing : Type 0 where
    compare : Comparison → Expression → Expression → Testing
    between : Expression → Expression → Expression → Testing
    containing : Expression → Expression → Testing
    starting_with : Expression → Expression → Testing
    missing : Expression → Testing
    any : Ranging → Testing
    negated : Testing → Testing
    group : Condition → Testing
    -- a test, and what it says at the row at hand
    decided : Testing → KnownTruth → Testing

  pub data Conjunction : Type 0 where
    no_test : Conjunction
    test : Testing → Conjunction → Conjunction

  pub data Condition : Type 0 where
    no_conjunction : Condition
    conjunction : Conjunction → Condition → Condition

  pub data Ranging : Type 0 where
    ranging : Option ℕ → List BoundRange → With → Ranging

  pub data With : Type 0 where
    without_condition : With
    with_condition : Condition → With
