-- What is printed of expressions and conditions is words.
use Rattle.std.proofs.Common.{ℕ, zero, suc, Bool, true, false, ◌&&◌, List, [], ◌∷◌, ◌++◌, Option, Some, None, ℤ, pos, negsuc, refl}
use Rattle.std.specs.List.{AllByRecursion}
use Rattle.rdo_ast.specs.declared.syntax.Reference.{Reference}
use Rattle.rdo_ast.specs.declared.syntax.Range.{Range}
use Rattle.rdo_ast.specs.declared.syntax.Comparison.{Comparison}
use Rattle.rdo_ast.specs.declared.syntax.Comparison.TheVariants as op
use Rattle.rdo_ast.specs.declared.syntax.Arithmetic.{Arithmetic}
use Rattle.rdo_ast.specs.declared.syntax.Arithmetic.TheVariants as by
use Rattle.rdo_ast.specs.declared.syntax.Statistic.{Statistic}
use Rattle.rdo_ast.specs.declared.syntax.Statistic.TheVariants as of
use Rattle.rdo_ast.specs.Tree.{Expression, number, text, field, negative, chain, count, statistic, Operations, no_operation, operation, Testing, compare, between, containing, starting_with, missing, any, negated, group, Conjunction, no_test, test, Condition, no_conjunction, conjunction, Ranging, ranging, With, without_condition, with_condition}
use Rattle.rdo_tokens.specs.declared.token.Kind.{Kind}
use Rattle.rdo_tokens.specs.declared.token.Kind.TheVariants as k
use Rattle.rdo_printer.specs.Words.{Spelled, word, spelling_of, more_words, separated_words}
use Rattle.rdo_printer.specs.Trees.{guarded, reference_words, range_words, first_words, comparison_kind, operator_kind, statistic_kind, is_open, is_guarded, is_first_guarded, number_words, expression_words, operations_words, test_words, conjunction_words, tests_words, condition_words, conjunctions_words, ranging_words, with_words}
use Rattle.rdo_printer.specs.Printable.{Opens, Guarded, IsNumber, IsReference, IsRange, IsFirst, AreItems, is_last_test, is_last_conjunction, FitsExpression, FitsOperations, FitsTest, FitsConjunction, FitsTests, FitsCondition, FitsConjunctions, FitsRanging, FitsWith}
use Rattle.rdo_printer.proofs.TokenLaws.{IsWord, AreWords, are_words-append, is_word, name_is_word, number_is_word, text_is_word}

-- ---- parts

pub inside : {X : Type 0} (levels : ℕ) (P : ℕ → Type 0) → Opens levels P → ((l : ℕ) → P l → X) → X
inside zero P h f = absurd h
inside (suc levels) P h f = f levels h

pub unguarded : {X : Type 0} (b : Bool) (levels : ℕ) (P : ℕ → Type 0) → Guarded b levels P → ((l : ℕ) → P l → X) → X
unguarded true levels P h f = inside levels P h f
unguarded false levels P h f = f levels h

guarded_words : (b : Bool) (ws : List Spelled) → AreWords ws → AreWords (guarded b ws)
guarded_words true ws h = (is_word k.Open refl, are_words-append ws (word k.Close ∷ []) h (is_word k.Close refl, tt))
guarded_words false ws h = h

pub reference_spelled : (r : Reference) → IsReference r → AreWords (reference_words r)
reference_spelled r h = (name_is_word r.variable h.0, (is_word k.Dot refl, (name_is_word r.field h.1, tt)))

pub range_spelled : (r : Range) → IsRange r → AreWords (range_words r)
range_spelled r h = (name_is_word r.variable h.0, (is_word k.In refl, (name_is_word r.relation h.1, tt)))

first_spelled : (n : Option ℕ) → IsFirst n → AreWords (first_words n)
first_spelled None h = tt
first_spelled (Some n) h = (is_word k.First refl, (number_is_word n 0 h, tt))

number_spelled : (n : ℤ) (scale : ℕ) → IsNumber n scale → AreWords (number_words n scale)
number_spelled (pos n) scale h = (number_is_word n scale h.0, tt)
number_spelled (negsuc n) scale h = absurd h

operator_spelled : (o : Arithmetic) → IsWord (operator_kind o) (spelling_of (operator_kind o))
operator_spelled by.Plus = is_word k.Plus refl
operator_spelled by.Minus = is_word k.Minus refl
operator_spelled by.Times = is_word k.Star refl

comparison_spelled : (o : Comparison) → IsWord (comparison_kind o) (spelling_of (comparison_kind o))
comparison_spelled op.Equal = is_word k.Equal refl
comparison_spelled op.NotEqual = is_word k.Unequal refl
comparison_spelled op.Greater = is_word k.Greater refl
comparison_spelled op.GreaterEqual = is_word k.GreaterEqual refl
comparison_spelled op.Less = is_word k.Less refl
comparison_spelled op.LessEqual = is_word k.LessEqual refl

statistic_spelled : (s : Statistic) → IsWord (statistic_kind s) (spelling_of (statistic_kind s))
statistic_spelled of.Total = is_word k.Total refl
statistic_spelled of.Minimum = is_word k.Min refl
statistic_spelled of.Maximum = is_word k.Max refl

-- ---- lists

module _ {A : Type 0} (separator : Kind) (words : A → List Spelled) (P : A → Type 0) (s : IsWord separator (spelling_of separator)) (spelled : (x : A) → P x → AreWords (words x)) where
  more_spelled : (xs : List A) → AllByRecursion P xs → AreWords (more_words separator words xs)
  more_spelled [] h = tt
  more_spelled (x ∷ xs) h = (s, are_words-append (words x) (more_words separator words xs) (spelled x h.0) (more_spelled xs h.1))

  pub separated_spelled : (xs : List A) → AreItems P xs → AreWords (separated_words separator words xs)
  separated_spelled [] h = absurd h
  separated_spelled (x ∷ xs) h = are_words-append (words x) (more_words separator words xs) (spelled x h.0) (more_spelled xs h.1)

-- ---- trees

mutual
  pub expression_spelled : (x : Expression) (levels : ℕ) (plain : Bool) → FitsExpression x levels plain → AreWords (expression_words x)
  expression_spelled (number n scale) levels plain h = number_spelled n scale h
  expression_spelled (text z) levels plain h = (text_is_word z h, tt)
  expression_spelled (field r) levels plain h = reference_spelled r h
  expression_spelled (negative x) levels plain h =
      (is_word k.Minus refl, guarded_words (is_guarded by.Times x) (expression_words x) (inside levels (λ i. Guarded (is_guarded by.Times x) i (λ l. FitsExpression x l plain)) h (λ i g. unguarded (is_guarded by.Times x) i (λ l. FitsExpression x l plain) g (λ l f. expression_spelled x l plain f))))
  expression_spelled (chain x os) levels plain h =
      are_words-append (guarded (is_first_guarded os x) (expression_words x)) (operations_words os)
      (guarded_words (is_first_guarded os x) (expression_words x) (unguarded (is_first_guarded os x) levels (λ l. FitsExpression x l plain) h.1 (λ l f. expression_spelled x l plain f)))
      (operations_spelled os levels plain h.2)
  expression_spelled (count r) levels plain h = (is_word k.Count refl, (is_word k.Of refl, inside levels (λ i. FitsRanging r i) h.2 (λ i f. ranging_spelled r i f)))
  expression_spelled (statistic s x r) levels plain h = (
    statistic_spelled s,
    are_words-append (expression_words x) (word k.Of ∷ ranging_words r)
        (inside levels (λ i. FitsExpression x i true × FitsRanging r i) h.2 (λ i f. expression_spelled x i true f.0))
        (is_word k.Of refl, inside levels (λ i. FitsExpression x i true × FitsRanging r i) h.2 (λ i f. ranging_spelled r i f.1)),
  )

  operations_spelled : (os : Operations) (levels : ℕ) (plain : Bool) → FitsOperations os levels plain → AreWords (operations_words os)
  operations_spelled no_operation levels plain h = tt
  operations_spelled (operation o x os) levels plain h = (
    operator_spelled o,
    are_words-append (guarded (is_guarded o x) (expression_words x)) (operations_words os)
        (guarded_words (is_guarded o x) (expression_words x) (unguarded (is_guarded o x) levels (λ l. FitsExpression x l plain) h.0 (λ l f. expression_spelled x l plain f)))
        (operations_spelled os levels plain h.1),
  )

  test_spelled : (t : Testing) (levels : ℕ) (last : Bool) → FitsTest t levels last → AreWords (test_words t)
  test_spelled (compare o a b) levels last h =
      are_words-append (expression_words a) (word (comparison_kind o) ∷ guarded (is_open b) (expression_words b)) (expression_spelled a levels false h.0)
      (comparison_spelled o, guarded_words (is_open b) (expression_words b) (unguarded (is_open b) levels (λ l. FitsExpression b l false) h.2 (λ l f. expression_spelled b l false f)))
  test_spelled (between a low high) levels last h =
      are_words-append (expression_words a) (word k.Between ∷ guarded (is_open low) (expression_words low) ++ (word k.And ∷ guarded (is_open high) (expression_words high))) (expression_spelled a levels false h.0) (
        is_word k.Between refl,
        are_words-append (guarded (is_open low) (expression_words low)) (word k.And ∷ guarded (is_open high) (expression_words high))
            (guarded_words (is_open low) (expression_words low) (unguarded (is_open low) levels (λ l. FitsExpression low l false) h.2 (λ l f. expression_spelled low l false f)))
            (is_word k.And refl, guarded_words (is_open high) (expression_words high) (unguarded (is_open high) levels (λ l. FitsExpression high l false) h.3 (λ l f. expression_spelled high l false f))),
      )
  test_spelled (containing a b) levels last h =
      are_words-append (expression_words a) (word k.Containing ∷ guarded (is_open b) (expression_words b)) (expression_spelled a levels false h.0)
      (is_word k.Containing refl, guarded_words (is_open b) (expression_words b) (unguarded (is_open b) levels (λ l. FitsExpression b l false) h.2 (λ l f. expression_spelled b l false f)))
  test_spelled (starting_with a b) levels last h =
      are_words-append (expression_words a) (word k.Starting ∷ word k.With ∷ guarded (is_open b) (expression_words b)) (expression_spelled a levels false h.0)
      (is_word k.Starting refl, (is_word k.With refl, guarded_words (is_open b) (expression_words b) (unguarded (is_open b) levels (λ l. FitsExpression b l false) h.2 (λ l f. expression_spelled b l false f))))
  test_spelled (missing a) levels last h = are_words-append (expression_words a) (word k.Missing ∷ []) (expression_spelled a levels false h.0) (is_word k.Missing refl, tt)
  test_spelled (any r) levels last h = (is_word k.Any refl, inside levels (λ i. FitsRanging r i) h.1 (λ i f. ranging_spelled r i f))
  test_spelled (negated t) levels last h = (is_word k.Not refl, inside levels (λ i. FitsTest t i last) h (λ i f. test_spelled t i last f))
  test_spelled (group c) levels last h = guarded_words true (condition_words c) (inside levels (λ i. FitsCondition c i) h (λ i f. condition_spelled c i f))

  conjunction_spelled : (c : Conjunction) (levels : ℕ) (last : Bool) → FitsConjunction c levels last → AreWords (conjunction_words c)
  conjunction_spelled no_test levels last h = tt
  conjunction_spelled (test t ts) levels last h = are_words-append (test_words t) (tests_words ts) (test_spelled t levels (last && is_last_test ts) h.0) (tests_spelled ts levels last h.1)

  tests_spelled : (ts : Conjunction) (levels : ℕ) (last : Bool) → FitsTests ts levels last → AreWords (tests_words ts)
  tests_spelled no_test levels last h = tt
  tests_spelled (test t ts) levels last h = (is_word k.And refl, are_words-append (test_words t) (tests_words ts) (test_spelled t levels (last && is_last_test ts) h.0) (tests_spelled ts levels last h.1))

  condition_spelled : (c : Condition) (levels : ℕ) → FitsCondition c levels → AreWords (condition_words c)
  condition_spelled no_conjunction levels h = tt
  condition_spelled (conjunction c cs) levels h =
      are_words-append (conjunction_words c) (conjunctions_words cs) (conjunction_spelled c levels (is_last_conjunction cs) h.0) (conjunctions_spelled cs levels h.1)

  conjunctions_spelled : (cs : Condition) (levels : ℕ) → FitsConjunctions cs levels → AreWords (conjunctions_words cs)
  conjunctions_spelled no_conjunction levels h = tt
  conjunctions_spelled (conjunction c cs) levels h =
      (is_word k.Or refl, are_words-append (conjunction_words c) (conjunctions_words cs) (conjunction_spelled c levels (is_last_conjunction cs) h.0) (conjunctions_spelled cs levels h.1))

  pub ranging_spelled : (r : Ranging) (levels : ℕ) → FitsRanging r levels → AreWords (ranging_words r)
  ranging_spelled (ranging n rs w) levels h =
      are_words-append (first_words n) (separated_words k.Cross range_words rs ++ with_words w) (first_spelled n h.0)
      (are_words-append (separated_words k.Cross range_words rs) (with_words w) (separated_spelled k.Cross range_words IsRange (is_word k.Cross refl) range_spelled rs h.1) (with_spelled w levels h.2))

  with_spelled : (w : With) (levels : ℕ) → FitsWith w levels → AreWords (with_words w)
  with_spelled without_condition levels h = tt
  with_spelled (with_condition c) levels h = (is_word k.With refl, condition_spelled c levels h)
