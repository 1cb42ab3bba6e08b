-- What is printed of ranges, statistics and tests is read as them, if what is inside is.
use Rattle.std.proofs.Common.{◌≡◌, ℕ, zero, suc, ◌+◌, ◌≤◌, Bool, true, false, ◌&&◌, List, [], ◌∷◌, ◌++◌, length, Option, Some, Ok, ℤ, pos, negsuc, refl, ap, sym, ◌∙◌, append_assoc, append-nil, arith}
use Rattle.std.proofs.lemmas.List.{length-append, map-id}
use Rattle.rdo_ast.specs.declared.syntax.Range.{Range}
use Rattle.rdo_ast.specs.declared.syntax.Reference.{Reference}
use Rattle.rdo_ast.specs.declared.syntax.Comparison.{Comparison}
use Rattle.rdo_ast.specs.declared.syntax.Comparison.TheVariants as op
use Rattle.rdo_ast.specs.declared.syntax.Arithmetic.TheVariants as by
use Rattle.rdo_ast.specs.declared.syntax.Statistic.{Statistic}
use Rattle.rdo_ast.specs.declared.syntax.Statistic.TheVariants as of
use Rattle.rdo_ast.specs.declared.syntax.Test as declared_test
use Rattle.rdo_ast.specs.declared.syntax.Conjunction as declared_conjunction
use Rattle.rdo_ast.specs.declared.syntax.Conjunction.{roll-Conjunction}
use Rattle.rdo_ast.specs.Tree.{Expression, number, text, field, negative, chain, count, statistic, Operations, no_operation, operation, Testing, compare, between, containing, starting_with, missing, any, negated, group, Conjunction, no_test, test, Condition, no_conjunction, conjunction, Ranging, ranging, With, without_condition, with_condition}
use Rattle.rdo_tokens.specs.declared.token.Kind.{Kind}
use Rattle.rdo_tokens.specs.declared.token.Kind.TheVariants as k
use Rattle.rdo_tokens.specs.Lex.{Text, same_kind}
use Rattle.rdo_tokens.specs.Input.{Input, kind, next, left, sees, after, expect, separated, more_from}
use Rattle.rdo_grammar.specs.Grammar as g
use Rattle.rdo_grammar.specs.Grammar.{Level, level_at, Plain, prim, term, expr, open_level, minus, statistic_by, inner, first, ranges, range, crossed, with, cond_at, test_at, expr_at, compared, compare_after, operator, tests, conj, conjunctions, negated as negated_test, grouped, any as any_inner, between as between_after}
use Rattle.rdo_printer.specs.Words.{Spelled, word, quoted_word, spelling_of, text_of, separated_words}
use Rattle.rdo_printer.proofs.Labels.{labelled}
use Rattle.rdo_printer.specs.Trees.{guarded, range_words, first_words, comparison_kind, has_condition, is_condition, is_open, is_guarded, is_first_guarded, number_words, expression_words, operations_words, test_words, conjunction_words, tests_words, condition_words, conjunctions_words, ranging_words, with_words}
use Rattle.rdo_printer.specs.Printable.{IsFirst, IsRange, AreItems, IsSingle, ComparesFrom, EndsIn, is_last_test, is_last_conjunction, FitsExpression, FitsTest, FitsConjunction, FitsTests, FitsCondition, FitsConjunctions, FitsRanging, FitsWith}
use Rattle.rdo_printer.proofs.Reading.{Reads, in_front, length_text, reference_read, range_read, number_read, text_read, Anything, separated_read, first_read}
use Rattle.rdo_printer.proofs.Operands.{AfterPrim, AfterExpr, AfterCondition, Behind, level_opens}
use Rattle.rdo_printer.proofs.ExpressionLaws.{ReadsWell, factor_of, closed_of, whole_of, true-false, false-true}
use Rattle.rdo_printer.proofs.Built.{built, built_inner, built_test, built_tests, built_condition, built_conjunctions, built_with}

-- ---- ranges

abbrev pub ConditionRead : Condition → Type 0
ConditionRead c = (levels : ℕ) → FitsCondition c levels → Reads (g.cond (level_at levels)) (condition_words c) (built_condition c) AfterCondition

abbrev pub WithRead : With → Type 0
WithRead w = (levels : ℕ) → FitsWith w levels → Reads (with (level_at (suc levels))) (with_words w) (built_with w) (Behind (is_condition w) AfterPrim)

abbrev pub NotCross : Kind → Type 0
NotCross kind = same_kind kind k.Cross ≡ false

pub without_read : WithRead without_condition
unfolding with sees after kind
without_read levels fits behind other a = rw a.0 refl

pub with_read : (c : Condition) → ConditionRead c → WithRead (with_condition c)
unfolding with sees after kind next same_kind cond_at
with_read c h levels fits behind other a = rw (h levels fits behind other a) refl

pub after_ranges : (w : With) (behind : ℕ) (other : Input) → Behind (is_condition w) AfterPrim (kind other) → NotCross (kind (labelled (with_words w) behind other))
unfolding kind same_kind
after_ranges without_condition behind other a = a.1
after_ranges (with_condition c) behind other a = refl

abbrev pub SingleIf : Bool → Ranging → Type 0
SingleIf true r = IsSingle r
SingleIf false r = Unit {0}

pub crossed_read : (all : List Range) → AreItems IsRange all → Reads crossed (separated_words k.Cross range_words all) all NotCross
unfolding crossed same_kind
crossed_read all h behind other a =
    separated_read k.Cross range range_words (λ x. x) IsRange Anything refl tt (λ x f. range_read x f) all h behind other tt a ∙ ap (λ (v : List Range). Ok (v, other)) (map-id all)

ranges_read : (single : Bool) (n : Option ℕ) (all : List Range) (w : With) → SingleIf single (ranging n all w) → AreItems IsRange all → Reads (ranges single) (separated_words k.Cross range_words all) all NotCross
unfolding ranges
ranges_read false n all w one h behind other a = crossed_read all h behind other a
ranges_read true n [] w one h behind other a = absurd h
ranges_read true n (x ∷ []) w one h behind other a = rw (range_read x h.0 behind other tt) refl
ranges_read true n (x ∷ y ∷ ys) w one h behind other a = absurd one

-- a list of ranges begins with a name
begins_name : (all : List Range) → AreItems IsRange all → (vs : List Spelled) (behind : ℕ) (other : Input) → same_kind (kind (labelled (separated_words k.Cross range_words all ++ vs) behind other)) k.First ≡ false
unfolding kind same_kind
begins_name [] h vs behind other = absurd h
begins_name (x ∷ xs) h vs behind other = refl

abbrev pub RangingRead : Ranging → Type 0
RangingRead r = (levels : ℕ) (single : Bool) → SingleIf single r → FitsRanging r levels → Reads (inner (level_at (suc levels)) single) (ranging_words r) (built_inner r) (Behind (has_condition r) AfterPrim)

pub front_read : (n : Option ℕ) (all : List Range) → IsFirst n → AreItems IsRange all → (vs : List Spelled) (behind : ℕ) (other : Input) →
    first (labelled (first_words n ++ (separated_words k.Cross range_words all ++ vs)) behind other) ≡ Ok (n, labelled (separated_words k.Cross range_words all ++ vs) behind other)
front_read n all f h vs behind other = first_read n f (separated_words k.Cross range_words all ++ vs) behind other (begins_name all h vs behind other)

pub ranging_read : (n : Option ℕ) (all : List Range) (w : With) → WithRead w → RangingRead (ranging n all w)
unfolding inner
ranging_read n all w h levels single one fits behind other a =
    let e1 = front_read n all fits.0 fits.1 (with_words w) behind other in
    let e2 = in_front (ranges single) (separated_words k.Cross range_words all) all NotCross (ranges_read single n all w one fits.1) (with_words w) behind other (after_ranges w behind other a) in
    let e3 = h levels fits.2 behind other a in
    rw e1 (rw e2 (rw e3 refl))

-- ---- prims

pub number_reads : (n : ℤ) (scale : ℕ) → ReadsWell (number n scale)
unfolding prim kind same_kind
number_reads (negsuc n) scale levels plain fits = absurd fits
number_reads (pos n) scale levels plain fits = λ behind other a. rw (number_read n scale fits.0 fits.1 (length (text_of (number_words (pos n) scale)) + behind) other) refl

pub text_reads : (z : Text) → ReadsWell (text z)
unfolding prim kind same_kind
text_reads z levels plain fits = λ behind other a. rw (text_read z fits (length (text_of (quoted_word z ∷ [])) + behind) other) refl

pub field_reads : (r : Reference) → ReadsWell (field r)
unfolding prim kind same_kind
field_reads r levels plain fits = λ behind other a. rw (reference_read r fits behind other tt) refl

pub negative_reads : (x : Expression) → ReadsWell x → ReadsWell (negative x)
unfolding prim kind same_kind minus expr_at
negative_reads x h zero plain fits = absurd fits
negative_reads x h (suc levels) plain fits = λ behind other a.
    let e = factor_of x h levels plain fits behind other a in
    let o = level_opens levels (record { kind = k.Minus; spelling = spelling_of k.Minus; left = length (text_of (expression_words (negative x))) + behind }) (labelled (guarded (is_guarded by.Times x) (expression_words x)) behind other) in
    rw o (rw e refl)

pub count_reads : (r : Ranging) → RangingRead r → ReadsWell (count r)
unfolding prim kind same_kind statistic_by g.count expect sees next
count_reads r h levels true fits = true-false fits.0
count_reads r h zero false fits = absurd fits.2
count_reads r h (suc levels) false fits = λ behind other a.
    let e = h levels true fits.1 fits.2 behind other a in
    let o = level_opens levels (record { kind = k.Count; spelling = spelling_of k.Count; left = length (text_of (expression_words (count r))) + behind }) (labelled (word k.Of ∷ ranging_words r) behind other) in
    rw o (rw e refl)

after_of : (tail : Bool) → Behind tail AfterExpr k.Of
unfolding same_kind
after_of true = ((((refl, refl), refl), refl, refl), refl, refl)
after_of false = (((refl, refl), refl), refl, refl)

statistic_body : (s : Statistic) (x : Expression) (r : Ranging) → ReadsWell x → RangingRead r → (levels : ℕ) → IsSingle r → FitsExpression x levels true → FitsRanging r levels →
    Reads (g.statistic (level_at (suc levels)) s) (expression_words x ++ word k.Of ∷ ranging_words r) (built (statistic s x r)) (Behind (has_condition r) AfterPrim)
unfolding g.statistic expr_at expect sees next kind same_kind
statistic_body s x r hx hr levels one fx fr behind other a =
    let e = in_front (expr (level_at levels) true) (expression_words x) (built x) (Behind (is_open x) AfterExpr) (whole_of x hx levels true fx) (word k.Of ∷ ranging_words r) behind other (after_of (is_open x)) in
    rw e (rw (hr levels true one fr behind other a) refl)

pub statistic_reads : (s : Statistic) (x : Expression) (r : Ranging) → ReadsWell x → RangingRead r → ReadsWell (statistic s x r)
unfolding prim kind same_kind statistic_by
statistic_reads s x r hx hr levels true fits = true-false fits.0
statistic_reads s x r hx hr zero false fits = absurd fits.2
statistic_reads of.Total x r hx hr (suc levels) false fits = λ behind other a.
    let e = statistic_body of.Total x r hx hr levels fits.1 fits.2.0 fits.2.1 behind other a in
    let o = level_opens levels (record { kind = k.Total; spelling = spelling_of k.Total; left = length (text_of (expression_words (statistic of.Total x r))) + behind }) (labelled (expression_words x ++ word k.Of ∷ ranging_words r) behind other) in
    rw o (rw e refl)
statistic_reads of.Minimum x r hx hr (suc levels) false fits = λ behind other a.
    let e = statistic_body of.Minimum x r hx hr levels fits.1 fits.2.0 fits.2.1 behind other a in
    let o = level_opens levels (record { kind = k.Min; spelling = spelling_of k.Min; left = length (text_of (expression_words (statistic of.Minimum x r))) + behind }) (labelled (expression_words x ++ word k.Of ∷ ranging_words r) behind other) in
    rw o (rw e refl)
statistic_reads of.Maximum x r hx hr (suc levels) false fits = λ behind other a.
    let e = statistic_body of.Maximum x r hx hr levels fits.1 fits.2.0 fits.2.1 behind other a in
    let o = level_opens levels (record { kind = k.Max; spelling = spelling_of k.Max; left = length (text_of (expression_words (statistic of.Maximum x r))) + behind }) (labelled (expression_words x ++ word k.Of ∷ ranging_words r) behind other) in
    rw o (rw e refl)

-- ---- tests

pub after_literal : (kind : Kind) → AfterCondition kind → (tail : Bool) → Behind tail AfterExpr kind
after_literal kind a true = a
after_literal kind a false = a.0

operator_of : (o : Comparison) → operator (comparison_kind o) ≡ Some o
operator_of op.Equal = refl
operator_of op.NotEqual = refl
operator_of op.Greater = refl
operator_of op.GreaterEqual = refl
operator_of op.Less = refl
operator_of op.LessEqual = refl

operator_follows : (o : Comparison) → AfterCondition (comparison_kind o)
unfolding same_kind
operator_follows op.Equal = ((((refl, refl), refl), refl, refl), refl, refl)
operator_follows op.NotEqual = ((((refl, refl), refl), refl, refl), refl, refl)
operator_follows op.Greater = ((((refl, refl), refl), refl, refl), refl, refl)
operator_follows op.GreaterEqual = ((((refl, refl), refl), refl, refl), refl, refl)
operator_follows op.Less = ((((refl, refl), refl), refl, refl), refl, refl)
operator_follows op.LessEqual = ((((refl, refl), refl), refl, refl), refl, refl)

compares : (level : Level) (kind : Kind) → same_kind kind k.Not ≡ false → same_kind kind k.Open ≡ false → same_kind kind k.Any ≡ false → g.test_by level kind ≡ g.compare level
unfolding same_kind
compares level k.Not n o a = true-false n
compares level k.Open n o a = true-false o
compares level k.Any n o a = true-false a
compares level kind n o a = refl

-- an expression begins with no word of a test
abbrev BeginsNoTest : List Spelled → Type 0
BeginsNoTest [] = Unit {0}
BeginsNoTest (w ∷ ws) = (same_kind w.kind k.Not ≡ false) × (same_kind w.kind k.Any ≡ false)

begins-append : (ws vs : List Spelled) → BeginsNoTest ws → BeginsNoTest vs → BeginsNoTest (ws ++ vs)
begins-append [] vs h k = k
begins-append (w ∷ ws) vs h k = h

guarded_begins : (b : Bool) (ws : List Spelled) → BeginsNoTest ws → BeginsNoTest (guarded b ws)
unfolding same_kind
guarded_begins true ws h = (refl, refl)
guarded_begins false ws h = h

operations_begin : (os : Operations) → BeginsNoTest (operations_words os)
unfolding same_kind
operations_begin no_operation = tt
operations_begin (operation by.Plus x os) = (refl, refl)
operations_begin (operation by.Minus x os) = (refl, refl)
operations_begin (operation by.Times x os) = (refl, refl)

expression_begins : (x : Expression) → BeginsNoTest (expression_words x)
unfolding same_kind
expression_begins (number (pos n) scale) = (refl, refl)
expression_begins (number (negsuc n) scale) = tt
expression_begins (text z) = (refl, refl)
expression_begins (field r) = (refl, refl)
expression_begins (negative x) = (refl, refl)
expression_begins (chain x os) =
    begins-append (guarded (is_first_guarded os x) (expression_words x)) (operations_words os) (guarded_begins (is_first_guarded os x) (expression_words x) (expression_begins x)) (operations_begin os)
expression_begins (count r) = (refl, refl)
expression_begins (statistic of.Total x r) = (refl, refl)
expression_begins (statistic of.Minimum x r) = (refl, refl)
expression_begins (statistic of.Maximum x r) = (refl, refl)

test_compares : (level : Level) (ws vs : List Spelled) → ComparesFrom ws → BeginsNoTest ws → (behind : ℕ) (other : Input) → g.one_test level (labelled (ws ++ vs) behind other) ≡ g.compare level (labelled (ws ++ vs) behind other)
unfolding g.one_test kind
test_compares level [] vs c b behind other = absurd c
test_compares level (w ∷ ws) vs c b behind other = rw (compares level w.kind b.0 c b.1) refl

-- a left operand, before what is compared with it
left_read : (a : Expression) → ReadsWell a → (levels : ℕ) → FitsExpression a levels false → ComparesFrom (expression_words a) → (vs : List Spelled) (behind : ℕ) (other : Input) →
    AfterCondition (kind (labelled vs behind other)) → g.one_test (level_at levels) (labelled (expression_words a ++ vs) behind other) ≡ compare_after (level_at levels) (built a) (labelled vs behind other)
unfolding g.compare
left_read a h levels fits from vs behind other f =
    test_compares (level_at levels) (expression_words a) vs from (expression_begins a) behind other
    ∙ rw (in_front (expr (level_at levels) false) (expression_words a) (built a) (Behind (is_open a) AfterExpr) (whole_of a h levels false fits) vs behind other (after_literal (kind (labelled vs behind other)) f (is_open a))) refl

abbrev pub TestRead : Testing → Type 0
TestRead t = (levels : ℕ) (last : Bool) → FitsTest t levels last → Reads (g.one_test (level_at levels)) (test_words t) (built_test t) (Behind last AfterExpr)

closed_after : (last : Bool) (kind : Kind) → Behind last AfterExpr kind → AfterExpr kind
closed_after true kind a = a.0
closed_after false kind a = a

pub compare_read : (o : Comparison) (a b : Expression) → ReadsWell a → ReadsWell b → TestRead (compare o a b)
unfolding compare_after compared kind next
compare_read o a b ha hb levels last fits behind other after =
    let e = left_read a ha levels fits.0 fits.1 (word (comparison_kind o) ∷ guarded (is_open b) (expression_words b)) behind other (operator_follows o) in
    e ∙ rw (operator_of o) (rw (closed_of b hb levels false fits.2 behind other (closed_after last (kind other) after)) refl)

pub containing_read : (a b : Expression) → ReadsWell a → ReadsWell b → TestRead (containing a b)
unfolding compare_after kind next same_kind
containing_read a b ha hb levels last fits behind other after =
    let e = left_read a ha levels fits.0 fits.1 (word k.Containing ∷ guarded (is_open b) (expression_words b)) behind other ((((refl, refl), refl), refl, refl), refl, refl) in
    e ∙ rw (closed_of b hb levels false fits.2 behind other (closed_after last (kind other) after)) refl

pub starting_read : (a b : Expression) → ReadsWell a → ReadsWell b → TestRead (starting_with a b)
unfolding compare_after kind next same_kind expect sees
starting_read a b ha hb levels last fits behind other after =
    let e = left_read a ha levels fits.0 fits.1 (word k.Starting ∷ word k.With ∷ guarded (is_open b) (expression_words b)) behind other ((((refl, refl), refl), refl, refl), refl, refl) in
    e ∙ rw (closed_of b hb levels false fits.2 behind other (closed_after last (kind other) after)) refl

pub missing_read : (a : Expression) → ReadsWell a → TestRead (missing a)
unfolding compare_after kind next same_kind
missing_read a ha levels last fits behind other after =
    left_read a ha levels fits.0 fits.1 (word k.Missing ∷ []) behind other ((((refl, refl), refl), refl, refl), refl, refl)

pub between_read : (a low high : Expression) → ReadsWell a → ReadsWell low → ReadsWell high → TestRead (between a low high)
unfolding compare_after between_after kind next same_kind expect sees
between_read a low high ha hl hh levels last fits behind other after =
    let e = left_read a ha levels fits.0 fits.1 (word k.Between ∷ guarded (is_open low) (expression_words low) ++ (word k.And ∷ guarded (is_open high) (expression_words high))) behind other ((((refl, refl), refl), refl, refl), refl, refl) in
    let l = in_front (expr (level_at levels) false) (guarded (is_open low) (expression_words low)) (built low) AfterExpr (closed_of low hl levels false fits.2) (word k.And ∷ guarded (is_open high) (expression_words high)) behind other (((refl, refl), refl), refl, refl) in
    let h = closed_of high hh levels false fits.3 behind other (closed_after last (kind other) after) in
    e ∙ rw l (rw h refl)

any_after : (last inside : Bool) (kind : Kind) → EndsIn last inside → Behind last AfterExpr kind → Behind inside AfterPrim kind
any_after true true kind ends a = a
any_after true false kind ends a = a.0.0.0
any_after false true kind ends a = false-true ends
any_after false false kind ends a = a.0.0

pub any_read : (r : Ranging) → RangingRead r → TestRead (any r)
unfolding g.one_test any_inner kind same_kind
any_read r h zero last fits = absurd fits.1
any_read r h (suc levels) last fits = λ behind other a.
    let e = h levels false tt fits.1 behind other (any_after last (has_condition r) (kind other) fits.0 a) in
    let o = level_opens levels (record { kind = k.Any; spelling = spelling_of k.Any; left = length (text_of (test_words (any r))) + behind }) (labelled (ranging_words r) behind other) in
    rw o (rw e refl)

pub negated_read : (t : Testing) → TestRead t → TestRead (negated t)
unfolding g.one_test negated_test test_at kind same_kind
negated_read t h zero last fits = absurd fits
negated_read t h (suc levels) last fits = λ behind other a.
    let e = h levels last fits behind other a in
    let o = level_opens levels (record { kind = k.Not; spelling = spelling_of k.Not; left = length (text_of (test_words (negated t))) + behind }) (labelled (test_words t) behind other) in
    rw o (rw e refl)

pub group_read : (c : Condition) → ConditionRead c → TestRead (group c)
unfolding g.one_test grouped cond_at kind same_kind expect sees next
group_read c h zero last fits = absurd fits
group_read c h (suc levels) last fits = λ behind other a.
    let e = in_front (g.cond (level_at levels)) (condition_words c) (built_condition c) AfterCondition (h levels fits) (word k.Close ∷ []) behind other ((((refl, refl), refl), refl, refl), refl, refl) in
    let o = level_opens levels (record { kind = k.Open; spelling = spelling_of k.Open; left = length (text_of (test_words (group c))) + behind }) (labelled (condition_words c ++ word k.Close ∷ []) behind other) in
    rw o (rw e refl)

-- ---- tests joined by AND

-- what may stand behind a conjunction
abbrev pub AfterConjunction : Bool → Kind → Type 0
AfterConjunction last kind = Behind last AfterExpr kind × (same_kind kind k.And ≡ false)

after_test : (last : Bool) (ts : Conjunction) (behind : ℕ) (other : Input) → AfterConjunction last (kind other) → Behind (last && is_last_test ts) AfterExpr (kind (labelled (tests_words ts) behind other))
unfolding kind same_kind
after_test true no_test behind other a = a.0
after_test false no_test behind other a = a.0
after_test true (test t ts) behind other a = (((refl, refl), refl), refl, refl)
after_test false (test t ts) behind other a = (((refl, refl), refl), refl, refl)

abbrev pub TestsRead : Conjunction → Type 0
TestsRead ts = (levels : ℕ) (last : Bool) → FitsTests ts levels last → (turns : ℕ) (found : List declared_test.Test) (behind : ℕ) (other : Input) → length (built_tests ts) ≤ turns → AfterConjunction last (kind other) →
    more_from k.And (g.one_test (level_at levels)) turns found (labelled (tests_words ts) behind other) ≡ Ok (found ++ built_tests ts, other)

pub no_more_tests : TestsRead no_test
unfolding more_from sees after kind
no_more_tests levels last fits zero found behind other l a = ap (λ (v : List declared_test.Test). Ok (v, other)) (sym (append-nil found))
no_more_tests levels last fits (suc turns) found behind other l a = rw a.1 (ap (λ (v : List declared_test.Test). Ok (v, other)) (sym (append-nil found)))

pub more_tests : (t : Testing) (ts : Conjunction) → TestRead t → TestsRead ts → TestsRead (test t ts)
unfolding more_from sees after kind next same_kind
more_tests t ts h more levels last fits zero found behind other l a = absurd (omega arith)
more_tests t ts h more levels last fits (suc turns) found behind other l a =
    let one = in_front (g.one_test (level_at levels)) (test_words t) (built_test t) (Behind (last && is_last_test ts) AfterExpr) (h levels (last && is_last_test ts) fits.0) (tests_words ts) behind other (after_test last ts behind other a) in
    let l2 : length (built_tests ts) ≤ turns = omega arith in
    rw one (more levels last fits.1 turns (found ++ built_test t ∷ []) behind other l2 a ∙ ap (λ (v : List declared_test.Test). Ok (v, other)) (append_assoc found (built_test t ∷ []) (built_tests ts)))

test_turns : (ts : Conjunction) → length (built_tests ts) ≤ length (text_of (tests_words ts))
test_turns no_test = omega arith
test_turns (test t ts) =
    let h = test_turns ts in
    let e = length_text (test_words t) (tests_words ts) in
    let f = length-append (spelling_of k.And) (32 ∷ text_of (test_words t ++ tests_words ts)) in
    rw f (omega arith)

test_turns_left : (ts : Conjunction) (behind : ℕ) (other : Input) → length (built_tests ts) ≤ left (labelled (tests_words ts) behind other)
unfolding left
test_turns_left no_test behind other = omega arith
test_turns_left (test t ts) behind other = let h = test_turns (test t ts) in omega arith

abbrev pub ConjunctionRead : Conjunction → Type 0
ConjunctionRead c = (levels : ℕ) (last : Bool) → FitsConjunction c levels last → Reads (conj (level_at levels)) (conjunction_words c) (roll-Conjunction (record { tests = built_tests c })) (AfterConjunction last)

pub conjunction_read : (t : Testing) (ts : Conjunction) → TestRead t → TestsRead ts → ConjunctionRead (test t ts)
unfolding conj tests separated
conjunction_read t ts h more levels last fits behind other a =
    let one = in_front (g.one_test (level_at levels)) (test_words t) (built_test t) (Behind (last && is_last_test ts) AfterExpr) (h levels (last && is_last_test ts) fits.0) (tests_words ts) behind other (after_test last ts behind other a) in
    let all = more levels last fits.1 (left (labelled (tests_words ts) behind other)) (built_test t ∷ []) behind other (test_turns_left ts behind other) a in
    rw one (rw all refl)

-- ---- conjunctions joined by OR

after_conjunction : (cs : Condition) (behind : ℕ) (other : Input) → AfterCondition (kind other) → AfterConjunction (is_last_conjunction cs) (kind (labelled (conjunctions_words cs) behind other))
unfolding kind same_kind
after_conjunction no_conjunction behind other a = (a, a.1)
after_conjunction (conjunction c cs) behind other a = ((((refl, refl), refl), refl, refl), refl)

abbrev pub ConjunctionsRead : Condition → Type 0
ConjunctionsRead cs = (levels : ℕ) → FitsConjunctions cs levels → (turns : ℕ) (found : List declared_conjunction.Conjunction) (behind : ℕ) (other : Input) → length (built_conjunctions cs) ≤ turns → AfterCondition (kind other) →
    more_from k.Or (conj (level_at levels)) turns found (labelled (conjunctions_words cs) behind other) ≡ Ok (found ++ built_conjunctions cs, other)

pub no_more_conjunctions : ConjunctionsRead no_conjunction
unfolding more_from sees after kind
no_more_conjunctions levels fits zero found behind other l a = ap (λ (v : List declared_conjunction.Conjunction). Ok (v, other)) (sym (append-nil found))
no_more_conjunctions levels fits (suc turns) found behind other l a = rw a.2 (ap (λ (v : List declared_conjunction.Conjunction). Ok (v, other)) (sym (append-nil found)))

pub more_conjunctions : (c : Conjunction) (cs : Condition) → ConjunctionRead c → ConjunctionsRead cs → ConjunctionsRead (conjunction c cs)
unfolding more_from sees after kind next same_kind
more_conjunctions c cs h more levels fits zero found behind other l a = absurd (omega arith)
more_conjunctions c cs h more levels fits (suc turns) found behind other l a =
    let v : declared_conjunction.Conjunction = roll-Conjunction (record { tests = built_tests c }) in
    let one = in_front (conj (level_at levels)) (conjunction_words c) v (AfterConjunction (is_last_conjunction cs)) (h levels (is_last_conjunction cs) fits.0) (conjunctions_words cs) behind other (after_conjunction cs behind other a) in
    let l2 : length (built_conjunctions cs) ≤ turns = omega arith in
    rw one (more levels fits.1 turns (found ++ v ∷ []) behind other l2 a ∙ ap (λ (w : List declared_conjunction.Conjunction). Ok (w, other)) (append_assoc found (v ∷ []) (built_conjunctions cs)))

conjunction_turns : (cs : Condition) → length (built_conjunctions cs) ≤ length (text_of (conjunctions_words cs))
conjunction_turns no_conjunction = omega arith
conjunction_turns (conjunction c cs) =
    let h = conjunction_turns cs in
    let e = length_text (conjunction_words c) (conjunctions_words cs) in
    let f = length-append (spelling_of k.Or) (32 ∷ text_of (conjunction_words c ++ conjunctions_words cs)) in
    rw f (omega arith)

conjunction_turns_left : (cs : Condition) (behind : ℕ) (other : Input) → length (built_conjunctions cs) ≤ left (labelled (conjunctions_words cs) behind other)
unfolding left
conjunction_turns_left no_conjunction behind other = omega arith
conjunction_turns_left (conjunction c cs) behind other = let h = conjunction_turns (conjunction c cs) in omega arith

pub condition_read : (c : Conjunction) (cs : Condition) → ConjunctionRead c → ConjunctionsRead cs → ConditionRead (conjunction c cs)
unfolding g.cond conjunctions separated
condition_read c cs h more levels fits behind other a =
    let v : declared_conjunction.Conjunction = roll-Conjunction (record { tests = built_tests c }) in
    let one = in_front (conj (level_at levels)) (conjunction_words c) v (AfterConjunction (is_last_conjunction cs)) (h levels (is_last_conjunction cs) fits.0) (conjunctions_words cs) behind other (after_conjunction cs behind other a) in
    let all = more levels fits.1 (left (labelled (conjunctions_words cs) behind other)) (v ∷ []) behind other (conjunction_turns_left cs behind other) a in
    rw one (rw all refl)
