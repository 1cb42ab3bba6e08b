-- One step of the loops over operations, tests, positions and indexes.
use Rattle.std.proofs.Common.{◌≡◌, ℕ, ◌+◌, ◌<◌, Bool, true, false, ◌&&◌, List, [], ◌∷◌, ◌++◌, map, length, get_or, drop, Option, Some, None, Result, Ok, Err, IfOk, if◌then◌else◌, refl, ap, sym, ◌∙◌, rules}
use Rattle.std.specs.Option.{option_or}
use Rattle.rdb_types.specs.declared.values.FieldType.{FieldType}
use Rattle.rdo_ast.specs.declared.syntax.Comparison.{Comparison}
use Rattle.rdo_ast.specs.declared.syntax.Comparison.TheVariants as by
use Rattle.std.proofs.lemmas.List.{at_drop_more}
use Rattle.rdb_meaning.specs.Contents.{Row}
use Rattle.rdo_values.specs.declared.bound.BoundExpression as tree
use Rattle.rdo_values.specs.declared.bound.BoundOperation.{BoundOperation}
use Rattle.rdo_values.specs.declared.bound.BoundTest.{BoundTest}
use Rattle.rdo_values.specs.Tree.{Expression}
use Rattle.rdo_values.specs.Views.{operations_of, applied_of, expression_of, testing_of, conjunction_with}
use Rattle.rdo_values.specs.Filled.{value_at}
use Rattle.access_paths.specs.declared.limits.Limited.{Limited}
use Rattle.access_paths.specs.declared.equated.Equated.{Equated}
use Rattle.access_paths.specs.Serving.{Asked, is_before, are_before, kind_at, turned, is_bounding, is_equating, asked_if, asked_by, asked_between, asked_of, asked_in}
use Rattle.access_paths.specs.Limits.{narrowed_by, narrowed_from}
use Rattle.access_paths.specs.Equated.{equated_with, first_equated}

at_item : {X Y : Type 0} (F : List X → Y) (xs : List X) (i : ℕ) (x : X) → i < length xs → x ≡ get_or xs i x → F (drop i xs) ≡ F (x ∷ drop (i + 1) xs)
at_item F xs i x h e = at_drop_more F xs i x h ∙ ap (λ y. F (y ∷ drop (i + 1) xs)) (sym e)

-- ---- operations

abbrev pub all_before : ℕ → List BoundOperation → Bool
all_before start os = are_before start (operations_of (map applied_of os))

first_before : (start : ℕ) (o : BoundOperation) (os : List BoundOperation) → all_before start (o ∷ os) ≡ (is_before start (expression_of o.operand) && all_before start os)
first_before start o os = search (rules, tree.the_lemmas)

pub before_more : (start : ℕ) (os : List BoundOperation) (i : ℕ) (o : BoundOperation) (total b : Bool) → i < length os → o ≡ get_or os i o → total ≡ all_before start (drop i os) → is_before start (expression_of o.operand) ≡ b → total ≡ (b && all_before start (drop (i + 1) os))
before_more start os i o total b h e inv c =
    inv ∙ at_item (all_before start) os i o h e ∙ first_before start o (drop (i + 1) os) ∙ ap (λ b. b && all_before start (drop (i + 1) os)) c

-- ---- tests

abbrev pub asked_by_tests : ℕ → ℕ → List BoundTest → List Asked
asked_by_tests start place tests = asked_in start place (conjunction_with (map testing_of tests))

pub narrowed_from-append : (rows : Row) (l : Limited) (xs ys : List Asked) → narrowed_from rows l (xs ++ ys) ≡ narrowed_from rows (narrowed_from rows l xs) ys
narrowed_from-append rows l [] ys = refl
narrowed_from-append rows l (x ∷ xs) ys = narrowed_from-append rows (narrowed_by x.op x.kind (value_at rows x.other) l) xs ys

pub narrowed_more : (rows : Row) (place : ℕ) (tests : List BoundTest) (i : ℕ) (x : BoundTest) (total l m : Limited) → i < length tests → x ≡ get_or tests i x → total ≡ narrowed_from rows l (asked_by_tests (length rows) place (drop i tests)) → m ≡ narrowed_from rows l (asked_of (length rows) place (testing_of x)) → total ≡ narrowed_from rows m (asked_by_tests (length rows) place (drop (i + 1) tests))
narrowed_more rows place tests i x total l m h e inv c =
    inv ∙ at_item (λ ts. narrowed_from rows l (asked_by_tests (length rows) place ts)) tests i x h e
    ∙ narrowed_from-append rows l (asked_of (length rows) place (testing_of x)) (asked_by_tests (length rows) place (drop (i + 1) tests))
    ∙ ap (λ m. narrowed_from rows m (asked_by_tests (length rows) place (drop (i + 1) tests))) (sym c)

pub narrowed_twice : (rows : Row) (l m r : Limited) (xs ys : List Asked) → m ≡ narrowed_from rows l xs → r ≡ narrowed_from rows m ys → r ≡ narrowed_from rows l (xs ++ ys)
narrowed_twice rows l m r xs ys c d = d ∙ ap (λ m. narrowed_from rows m ys) c ∙ sym (narrowed_from-append rows l xs ys)

pub narrowed_twice_if : {E : Type 0} (rows : Row) (l m : Limited) (r : Result Limited E) (xs ys : List Asked) → m ≡ narrowed_from rows l xs → IfOk r (λ r. r ≡ narrowed_from rows m ys) → IfOk r (λ r. r ≡ narrowed_from rows l (xs ++ ys))
narrowed_twice_if rows l m (Ok r) xs ys c d = narrowed_twice rows l m r xs ys c d
narrowed_twice_if rows l m (Err e) xs ys c d = tt

pub first_equated-append : (rows : Row) (xs ys : List Asked) → first_equated rows (xs ++ ys) ≡ option_or (first_equated rows xs) (first_equated rows ys)
first_equated-append rows [] ys = refl
first_equated-append rows (x ∷ xs) ys =
    elim (is_equating x.op) as (λ b. (if b then Some (equated_with x.kind (value_at rows x.other)) else first_equated rows (xs ++ ys)) ≡ option_or (if b then Some (equated_with x.kind (value_at rows x.other)) else first_equated rows xs) (first_equated rows ys)) [ true ↦ refl | false ↦ first_equated-append rows xs ys ]

pub equated_more : (rows : Row) (place : ℕ) (tests : List BoundTest) (i : ℕ) (x : BoundTest) (total e : Option Equated) → i < length tests → x ≡ get_or tests i x → total ≡ first_equated rows (asked_by_tests (length rows) place (drop i tests)) → e ≡ first_equated rows (asked_of (length rows) place (testing_of x)) → total ≡ option_or e (first_equated rows (asked_by_tests (length rows) place (drop (i + 1) tests)))
equated_more rows place tests i x total e h k inv c =
    inv ∙ at_item (λ ts. first_equated rows (asked_by_tests (length rows) place ts)) tests i x h k
    ∙ first_equated-append rows (asked_of (length rows) place (testing_of x)) (asked_by_tests (length rows) place (drop (i + 1) tests))
    ∙ ap (λ e. option_or e (first_equated rows (asked_by_tests (length rows) place (drop (i + 1) tests)))) (sym c)

pub equated_found : (rows : Row) (place : ℕ) (tests : List BoundTest) (i : ℕ) (x : BoundTest) (total e : Option Equated) (v : Equated) → i < length tests → x ≡ get_or tests i x → total ≡ first_equated rows (asked_by_tests (length rows) place (drop i tests)) → e ≡ first_equated rows (asked_of (length rows) place (testing_of x)) → e ≡ Some v → Some v ≡ total
equated_found rows place tests i x total e v h k inv c d =
    sym (equated_more rows place tests i x total e h k inv c ∙ ap (λ e. option_or e (first_equated rows (asked_by_tests (length rows) place (drop (i + 1) tests)))) d)

pub equated_passed : (rows : Row) (place : ℕ) (tests : List BoundTest) (i : ℕ) (x : BoundTest) (total e : Option Equated) → i < length tests → x ≡ get_or tests i x → total ≡ first_equated rows (asked_by_tests (length rows) place (drop i tests)) → e ≡ first_equated rows (asked_of (length rows) place (testing_of x)) → e ≡ None → total ≡ first_equated rows (asked_by_tests (length rows) place (drop (i + 1) tests))
equated_passed rows place tests i x total e h k inv c d =
    equated_more rows place tests i x total e h k inv c ∙ ap (λ e. option_or e (first_equated rows (asked_by_tests (length rows) place (drop (i + 1) tests)))) d

-- no other comparison equates

one_unequated : (rows : Row) (b : Bool) (op : Comparison) (e : Expression) (kind : Option FieldType) → is_equating op ≡ false → first_equated rows (asked_if b op e kind) ≡ None
one_unequated rows true op e (Some kind) h = ap (λ b. if b then Some (equated_with kind (value_at rows e)) else None) h
one_unequated rows true op e None h = refl
one_unequated rows false op e kind h = refl

pub unequated : (rows : Row) (start place : ℕ) (op other : Comparison) (a b c d : Expression) → is_equating op ≡ false → is_equating other ≡ false → first_equated rows (asked_by start place op a b ++ asked_by start place other c d) ≡ None
unequated rows start place op other a b c d h k =
    first_equated-append rows (asked_by start place op a b) (asked_by start place other c d)
    ∙ ap (λ e. option_or e (first_equated rows (asked_by start place other c d))) (one_unequated rows (is_bounding op && is_before start b) op b (kind_at place a) h)
    ∙ one_unequated rows (is_bounding other && is_before start d) other d (kind_at place c) k

pub between_unequated : (rows : Row) (both : Bool) (start place : ℕ) (a low high : Expression) → None ≡ first_equated rows (asked_between both start place a low high)
between_unequated rows true start place a low high = sym (unequated rows start place by.GreaterEqual by.LessEqual a low a high refl refl)
between_unequated rows false start place a low high = refl

pub turned_unequated : (op : Comparison) → is_equating op ≡ false → is_equating (turned op) ≡ false
turned_unequated by.Equal h = absurd (cc)
turned_unequated by.NotEqual h = refl
turned_unequated by.Greater h = refl
turned_unequated by.GreaterEqual h = refl
turned_unequated by.Less h = refl
turned_unequated by.LessEqual h = refl

pub equating : (op : Comparison) → is_equating op ≡ true → op ≡ by.Equal
equating by.Equal h = refl
equating by.NotEqual h = absurd (cc)
equating by.Greater h = absurd (cc)
equating by.GreaterEqual h = absurd (cc)
equating by.Less h = absurd (cc)
equating by.LessEqual h = absurd (cc)
