-- What is printed of assignments, of what is shown and of the clauses behind a condition is read as it.
use Rattle.std.proofs.Common.{◌≡◌, ℕ, zero, suc, ◌+◌, ◌≤◌, Bool, true, false, List, [], ◌∷◌, ◌++◌, map, length, Ok, Err, refl, ap, sym, ◌∙◌, append_assoc, append-nil, arith}
use Rattle.std.specs.List.{AllByRecursion, flat_map}
use Rattle.std.proofs.lemmas.List.{length-append, map-id}
use Rattle.rdo_ast.specs.declared.syntax.Reference.{Reference}
use Rattle.rdo_ast.specs.declared.syntax.SortKey.{SortKey}
use Rattle.rdo_ast.specs.declared.syntax.Clause.{Clause}
use Rattle.rdo_ast.specs.declared.syntax.Clause.TheVariants as clause
use Rattle.rdo_ast.specs.declared.syntax.Expression as declared
use Rattle.rdo_ast.specs.declared.syntax.Expression.TheVariants as e
use Rattle.rdo_ast.specs.declared.syntax.Assign.{Assign}
use Rattle.rdo_ast.specs.declared.syntax.PrintItem.TheVariants as p
use Rattle.rdo_ast.specs.Tree.{Expression, Assignment, Shown, value, all_fields}
use Rattle.rdo_tokens.specs.declared.token.Kind.{Kind}
use Rattle.rdo_tokens.specs.declared.token.Kind.TheVariants as k
use Rattle.rdo_tokens.specs.Lex.{Text, same_kind}
use Rattle.rdo_tokens.specs.Input.{Input, Outcome, Parser, and_then, kind, next, left, sees, after, expect, name, pure}
use Rattle.rdo_grammar.specs.Grammar as g
use Rattle.rdo_grammar.specs.Grammar.{Level, level_at, prim, term, expr, term_after, expr_after, expr_with, reference, ref_from, assign, assigns_from, assigns, printed, printed_by, printed_name, printed_ref, printed_list, key, order, keys, references, sorted, reduced, sorted_only, reduced_only, shape, shape_by}
use Rattle.rdo_printer.specs.Words.{Spelled, word, name_word, text_of, separated_words}
use Rattle.rdo_printer.proofs.Labels.{labelled}
use Rattle.rdo_printer.specs.Trees.{reference_words, is_open, expression_words}
use Rattle.rdo_printer.specs.Commands.{assign_words, assigns_words, shown_words, key_words, clause_words}
use Rattle.rdo_printer.specs.Printable.{IsReference, IsKey, AreItems, AreClauses, FitsExpression, FitsAssign, FitsShown}
use Rattle.rdo_printer.proofs.Reading.{Reads, in_front, length_text, reference_read, name_read, Anything, separated_read}
use Rattle.rdo_printer.proofs.Operands.{AfterCondition}
use Rattle.rdo_printer.proofs.ExpressionLaws.{whole_of, true-false, false-true}
use Rattle.rdo_printer.proofs.ConditionLaws.{after_literal}
use Rattle.rdo_printer.proofs.TreeLaws.{expression_law}
use Rattle.rdo_printer.proofs.Built.{built, built_assign, built_shown}

-- a whole expression
pub expression_read : (x : Expression) (levels : ℕ) → FitsExpression x levels false → Reads (expr (level_at levels) false) (expression_words x) (built x) AfterCondition
expression_read x levels fits behind other a = whole_of x (expression_law x) levels false fits behind other (after_literal (kind other) a (is_open x))

-- ---- loops over words with no separator

pub flat_turns : {A : Type 0} (words : A → List Spelled) → ((x : A) → 1 ≤ length (text_of (words x))) → (xs : List A) → length xs ≤ length (text_of (flat_map words xs))
flat_turns words h [] = omega arith
flat_turns words h (x ∷ xs) = let l = flat_turns words h xs in let e = length_text (words x) (flat_map words xs) in let one = h x in omega arith

-- ---- assignments

pub assign_read : (levels : ℕ) (x : Assignment) → FitsAssign levels x → Reads (assign levels) (assign_words x) (built_assign x) Anything
unfolding assign expect sees kind next same_kind
assign_read levels x fits behind other a =
    let vs : List Spelled = word k.Equal ∷ expression_words x.right ++ (word k.Semicolon ∷ []) in
    let r = in_front reference (reference_words x.left) x.left Anything (reference_read x.left fits.0) vs behind other tt in
    let v = in_front (expr (level_at levels) false) (expression_words x.right) (built x.right) AfterCondition (expression_read x.right levels fits.1) (word k.Semicolon ∷ []) behind other ((((refl, refl), refl), refl, refl), refl, refl) in
    rw r (rw v refl)

word_long : (w : Spelled) (ws : List Spelled) → 1 ≤ length (text_of (w ∷ ws))
word_long w ws = let e = length-append w.spelling (32 ∷ text_of ws) in rw e (omega arith)

assign_long : (x : Assignment) → 1 ≤ length (text_of (assign_words x))
assign_long x = word_long (name_word x.left.variable) (word k.Dot ∷ name_word x.left.field ∷ word k.Equal ∷ expression_words x.right ++ (word k.Semicolon ∷ []))

assigns_left : (xs : List Assignment) (behind : ℕ) (other : Input) → length xs ≤ left (labelled (assigns_words xs) behind other)
unfolding left
assigns_left [] behind other = omega arith
assigns_left (x ∷ xs) behind other = let h = flat_turns assign_words assign_long (x ∷ xs) in omega arith

abbrev pub NotName : Kind → Type 0
NotName kind = same_kind kind k.Name ≡ false

more_assigns : (levels : ℕ) (xs : List Assignment) → AllByRecursion (FitsAssign levels) xs → (turns : ℕ) (found : List Assign) (behind : ℕ) (other : Input) → length xs ≤ turns → NotName (kind other) →
    assigns_from levels turns found (labelled (assigns_words xs) behind other) ≡ Ok (found ++ map built_assign xs, other)
unfolding assigns_from sees kind same_kind
more_assigns levels [] all zero found behind other l a = ap (λ (v : List Assign). Ok (v, other)) (sym (append-nil found))
more_assigns levels [] all (suc turns) found behind other l a = rw a (ap (λ (v : List Assign). Ok (v, other)) (sym (append-nil found)))
more_assigns levels (x ∷ xs) all zero found behind other l a = absurd (omega arith)
more_assigns levels (x ∷ xs) all (suc turns) found behind other l a =
    let one = in_front (assign levels) (assign_words x) (built_assign x) Anything (assign_read levels x all.0) (assigns_words xs) behind other tt in
    let l2 : length xs ≤ turns = omega arith in
    rw one (more_assigns levels xs all.1 turns (found ++ built_assign x ∷ []) behind other l2 a ∙ ap (λ (v : List Assign). Ok (v, other)) (append_assoc found (built_assign x ∷ []) (map built_assign xs)))

pub assigns_read : (levels : ℕ) (xs : List Assignment) → AllByRecursion (FitsAssign levels) xs → Reads (assigns levels) (assigns_words xs) (map built_assign xs) NotName
unfolding assigns
assigns_read levels xs all behind other a = more_assigns levels xs all (left (labelled (assigns_words xs) behind other)) [] behind other (assigns_left xs behind other) a

-- ---- what is shown

-- a value that comes out of a sequence came out of each step
came_out : {A B : Type 0} (r : Outcome A) (f : A → Parser B) (y : B × Input) → and_then r f ≡ Ok y → (x : A × Input) × (r ≡ Ok x) × (f x.0 x.1 ≡ Ok y)
came_out (Ok x) f y h = (x, refl, h)
came_out (Err rest) f y h = absurd (grind (arith, h))

is_name_kind : (kd : Kind) → same_kind kd k.Name ≡ true → kd ≡ k.Name
unfolding same_kind
is_name_kind k.Name h = refl
is_name_kind kd h = false-true h

name_comes : (i : Input) (y : Text × Input) → name i ≡ Ok y → kind i ≡ k.Name
unfolding name sees
name_comes i y h = by_test (same_kind (kind i) k.Name) refl
  where
    by_test : (b : Bool) → same_kind (kind i) k.Name ≡ b → kind i ≡ k.Name
    by_test true q = is_name_kind (kind i) q
    by_test false q = absurd (grind (arith, h, q))

-- an expr that begins with a name goes on from the ref
from_ref : (levels : ℕ) (i : Input) → kind i ≡ k.Name → expr (level_at levels) false i ≡ and_then (reference i) (λ r. expr_with (level_at levels) (e.Field r))
unfolding expr term prim expr_with
from_ref levels i q = rw q (by_outcome (reference i))
  where
    by_outcome : (r : Outcome Reference) →
        and_then (and_then (and_then r (λ r. pure (e.Field r))) (term_after (level_at levels) false)) (expr_after (level_at levels) false) ≡ and_then r (λ r. expr_with (level_at levels) (e.Field r))
    by_outcome (Ok x) = refl
    by_outcome (Err rest) = refl

printed_field : (levels : ℕ) (i : Input) (x : declared.Expression) (other : Input) → kind i ≡ k.Name → expr (level_at levels) false i ≡ Ok (x, other) → printed_name levels i ≡ Ok (p.Value x, other)
unfolding printed_name printed_ref reference ref_from sees after same_kind
printed_field levels i x other q h =
    let a = came_out (reference i) (λ r. expr_with (level_at levels) (e.Field r)) (x, other) (sym (from_ref levels i q) ∙ h) in
    let b = came_out (name i) (λ v j. and_then (expect k.Dot j) (λ _. ref_from v)) a.0 a.1 in
    let c = came_out (expect k.Dot b.0.1) (λ _. ref_from b.0.0) a.0 b.2 in
    let d = came_out (name c.0.1) (λ f. pure (record { variable = b.0.0; field = f })) a.0 c.2 in
    let n = name_comes c.0.1 d.0 d.1 in
    let star : same_kind (kind c.0.1) k.Star ≡ false = rw n refl in
    rw b.1 (rw c.1 (rw star (rw c.2 (rw a.2 refl))))

not_name : (levels : ℕ) (kd : Kind) → same_kind kd k.Name ≡ false → printed_by levels kd ≡ (λ i. and_then (expr (level_at levels) false i) (λ x. pure (p.Value x)))
unfolding same_kind
not_name levels k.Name h = true-false h
not_name levels kd h = refl

printed_value : (levels : ℕ) (i : Input) (x : declared.Expression) (other : Input) → expr (level_at levels) false i ≡ Ok (x, other) → printed levels i ≡ Ok (p.Value x, other)
unfolding printed
printed_value levels i x other h = by_test (same_kind (kind i) k.Name) refl
  where
    by_test : (b : Bool) → same_kind (kind i) k.Name ≡ b → printed levels i ≡ Ok (p.Value x, other)
    by_test true q = rw (is_name_kind (kind i) q) (printed_field levels i x other (is_name_kind (kind i) q) h)
    by_test false q = rw (not_name levels (kind i) q) (rw h refl)

pub shown_read : (levels : ℕ) (x : Shown) → FitsShown levels x → Reads (printed levels) (shown_words x) (built_shown x) AfterCondition
unfolding printed printed_name expect sees after kind next same_kind
shown_read levels (value x) fits behind other a = printed_value levels (labelled (expression_words x) behind other) (built x) other (expression_read x levels fits behind other a)
shown_read levels (all_fields n) fits behind other a = rw (name_read n fits (length (text_of (shown_words (all_fields n))) + behind) (labelled (word k.Dot ∷ word k.Star ∷ []) behind other)) refl

pub shown_list_read : (levels : ℕ) (xs : List Shown) → AreItems (FitsShown levels) xs → Reads (printed_list levels) (separated_words k.Comma shown_words xs) (map built_shown xs) (λ kd. AfterCondition kd × (same_kind kd k.Comma ≡ false))
unfolding printed_list same_kind
shown_list_read levels xs all behind other a =
    separated_read k.Comma (printed levels) shown_words built_shown (FitsShown levels) AfterCondition refl ((((refl, refl), refl), refl, refl), refl, refl) (λ x f. shown_read levels x f) xs all behind other a.0 a.1

-- ---- clauses

key_by : (descending : Bool) (r : Reference) → IsReference r → Reads key (key_words (record { descending = descending; reference = r })) (record { descending = descending; reference = r }) Anything
unfolding key order kind next same_kind
key_by true r h behind other a = rw (reference_read r h behind other tt) refl
key_by false r h behind other a = rw (reference_read r h behind other tt) refl

abbrev NotComma : Kind → Type 0
NotComma kd = same_kind kd k.Comma ≡ false

keys_read : (xs : List SortKey) → AreItems IsKey xs → Reads keys (separated_words k.Comma key_words xs) xs NotComma
unfolding keys same_kind
keys_read xs all behind other a =
    separated_read k.Comma key key_words (λ x. x) IsKey Anything refl tt (λ x f. key_by x.descending x.reference f) xs all behind other tt a ∙ ap (λ (v : List SortKey). Ok (v, other)) (map-id xs)

refs_read : (xs : List Reference) → AreItems IsReference xs → Reads references (separated_words k.Comma reference_words xs) xs NotComma
unfolding references same_kind
refs_read xs all behind other a =
    separated_read k.Comma reference reference_words (λ x. x) IsReference Anything refl tt (λ x f. reference_read x f) xs all behind other tt a ∙ ap (λ (v : List Reference). Ok (v, other)) (map-id xs)

abbrev pub AfterClauses : Kind → Type 0
AfterClauses kd = (same_kind kd k.Comma ≡ false) × (same_kind kd k.Sorted ≡ false) × (same_kind kd k.Reduced ≡ false)

no_shape : (kd : Kind) → AfterClauses kd → shape_by kd ≡ pure []
unfolding same_kind
no_shape k.Sorted a = true-false a.1
no_shape k.Reduced a = true-false a.2
no_shape kd a = refl

pub shape_read : (cs : List Clause) → AreClauses cs → Reads shape (flat_map clause_words cs) cs AfterClauses
unfolding shape sorted reduced sorted_only reduced_only expect sees after kind next same_kind
shape_read [] all behind other a = rw (no_shape (kind other) a) refl
shape_read (clause.Sorted keys ∷ []) all behind other a =
    rw (in_front g.keys (separated_words k.Comma key_words keys) keys NotComma (keys_read keys all) [] behind other a.0) (rw a.2 refl)
shape_read (clause.Reduced refs ∷ []) all behind other a =
    rw (in_front references (separated_words k.Comma reference_words refs) refs NotComma (refs_read refs all) [] behind other a.0) (rw a.1 refl)
shape_read (clause.Sorted keys ∷ clause.Reduced refs ∷ []) all behind other a =
    let vs : List Spelled = clause_words (clause.Reduced refs) ++ [] in
    rw (in_front g.keys (separated_words k.Comma key_words keys) keys NotComma (keys_read keys all.0) vs behind other refl)
    (rw (in_front references (separated_words k.Comma reference_words refs) refs NotComma (refs_read refs all.1) [] behind other a.0) refl)
shape_read (clause.Reduced refs ∷ clause.Sorted keys ∷ []) all behind other a =
    let vs : List Spelled = clause_words (clause.Sorted keys) ++ [] in
    rw (in_front references (separated_words k.Comma reference_words refs) refs NotComma (refs_read refs all.0) vs behind other refl)
    (rw (in_front g.keys (separated_words k.Comma key_words keys) keys NotComma (keys_read keys all.1) [] behind other a.0) refl)
shape_read cs all behind other a = absurd all
