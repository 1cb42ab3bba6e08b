-- What is printed of an expression or a condition is read as it.
use Rattle.std.proofs.Common.{◌≡◌, ℕ, zero, suc, ◌≤◌, true, false, List, [], ◌∷◌, ◌++◌, length, Ok, refl, ap, sym, ◌∙◌, append_assoc, append-nil, arith}
use Rattle.std.proofs.lemmas.List.{length-append}
use Rattle.rdo_ast.specs.declared.syntax.Arithmetic.{Arithmetic}
use Rattle.rdo_ast.specs.declared.syntax.Arithmetic.TheVariants as by
use Rattle.rdo_ast.specs.declared.syntax.Operation as declared_operation
use Rattle.rdo_ast.specs.Tree.{Expression, chain, Operations, no_operation, operation}
use Rattle.rdo_tokens.specs.Lex.{same_kind}
use Rattle.rdo_tokens.specs.Input.{Input, kind, next, left, sees, after}
use Rattle.rdo_grammar.specs.Grammar as g
use Rattle.rdo_grammar.specs.Grammar.{Level, level_at, Plain, prim, term, expr, term_after, expr_after, products, products_from, sums, sums_from, signed_term, chained, open_level, minus, statistic_by, inner, first, ranges, range, crossed, with, cond_at, test_at, expr_at}
use Rattle.rdo_printer.specs.Words.{spelling_of, text_of}
use Rattle.rdo_printer.proofs.Labels.{labelled}
use Rattle.rdo_printer.specs.Trees.{guarded, operator_kind, is_open, is_chain, is_sum, is_guarded, expression_words, operations_words}
use Rattle.rdo_printer.specs.Printable.{Guarded, AreOperations, FitsExpression, FitsOperations}
use Rattle.rdo_printer.proofs.Reading.{Reads, in_front, length_text}
use Rattle.rdo_printer.proofs.Operands.{AfterPrim, AfterTerm, AfterExpr, Behind, no_products, no_sums, whole, factor_read, term_read, closed_read, Best}
use Rattle.rdo_printer.proofs.Built.{built, built_operations}

abbrev pub BestOf : Expression → ℕ → Plain → Type 0
BestOf x levels plain = Best plain (expression_words x) (built x) (is_chain x) (is_sum x) (is_open x) levels

-- this holds of the expression wherever it fits
abbrev pub ReadsWell : Expression → Type 0
ReadsWell x = (levels : ℕ) (plain : Plain) → FitsExpression x levels plain → BestOf x levels plain

-- ---- operands

pub factor_of : (x : Expression) → ReadsWell x → (levels : ℕ) (plain : Plain) → Guarded (is_guarded by.Times x) levels (λ l. FitsExpression x l plain) →
    Reads (prim (level_at levels) plain) (guarded (is_guarded by.Times x) (expression_words x)) (built x) AfterPrim
factor_of x h levels plain fits =
    factor_read plain (expression_words x) (built x) (λ l. FitsExpression x l plain) (is_chain x) (is_sum x) (is_open x) (λ l f. h l plain f) levels fits

pub term_of : (x : Expression) → ReadsWell x → (levels : ℕ) (plain : Plain) → Guarded (is_guarded by.Plus x) levels (λ l. FitsExpression x l plain) →
    Reads (term (level_at levels) plain) (guarded (is_guarded by.Plus x) (expression_words x)) (built x) AfterTerm
term_of x h levels plain fits =
    term_read plain (expression_words x) (built x) (λ l. FitsExpression x l plain) (is_chain x) (is_sum x) (is_open x) (λ l f. h l plain f) levels fits

pub closed_of : (x : Expression) → ReadsWell x → (levels : ℕ) (plain : Plain) → Guarded (is_open x) levels (λ l. FitsExpression x l plain) →
    Reads (expr (level_at levels) plain) (guarded (is_open x) (expression_words x)) (built x) AfterExpr
closed_of x h levels plain fits =
    closed_read plain (expression_words x) (built x) (λ l. FitsExpression x l plain) (is_chain x) (is_sum x) (is_open x) (λ l f. h l plain f) levels fits

pub whole_of : (x : Expression) → ReadsWell x → (levels : ℕ) (plain : Plain) → FitsExpression x levels plain → Reads (expr (level_at levels) plain) (expression_words x) (built x) (Behind (is_open x) AfterExpr)
whole_of x h levels plain fits = whole plain (expression_words x) (built x) (is_chain x) (is_sum x) (is_open x) levels (h levels plain fits)

-- ---- chains

pub false-true : {A : Type 0} → false ≡ true → A
false-true h = absurd (grind (arith, h))

pub true-false : {A : Type 0} → true ≡ false → A
true-false h = absurd (grind (arith, h))

-- what may stand behind an operand of a chain is there
after_factor : (os : Operations) → AreOperations true os → (behind : ℕ) (other : Input) → AfterTerm (kind other) → AfterPrim (kind (labelled (operations_words os) behind other))
unfolding kind same_kind
after_factor no_operation all behind other a = a.0
after_factor (operation by.Times x os) all behind other a = (refl, refl)
after_factor (operation by.Plus x os) all behind other a = (refl, refl)
after_factor (operation by.Minus x os) all behind other a = (refl, refl)

after_term : (os : Operations) → AreOperations false os → (behind : ℕ) (other : Input) → AfterExpr (kind other) → AfterTerm (kind (labelled (operations_words os) behind other))
unfolding kind same_kind
after_term no_operation all behind other a = a.0
after_term (operation by.Times x os) all behind other a = true-false all.0
after_term (operation by.Plus x os) all behind other a = ((refl, refl), refl)
after_term (operation by.Minus x os) all behind other a = ((refl, refl), refl)

-- each operation is a word at least
operation_turns : (os : Operations) → length (built_operations os) ≤ length (text_of (operations_words os))
operation_turns no_operation = omega arith
operation_turns (operation o x os) =
    let h = operation_turns os in
    let e = length_text (guarded (is_guarded o x) (expression_words x)) (operations_words os) in
    let f = length-append (spelling_of (operator_kind o)) (32 ∷ text_of (guarded (is_guarded o x) (expression_words x) ++ operations_words os)) in
    rw f (omega arith)

turns_left : (os : Operations) (behind : ℕ) (other : Input) → length (built_operations os) ≤ left (labelled (operations_words os) behind other)
unfolding left
turns_left no_operation behind other = omega arith
turns_left (operation o x os) behind other = let h = operation_turns (operation o x os) in omega arith

abbrev pub ProductsRead : Operations → Type 0
ProductsRead os = (levels : ℕ) (plain : Plain) → AreOperations true os → FitsOperations os levels plain → (turns : ℕ) (found : List declared_operation.Operation) (behind : ℕ) (other : Input) →
    length (built_operations os) ≤ turns → AfterTerm (kind other) → products_from (level_at levels) plain turns found (labelled (operations_words os) behind other) ≡ Ok (found ++ built_operations os, other)

abbrev pub SumsRead : Operations → Type 0
SumsRead os = (levels : ℕ) (plain : Plain) → AreOperations false os → FitsOperations os levels plain → (turns : ℕ) (found : List declared_operation.Operation) (behind : ℕ) (other : Input) →
    length (built_operations os) ≤ turns → AfterExpr (kind other) → sums_from (level_at levels) plain turns found (labelled (operations_words os) behind other) ≡ Ok (found ++ built_operations os, other)

pub more_products : (o : Arithmetic) (x : Expression) (os : Operations) → ReadsWell x → ProductsRead os → ProductsRead (operation o x os)
unfolding products_from sees after kind next same_kind
more_products by.Plus x os h more levels plain all fits turns found behind other l a = false-true all.0
more_products by.Minus x os h more levels plain all fits turns found behind other l a = false-true all.0
more_products by.Times x os h more levels plain all fits zero found behind other l a = absurd (omega arith)
more_products by.Times x os h more levels plain all fits (suc turns) found behind other l a =
    let one = in_front (prim (level_at levels) plain) (guarded (is_guarded by.Times x) (expression_words x)) (built x) AfterPrim (factor_of x h levels plain fits.0) (operations_words os) behind other (after_factor os all.1 behind other a) in
    let o : declared_operation.Operation = g.operation by.Times (built x) in
    let l2 : length (built_operations os) ≤ turns = omega arith in
    rw one (more levels plain all.1 fits.1 turns (found ++ o ∷ []) behind other l2 a ∙ ap (λ (v : List declared_operation.Operation). Ok (v, other)) (append_assoc found (o ∷ []) (built_operations os)))

signed_read : (o : Arithmetic) (x : Expression) (os : Operations) (levels : ℕ) (plain : Plain) → ReadsWell x → Guarded (is_guarded by.Plus x) levels (λ l. FitsExpression x l plain) → AreOperations false os →
    (behind : ℕ) (other : Input) → AfterExpr (kind other) →
    signed_term (level_at levels) plain o (labelled (guarded (is_guarded by.Plus x) (expression_words x) ++ operations_words os) behind other) ≡ Ok (g.operation o (built x), labelled (operations_words os) behind other)
unfolding signed_term
signed_read o x os levels plain h fits all behind other a =
    rw (in_front (term (level_at levels) plain) (guarded (is_guarded by.Plus x) (expression_words x)) (built x) AfterTerm (term_of x h levels plain fits) (operations_words os) behind other (after_term os all behind other a)) refl

pub more_sums : (o : Arithmetic) (x : Expression) (os : Operations) → ReadsWell x → SumsRead os → SumsRead (operation o x os)
unfolding sums_from sees after kind next same_kind
more_sums by.Times x os h more levels plain all fits turns found behind other l a = true-false all.0
more_sums by.Plus x os h more levels plain all fits zero found behind other l a = absurd (omega arith)
more_sums by.Minus x os h more levels plain all fits zero found behind other l a = absurd (omega arith)
more_sums by.Plus x os h more levels plain all fits (suc turns) found behind other l a =
    let one = signed_read by.Plus x os levels plain h fits.0 all.1 behind other a in
    let o : declared_operation.Operation = g.operation by.Plus (built x) in
    let l2 : length (built_operations os) ≤ turns = omega arith in
    rw one (more levels plain all.1 fits.1 turns (found ++ o ∷ []) behind other l2 a ∙ ap (λ (v : List declared_operation.Operation). Ok (v, other)) (append_assoc found (o ∷ []) (built_operations os)))
more_sums by.Minus x os h more levels plain all fits (suc turns) found behind other l a =
    let one = signed_read by.Minus x os levels plain h fits.0 all.1 behind other a in
    let o : declared_operation.Operation = g.operation by.Minus (built x) in
    let l2 : length (built_operations os) ≤ turns = omega arith in
    rw one (more levels plain all.1 fits.1 turns (found ++ o ∷ []) behind other l2 a ∙ ap (λ (v : List declared_operation.Operation). Ok (v, other)) (append_assoc found (o ∷ []) (built_operations os)))

pub no_more_products : ProductsRead no_operation
no_more_products levels plain all fits turns found behind other l a = no_products (level_at levels) plain turns found other a.1 ∙ ap (λ (v : List declared_operation.Operation). Ok (v, other)) (sym (append-nil found))

pub no_more_sums : SumsRead no_operation
no_more_sums levels plain all fits turns found behind other l a = no_sums (level_at levels) plain turns found other a.1 a.2 ∙ ap (λ (v : List declared_operation.Operation). Ok (v, other)) (sym (append-nil found))

-- a first operand and operations of one kind
pub chain_read : (x : Expression) (os : Operations) → ReadsWell x → ProductsRead os → SumsRead os → ReadsWell (chain x os)
unfolding term term_after expr expr_after products sums
chain_read x no_operation h products_read sums_read levels plain fits = absurd fits.0
chain_read x (operation by.Times y os) h products_read sums_read levels plain fits = λ behind other a.
    let os' : Operations = operation by.Times y os in
    let one = in_front (prim (level_at levels) plain) (guarded (is_guarded by.Times x) (expression_words x)) (built x) AfterPrim (factor_of x h levels plain fits.1) (operations_words os') behind other (after_factor os' (refl, fits.0) behind other a) in
    let all = products_read levels plain (refl, fits.0) fits.2 (left (labelled (operations_words os') behind other)) [] behind other (turns_left os' behind other) a in
    rw one (rw all refl)
chain_read x (operation by.Plus y os) h products_read sums_read levels plain fits = λ behind other a.
    let os' : Operations = operation by.Plus y os in
    let one = in_front (term (level_at levels) plain) (guarded (is_guarded by.Plus x) (expression_words x)) (built x) AfterTerm (term_of x h levels plain fits.1) (operations_words os') behind other (after_term os' (refl, fits.0) behind other a) in
    let all = sums_read levels plain (refl, fits.0) fits.2 (left (labelled (operations_words os') behind other)) [] behind other (turns_left os' behind other) a in
    rw one (rw all refl)
chain_read x (operation by.Minus y os) h products_read sums_read levels plain fits = λ behind other a.
    let os' : Operations = operation by.Minus y os in
    let one = in_front (term (level_at levels) plain) (guarded (is_guarded by.Plus x) (expression_words x)) (built x) AfterTerm (term_of x h levels plain fits.1) (operations_words os') behind other (after_term os' (refl, fits.0) behind other a) in
    let all = sums_read levels plain (refl, fits.0) fits.2 (left (labelled (operations_words os') behind other)) [] behind other (turns_left os' behind other) a in
    rw one (rw all refl)
