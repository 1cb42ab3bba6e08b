-- What may stand behind an expression, and what is read of one in parentheses or as a prim, a term or a whole.
use Rattle.std.proofs.Common.{◌≡◌, ℕ, zero, suc, ◌+◌, Bool, true, false, ◌||◌, ◌==◌, List, [], ◌∷◌, ◌++◌, length, Ok, refl, arith}
use Rattle.rdo_ast.specs.declared.syntax.Expression.{Expression}
use Rattle.rdo_ast.specs.declared.syntax.Operation.{Operation}
use Rattle.rdo_tokens.specs.declared.token.Kind.{Kind}
use Rattle.rdo_tokens.specs.declared.token.Kind.TheVariants as k
use Rattle.rdo_tokens.specs.Lex.{Token, same_kind}
use Rattle.rdo_tokens.specs.Input.{Input, kind, spelling, next, left, sees, after, expect}
use Rattle.rdo_grammar.specs.Grammar.{Level, level_at, Plain, prim, term, expr, term_after, expr_after, products, products_from, sums, sums_from, open_level, parenthesized, expr_at}
use Rattle.rdo_printer.specs.Words.{Spelled, word, spelling_of, text_of}
use Rattle.rdo_printer.proofs.Labels.{labelled}
use Rattle.rdo_printer.specs.Trees.{guarded, in_parentheses}
use Rattle.rdo_printer.specs.Printable.{Opens, Guarded}
use Rattle.rdo_printer.proofs.Reading.{Reads, in_front}

-- ---- what may stand behind

abbrev pub AfterPrim : Kind → Type 0
AfterPrim kind = (same_kind kind k.With ≡ false) × (same_kind kind k.Cross ≡ false)

abbrev pub AfterTerm : Kind → Type 0
AfterTerm kind = AfterPrim kind × (same_kind kind k.Star ≡ false)

abbrev pub AfterExpr : Kind → Type 0
AfterExpr kind = AfterTerm kind × (same_kind kind k.Plus ≡ false) × (same_kind kind k.Minus ≡ false)

abbrev pub AfterCondition : Kind → Type 0
AfterCondition kind = AfterExpr kind × (same_kind kind k.And ≡ false) × (same_kind kind k.Or ≡ false)

-- behind what ends with a condition, and behind what does not
abbrev pub Behind : Bool → (Kind → Type 0) → Kind → Type 0
Behind true After kind = AfterCondition kind
Behind false After kind = After kind

-- ---- loops that end at once

pub no_products : (level : Level) (plain : Bool) (turns : ℕ) (found : List Operation) (i : Input) → same_kind (kind i) k.Star ≡ false → products_from level plain turns found i ≡ Ok (found, i)
unfolding products_from sees after
no_products level plain zero found i h = refl
no_products level plain (suc turns) found i h = rw h refl

pub no_sums : (level : Level) (plain : Bool) (turns : ℕ) (found : List Operation) (i : Input) → same_kind (kind i) k.Plus ≡ false → same_kind (kind i) k.Minus ≡ false → sums_from level plain turns found i ≡ Ok (found, i)
unfolding sums_from sees after
no_sums level plain zero found i h m = refl
no_sums level plain (suc turns) found i h m = rw h (rw m refl)

-- ---- from a prim to a term, and from a term to an expr

module _ (level : Level) (plain : Plain) (ws : List Spelled) (v : Expression) where
  pub term_of_prim : (tail : Bool) → Reads (prim level plain) ws v (Behind tail AfterPrim) → Reads (term level plain) ws v (Behind tail AfterTerm)
  unfolding term term_after products
  term_of_prim true h behind other a = rw (h behind other a) (rw (no_products level plain (left other) [] other a.0.0.1) refl)
  term_of_prim false h behind other a = rw (h behind other a.0) (rw (no_products level plain (left other) [] other a.1) refl)

  pub expr_of_term : (tail : Bool) → Reads (term level plain) ws v (Behind tail AfterTerm) → Reads (expr level plain) ws v (Behind tail AfterExpr)
  unfolding expr expr_after sums
  expr_of_term true h behind other a = rw (h behind other a) (rw (no_sums level plain (left other) [] other a.0.1 a.0.2) refl)
  expr_of_term false h behind other a = rw (h behind other a.0) (rw (no_sums level plain (left other) [] other a.1 a.2) refl)

-- ---- parentheses

positive : (n : ℕ) → (suc n == 0) ≡ false
positive n = grind arith

pub level_opens : (levels : ℕ) (t : Token) (ts : Input) → open_level (level_at (suc levels)) (t ∷ ts) ≡ Ok (tt, ts)
unfolding open_level spelling next
level_opens levels t ts = rw (positive levels) refl

close_after : (tail : Bool) → Behind tail AfterExpr k.Close
unfolding same_kind
close_after true = (((((refl, refl), refl), refl, refl), refl, refl))
close_after false = (((refl, refl), refl), refl, refl)

module _ (plain : Plain) (ws : List Spelled) (v : Expression) where
  pub in_parentheses_read : (tail : Bool) (levels : ℕ) → Reads (expr (level_at levels) plain) ws v (Behind tail AfterExpr) → Reads (prim (level_at (suc levels)) plain) (in_parentheses ws) v AfterPrim
  unfolding prim parenthesized expr_at kind next sees expect same_kind
  in_parentheses_read tail levels h behind other a =
      let e = in_front (expr (level_at levels) plain) ws v (Behind tail AfterExpr) h (word k.Close ∷ []) behind other (close_after tail) in
      rw (level_opens levels (record { kind = k.Open; spelling = spelling_of k.Open; left = length (text_of (in_parentheses ws)) + behind }) (labelled (ws ++ word k.Close ∷ []) behind other)) (rw e refl)

  -- what is read of an expression at this many levels: a prim, a term or a whole
  abbrev pub Best : (chain sum tail : Bool) → ℕ → Type 0
  Best false sum tail levels = Reads (prim (level_at levels) plain) ws v (Behind tail AfterPrim)
  Best true false tail levels = Reads (term (level_at levels) plain) ws v (Behind tail AfterTerm)
  Best true true tail levels = Reads (expr (level_at levels) plain) ws v (Behind tail AfterExpr)

  pub whole : (chain sum tail : Bool) (levels : ℕ) → Best chain sum tail levels → Reads (expr (level_at levels) plain) ws v (Behind tail AfterExpr)
  whole false sum tail levels h = expr_of_term (level_at levels) plain ws v tail (term_of_prim (level_at levels) plain ws v tail h)
  whole true false tail levels h = expr_of_term (level_at levels) plain ws v tail h
  whole true true tail levels h = h

  module _ (Fits : ℕ → Type 0) (chain sum tail : Bool) (best : (levels : ℕ) → Fits levels → Best chain sum tail levels) where
    pub in_parentheses_at : (levels : ℕ) → Opens levels Fits → Reads (prim (level_at levels) plain) (in_parentheses ws) v AfterPrim
    in_parentheses_at zero fits = absurd fits
    in_parentheses_at (suc levels) fits = in_parentheses_read tail levels (whole chain sum tail levels (best levels fits))

  module _ (Fits : ℕ → Type 0) where
    -- as an operand of `*` or `-`
    pub factor_read : (chain sum tail : Bool) → ((levels : ℕ) → Fits levels → Best chain sum tail levels) → (levels : ℕ) → Guarded (chain || tail) levels Fits →
        Reads (prim (level_at levels) plain) (guarded (chain || tail) ws) v AfterPrim
    factor_read false sum false best levels fits = best levels fits
    factor_read false sum true best levels fits = in_parentheses_at Fits false sum true best levels fits
    factor_read true sum tail best levels fits = in_parentheses_at Fits true sum tail best levels fits

    -- as an operand of `+` or `-`
    pub term_read : (chain sum tail : Bool) → ((levels : ℕ) → Fits levels → Best chain sum tail levels) → (levels : ℕ) → Guarded (sum || tail) levels Fits →
        Reads (term (level_at levels) plain) (guarded (sum || tail) ws) v AfterTerm
    term_read false false false best levels fits = term_of_prim (level_at levels) plain ws v false (best levels fits)
    term_read true false false best levels fits = best levels fits
    term_read chain false true best levels fits = term_of_prim (level_at levels) plain (in_parentheses ws) v false (in_parentheses_at Fits chain false true best levels fits)
    term_read chain true tail best levels fits = term_of_prim (level_at levels) plain (in_parentheses ws) v false (in_parentheses_at Fits chain true tail best levels fits)

    -- as an operand of a comparison
    pub closed_read : (chain sum tail : Bool) → ((levels : ℕ) → Fits levels → Best chain sum tail levels) → (levels : ℕ) → Guarded tail levels Fits →
        Reads (expr (level_at levels) plain) (guarded tail ws) v AfterExpr
    closed_read chain sum false best levels fits = whole chain sum false levels (best levels fits)
    closed_read chain sum true best levels fits =
        expr_of_term (level_at levels) plain (in_parentheses ws) v false (term_of_prim (level_at levels) plain (in_parentheses ws) v false (in_parentheses_at Fits chain sum true best levels fits))
