-- An expression that is known before a row is settled, and gives the same whatever the row is.
use Rattle.std.proofs.Common.{◌≡◌, ℕ, Bool, true, false, ◌&&◌, List, [], ◌∷◌, ◌++◌, length, slice_get, zero, suc, refl, ap, ◌∙◌, arith}
use Rattle.std.specs.Prelude.{nat_lt}
use Rattle.rdb_meaning.specs.Numbers.{Computed, arithmetic, negation}
use Rattle.rdb_meaning.specs.Contents.{Row, no_tables}
use Rattle.rdb_meaning.specs.Evaluation.{scaled_if, computed}
use Rattle.rdo_values.specs.Tree.{Expression, number, text, field, negative, chain, count, statistic, known, Operations, no_operation, operation}
use Rattle.rdo_values.specs.Known.{IsSettled, AreSettled}
use Rattle.rdo_values.specs.Filled.{literal, value_at, value_after}
use Rattle.access_paths.specs.Serving.{is_before, are_before}

pub both_true : (a b : Bool) → (a && b) ≡ true → (a ≡ true) × (b ≡ true)
both_true true b h = (refl, h)
both_true false b h = absurd (cc)

mutual
  pub before_settled : (start : ℕ) (e : Expression) → is_before start e ≡ true → IsSettled e
  before_settled start (number n scale) h = tt
  before_settled start (text t) h = tt
  before_settled start (field r) h = tt
  before_settled start (negative e) h = before_settled start e h
  before_settled start (chain e os) h =
      let both = both_true (is_before start e) (are_before start os) h in
      (before_settled start e both.0, before_all_settled start os both.1)
  before_settled start (count r) h = absurd (cc)
  before_settled start (statistic s e r) h = absurd (cc)
  before_settled start (known e v) h = absurd (cc)

  pub before_all_settled : (start : ℕ) (os : Operations) → are_before start os ≡ true → AreSettled os
  before_all_settled start no_operation h = tt
  before_all_settled start (operation op e os) h =
      let both = both_true (is_before start e) (are_before start os) h in
      (before_settled start e both.0, before_all_settled start os both.1)

pub slice_get_front : {X : Type 0} (xs ys : List X) (i : ℕ) → nat_lt i (length xs) ≡ true → slice_get (xs ++ ys) i ≡ slice_get xs i
slice_get_front [] ys i h = absurd (grind arith)
slice_get_front (x ∷ xs) ys zero h = refl
slice_get_front (x ∷ xs) ys (suc i) h = slice_get_front xs ys i (grind arith)

mutual
  pub before_value : (rows more : Row) (e : Expression) → is_before (length rows) e ≡ true → value_at (rows ++ more) e ≡ value_at rows e
  before_value rows more (number n scale) h = refl
  before_value rows more (text t) h = refl
  before_value rows more (field r) h =
      ap (λ v. computed (literal (scaled_if r.kind v).value (scaled_if r.kind v).scale) no_tables []) (slice_get_front rows more r.place h)
  before_value rows more (negative e) h = ap negation (before_value rows more e h)
  before_value rows more (chain e os) h =
      let both = both_true (is_before (length rows) e) (are_before (length rows) os) h in
      ap (λ v. value_after (rows ++ more) v os) (before_value rows more e both.0) ∙ before_after rows more (value_at rows e) os both.1
  before_value rows more (count r) h = absurd (cc)
  before_value rows more (statistic s e r) h = absurd (cc)
  before_value rows more (known e v) h = refl

  pub before_after : (rows more : Row) (v : Computed) (os : Operations) → are_before (length rows) os ≡ true → value_after (rows ++ more) v os ≡ value_after rows v os
  before_after rows more v no_operation h = refl
  before_after rows more v (operation op e os) h =
      let both = both_true (is_before (length rows) e) (are_before (length rows) os) h in
      ap (λ w. value_after (rows ++ more) (arithmetic op v w) os) (before_value rows more e both.0) ∙ before_after rows more (arithmetic op v (value_at rows e)) os both.1
