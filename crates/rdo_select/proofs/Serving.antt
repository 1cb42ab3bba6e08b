-- Tests that ask other selections serve no index.
use Rattle.std.proofs.Common.{◌≡◌, ◌⊎◌, inl, inr, ℕ, ◌+◌, Bool, true, false, ◌||◌, ◌&&◌, List, [], ◌∷◌, ◌++◌, length, None, option_map, refl, ap, ◌∙◌, unwrap_or}
use Rattle.std.specs.Prelude.{option_and_then}
use Rattle.std.specs.Option.{option_or}
use Rattle.rdo_ast.specs.declared.syntax.Comparison.{Comparison}
use Rattle.rdo_ast.specs.declared.syntax.Comparison.TheVariants as by
use Rattle.rdb_meaning.specs.Contents.{Row}
use Rattle.rdo_values.specs.Tree.{Expression, number, text, field, negative, chain, count, statistic, known, Operations, no_operation, operation, Testing, compare, between, containing, starting_with, missing, any, negated, group, decided, Conjunction, no_test, test}
use Rattle.access_paths.specs.declared.choice.IndexPath.{IndexPath}
use Rattle.access_paths.specs.declared.choice.Access.TheVariants.{Scan}
use Rattle.access_paths.specs.Serving.{Asked, is_before, are_before, kind_at, turned, is_bounding, asked_if, asked_by, asked_between, asked_of, asked_in}
use Rattle.access_paths.specs.Equated.{first_equated, with_equated, key_from, key_at}
use Rattle.access_paths.specs.Limits.{narrowed_from, limits_at}
use Rattle.access_paths.specs.Choice.{access_by_key, access_by_limits, first_by_key, first_limits, first_by_limits, choice}
use Rattle.rdo_select.specs.Asking.{asks, operations_ask, test_asks, plain_if, plain}

either : (a b : Bool) → (a || b) ≡ true → (a ≡ true) ⊎ (b ≡ true)
either true b h = inl refl
either false b h = inr h

never : (a : Bool) → (a && false) ≡ false
never true = refl
never false = refl

neither : (a b c d : Bool) → (a ≡ true → c ≡ false) → (b ≡ true → d ≡ false) → (a || b) ≡ true → (c && d) ≡ false
neither true b c d f g h = ap (λ c. c && d) (f refl)
neither false b c d f g h = ap (λ d. c && d) (g h) ∙ never c

-- ---- an expression that asks is not known before

mutual
  later : (start : ℕ) (e : Expression) → asks e ≡ true → is_before start e ≡ false
  later start (number n scale) h = absurd (cc)
  later start (text s) h = absurd (cc)
  later start (field r) h = absurd (cc)
  later start (negative e) h = later start e h
  later start (chain e os) h = neither (asks e) (operations_ask os) (is_before start e) (are_before start os) (later start e) (all_later start os) h
  later start (count r) h = refl
  later start (statistic s e r) h = refl
  later start (known e v) h = refl

  all_later : (start : ℕ) (os : Operations) → operations_ask os ≡ true → are_before start os ≡ false
  all_later start no_operation h = absurd (cc)
  all_later start (operation op e os) h = neither (asks e) (operations_ask os) (is_before start e) (are_before start os) (later start e) (all_later start os) h

no_field : (place : ℕ) (e : Expression) → asks e ≡ true → kind_at place e ≡ None
no_field place (number n scale) h = refl
no_field place (text s) h = refl
no_field place (field r) h = absurd (cc)
no_field place (negative e) h = refl
no_field place (chain e os) h = refl
no_field place (count r) h = refl
no_field place (statistic s e r) h = refl
no_field place (known e v) h = refl

-- ---- a test that asks asks nothing of a field

module _ (start place : ℕ) where
  none_asked : (b : Bool) (op : Comparison) (e : Expression) → asked_if b op e None ≡ []
  none_asked true op e = refl
  none_asked false op e = refl

  by_asking : (op : Comparison) (a b : Expression) → asks a ≡ true → asked_by start place op a b ≡ []
  by_asking op a b h = ap (asked_if (is_bounding op && is_before start b) op b) (no_field place a h) ∙ none_asked (is_bounding op && is_before start b) op b

  with_asking : (op : Comparison) (a b : Expression) → asks b ≡ true → asked_by start place op a b ≡ []
  with_asking op a b h =
      ap (λ known. asked_if (is_bounding op && known) op b (kind_at place a)) (later start b h)
      ∙ ap (λ serves. asked_if serves op b (kind_at place a)) (never (is_bounding op))

  compared : (op : Comparison) (a b : Expression) → (asks a ≡ true) ⊎ (asks b ≡ true) → asked_by start place op a b ++ asked_by start place (turned op) b a ≡ []
  compared op a b (inl h) = λ i. by_asking op a b h i ++ with_asking (turned op) b a h i
  compared op a b (inr h) = λ i. with_asking op a b h i ++ by_asking (turned op) b a h i

  between_asking : (known : Bool) (a low high : Expression) → asks a ≡ true → asked_between known start place a low high ≡ []
  between_asking true a low high h = λ i. by_asking by.GreaterEqual a low h i ++ by_asking by.LessEqual a high h i
  between_asking false a low high h = refl

  lies_between : (a low high : Expression) → (asks a ≡ true) ⊎ ((asks low || asks high) ≡ true) → asked_between (is_before start low && is_before start high) start place a low high ≡ []
  lies_between a low high (inl h) = between_asking (is_before start low && is_before start high) a low high h
  lies_between a low high (inr h) =
      ap (λ known. asked_between known start place a low high) (neither (asks low) (asks high) (is_before start low) (is_before start high) (later start low) (later start high) h)

  first_of_three : (a b c : Bool) → (a || b || c) ≡ true → (a ≡ true) ⊎ ((b || c) ≡ true)
  first_of_three true b c h = inl refl
  first_of_three false b c h = inr h

  nothing_asked : (c : Testing) → test_asks c ≡ true → asked_of start place c ≡ []
  nothing_asked (compare op a b) h = compared op a b (either (asks a) (asks b) h)
  nothing_asked (between a low high) h = lies_between a low high (first_of_three (asks a) (asks low) (asks high) h)
  nothing_asked (containing a b) h = refl
  nothing_asked (starting_with a b) h = refl
  nothing_asked (missing e) h = refl
  nothing_asked (any r) h = refl
  nothing_asked (negated c) h = refl
  nothing_asked (group c) h = refl
  nothing_asked (decided c v) h = refl

  asked_plain : (cs : Conjunction) → asked_in start place cs ≡ asked_in start place (plain cs)
  asked_plain no_test = refl
  asked_plain (test c cs) =
      elim (test_asks c) as (λ b. test_asks c ≡ b → asked_of start place c ++ asked_in start place cs ≡ asked_in start place (plain_if b c (plain cs))) [
        | true ↦ λ h. (λ i. nothing_asked c h i ++ asked_in start place cs) ∙ asked_plain cs
        | false ↦ λ h. ap (λ more. asked_of start place c ++ more) (asked_plain cs)
      ] refl

-- ---- the choice

module _ (rows : Row) (tests : Conjunction) where
  key_plain : (k : _) (positions : List ℕ) → key_from rows tests k positions ≡ key_from rows (plain tests) k positions
  key_plain k [] = refl
  key_plain k (p ∷ ps) = λ i. option_and_then (λ v. key_plain (with_equated k v) ps i) (first_equated rows (asked_plain (length rows) (length rows + p) tests i))

  key_at_plain : (positions : List ℕ) → key_at rows tests positions ≡ key_at rows (plain tests) positions
  key_at_plain positions = key_plain _ positions

  by_key_plain : (xs : List IndexPath) → first_by_key rows tests xs ≡ first_by_key rows (plain tests) xs
  by_key_plain [] = refl
  by_key_plain (x ∷ xs) = λ i. option_or (option_map (access_by_key x.root) (key_at_plain x.fields i)) (by_key_plain xs i)

  narrowed_same : (limited : _) (xs ys : List Asked) → xs ≡ ys → narrowed_from rows limited xs ≡ narrowed_from rows limited ys
  narrowed_same limited xs ys same = ap (narrowed_from rows limited) same

  limits_at_plain : (place : ℕ) → limits_at rows place tests ≡ limits_at rows place (plain tests)
  limits_at_plain place = narrowed_same _ (asked_in (length rows) place tests) (asked_in (length rows) place (plain tests)) (asked_plain (length rows) place tests)

  limits_plain : (positions : List ℕ) → first_limits rows tests positions ≡ first_limits rows (plain tests) positions
  limits_plain [] = refl
  limits_plain (p ∷ ps) = limits_at_plain (length rows + p)

  by_limits_plain : (xs : List IndexPath) → first_by_limits rows tests xs ≡ first_by_limits rows (plain tests) xs
  by_limits_plain [] = refl
  by_limits_plain (x ∷ xs) = λ i. option_or (access_by_limits x.root (limits_plain x.fields i)) (by_limits_plain xs i)

  pub choice_plain : (indexes : List IndexPath) → choice indexes rows tests ≡ choice indexes rows (plain tests)
  choice_plain indexes = λ i. unwrap_or (option_or (by_key_plain indexes i) (by_limits_plain indexes i)) Scan
