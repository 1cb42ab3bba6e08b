-- The values of printed words.
use Rattle.std.proofs.Common.{◌≡◌, ℕ, zero, suc, ◌+◌, ◌-◌, ◌*◌, ◌/◌, ◌%◌, ◌==◌, ◌≤◌, ◌<◌, ◌^◌, Bool, true, false, cond, [], ◌∷◌, ◌++◌, length, take, fold, Some, refl, ap, sym, ◌∙◌, arith}
use Rattle.std.specs.Prelude.{decimal}
use Rattle.std.specs.List.{AllByRecursion, prefix_len}
use Rattle.std.specs.Char.{is_ascii_digit}
use Rattle.std.proofs.lemmas.Bool.{le-leb}
use Rattle.std.proofs.lemmas.Fmt.{decimal_by_steps}
use Rattle.std.proofs.lemmas.List.{length-append}
use Rattle.std.proofs.lemmas.Grind.{fold-append}
use Rattle.rdo_tokens.specs.Lex.{Text, text_value, max_number, max_number_scale, digits_value, digits_scale, undouble}
use Rattle.rdo_tokens.specs.Input.{number_value}
use Rattle.rdo_printer.specs.Words.{number_text, quoted_text, doubled, without_last, last_digits}
use Rattle.rdo_printer.specs.Printable.{IsText}

-- ---- the digits of a number

-- the value of digits, with one more
abbrev step : ℕ → ℕ → ℕ
step n b = cond (b == 46) n (10 * n + (b - 48))

digit_step : (m d : ℕ) → d < 10 → step m (48 + d) ≡ 10 * m + d
digit_step m d h = let e : ((48 + d) == 46) ≡ false = grind arith in rw e (omega arith)

below_ten : (n : ℕ) → n % 10 < 10
below_ten n = omega arith

last_step : (n : ℕ) → step (n / 10) (48 + n % 10) ≡ n
last_step n = digit_step (n / 10) (n % 10) (below_ten n) ∙ omega arith

value_of_decimal : (n : ℕ) → n < 2 ^ 64 → fold step 0 (decimal n) ≡ n
value_of_decimal = decimal_by_steps (λ n ds. fold step 0 ds ≡ n)
    (λ n h. digit_step 0 n h ∙ omega arith)
    (λ n ds h e. fold-append step 0 ds ((48 + n % 10) ∷ []) ∙ rw e (last_step n))

value_of_last : (digits n : ℕ) → fold step (without_last digits n) (last_digits digits n) ≡ n
value_of_last zero n = refl
value_of_last (suc digits) n =
    fold-append step (without_last digits (n / 10)) (last_digits digits (n / 10)) ((48 + n % 10) ∷ []) ∙ rw (value_of_last digits (n / 10)) (last_step n)

pub less_without_last : (digits n : ℕ) → without_last digits n ≤ n
less_without_last zero n = omega arith
less_without_last (suc digits) n = let h = less_without_last digits (n / 10) in omega arith

value_of_digits : (n scale : ℕ) → n ≤ max_number → digits_value (number_text n scale) ≡ n
unfolding number_text
value_of_digits n zero h = let l : n < 2 ^ 64 = omega arith in value_of_decimal n l
value_of_digits n (suc scale) h =
    let k = less_without_last (suc scale) n in
    let l : without_last (suc scale) n < 2 ^ 64 = omega arith in
    fold-append step 0 (decimal (without_last (suc scale) n)) (46 ∷ last_digits (suc scale) n)
    ∙ rw (value_of_decimal (without_last (suc scale) n) l) (value_of_last (suc scale) n)

-- ---- how many digits stand where

abbrev pub AreDigits : Text → Type 0
AreDigits = AllByRecursion (λ b. is_ascii_digit b ≡ true)

digit_is : (d : ℕ) → d < 10 → is_ascii_digit (48 + d) ≡ true
digit_is d h = grind arith

are_digits-append : (xs ys : Text) → AreDigits xs → AreDigits ys → AreDigits (xs ++ ys)
are_digits-append [] ys h k = k
are_digits-append (x ∷ xs) ys h k = (h.0, are_digits-append xs ys h.1 k)

pub decimal_digits : (n : ℕ) → n < 2 ^ 64 → AreDigits (decimal n)
decimal_digits = decimal_by_steps (λ n ds. AreDigits ds)
    (λ n h. (digit_is n h, tt))
    (λ n ds h all. are_digits-append ds ((48 + n % 10) ∷ []) all (digit_is (n % 10) (below_ten n), tt))

pub last_are_digits : (digits n : ℕ) → AreDigits (last_digits digits n)
last_are_digits zero n = tt
last_are_digits (suc digits) n = are_digits-append (last_digits digits (n / 10)) ((48 + n % 10) ∷ []) (last_are_digits digits (n / 10)) (digit_is (n % 10) (below_ten n), tt)

pub length_of_last : (digits n : ℕ) → length (last_digits digits n) ≡ digits
length_of_last zero n = refl
length_of_last (suc digits) n = let h = length_of_last digits (n / 10) in length-append (last_digits digits (n / 10)) ((48 + n % 10) ∷ []) ∙ omega arith

-- what passes in front goes on with what passes behind
pub prefix_of-append : (test : ℕ → Bool) (xs ys : Text) → AllByRecursion (λ b. test b ≡ true) xs → prefix_len test (xs ++ ys) ≡ length xs + prefix_len test ys
prefix_of-append test [] ys h = omega arith
prefix_of-append test (x ∷ xs) ys h = let e = prefix_of-append test xs ys h.1 in rw h.0 (omega arith)

pub prefix_of_all : (test : ℕ → Bool) (xs : Text) → AllByRecursion (λ b. test b ≡ true) xs → prefix_len test xs ≡ length xs
prefix_of_all test [] h = refl
prefix_of_all test (x ∷ xs) h = let e = prefix_of_all test xs h.1 in rw h.0 (omega arith)

scale_is : (z : Text) → digits_scale z ≡ length z - (0 + prefix_len is_ascii_digit z + 1)
scale_is z = refl

scale_of_digits : (n scale : ℕ) → n ≤ max_number → digits_scale (number_text n scale) ≡ scale
unfolding number_text
scale_of_digits n zero h =
    let l : n < 2 ^ 64 = omega arith in let e = prefix_of_all is_ascii_digit (decimal n) (decimal_digits n l) in scale_is (decimal n) ∙ rw e (omega arith)
scale_of_digits n (suc scale) h =
    let k = less_without_last (suc scale) n in
    let l : without_last (suc scale) n < 2 ^ 64 = omega arith in
    let ds = decimal (without_last (suc scale) n) in
    let fs = last_digits (suc scale) n in
    let e = prefix_of-append is_ascii_digit ds (46 ∷ fs) (decimal_digits (without_last (suc scale) n) l) in
    let f = length-append ds (46 ∷ fs) in
    let g = length_of_last (suc scale) n in
    scale_is (ds ++ 46 ∷ fs) ∙ rw e (rw f (omega arith))

pub value_of_number : (n scale : ℕ) → n ≤ max_number → scale ≤ max_number_scale → number_value (number_text n scale) ≡ Some (record { digits = n; scale = scale })
unfolding number_value
value_of_number n scale h k = rw (value_of_digits n scale h) (rw (scale_of_digits n scale h) (rw (le-leb n max_number h) (rw (le-leb scale max_number_scale k) refl)))

-- ---- texts

undoubled_more : (b : ℕ) (z : Text) (q : Bool) → (b == 39) ≡ q → undouble 39 false (doubled z) ≡ z → undouble 39 false (doubled (b ∷ z)) ≡ b ∷ z
undoubled_more b z true e h = let same : b ≡ 39 = grind (arith, e) in rw e (rw h (ap (λ c. c ∷ z) (sym same)))
undoubled_more b z false e h = rw e (rw e (rw h refl))

undoubled : (z : Text) → undouble 39 false (doubled z) ≡ z
undoubled [] = refl
undoubled (b ∷ z) = undoubled_more b z (b == 39) refl (undoubled z)

pub take_front : (xs ys : Text) → take (length xs) (xs ++ ys) ≡ xs
take_front [] ys = refl
take_front (x ∷ xs) ys = ap (λ z. x ∷ z) (take_front xs ys)

pub value_of_text : (z : Text) → IsText z → text_value (quoted_text z) ≡ z
unfolding text_value quoted_text
value_of_text z h =
    let l = length-append (doubled z) (39 ∷ []) in
    let n : length (39 ∷ (doubled z ++ 39 ∷ [])) - 2 ≡ length (doubled z) = omega arith in
    rw n (rw (take_front (doubled z) (39 ∷ [])) (rw (undoubled z) h.ends))
