-- The tokens of a text of words are those words.
use Rattle.std.proofs.Common.{◌≡◌, ℕ, zero, suc, ◌+◌, ◌-◌, ◌==◌, ◌≤◌, ◌<◌, ◌^◌, Bool, true, false, List, [], ◌∷◌, ◌++◌, length, Some, refl, ap, ◌∙◌, subst, arith, append_assoc}
use Rattle.std.specs.Prelude.{decimal}
use Rattle.std.specs.List.{AllByRecursion, prefix_len}
use Rattle.std.specs.Char.{is_ascii_digit, is_ascii_alphabetic}
use Rattle.std.proofs.lemmas.Bool.{le-leb}
use Rattle.std.proofs.lemmas.List.{length-append, get_or-append-add}
use Rattle.std.proofs.lemmas.Fmt.{decimal_nonempty}
use Rattle.std.proofs.Math.Seq.{get_or-append_seam, drop-append-add}
use Rattle.rdo_tokens.specs.declared.token.Kind.{Kind}
use Rattle.rdo_tokens.specs.declared.token.Kind.TheVariants as k
use Rattle.rdo_tokens.specs.Lex.{Text, max_name, word_kind, same_kind, symbol, token, tokens, tokens_from, is_blank, is_printable, closing, max_number}
use Rattle.rdo_tokens.specs.Input.{Input}
use Rattle.rdo_printer.specs.Words.{Spelled, spelling_of, number_text, quoted_text, doubled, without_last, last_digits, text_of}
use Rattle.rdo_printer.proofs.Labels.{labelled}
use Rattle.rdo_printer.specs.Printable.{is_name_character, IsName, IsText}
use Rattle.rdo_printer.proofs.WordLaws.{AreDigits, decimal_digits, last_are_digits, prefix_of-append, take_front, less_without_last, length_of_last}
use Rattle.rdo_printer.proofs.ExpressionLaws.{false-true}

-- ---- words

-- a spelling before a blank is a token of this kind
abbrev pub IsWord : Kind → Text → Type 0
IsWord kind [] = ⊥
IsWord kind (b ∷ z) = (is_blank b ≡ false) × ((b == 33) ≡ false) × ((y : Text) → token (b ∷ z ++ 32 ∷ y) ≡ record { kind = kind; len = length (b ∷ z) })

abbrev pub AreWords : List Spelled → Type 0
AreWords = AllByRecursion (λ w. IsWord w.kind w.spelling)

pub are_words-append : (ws vs : List Spelled) → AreWords ws → AreWords vs → AreWords (ws ++ vs)
are_words-append [] vs h k = k
are_words-append (w ∷ ws) vs h k = (h.0, are_words-append ws vs h.1 k)

-- the bytes of a token are passed over
passed : (z y : Text) → tokens_from (length z) (z ++ y) ≡ tokens_from 0 y
passed [] y = refl
passed (b ∷ z) y = passed z y

word_token : (kind : Kind) (z : Text) → IsWord kind z → (y : Text) → tokens (z ++ 32 ∷ y) ≡ record { kind = kind; spelling = z; left = length (z ++ 32 ∷ y) } ∷ tokens y
unfolding tokens
word_token kind [] w y = absurd w
word_token kind (b ∷ z) w y =
    let one : suc (length z) - 1 ≡ length z = omega arith in
    let cut = w.2 y in
    let front = take_front (b ∷ z) (32 ∷ y) in
    let over = passed z (32 ∷ y) in
    rw (w.0) (rw (w.1) (rw cut (rw front (rw one (rw over refl)))))

pub tokens_of_words : (ws : List Spelled) → AreWords ws → (y : Text) → tokens (text_of ws ++ y) ≡ labelled ws (length y) (tokens y)
tokens_of_words [] h y = refl
tokens_of_words (w ∷ ws) h y =
    let z : Text = text_of ws ++ y in
    let e : length (w.spelling ++ 32 ∷ z) ≡ length (text_of (w ∷ ws)) + length y = rw (length-append w.spelling (32 ∷ z)) (rw (length-append w.spelling (32 ∷ text_of ws)) (rw (length-append (text_of ws) y) (omega arith))) in
    ap tokens (append_assoc w.spelling (32 ∷ text_of ws) y)
    ∙ word_token w.kind w.spelling h.0 z
    ∙ ap (λ (n : ℕ). record { kind = w.kind; spelling = w.spelling; left = n } ∷ tokens z) e
    ∙ ap (λ (l : Input). record { kind = w.kind; spelling = w.spelling; left = length (text_of (w ∷ ws)) + length y } ∷ l) (tokens_of_words ws h.1 y)

-- ---- reserved words and names

letter_least : (b : ℕ) → is_ascii_alphabetic b ≡ true → 34 ≤ b
letter_least b h = grind (arith, h)

above_blanks : (b : ℕ) → 34 ≤ b → (is_blank b ≡ false) × ((b == 33) ≡ false)
above_blanks b l =
    let e1 : (b == 9) ≡ false = grind arith in
    let e2 : (b == 10) ≡ false = grind arith in
    let e3 : (b == 13) ≡ false = grind arith in
    let e4 : (b == 32) ≡ false = grind arith in
    let e5 : (b == 33) ≡ false = grind arith in
    (rw e1 (rw e2 (rw e3 (rw e4 refl))), e5)

-- a letter is no blank and begins no comment
letter : (b : ℕ) → is_ascii_alphabetic b ≡ true → (is_blank b ≡ false) × ((b == 33) ≡ false)
letter b h = let l = letter_least b h in above_blanks b l

letters : (z y : Text) → AllByRecursion (λ b. is_name_character b ≡ true) z → prefix_len is_name_character (z ++ 32 ∷ y) ≡ length z
letters z y h = prefix_of-append is_name_character z (32 ∷ y) h ∙ omega arith

word_of_letters : (b : ℕ) (z : Text) → is_ascii_alphabetic b ≡ true → AllByRecursion (λ c. is_name_character c ≡ true) (b ∷ z) → length (b ∷ z) ≤ max_name → IsWord (word_kind (b ∷ z)) (b ∷ z)
unfolding token
word_of_letters b z h all short =
    let l = letter b h in let same : 0 + length (b ∷ z) ≡ length (b ∷ z) = omega arith in (l.0, l.1, λ y. rw h (rw (letters (b ∷ z) y all) (rw same (rw (le-leb (length (b ∷ z)) max_name short) (rw (take_front (b ∷ z) (32 ∷ y)) refl)))))

pub name_is_word : (n : Text) → IsName n → IsWord k.Name n
name_is_word [] h = false-true h.begins
name_is_word (b ∷ z) h = subst (λ kind. IsWord kind (b ∷ z)) h.free (word_of_letters b z h.begins h.characters h.short)

abbrev has_spelling : Kind → Bool
has_spelling k.Finished = false
has_spelling k.Bad = false
has_spelling k.Name = false
has_spelling k.Number = false
has_spelling k.Quoted = false
has_spelling kind = true

-- a symbol or a reserved word
pub is_word : (kind : Kind) → has_spelling kind ≡ true → IsWord kind (spelling_of kind)
unfolding spelling_of token symbol word_kind same_kind
is_word k.Finished h = false-true h
is_word k.Bad h = false-true h
is_word k.Name h = false-true h
is_word k.Number h = false-true h
is_word k.Quoted h = false-true h
is_word k.Dot h = (refl, refl, λ y. refl)
is_word k.Comma h = (refl, refl, λ y. refl)
is_word k.Semicolon h = (refl, refl, λ y. refl)
is_word k.Equal h = (refl, refl, λ y. refl)
is_word k.Unequal h = (refl, refl, λ y. refl)
is_word k.Greater h = (refl, refl, λ y. refl)
is_word k.GreaterEqual h = (refl, refl, λ y. refl)
is_word k.Less h = (refl, refl, λ y. refl)
is_word k.LessEqual h = (refl, refl, λ y. refl)
is_word k.Plus h = (refl, refl, λ y. refl)
is_word k.Minus h = (refl, refl, λ y. refl)
is_word k.Star h = (refl, refl, λ y. refl)
is_word k.Open h = (refl, refl, λ y. refl)
is_word k.Close h = (refl, refl, λ y. refl)
is_word k.Dollar h = (refl, refl, λ y. refl)
is_word k.Slash h = (refl, refl, λ y. refl)
is_word kind h = (refl, refl, λ y. refl)

-- ---- numbers

digit_least : (b : ℕ) → is_ascii_digit b ≡ true → 34 ≤ b
digit_least b h = grind (arith, h)

digit_no_letter : (b : ℕ) → is_ascii_digit b ≡ true → is_ascii_alphabetic b ≡ false
digit_no_letter b h = grind (arith, h)

digits_before : (ds : Text) (c : ℕ) (y : Text) → AreDigits ds → is_ascii_digit c ≡ false → 0 + prefix_len is_ascii_digit (ds ++ c ∷ y) ≡ length ds
digits_before ds c y h e = rw (prefix_of-append is_ascii_digit ds (c ∷ y) h) (rw e (omega arith))

whole_word : (ds : Text) → 0 < length ds → AreDigits ds → IsWord k.Number ds
unfolding token
whole_word [] l h = absurd (omega arith)
whole_word (b ∷ ds) l h =
    let a = above_blanks b (digit_least b h.0) in
    (a.0, a.1, λ y. rw (digits_before (b ∷ ds) 32 y h refl) (rw (digit_no_letter b h.0) (rw (h.0) (rw (get_or-append_seam (b ∷ ds) 32 y 0) refl))))

fraction_cut : (ds fs y : Text) → 0 < length ds → AreDigits ds → AreDigits fs → 0 < length fs → token (ds ++ (46 ∷ fs ++ 32 ∷ y)) ≡ record { kind = k.Number; len = length ds + 1 + length fs }
unfolding token
fraction_cut [] fs y l h g m = absurd (omega arith)
fraction_cut (b ∷ ds) [] y l h g m = absurd (omega arith)
fraction_cut (b ∷ ds) (f ∷ fs) y l h g m =
    let z : Text = 46 ∷ f ∷ fs ++ 32 ∷ y in
    let second = get_or-append-add (b ∷ ds) z 1 0 in
    let rest = drop-append-add (b ∷ ds) z 1 in
    let more : length (b ∷ ds) + 1 + prefix_len is_ascii_digit (f ∷ fs ++ 32 ∷ y) ≡ length (b ∷ ds) + 1 + length (f ∷ fs) = rw (prefix_of-append is_ascii_digit (f ∷ fs) (32 ∷ y) g) (omega arith) in
    rw (digits_before (b ∷ ds) 46 (f ∷ fs ++ 32 ∷ y) h refl) (rw (digit_no_letter b h.0) (rw (h.0) (rw (get_or-append_seam (b ∷ ds) 46 (f ∷ fs ++ 32 ∷ y) 0) (rw second (rw (g.0) (rw rest (rw more refl)))))))

fraction_word : (ds fs : Text) → 0 < length ds → AreDigits ds → AreDigits fs → 0 < length fs → IsWord k.Number (ds ++ 46 ∷ fs)
fraction_word [] fs l h g m = absurd (omega arith)
fraction_word (b ∷ ds) fs l h g m =
    let a = above_blanks b (digit_least b h.0) in
    let len : length (b ∷ ds) + 1 + length fs ≡ length (b ∷ ds ++ 46 ∷ fs) = rw (length-append (b ∷ ds) (46 ∷ fs)) (omega arith) in
    (a.0, a.1, λ y. ap token (append_assoc (b ∷ ds) (46 ∷ fs) (32 ∷ y)) ∙ fraction_cut (b ∷ ds) fs y l h g m ∙ ap (λ (n : ℕ). record { kind = k.Number; len = n }) len)

pub number_is_word : (n scale : ℕ) → n ≤ max_number → IsWord k.Number (number_text n scale)
unfolding number_text
number_is_word n zero h = let l : n < 2 ^ 64 = omega arith in whole_word (decimal n) (decimal_nonempty n l) (decimal_digits n l)
number_is_word n (suc scale) h =
    let w = without_last (suc scale) n in
    let e = less_without_last (suc scale) n in
    let l : w < 2 ^ 64 = omega arith in
    let f = length_of_last (suc scale) n in
    let m : 0 < length (last_digits (suc scale) n) = omega arith in
    fraction_word (decimal w) (last_digits (suc scale) n) (decimal_nonempty w l) (decimal_digits w l) (last_are_digits (suc scale) n) m

-- ---- texts

closing_more : (b : ℕ) (z y : Text) (q : Bool) → (b == 39) ≡ q → is_printable b ≡ true → ((at : ℕ) → closing 39 false at (doubled z ++ 39 ∷ 32 ∷ y) ≡ Some (at + length (doubled z) + 1)) →
    (at : ℕ) → closing 39 false at (doubled (b ∷ z) ++ 39 ∷ 32 ∷ y) ≡ Some (at + length (doubled (b ∷ z)) + 1)
closing_more b z y true e p h at =
    let n : at + 1 + 1 + length (doubled z) + 1 ≡ at + (2 + length (doubled z)) + 1 = omega arith in
    let two : length (39 ∷ 39 ∷ doubled z) ≡ 2 + length (doubled z) = omega arith in
    rw e (rw (h (at + 1 + 1)) (rw n (rw two refl)))
closing_more b z y false e p h at =
    let n : at + 1 + length (doubled z) + 1 ≡ at + (1 + length (doubled z)) + 1 = omega arith in
    let one : length (b ∷ doubled z) ≡ 1 + length (doubled z) = omega arith in
    rw e (rw p (rw e (rw (h (at + 1)) (rw n (rw one refl)))))

closing_at : (z y : Text) → AllByRecursion (λ b. is_printable b ≡ true) z → (at : ℕ) → closing 39 false at (doubled z ++ 39 ∷ 32 ∷ y) ≡ Some (at + length (doubled z) + 1)
closing_at [] y h at = let n : at + 1 ≡ at + 0 + 1 = omega arith in ap (λ (m : ℕ). Some m) n
closing_at (b ∷ z) y h at = closing_more b z y (b == 39) refl h.0 (closing_at z y h.1) at

pub text_is_word : (z : Text) → IsText z → IsWord k.Quoted (quoted_text z)
unfolding quoted_text token
text_is_word z h = (
  refl,
  refl,
  λ y.
      let same : 1 + length (doubled z) + 1 ≡ length (39 ∷ (doubled z ++ 39 ∷ [])) = rw (length-append (39 ∷ doubled z) (39 ∷ [])) (omega arith) in
      rw (append_assoc (doubled z) (39 ∷ []) (32 ∷ y)) (rw (closing_at z y h.printable 1) (rw same refl)),
)
