-- What it means that a parser reads words as a value, and what follows for parsers in sequence and for lists.
use Rattle.std.proofs.Common.{◌≡◌, ℕ, zero, suc, ◌+◌, ◌≤◌, true, false, List, [], ◌∷◌, ◌++◌, map, length, Option, Some, None, Ok, refl, ap, sym, ◌∙◌, append_assoc, append-nil, arith}
use Rattle.std.specs.List.{AllByRecursion}
use Rattle.std.proofs.lemmas.List.{length-append}
use Rattle.std.proofs.lemmas.Bool.{le-leb}
use Rattle.rdo_ast.specs.declared.syntax.Reference.{Reference}
use Rattle.rdo_ast.specs.declared.syntax.Range.{Range}
use Rattle.rdo_tokens.specs.declared.token.Kind.{Kind}
use Rattle.rdo_tokens.specs.declared.token.Kind.TheVariants as k
use Rattle.rdo_tokens.specs.Lex.{Text, same_kind, max_number, max_number_scale}
use Rattle.rdo_tokens.specs.Input.{Input, Parser, kind, spelling, next, left, sees, after, expect, name, text, number, whole_number, more_from, separated}
use Rattle.rdo_grammar.specs.Grammar.{reference, ref_from, range, first}
use Rattle.rdo_printer.specs.Words.{Spelled, word, number_word, number_text, quoted_text, text_of, more_words, separated_words}
use Rattle.rdo_printer.proofs.Labels.{labelled}
use Rattle.rdo_printer.specs.Trees.{reference_words, range_words, first_words}
use Rattle.rdo_printer.specs.Printable.{IsName, IsText, IsReference, IsRange, IsFirst, AreItems}
use Rattle.rdo_printer.proofs.WordLaws.{value_of_number, value_of_text}

-- the words are read as the value where the token behind them is one of these kinds
abbrev pub Reads : {A : Type 0} → Parser A → List Spelled → A → (Kind → Type 0) → Type 0
Reads p ws x After = (behind : ℕ) (other : Input) → After (kind other) → p (labelled ws behind other) ≡ Ok (x, other)

abbrev pub Anything : Kind → Type 0
Anything k = Unit {0}

-- ---- words in front of words

text_of-append : (ws vs : List Spelled) → text_of (ws ++ vs) ≡ text_of ws ++ text_of vs
text_of-append [] vs = refl
text_of-append (w ∷ ws) vs = ap (λ z. w.spelling ++ 32 ∷ z) (text_of-append ws vs) ∙ sym (append_assoc w.spelling (32 ∷ text_of ws) (text_of vs))

pub length_text : (ws vs : List Spelled) → length (text_of (ws ++ vs)) ≡ length (text_of ws) + length (text_of vs)
length_text ws vs = ap length (text_of-append ws vs) ∙ length-append (text_of ws) (text_of vs)

pub labelled-append : (ws vs : List Spelled) (behind : ℕ) (other : Input) → labelled (ws ++ vs) behind other ≡ labelled ws (length (text_of vs) + behind) (labelled vs behind other)
labelled-append [] vs behind other = refl
labelled-append (w ∷ ws) vs behind other =
    let e : length (text_of (w ∷ ws ++ vs)) + behind ≡ length (text_of (w ∷ ws)) + (length (text_of vs) + behind) = rw (length_text (w ∷ ws) vs) (omega arith) in
    let f = labelled-append ws vs behind other in
    ap (λ (n : ℕ). record { kind = w.kind; spelling = w.spelling; left = n } ∷ labelled (ws ++ vs) behind other) e
    ∙ ap (λ (l : Input). record { kind = w.kind; spelling = w.spelling; left = length (text_of (w ∷ ws)) + (length (text_of vs) + behind) } ∷ l) f

pub in_front : {A : Type 0} (p : Parser A) (ws : List Spelled) (x : A) (After : Kind → Type 0) → Reads p ws x After →
    (vs : List Spelled) (behind : ℕ) (other : Input) → After (kind (labelled vs behind other)) → p (labelled (ws ++ vs) behind other) ≡ Ok (x, labelled vs behind other)
in_front p ws x After h vs behind other a = ap p (labelled-append ws vs behind other) ∙ h (length (text_of vs) + behind) (labelled vs behind other) a

-- ---- names, numbers and texts

pub name_read : (n : Text) → IsName n → (l : ℕ) (ts : Input) → name (record { kind = k.Name; spelling = n; left = l } ∷ ts) ≡ Ok (n, ts)
unfolding name sees kind spelling next same_kind
name_read n h l ts = ap (λ m. Ok (m, ts)) h.capitals

pub number_read : (n scale : ℕ) → n ≤ max_number → scale ≤ max_number_scale → (l : ℕ) (ts : Input) →
    number (record { kind = k.Number; spelling = number_text n scale; left = l } ∷ ts) ≡ Ok (record { digits = n; scale = scale }, ts)
unfolding number sees kind spelling next same_kind
number_read n scale h s l ts = rw (value_of_number n scale h s) refl

pub text_read : (z : Text) → IsText z → (l : ℕ) (ts : Input) → text (record { kind = k.Quoted; spelling = quoted_text z; left = l } ∷ ts) ≡ Ok (z, ts)
unfolding text sees kind spelling next same_kind
text_read z h l ts = ap (λ m. Ok (m, ts)) (value_of_text z h)

pub reference_read : (r : Reference) → IsReference r → Reads reference (reference_words r) r Anything
unfolding reference ref_from name expect sees kind spelling next same_kind
reference_read r h behind other a = rw h.0.capitals (rw h.1.capitals refl)

pub range_read : (r : Range) → IsRange r → Reads range (range_words r) r Anything
unfolding range name expect sees kind spelling next same_kind
range_read r h behind other a = rw h.0.capitals (rw h.1.capitals refl)

-- ---- lists

-- each item is a word at least
pub more_turns : {A : Type 0} (separator : Kind) (words : A → List Spelled) (xs : List A) → length xs ≤ length (text_of (more_words separator words xs))
more_turns separator words [] = omega arith
more_turns separator words (x ∷ xs) =
    let h = more_turns separator words xs in
    let e = length_text (words x) (more_words separator words xs) in
    let f = length-append (word separator).spelling (32 ∷ text_of (words x ++ more_words separator words xs)) in
    rw f (omega arith)

module _ {A B : Type 0} (separator : Kind) (item : Parser B) (words : A → List Spelled) (value : A → B) (P : A → Type 0) (After : Kind → Type 0)
    (same : same_kind separator separator ≡ true) (goes_on : After separator) (read : (x : A) → P x → Reads item (words x) (value x) After) where
  -- what may stand behind an item stands there
  behind_item : (xs : List A) (behind : ℕ) (other : Input) → After (kind other) → After (kind (labelled (more_words separator words xs) behind other))
  unfolding kind
  behind_item [] behind other a = a
  behind_item (x ∷ xs) behind other a = goes_on

  more_read : (xs : List A) → AllByRecursion P xs → (turns : ℕ) (found : List B) (behind : ℕ) (other : Input) → length xs ≤ turns → After (kind other) → same_kind (kind other) separator ≡ false →
      more_from separator item turns found (labelled (more_words separator words xs) behind other) ≡ Ok (found ++ map value xs, other)
  unfolding more_from sees after kind next
  more_read [] all zero found behind other h a stops = ap (λ (v : List B). Ok (v, other)) (sym (append-nil found))
  more_read [] all (suc turns) found behind other h a stops = rw stops (ap (λ (v : List B). Ok (v, other)) (sym (append-nil found)))
  more_read (x ∷ xs) all zero found behind other h a stops = absurd (omega arith)
  more_read (x ∷ xs) all (suc turns) found behind other h a stops =
      let e = in_front item (words x) (value x) After (read x all.0) (more_words separator words xs) behind other (behind_item xs behind other a) in
      let l : length xs ≤ turns = omega arith in
      rw same (rw e (more_read xs all.1 turns (found ++ value x ∷ []) behind other l a stops ∙ ap (λ (v : List B). Ok (v, other)) (append_assoc found (value x ∷ []) (map value xs))))

  turns_of : (xs : List A) (behind : ℕ) (other : Input) → length xs ≤ left (labelled (more_words separator words xs) behind other)
  unfolding left
  turns_of [] behind other = omega arith
  turns_of (x ∷ xs) behind other = let h = more_turns separator words (x ∷ xs) in omega arith

  pub separated_read : (xs : List A) → AreItems P xs → (behind : ℕ) (other : Input) → After (kind other) → same_kind (kind other) separator ≡ false →
      separated separator item (labelled (separated_words separator words xs) behind other) ≡ Ok (map value xs, other)
  unfolding separated
  separated_read [] all behind other a stops = absurd all
  separated_read (x ∷ xs) all behind other a stops =
      let e = in_front item (words x) (value x) After (read x all.0) (more_words separator words xs) behind other (behind_item xs behind other a) in
      rw e (more_read xs all.1 (left (labelled (more_words separator words xs) behind other)) (value x ∷ []) behind other (turns_of xs behind other) a stops)

-- ---- whole numbers

pub whole_read : (least most n : ℕ) → least ≤ n → n ≤ most → most ≤ max_number → (l : ℕ) (ts : Input) →
    whole_number least most (record { kind = k.Number; spelling = number_text n 0; left = l } ∷ ts) ≡ Ok (n, ts)
unfolding whole_number sees kind spelling next same_kind
whole_read least most n low high limit l ts =
    let fits : n ≤ max_number = omega arith in
    let zero_fits : 0 ≤ max_number_scale = omega arith in
    rw (value_of_number n 0 fits zero_fits) (rw (le-leb least n low) (rw (le-leb n most high) refl))

pub first_read : (n : Option ℕ) → IsFirst n → (vs : List Spelled) (behind : ℕ) (other : Input) → same_kind (kind (labelled vs behind other)) k.First ≡ false →
    first (labelled (first_words n ++ vs) behind other) ≡ Ok (n, labelled vs behind other)
unfolding first sees after kind next same_kind
first_read None h vs behind other stops = rw stops refl
first_read (Some n) h vs behind other stops =
    let low : 0 ≤ n = omega arith in
    let limit : max_number ≤ max_number = omega arith in
    rw (whole_read 0 max_number n low h limit (length (text_of (number_word n 0 ∷ vs)) + behind) (labelled vs behind other)) refl
