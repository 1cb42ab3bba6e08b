use Rattle.std.proofs.Common.{◌≡◌, ◌≤◌, ℕ, zero, suc, ◌-◌, true, false, not, ◌||◌, ◌==◌, Bool, cond, [], ◌∷◌, length, drop, take, get_or, refl, ap, sym, subst, ◌∙◌, arith}
use Rattle.rdo_tokens.specs.declared.lex.Class.TheVariants as class
use Rattle.rdo_tokens.specs.Lex.{Text, token, is_blank, starts, past, after_comment, skip_from, skip, tokens_from, tokens}

pub skip_from-drop : (n : ℕ) (z : Text) → skip_from n z ≡ skip_from 0 (drop n z)
skip_from-drop zero z = refl
skip_from-drop (suc n) [] = refl
skip_from-drop (suc n) (b ∷ z) = skip_from-drop n z

pub tokens_from-drop : (n : ℕ) (z : Text) → tokens_from n z ≡ tokens_from 0 (drop n z)
tokens_from-drop zero z = refl
tokens_from-drop (suc n) [] = refl
tokens_from-drop (suc n) (b ∷ z) = tokens_from-drop n z

pub skip_comment : (z : Text) → get_or z 0 0 ≡ 33 → skip_from 0 (after_comment (drop 1 z)) ≡ skip_from 0 z
skip_comment [] e = cc
skip_comment (b ∷ z) e =
    let P : ℕ → Type 0 = λ b. skip_from 0 (after_comment z) ≡ skip_from 0 (b ∷ z) in
    subst P (sym e) (sym (skip_from-drop (past class.Comment z 0) z))

-- the tokens of a text are those of its part after blanks and comments
skip_case : (b : ℕ) (z : Text) (m : ℕ) → m ≡ past class.Comment z 0 →
    tokens_from 0 (skip_from 0 z) ≡ tokens_from 0 z → tokens_from 0 (skip_from m z) ≡ tokens_from m z →
    (blank mark : Bool) → is_blank b ≡ blank → (b == 33) ≡ mark →
    tokens_from 0 (cond blank (skip_from 0 z) (cond mark (skip_from m z) (b ∷ z))) ≡ tokens_from 0 (b ∷ z)
skip_case b z m same h g true mark e f = rw e h
skip_case b z m same h g false true e f = rw (e, f, ← same) g
skip_case b z m same h g false false e f = refl

pub tokens_from-skip : (n : ℕ) (z : Text) → tokens_from 0 (skip_from n z) ≡ tokens_from n z
tokens_from-skip n [] = refl
tokens_from-skip (suc n) (b ∷ z) = tokens_from-skip n z
tokens_from-skip zero (b ∷ z) =
    skip_case b z (past class.Comment z 0) refl (tokens_from-skip 0 z) (tokens_from-skip (past class.Comment z 0) z) (is_blank b) (b == 33) refl refl

pub tokens-skip : (z : Text) → tokens (skip z) ≡ tokens z
unfolding tokens skip
tokens-skip z = tokens_from-skip 0 z

-- the tokens of a text that begins with one
pub tokens-starts : (b : ℕ) (z : Text) → starts (b ∷ z) ≡ true → 1 ≤ (token (b ∷ z)).len →
    tokens (b ∷ z) ≡ record { kind = (token (b ∷ z)).kind; spelling = take (token (b ∷ z)).len (b ∷ z); left = length (b ∷ z) } ∷ tokens (drop (token (b ∷ z)).len (b ∷ z))
unfolding tokens
tokens-starts b z s moves = started (is_blank b) (b == 33) refl refl s
  where
    started : (blank mark : Bool) → is_blank b ≡ blank → (b == 33) ≡ mark → not (blank || mark) ≡ true →
        tokens_from 0 (b ∷ z) ≡ record { kind = (token (b ∷ z)).kind; spelling = take (token (b ∷ z)).len (b ∷ z); left = length (b ∷ z) } ∷ tokens_from 0 (drop (token (b ∷ z)).len (b ∷ z))
    started true mark e f h = cc
    started false true e f h = cc
    started false false e f h = rw (e, f) (ap (λ ts. record { kind = (token (b ∷ z)).kind; spelling = take (token (b ∷ z)).len (b ∷ z); left = length (b ∷ z) } ∷ ts) (tokens_from-drop ((token (b ∷ z)).len - 1) z ∙ ap (tokens_from 0) (drop-one (token (b ∷ z)).len moves)))
      where
        drop-one : (n : ℕ) → 1 ≤ n → drop (n - 1) z ≡ drop n (b ∷ z)
        drop-one zero h = absurd (omega arith)
        drop-one (suc n) h = let e : suc n - 1 ≡ n = omega arith in ap (λ k. drop k z) e
