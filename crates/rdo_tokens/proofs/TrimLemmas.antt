use Rattle.std.proofs.Common.{◌≡◌, ◌-◌, ◌==◌, ℕ, suc, true, false, [], ◌∷◌, ◌++◌, length, get_or, Option, Some, None, MatchOption, refl, ap, sym, ◌∙◌, arith}
use Rattle.rdo_tokens.specs.Lex.{Text, before_trimmed, trimmed, ends_blank}

last_at : (xs : Text) (b : ℕ) → get_or (xs ++ b ∷ []) (length xs) 0 ≡ b
last_at [] b = refl
last_at (x ∷ xs) b = last_at xs b

length_end : (xs : Text) (b : ℕ) → length (xs ++ b ∷ []) ≡ suc (length xs)
length_end [] b = refl
length_end (x ∷ xs) b = ap suc (length_end xs b)

trimmed-blank : (xs : Text) (b : ℕ) → (b == 32) ≡ true → trimmed (xs ++ b ∷ []) ≡ trimmed xs
trimmed-blank [] b h = rw h refl
trimmed-blank (x ∷ xs) b h = ap (before_trimmed x) (trimmed-blank xs b h)

trimmed-pop : (old new : Text) (b : ℕ) → old ≡ new ++ b ∷ [] → ends_blank old ≡ true → trimmed new ≡ trimmed old
trimmed-pop old new b e h =
    let at : length old - 1 ≡ length new = omega (arith, ap length e ∙ length_end new b) in
    let is : get_or old (length old - 1) 0 ≡ b = ap (λ k. get_or old k 0) at ∙ ap (λ z. get_or z (length new) 0) e ∙ last_at new b in
    sym (ap trimmed e ∙ trimmed-blank new b (sym (ap (λ c. c == 32) is) ∙ h))

pub trimmed-popped : (old new : Text) (o : Option ℕ) → MatchOption o ((old ≡ []) × (new ≡ [])) (λ last. old ≡ new ++ last ∷ []) →
    ends_blank old ≡ true → trimmed new ≡ trimmed old
trimmed-popped old new (Some b) e h = trimmed-pop old new b e h
trimmed-popped old new None e h = ap trimmed (e.1 ∙ sym e.0)

pub trimmed-kept : (z : Text) → ends_blank z ≡ false → trimmed z ≡ z
trimmed-kept [] h = refl
trimmed-kept (x ∷ []) h = rw h refl
trimmed-kept (x ∷ y ∷ z) h =
    let at : suc (suc (length z)) - 1 ≡ suc (suc (length z) - 1) = omega arith in
    let ih = trimmed-kept (y ∷ z) (sym (ap (λ k. get_or (x ∷ y ∷ z) k 0 == 32) at) ∙ h) in
    ap (before_trimmed x) ih
