-- Every step looks at one token at most of what follows, and so does what is made of such steps.
use Rattle.std.proofs.Common.{◌≡◌, ℕ, zero, suc, Bool, true, false, cond, List, [], ◌∷◌, ◌++◌, Option, Some, None, Ok, Err, nat_le, ◌==◌, ◌&&◌, refl, ap, sym, subst, ◌∙◌, append_assoc}
use Rattle.rdo_tokens.specs.declared.lex.Numeral.{Numeral}
use Rattle.rdo_tokens.specs.declared.token.Kind.{Kind}
use Rattle.rdo_tokens.specs.Lex.{Text, Token, same_kind, text_value}
use Rattle.rdo_tokens.specs.Input.{Input, Outcome, Parser, and_then, ◌>>=◌, pure, refuse, peek, take_token, eat, expect, kind, spelling, next, left, sees, after, name, upper, text, number, number_of, number_value, whole_of, whole_number, more_from, separated}
use Rattle.rdo_grammar.specs.Ahead.{SameNext, Reaches, LooksAhead}
use Rattle.rdo_tokens.specs.declared.token.Kind.TheVariants.{Finished, Name, Number, Quoted}

same : (i : Input) → SameNext i i
same [] = tt
same (t ∷ ts) = refl

behind : (front rest other : Input) → SameNext rest other → SameNext (front ++ rest) (front ++ other)
behind [] rest other s = s
behind (t ∷ ts) rest other s = refl

pub law_pure : {A : Type 0} (x : A) → LooksAhead (pure x)
law_pure x = record { at = λ i. ([], refl, λ other s. refl) }

pub law_refuse : {A : Type 0} → LooksAhead {A = A} refuse
law_refuse {A = A} = record { at = λ i. ([], refl, λ other s. refl) }

module _ {A B : Type 0} (p : Parser A) (f : A → Parser B) where
  after_ok : (i front mid : Input) (x : A) → i ≡ front ++ mid → ((other : Input) → SameNext mid other → p (front ++ other) ≡ Ok (x, other)) →
      (r : Outcome B) → Reaches (f x) mid r → Reaches (p >>= f) i r
  after_ok i front mid x e h (Ok y) (front2, e2, h2) = (
    front ++ front2,
    e ∙ ap (λ m. front ++ m) e2 ∙ sym (append_assoc front front2 y.1),
    λ other s. ap (p >>= f) (append_assoc front front2 other)
        ∙ ap (λ r. and_then r f) (h (front2 ++ other) (subst (λ m. SameNext m (front2 ++ other)) (sym e2) (behind front2 y.1 other s))) ∙ h2 other s,
  )
  after_ok i front mid x e h (Err rest) (front2, e2, h2) = (
    front ++ front2,
    e ∙ ap (λ m. front ++ m) e2 ∙ sym (append_assoc front front2 rest),
    λ other s. ap (p >>= f) (append_assoc front front2 other)
        ∙ ap (λ r. and_then r f) (h (front2 ++ other) (subst (λ m. SameNext m (front2 ++ other)) (sym e2) (behind front2 rest other s))) ∙ h2 other s,
  )

  bound : (i : Input) → ((x : A) → LooksAhead (f x)) → (r : Outcome A) → Reaches p i r → Reaches (p >>= f) i (and_then r f)
  bound i l (Ok (x, mid)) (front, e, h) = after_ok i front mid x e h (f x mid) ((l x).at mid)
  bound i l (Err rest) (front, e, h) = (front, e, λ other s. ap (λ r. and_then r f) (h other s))

  pub law_bind : LooksAhead p → ((x : A) → LooksAhead (f x)) → LooksAhead (p >>= f)
  law_bind k l = record { at = λ i. bound i l (p i) (k.at i) }

-- ---- steps

kind_same : (i other : Input) → SameNext i other → kind other ≡ kind i
unfolding kind
kind_same [] [] s = refl
kind_same [] (u ∷ us) s = absurd s
kind_same (t ∷ ts) [] s = absurd s
kind_same (t ∷ ts) (u ∷ us) s = ap (λ (x : Token). x.kind) (sym s)

left_same : (i other : Input) → SameNext i other → left other ≡ left i
unfolding left
left_same [] [] s = refl
left_same [] (u ∷ us) s = absurd s
left_same (t ∷ ts) [] s = absurd s
left_same (t ∷ ts) (u ∷ us) s = ap (λ (x : Token). x.left) (sym s)

pub law_peek : LooksAhead peek
law_peek = record { at = λ i. ([], refl, λ other s. ap (λ k. Ok (k, other)) (kind_same i other s)) }

-- a step that takes a token or leaves it, by that token alone
pub record ByToken {A : Type 0} (p : Parser A) : Type 0 where
  pub end : Reaches p [] (p [])
  pub token : (t : Token) (ts : Input) → Reaches p (t ∷ ts) (p (t ∷ ts))

pub law_token : {A : Type 0} (p : Parser A) → ByToken p → LooksAhead p
law_token p b = record { at = at }
  where
    at : (i : Input) → Reaches p i (p i)
    at [] = b.end
    at (t ∷ ts) = b.token t ts

none_other : {A : Type 0} (p : Parser A) (r : Outcome A) → p [] ≡ r → (other : Input) → SameNext [] other → p other ≡ r
none_other p r e [] s = e
none_other p r e (u ∷ us) s = absurd s

pub law_take : LooksAhead take_token
unfolding spelling next
law_take = law_token take_token (record {
  end = ([], refl, λ other s. none other s);
  token = λ t ts. (t ∷ [], refl, λ other s. refl);
})
  where
    none : (other : Input) → SameNext [] other → take_token other ≡ Ok ([], other)
    none [] s = refl
    none (u ∷ us) s = absurd s

-- takes a token that passes, and refuses any other; the flag and the first value say what it does at the end
abbrev pub one : {A : Type 0} → Bool → A → (Token → Bool) → (Token → A) → Parser A
one at_end none passes value [] = cond at_end (Ok (none, [])) (Err [])
one at_end none passes value (t ∷ ts) = cond (passes t) (Ok (value t, ts)) (Err (t ∷ ts))

module _ {A : Type 0} (at_end : Bool) (none : A) (passes : Token → Bool) (value : Token → A) where
  one_end : (b : Bool) → at_end ≡ b → Reaches (one at_end none passes value) [] (cond b (Ok (none, [])) (Err []))
  one_end true e = ([], refl, taken)
    where
      taken : (other : Input) → SameNext [] other → one at_end none passes value other ≡ Ok (none, other)
      taken [] s = rw e refl
      taken (u ∷ us) s = absurd s
  one_end false e = ([], refl, refused)
    where
      refused : (other : Input) → SameNext [] other → one at_end none passes value other ≡ Err other
      refused [] s = rw e refl
      refused (u ∷ us) s = absurd s

  one_token : (t : Token) (ts : Input) (b : Bool) → passes t ≡ b → Reaches (one at_end none passes value) (t ∷ ts) (cond b (Ok (value t, ts)) (Err (t ∷ ts)))
  one_token t ts true e = (t ∷ [], refl, λ other s. rw e refl)
  one_token t ts false e = ([], refl, refused)
    where
      refused : (other : Input) → SameNext (t ∷ ts) other → one at_end none passes value other ≡ Err other
      refused [] s = absurd s
      refused (u ∷ us) s = let f : passes u ≡ false = ap passes (sym s) ∙ e in rw f refl

  pub law_one : LooksAhead (one at_end none passes value)
  law_one = law_token (one at_end none passes value) (record { end = one_end at_end refl; token = λ t ts. one_token t ts (passes t) refl })

-- the same parser by another definition
module _ {A : Type 0} (p q : Parser A) (e : (i : Input) → q i ≡ p i) where
  changed : (i : Input) (r : Outcome A) → Reaches q i r → Reaches p i r
  changed i (Ok y) (front, e2, h) = (front, e2, λ other s. sym (e (front ++ other)) ∙ h other s)
  changed i (Err rest) (front, e2, h) = (front, e2, λ other s. sym (e (front ++ other)) ∙ h other s)

  pub law_as : LooksAhead q → LooksAhead p
  law_as l = record { at = λ i. subst (λ o. Reaches p i o) (e i) (changed i (q i) (l.at i)) }

pub law_expect : (k : Kind) → LooksAhead (expect k)
unfolding expect sees kind next
law_expect k = law_as (expect k) (one (same_kind Finished k) tt (λ t. same_kind t.kind k) (λ t. tt)) same_as (law_one (same_kind Finished k) tt (λ t. same_kind t.kind k) (λ t. tt))
  where
    same_as : (i : Input) → one (same_kind Finished k) tt (λ t. same_kind t.kind k) (λ t. tt) i ≡ expect k i
    same_as [] = refl
    same_as (t ∷ ts) = refl

pub law_name : LooksAhead name
unfolding name sees kind spelling next
law_name = law_as name (one (same_kind Finished Name) (upper []) (λ t. same_kind t.kind Name) (λ t. upper t.spelling)) same_as
    (law_one (same_kind Finished Name) (upper []) (λ t. same_kind t.kind Name) (λ t. upper t.spelling))
  where
    same_as : (i : Input) → one (same_kind Finished Name) (upper []) (λ t. same_kind t.kind Name) (λ t. upper t.spelling) i ≡ name i
    same_as [] = refl
    same_as (t ∷ ts) = refl

pub law_eat : (k : Kind) → LooksAhead (eat k)
unfolding after sees kind next
law_eat k = law_as (eat k) (peek >>= (λ found. cond (same_kind found k) (take_token >>= (λ _. pure true)) (pure false))) same_as
    (law_bind peek (λ found. cond (same_kind found k) (take_token >>= (λ _. pure true)) (pure false)) law_peek (λ found. chosen (same_kind found k)))
  where
    chosen : (b : Bool) → LooksAhead (cond b (take_token >>= (λ _. pure true)) (pure false))
    chosen true = law_bind take_token (λ _. pure true) law_take (λ _. law_pure true)
    chosen false = law_pure false

    by_test : (i : Input) (b : Bool) → cond b (take_token >>= (λ _. pure true)) (pure false) i ≡ Ok (b, cond b (next i) i)
    by_test i true = refl
    by_test i false = refl

    same_as : (i : Input) → (peek >>= (λ found. cond (same_kind found k) (take_token >>= (λ _. pure true)) (pure false))) i ≡ eat k i
    same_as i = by_test i (same_kind (kind i) k)

-- a loop that is bounded by the bytes that are left
module _ {A : Type 0} (p : ℕ → Parser A) (l : (n : ℕ) → LooksAhead (p n)) where
  sized : (i : Input) (r : Outcome A) → Reaches (p (left i)) i r → Reaches (λ j. p (left j) j) i r
  sized i (Ok y) (front, e, h) = (front, e, λ other s. ap (λ n. p n (front ++ other)) (left_same i (front ++ other) (subst (λ j. SameNext j (front ++ other)) (sym e) (behind front y.1 other s))) ∙ h other s)
  sized i (Err rest) (front, e, h) = (front, e, λ other s. ap (λ n. p n (front ++ other)) (left_same i (front ++ other) (subst (λ j. SameNext j (front ++ other)) (sym e) (behind front rest other s))) ∙ h other s)

  pub law_sized : LooksAhead (λ i. p (left i) i)
  law_sized = record { at = λ i. sized i (p (left i) i) ((l (left i)).at i) }

pub law_if : {A : Type 0} (p q : Parser A) (b : Bool) → LooksAhead p → LooksAhead q → LooksAhead (cond b p q)
law_if p q true k l = k
law_if p q false k l = l

-- the primitives of numbers and texts
pub law_text : LooksAhead text
unfolding text sees kind spelling next
law_text = law_as text (one (same_kind Finished Quoted) (text_value []) (λ t. same_kind t.kind Quoted) (λ t. text_value t.spelling)) same_as (law_one _ _ _ _)
  where
    same_as : (i : Input) → one (same_kind Finished Quoted) (text_value []) (λ t. same_kind t.kind Quoted) (λ t. text_value t.spelling) i ≡ text i
    same_as [] = refl
    same_as (t ∷ ts) = refl

abbrev pub spelled : Parser Text
spelled = λ i. Ok (spelling i, i)

pub law_spelled : LooksAhead spelled
unfolding spelling
law_spelled = record { at = λ i. ([], refl, λ other s. same_as i other s) }
  where
    same_as : (i other : Input) → SameNext i other → spelled other ≡ Ok (spelling i, other)
    same_as [] [] s = refl
    same_as [] (u ∷ us) s = absurd s
    same_as (t ∷ ts) [] s = absurd s
    same_as (t ∷ ts) (u ∷ us) s = ap (λ (x : Token). Ok (x.spelling, u ∷ us)) (sym s)

pub if_at : {A : Type 0} (p q : Parser A) (b : Bool) (i : Input) → cond b p q i ≡ cond b (p i) (q i)
if_at p q true i = refl
if_at p q false i = refl

law_number_of : (n : Option Numeral) → LooksAhead (number_of n)
law_number_of (Some n) = law_bind take_token (λ _. pure n) law_take (λ _. law_pure n)
law_number_of None = law_refuse

pub law_number : LooksAhead number
unfolding number sees
law_number = law_as number (peek >>= (λ kd. cond (same_kind kd Number) (spelled >>= (λ s. number_of (number_value s))) refuse))
    (λ i. if_at (spelled >>= (λ s. number_of (number_value s))) refuse (same_kind (kind i) Number) i)
    (law_bind _ _ law_peek (λ kd. law_if _ _ (same_kind kd Number) (law_bind _ _ law_spelled (λ s. law_number_of (number_value s))) law_refuse))

law_whole_of : (least most : ℕ) (n : Option Numeral) → LooksAhead (whole_of least most n)
law_whole_of least most (Some n) =
    let test = n.scale == 0 && nat_le least n.digits && nat_le n.digits most in
    law_as (whole_of least most (Some n)) (cond test (take_token >>= (λ _. pure n.digits)) refuse)
    (λ i. if_at (take_token >>= (λ _. pure n.digits)) refuse test i)
    (law_if _ _ test (law_bind take_token (λ _. pure n.digits) law_take (λ _. law_pure n.digits)) law_refuse)
law_whole_of least most None = law_refuse

pub law_whole : (least most : ℕ) → LooksAhead (whole_number least most)
unfolding whole_number sees
law_whole least most = law_as (whole_number least most) (peek >>= (λ kd. cond (same_kind kd Number) (spelled >>= (λ s. whole_of least most (number_value s))) refuse))
    (λ i. if_at (spelled >>= (λ s. whole_of least most (number_value s))) refuse (same_kind (kind i) Number) i)
    (law_bind _ _ law_peek (λ kd. law_if _ _ (same_kind kd Number) (law_bind _ _ law_spelled (λ s. law_whole_of least most (number_value s))) law_refuse))

pub law_separated : {A : Type 0} (separator : Kind) (item : Parser A) → LooksAhead item → LooksAhead (separated separator item)
unfolding separated more_from
law_separated {A = A} separator item l = law_bind _ _ l (λ x. law_sized (λ n. more_from separator item n (x ∷ [])) (λ n. more n (x ∷ [])))
  where
    more : (n : ℕ) (found : List A) → LooksAhead (more_from separator item n found)
    more zero found = law_pure found
    more (suc n) found = law_bind _ _ (law_eat separator) (λ b. law_if _ _ b (law_bind _ _ l (λ x. more n (found ++ x ∷ []))) (law_pure found))
