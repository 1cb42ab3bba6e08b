-- Each step is steady, and so are numbers, texts and lists with separators.
use Rattle.std.proofs.Common.{◌≡◌, ◌≤◌, ℕ, zero, suc, Bool, true, false, cond, List, [], ◌∷◌, ◌++◌, Option, Some, None, Ok, Err, nat_le, ◌==◌, ◌&&◌, refl, ap, sym, subst, ◌∙◌, arith}
use Rattle.rdo_tokens.specs.declared.token.Kind.{Kind}
use Rattle.rdo_tokens.specs.declared.token.Kind.TheVariants as k
use Rattle.rdo_tokens.specs.declared.token.Kind.TheVariants.{Finished, Name, Number, Quoted}
use Rattle.rdo_tokens.specs.Lex.{Text, Token, same_kind, text_value}
use Rattle.rdo_tokens.specs.Input.{Input, Outcome, Parser, and_then, ◌>>=◌, pure, refuse, peek, take_token, eat, expect, kind, spelling, next, left, sees, after, name, upper, text, number, number_of, number_value, whole_of, whole_number, more_from, separated}
use Rattle.rdo_labels.specs.Alike.{SameWords, SameNextWord, Descends}
use Rattle.rdo_labels.proofs.Pairs.{ReachesAs, Pair, Steady, Shrinks, left_behind, descends_behind, pair_bind, pair_takes, pair_pure, pair_if, pair_as, law_pure, law_refuse, law_bind, law_if, law_as, law_loop}

-- ---- steps

kind_same : (i other : Input) → SameNextWord i other → kind other ≡ kind i
unfolding kind
kind_same [] [] s = refl
kind_same [] (u ∷ us) s = absurd s
kind_same (t ∷ ts) [] s = absurd s
kind_same (t ∷ ts) (u ∷ us) s = sym s.0

spelling_same : (i other : Input) → SameNextWord i other → spelling other ≡ spelling i
unfolding spelling
spelling_same [] [] s = refl
spelling_same [] (u ∷ us) s = absurd s
spelling_same (t ∷ ts) [] s = absurd s
spelling_same (t ∷ ts) (u ∷ us) s = sym s.1

peek_same : (i words other : Input) → SameWords [] words → SameNextWord i other → peek (words ++ other) ≡ Ok (kind i, other)
peek_same i [] other s nx = ap (λ kd. Ok (kd, other)) (kind_same i other nx)
peek_same i (w ∷ words) other s nx = absurd s

pub law_peek : Steady peek
law_peek = record { pair = λ n m. record { at = λ i d l. ([], refl, λ words other s nx dw lw. peek_same i words other s nx) } }

abbrev pub spelled : Parser Text
spelled = λ i. Ok (spelling i, i)

spelled_same : (i words other : Input) → SameWords [] words → SameNextWord i other → spelled (words ++ other) ≡ Ok (spelling i, other)
spelled_same i [] other s nx = ap (λ z. Ok (z, other)) (spelling_same i other nx)
spelled_same i (w ∷ words) other s nx = absurd s

pub law_spelled : Steady spelled
law_spelled = record { pair = λ n m. record { at = λ i d l. ([], refl, λ words other s nx dw lw. spelled_same i words other s nx) } }

-- takes a token that passes, and refuses any other; the flag and the first value say what it does at the end
abbrev pub one : {A : Type 0} → Bool → A → (Kind → Text → Bool) → (Kind → Text → A) → Parser A
one at_end none passes value [] = cond at_end (Ok (none, [])) (Err [])
one at_end none passes value (t ∷ ts) = cond (passes t.kind t.spelling) (Ok (value t.kind t.spelling, ts)) (Err (t ∷ ts))

module _ {A : Type 0} (at_end : Bool) (none : A) (passes : Kind → Text → Bool) (value : Kind → Text → A) where
  end_ok : at_end ≡ true → (words other : Input) → SameWords [] words → SameNextWord [] other → one at_end none passes value (words ++ other) ≡ Ok (none, other)
  end_ok e [] [] s nx = rw e refl
  end_ok e [] (u ∷ us) s nx = absurd nx
  end_ok e (w ∷ words) other s nx = absurd s

  end_err : at_end ≡ false → (words other : Input) → SameWords [] words → SameNextWord [] other → one at_end none passes value (words ++ other) ≡ Err other
  end_err e [] [] s nx = rw e refl
  end_err e [] (u ∷ us) s nx = absurd nx
  end_err e (w ∷ words) other s nx = absurd s

  one_end : (m : ℕ) (b : Bool) → at_end ≡ b → ReachesAs (one at_end none passes value) m [] (cond b (Ok (none, [])) (Err []))
  one_end m true e = ([], refl, λ words other s nx dw lw. end_ok e words other s nx)
  one_end m false e = ([], refl, λ words other s nx dw lw. end_err e words other s nx)

  token_ok : (t : Token) → passes t.kind t.spelling ≡ true → (words other : Input) → SameWords (t ∷ []) words → one at_end none passes value (words ++ other) ≡ Ok (value t.kind t.spelling, other)
  token_ok t e [] other s = absurd s
  token_ok t e (w ∷ v ∷ words) other s = absurd s.2
  token_ok t e (w ∷ []) other s =
      let p : passes w.kind w.spelling ≡ true = ap (λ kd. passes kd w.spelling) (sym s.0) ∙ ap (passes t.kind) (sym s.1) ∙ e in
      let v : value w.kind w.spelling ≡ value t.kind t.spelling = ap (λ kd. value kd w.spelling) (sym s.0) ∙ ap (value t.kind) (sym s.1) in
      rw p (ap (λ x. Ok (x, other)) v)

  token_err : (t : Token) (ts : Input) → passes t.kind t.spelling ≡ false → (words other : Input) → SameWords [] words → SameNextWord (t ∷ ts) other → one at_end none passes value (words ++ other) ≡ Err other
  token_err t ts e (w ∷ words) other s nx = absurd s
  token_err t ts e [] [] s nx = absurd nx
  token_err t ts e [] (u ∷ us) s nx = let p : passes u.kind u.spelling ≡ false = ap (λ kd. passes kd u.spelling) (sym nx.0) ∙ ap (passes t.kind) (sym nx.1) ∙ e in rw p refl

  one_token : (m : ℕ) (t : Token) (ts : Input) (b : Bool) → passes t.kind t.spelling ≡ b → ReachesAs (one at_end none passes value) m (t ∷ ts) (cond b (Ok (value t.kind t.spelling, ts)) (Err (t ∷ ts)))
  one_token m t ts true e = (t ∷ [], refl, λ words other s nx dw lw. token_ok t e words other s)
  one_token m t ts false e = ([], refl, λ words other s nx dw lw. token_err t ts e words other s nx)

  one_at : (m : ℕ) (i : Input) → ReachesAs (one at_end none passes value) m i (one at_end none passes value i)
  one_at m [] = one_end m at_end refl
  one_at m (t ∷ ts) = one_token m t ts (passes t.kind t.spelling) refl

  pub law_one : Steady (one at_end none passes value)
  law_one = record { pair = λ n m. record { at = λ i d l. one_at m i } }

pub law_take : Steady take_token
unfolding spelling next
law_take = law_as take_token (one true [] (λ kd s. true) (λ kd s. s)) same_as (law_one true [] (λ kd s. true) (λ kd s. s))
  where
    same_as : (i : Input) → one true [] (λ kd s. true) (λ kd s. s) i ≡ take_token i
    same_as [] = refl
    same_as (t ∷ ts) = refl

pub law_expect : (k : Kind) → Steady (expect k)
unfolding expect sees kind next
law_expect k = law_as (expect k) (one (same_kind Finished k) tt (λ kd s. same_kind kd k) (λ kd s. tt)) same_as (law_one (same_kind Finished k) tt (λ kd s. same_kind kd k) (λ kd s. tt))
  where
    same_as : (i : Input) → one (same_kind Finished k) tt (λ kd s. same_kind kd k) (λ kd s. tt) i ≡ expect k i
    same_as [] = refl
    same_as (t ∷ ts) = refl

pub law_name : Steady name
unfolding name sees kind spelling next
law_name = law_as name (one (same_kind Finished Name) (upper []) (λ kd s. same_kind kd Name) (λ kd s. upper s)) same_as (law_one (same_kind Finished Name) (upper []) (λ kd s. same_kind kd Name) (λ kd s. upper s))
  where
    same_as : (i : Input) → one (same_kind Finished Name) (upper []) (λ kd s. same_kind kd Name) (λ kd s. upper s) i ≡ name i
    same_as [] = refl
    same_as (t ∷ ts) = refl

pub law_text : Steady text
unfolding text sees kind spelling next
law_text = law_as text (one (same_kind Finished Quoted) (text_value []) (λ kd s. same_kind kd Quoted) (λ kd s. text_value s)) same_as (law_one (same_kind Finished Quoted) (text_value []) (λ kd s. same_kind kd Quoted) (λ kd s. text_value s))
  where
    same_as : (i : Input) → one (same_kind Finished Quoted) (text_value []) (λ kd s. same_kind kd Quoted) (λ kd s. text_value s) i ≡ text i
    same_as [] = refl
    same_as (t ∷ ts) = refl

eat_at : {B : Type 0} (k : Kind) (f : Bool → Parser B) (i : Input) → (peek >>= (λ kd. cond (same_kind kd k) (take_token >>= (λ _. f true)) (f false))) i ≡ (eat k >>= f) i
unfolding sees after
eat_at k f i = by_test (same_kind (kind i) k)
  where
    by_test : (b : Bool) → cond b (take_token >>= (λ _. f true)) (f false) i ≡ f b (cond b (next i) i)
    by_test true = refl
    by_test false = refl

pub law_eat : (k : Kind) → Steady (eat k)
law_eat k = law_as (eat k) (peek >>= (λ kd. cond (same_kind kd k) (take_token >>= (λ _. pure true)) (pure false))) (λ i. eat_at k pure i)
    (law_bind _ _ law_peek (λ kd. law_if _ _ (same_kind kd k) (law_bind _ _ law_take (λ _. law_pure true)) (law_pure false)))

-- ---- parsers that take a token

rest_of : {A : Type 0} → Outcome A → Input
rest_of (Ok x) = x.1
rest_of (Err rest) = rest

next_less : (i : Input) → Descends i → (n : ℕ) → left i ≤ suc n → left (next i) ≤ n
unfolding left next
next_less [] d n l = omega arith
next_less (t ∷ ts) d n l = omega (arith, d.0, l)

pub takes_refuse : {A : Type 0} → Shrinks {A = A} refuse
takes_refuse = record { steady = law_refuse; at = λ i rest x d e n l. absurd (cc) }

pub takes_take : Shrinks take_token
unfolding rest_of
takes_take = record { steady = law_take; at = λ i rest x d e n l. let same : next i ≡ rest = ap rest_of e in subst (λ r. left r ≤ n) same (next_less i d n l) }

pub takes_name : Shrinks name
unfolding name rest_of
takes_name = record { steady = law_name; at = λ i rest x d e n l. by_test i rest x d n l (sees k.Name i) e }
  where
    by_test : (i rest : Input) (x : Text) → Descends i → (n : ℕ) → left i ≤ suc n → (b : Bool) → cond {A = Outcome Text} b (Ok (upper (spelling i), next i)) (Err i) ≡ Ok (x, rest) → left rest ≤ n
    by_test i rest x d n l true e = let same : next i ≡ rest = ap rest_of e in subst (λ r. left r ≤ n) same (next_less i d n l)
    by_test i rest x d n l false e = absurd (cc)

module _ {A B : Type 0} (p : Parser A) (f : A → Parser B) (t : Shrinks p) (l : (x : A) → Steady (f x)) where
  joined : (i rest : Input) (y : B) (r : Outcome A) → Descends i → p i ≡ r → and_then r f ≡ Ok (y, rest) → (n : ℕ) → left i ≤ suc n → left rest ≤ n
  joined i rest y (Ok (x, mid)) d e h n b =
      let small = t.at i mid x d e n b in
      let r = subst (ReachesAs p (left i) i) e ((t.steady.pair (left i) (left i)).at i d (omega arith)) in
      let dm = descends_behind r.0 mid (subst Descends r.1 d) in
      let r2 = subst (ReachesAs (f x) (left mid) mid) h (((l x).pair (left mid) (left mid)).at mid dm (omega arith)) in
      let b2 = left_behind r2.0 rest (subst Descends r2.1 dm) in
      let same = ap left r2.1 in
      omega (arith, small, b2, same)
  joined i rest y (Err stop) d e h n b = absurd (cc)

  pub takes_bind : Shrinks (p >>= f)
  takes_bind = record { steady = law_bind p f t.steady l; at = λ i rest y d e n b. joined i rest y (p i) d refl e n b }

pub takes_first : {A : Type 0} (f : Text → Parser A) → ((s : Text) → Steady (f s)) → Shrinks (take_token >>= f)
takes_first f l = takes_bind take_token f takes_take l

pub takes_peek : {A : Type 0} (f : Kind → Parser A) → ((k : Kind) → Shrinks (f k)) → Shrinks (peek >>= f)
takes_peek f t = record { steady = law_bind peek f law_peek (λ k. (t k).steady); at = λ i rest x d e n l. (t (kind i)).at i rest x d e n l }

pub takes_if : {A : Type 0} (p q : Parser A) (b : Bool) → Shrinks p → Shrinks q → Shrinks (cond b p q)
takes_if p q true t u = t
takes_if p q false t u = u

-- ---- turns of loops

pub pair_peek : {B : Type 0} (n m : ℕ) (f g : Kind → Parser B) → ((kd : Kind) → Pair n m (f kd) (g kd)) → Pair n m (peek >>= f) (peek >>= g)
pair_peek n m f g h = pair_bind n m peek peek f g (law_peek.pair n m) h

-- a token of this kind is taken if it comes next, and then all labels are less
pub pair_eat : {B : Type 0} (n m : ℕ) (k : Kind) (f g : Bool → Parser B) → Pair n m (f true) (g true) → Pair (suc n) (suc m) (f false) (g false) → Pair (suc n) (suc m) (eat k >>= f) (eat k >>= g)
pair_eat n m k f g taken passed =
    pair_as (suc n) (suc m) (eat k >>= f) (eat k >>= g)
    (peek >>= (λ kd. cond (same_kind kd k) (take_token >>= (λ _. f true)) (f false)))
    (peek >>= (λ kd. cond (same_kind kd k) (take_token >>= (λ _. g true)) (g false)))
    (eat_at k f) (eat_at k g)
    (pair_peek (suc n) (suc m) (λ kd. cond (same_kind kd k) (take_token >>= (λ _. f true)) (f false)) (λ kd. cond (same_kind kd k) (take_token >>= (λ _. g true)) (g false))
    (λ kd. pair_if (suc n) (suc m) (take_token >>= (λ _. f true)) (f false) (take_token >>= (λ _. g true)) (g false) (same_kind kd k)
    (pair_takes n m take_token take_token (λ _. f true) (λ _. g true) takes_take takes_take (law_take.pair (suc n) (suc m)) (λ _. taken)) passed))

-- ---- numbers

pub if_at : {A : Type 0} (p q : Parser A) (b : Bool) (i : Input) → cond b p q i ≡ cond b (p i) (q i)
if_at p q true i = refl
if_at p q false i = refl

law_number_of : (n : Option _) → Steady (number_of n)
law_number_of (Some n) = law_bind take_token (λ _. pure n) law_take (λ _. law_pure n)
law_number_of None = law_refuse

pub law_number : Steady number
unfolding number sees
law_number = law_as number (peek >>= (λ kd. cond (same_kind kd Number) (spelled >>= (λ s. number_of (number_value s))) refuse))
    (λ i. if_at (spelled >>= (λ s. number_of (number_value s))) refuse (same_kind (kind i) Number) i)
    (law_bind _ _ law_peek (λ kd. law_if _ _ (same_kind kd Number) (law_bind _ _ law_spelled (λ s. law_number_of (number_value s))) law_refuse))

law_whole_of : (least most : ℕ) (n : Option _) → Steady (whole_of least most n)
law_whole_of least most (Some n) =
    let test = n.scale == 0 && nat_le least n.digits && nat_le n.digits most in
    law_as (whole_of least most (Some n)) (cond test (take_token >>= (λ _. pure n.digits)) refuse)
    (λ i. if_at (take_token >>= (λ _. pure n.digits)) refuse test i)
    (law_if _ _ test (law_bind take_token (λ _. pure n.digits) law_take (λ _. law_pure n.digits)) law_refuse)
law_whole_of least most None = law_refuse

pub law_whole : (least most : ℕ) → Steady (whole_number least most)
unfolding whole_number sees
law_whole least most = law_as (whole_number least most) (peek >>= (λ kd. cond (same_kind kd Number) (spelled >>= (λ s. whole_of least most (number_value s))) refuse))
    (λ i. if_at (spelled >>= (λ s. whole_of least most (number_value s))) refuse (same_kind (kind i) Number) i)
    (law_bind _ _ law_peek (λ kd. law_if _ _ (same_kind kd Number) (law_bind _ _ law_spelled (λ s. law_whole_of least most (number_value s))) law_refuse))

-- ---- lists

pub and_apart : same_kind Finished k.And ≡ false
unfolding same_kind
and_apart = refl

pub or_apart : same_kind Finished k.Or ≡ false
unfolding same_kind
or_apart = refl

pub comma_apart : same_kind Finished k.Comma ≡ false
unfolding same_kind
comma_apart = refl

pub cross_apart : same_kind Finished k.Cross ≡ false
unfolding same_kind
cross_apart = refl

module _ {A : Type 0} (separator : Kind) (apart : same_kind Finished separator ≡ false) (item : Parser A) (l : Steady item) where
  end : (n : ℕ) (found : List A) → more_from separator item n found [] ≡ Ok (found, [])
  unfolding more_from sees after kind
  end zero found = refl
  end (suc n) found = rw apart refl

  step : (n m : ℕ) → ((found : List A) → Pair n m (more_from separator item n found) (more_from separator item m found)) →
      (found : List A) → Pair (suc n) (suc m) (more_from separator item (suc n) found) (more_from separator item (suc m) found)
  unfolding more_from
  step n m more found =
      pair_eat n m separator
      (λ b. cond b (item >>= (λ x. more_from separator item n (found ++ x ∷ []))) (pure found))
      (λ b. cond b (item >>= (λ x. more_from separator item m (found ++ x ∷ []))) (pure found))
      (pair_bind n m item item (λ x. more_from separator item n (found ++ x ∷ [])) (λ x. more_from separator item m (found ++ x ∷ [])) (l.pair n m) (λ x. more (found ++ x ∷ [])))
      (pair_pure (suc n) (suc m) found)

  pub law_separated : Steady (separated separator item)
  unfolding separated
  law_separated = law_bind item (λ x i. more_from separator item (left i) (x ∷ []) i) l (λ x. law_loop (more_from separator item) (λ found. found) end step (x ∷ []))
