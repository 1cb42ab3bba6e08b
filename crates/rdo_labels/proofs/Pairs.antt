-- Two parsers that read alike what has the same words, the first up to one label and the second up to another; loops are such pairs.
use Rattle.std.proofs.Common.{◌≡◌, ◌≤◌, ℕ, zero, suc, Bool, true, false, cond, [], ◌∷◌, ◌++◌, Ok, Err, refl, ap, sym, subst, ◌∙◌, append_assoc, arith}
use Rattle.std.proofs.lemmas.List.{append_cancel_right}
use Rattle.rdo_tokens.specs.Input.{Input, Outcome, Parser, and_then, ◌>>=◌, pure, refuse, left}
use Rattle.rdo_labels.specs.Alike.{SameWords, SameNextWord, Descends}

-- the second parser reads the same words before the same next word, up to this label
abbrev pub ReachesAs : {A : Type 0} → Parser A → ℕ → Input → Outcome A → Type 0
ReachesAs q most i (Ok x) = (front : Input) × (i ≡ front ++ x.1) × ((words other : Input) → SameWords front words → SameNextWord x.1 other → Descends (words ++ other) → left (words ++ other) ≤ most → q (words ++ other) ≡ Ok (x.0, other))
ReachesAs q most i (Err rest) = (front : Input) × (i ≡ front ++ rest) × ((words other : Input) → SameWords front words → SameNextWord rest other → Descends (words ++ other) → left (words ++ other) ≤ most → q (words ++ other) ≡ Err other)

pub record Pair {A : Type 0} (n m : ℕ) (p q : Parser A) : Type 0 where
  pub at : (i : Input) → Descends i → left i ≤ n → ReachesAs q m i (p i)

pub record Steady {A : Type 0} (p : Parser A) : Type 0 where
  pub pair : (n m : ℕ) → Pair n m p p

-- ---- lists of tokens

-- the same words as two lists in sequence are two lists in sequence
pub split : (as' bs words : Input) → SameWords (as' ++ bs) words → (one : Input) × (two : Input) × (words ≡ one ++ two) × SameWords as' one × SameWords bs two
split [] bs words s = ([], words, refl, tt, s)
split (a ∷ as') bs [] s = absurd s
split (a ∷ as') bs (w ∷ words) s = let r = split as' bs words s.2 in (w ∷ r.0, r.1, ap (λ z. w ∷ z) r.2, (s.0, s.1, r.3), r.4)

next_behind : (bs rest two other : Input) → SameWords bs two → SameNextWord rest other → SameNextWord (bs ++ rest) (two ++ other)
next_behind [] rest [] other s n = n
next_behind [] rest (w ∷ two) other s n = absurd s
next_behind (b ∷ bs) rest [] other s n = absurd s
next_behind (b ∷ bs) rest (w ∷ two) other s n = (s.0, s.1)

pub descends_behind : (front rest : Input) → Descends (front ++ rest) → Descends rest
descends_behind [] rest d = d
descends_behind (t ∷ ts) rest d = descends_behind ts rest d.1

pub left_behind : (front rest : Input) → Descends (front ++ rest) → left rest ≤ left (front ++ rest)
unfolding left
left_behind [] rest d = omega arith
left_behind (t ∷ ts) rest d = omega (arith, left_behind ts rest d.1, d.0)

-- ---- sequences

module _ {A B : Type 0} (n m : ℕ) (p q : Parser A) (f g : A → Parser B) where
  -- the second step's labels are at most these
  after_ok : (n' m' : ℕ) (i front mid : Input) (x : A) → Descends i → i ≡ front ++ mid → ((words other : Input) → SameWords front words → SameNextWord mid other → Descends (words ++ other) → left (words ++ other) ≤ m → q (words ++ other) ≡ Ok (x, other)) →
      ((words other : Input) → Descends (words ++ other) → left (words ++ other) ≤ m → q (words ++ other) ≡ Ok (x, other) → left other ≤ m') →
      (r : Outcome B) → ReachesAs (g x) m' mid r → ReachesAs (q >>= g) m i r
  after_ok n' m' i front mid x d e h low (Ok y) (front2, e2, h2) = (
    front ++ front2,
    e ∙ ap (λ z. front ++ z) e2 ∙ sym (append_assoc front front2 y.1),
    λ words other s nx dw lw.
        let r = split front front2 words s in
        let j : words ++ other ≡ r.0 ++ (r.1 ++ other) = ap (λ z. z ++ other) r.2 ∙ append_assoc r.0 r.1 other in
        let dj = subst Descends j dw in
        let lj = subst (λ z. left z ≤ m) j lw in
        let nm = subst (λ z. SameNextWord z (r.1 ++ other)) (sym e2) (next_behind front2 y.1 r.1 other r.4 nx) in
        let one = h r.0 (r.1 ++ other) r.3 nm dj lj in
        ap (q >>= g) j ∙ ap (λ z. and_then z g) one ∙ h2 r.1 other r.4 nx (descends_behind r.0 (r.1 ++ other) dj) (low r.0 (r.1 ++ other) dj lj one),
  )
  after_ok n' m' i front mid x d e h low (Err rest) (front2, e2, h2) = (
    front ++ front2,
    e ∙ ap (λ z. front ++ z) e2 ∙ sym (append_assoc front front2 rest),
    λ words other s nx dw lw.
        let r = split front front2 words s in
        let j : words ++ other ≡ r.0 ++ (r.1 ++ other) = ap (λ z. z ++ other) r.2 ∙ append_assoc r.0 r.1 other in
        let dj = subst Descends j dw in
        let lj = subst (λ z. left z ≤ m) j lw in
        let nm = subst (λ z. SameNextWord z (r.1 ++ other)) (sym e2) (next_behind front2 rest r.1 other r.4 nx) in
        let one = h r.0 (r.1 ++ other) r.3 nm dj lj in
        ap (q >>= g) j ∙ ap (λ z. and_then z g) one ∙ h2 r.1 other r.4 nx (descends_behind r.0 (r.1 ++ other) dj) (low r.0 (r.1 ++ other) dj lj one),
  )

  bound : (n' m' : ℕ) (i : Input) → Descends i → ((x : A) (mid : Input) → p i ≡ Ok (x, mid) → left mid ≤ n') →
      ((x : A) (words other : Input) → Descends (words ++ other) → left (words ++ other) ≤ m → q (words ++ other) ≡ Ok (x, other) → left other ≤ m') → ((x : A) → Pair n' m' (f x) (g x)) →
      (r : Outcome A) → p i ≡ r → ReachesAs q m i r → ReachesAs (q >>= g) m i (and_then r f)
  bound n' m' i d least low l (Ok (x, mid)) e (front, e1, h) =
      after_ok n' m' i front mid x d e1 h (low x) (f x mid) ((l x).at mid (descends_behind front mid (subst Descends e1 d)) (least x mid e))
  bound n' m' i d least low l (Err rest) e (front, e1, h) = (front, e1, λ words other s nx dw lw. ap (λ r. and_then r g) (h words other s nx dw lw))

-- labels of what is behind are no greater
behind_le : {A : Type 0} (n m : ℕ) (p q : Parser A) → Pair n m p q → (i : Input) → Descends i → left i ≤ n → (x : A) (mid : Input) → p i ≡ Ok (x, mid) → left mid ≤ n
behind_le n m p q k i d l x mid e =
    let r = subst (ReachesAs q m i) e (k.at i d l) in
    let b = left_behind r.0 mid (subst Descends r.1 d) in
    let same = ap left r.1 in
    omega (arith, b, same, l)

other_le : (m : ℕ) (words other : Input) → Descends (words ++ other) → left (words ++ other) ≤ m → left other ≤ m
other_le m words other d l = omega (arith, left_behind words other d, l)

pub pair_bind : {A B : Type 0} (n m : ℕ) (p q : Parser A) (f g : A → Parser B) → Pair n m p q → ((x : A) → Pair n m (f x) (g x)) → Pair n m (p >>= f) (q >>= g)
pair_bind n m p q f g k l = record {
  at = λ i d e.
      bound n m p q f g n m i d (behind_le n m p q k i d e) (λ x words other dw lw h. other_le m words other dw lw) l (p i) refl (k.at i d e);
}

-- a parser that takes a token
pub record Shrinks {A : Type 0} (p : Parser A) : Type 0 where
  pub steady : Steady p
  pub at : (i rest : Input) (x : A) → Descends i → p i ≡ Ok (x, rest) → (n : ℕ) → left i ≤ suc n → left rest ≤ n

pub pair_takes : {A B : Type 0} (n m : ℕ) (p q : Parser A) (f g : A → Parser B) → Shrinks p → Shrinks q → Pair (suc n) (suc m) p q → ((x : A) → Pair n m (f x) (g x)) → Pair (suc n) (suc m) (p >>= f) (q >>= g)
pair_takes n m p q f g sp sq k l = record {
  at = λ i d e.
      bound (suc n) (suc m) p q f g n m i d (λ x mid h. sp.at i mid x d h n e) (λ x words other dw lw h. sq.at (words ++ other) other x dw h m lw) l (p i) refl (k.at i d e);
}

pub pair_pure : {A : Type 0} (n m : ℕ) (x : A) → Pair n m (pure x) (pure x)
pair_pure n m x = record { at = λ i d e. ([], refl, λ words other s nx dw lw. nothing words other s) }
  where
    nothing : (words other : Input) → SameWords [] words → pure x (words ++ other) ≡ Ok (x, other)
    nothing [] other s = refl
    nothing (w ∷ words) other s = absurd s

pub pair_if : {A : Type 0} (n m : ℕ) (p q r t : Parser A) (b : Bool) → Pair n m p r → Pair n m q t → Pair n m (cond b p q) (cond b r t)
pair_if n m p q r t true k l = k
pair_if n m p q r t false k l = l

-- ---- parsers that are steady

pub law_pure : {A : Type 0} (x : A) → Steady (pure x)
law_pure x = record { pair = λ n m. pair_pure n m x }

pub law_refuse : {A : Type 0} → Steady {A = A} refuse
law_refuse {A = A} = record { pair = λ n m. record { at = λ i d e. ([], refl, λ words other s nx dw lw. nothing words other s) } }
  where
    nothing : (words other : Input) → SameWords [] words → refuse {A = A} (words ++ other) ≡ Err other
    nothing [] other s = refl
    nothing (w ∷ words) other s = absurd s

pub law_bind : {A B : Type 0} (p : Parser A) (f : A → Parser B) → Steady p → ((x : A) → Steady (f x)) → Steady (p >>= f)
law_bind p f k l = record { pair = λ n m. pair_bind n m p p f f (k.pair n m) (λ x. (l x).pair n m) }

pub law_if : {A : Type 0} (p q : Parser A) (b : Bool) → Steady p → Steady q → Steady (cond b p q)
law_if p q true k l = k
law_if p q false k l = l

-- the same parsers by other definitions
module _ {A : Type 0} (n m : ℕ) (p q p2 q2 : Parser A) (e : (i : Input) → p2 i ≡ p i) (e2 : (i : Input) → q2 i ≡ q i) where
  changed : (i : Input) (r : Outcome A) → ReachesAs q2 m i r → ReachesAs q m i r
  changed i (Ok y) (front, f, h) = (front, f, λ words other s nx dw lw. sym (e2 (words ++ other)) ∙ h words other s nx dw lw)
  changed i (Err rest) (front, f, h) = (front, f, λ words other s nx dw lw. sym (e2 (words ++ other)) ∙ h words other s nx dw lw)

  pub pair_as : Pair n m p2 q2 → Pair n m p q
  pair_as l = record { at = λ i d b. subst (λ o. ReachesAs q m i o) (e i) (changed i (p2 i) (l.at i d b)) }

pub law_as : {A : Type 0} (p q : Parser A) → ((i : Input) → q i ≡ p i) → Steady q → Steady p
law_as p q e l = record { pair = λ n m. pair_as n m p p q q e e (l.pair n m) }

-- ---- loops

-- at the end of the tokens
module _ {A : Type 0} (m : ℕ) (p q : Parser A) (x : A) (e : p [] ≡ Ok (x, [])) (f : q [] ≡ Ok (x, [])) where
  at_end : (words other : Input) → SameWords [] words → SameNextWord [] other → q (words ++ other) ≡ Ok (x, other)
  at_end [] [] s nx = f
  at_end [] (u ∷ us) s nx = absurd nx
  at_end (w ∷ words) other s nx = absurd s

  ended : (i : Input) → Descends i → left i ≤ 0 → ReachesAs q m i (p i)
  unfolding left
  ended [] d l = subst (ReachesAs q m []) (sym e) ([], refl, λ words other s nx dw lw. at_end words other s nx)
  ended (t ∷ ts) d l = absurd (omega (arith, d.0, l))

  pub pair_end : Pair 0 m p q
  pair_end = record { at = ended }

-- The second parser is only asked at the end.
module _ {A : Type 0} (n m : ℕ) (p q : Parser A) (x : A) (e : p [] ≡ Ok (x, [])) (f : q [] ≡ Ok (x, [])) where
  none : (front rest words other : Input) → SameWords front words → SameNextWord rest other → Descends (words ++ other) → left (words ++ other) ≤ 0 → (front ++ rest ≡ []) × (words ++ other ≡ []) × (rest ≡ []) × (other ≡ [])
  unfolding left
  none [] [] [] [] s nx d l = (refl, refl, refl, refl)
  none [] [] [] (u ∷ us) s nx d l = absurd nx
  none [] (t ∷ ts) [] [] s nx d l = absurd nx
  none [] (t ∷ ts) [] (u ∷ us) s nx d l = absurd (omega (arith, d.0, l))
  none [] rest (w ∷ words) other s nx d l = absurd s
  none (t ∷ front) rest [] other s nx d l = absurd s
  none (t ∷ front) rest (w ∷ words) other s nx d l = absurd (omega (arith, d.0, l))

  differ : (rest : Input) → pure x [] ≡ Err rest → ⊥
  differ rest q = cc

  only_end : (i : Input) (r : Outcome A) → p i ≡ r → ReachesAs p m i r → ReachesAs q 0 i r
  only_end i (Ok y) g (front, h, k) = (
    front,
    h,
    λ words other s nx dw lw.
        let z = none front y.1 words other s nx dw lw in
        let same = sym e ∙ ap p (sym (h ∙ z.0)) ∙ g in
        rw (z.1) (f ∙ same ∙ ap (λ (o : Input). Ok (y.0, o)) (z.2 ∙ sym z.3)),
  )
  only_end i (Err rest) g (front, h, k) = (
    front,
    h,
    λ words other s nx dw lw.
        let z = none front rest words other s nx dw lw in
        absurd (differ rest (sym e ∙ ap p (sym (h ∙ z.0)) ∙ g)),
  )

  pub pair_zero : Pair n m p p → Pair n 0 p q
  pair_zero k = record { at = λ i d l. only_end i (p i) refl (k.at i d l) }

module _ {S R : Type 0} (loop : ℕ → S → Parser R) (value : S → R) (end : (n : ℕ) (s : S) → loop n s [] ≡ Ok (value s, []))
    (step : (n m : ℕ) → ((s : S) → Pair n m (loop n s) (loop m s)) → (s : S) → Pair (suc n) (suc m) (loop (suc n) s) (loop (suc m) s)) where
  pub pair_loop : (n m : ℕ) (s : S) → Pair n m (loop n s) (loop m s)
  pair_loop zero m s = pair_end m (loop zero s) (loop m s) (value s) (end zero s) (end m s)
  pair_loop (suc n) zero s = pair_zero (suc n) (suc n) (loop (suc n) s) (loop zero s) (value s) (end (suc n) s) (end zero s) (step n n (pair_loop n n) s)
  pair_loop (suc n) (suc m) s = step n m (pair_loop n m) s

  module _ (s : S) where
    sized_words : (i front rest words : Input) (front2 : Input) → i ≡ front ++ rest → i ≡ front2 ++ rest → SameWords front words → SameWords front2 words
    sized_words i front rest words front2 e f h = subst (λ z. SameWords z words) (append_cancel_right front front2 rest (sym e ∙ f)) h

    sized : (i : Input) → Descends i → (m : ℕ) (r : Outcome R) → loop (left i) s i ≡ r → ReachesAs (loop (left i) s) (left i) i r → ReachesAs (λ j. loop (left j) s j) m i r
    sized i d m (Ok y) g (front, e, h) = (
      front,
      e,
      λ words other sw nx dw lw.
          let k = subst (ReachesAs (loop (left (words ++ other)) s) (left (words ++ other)) i) g ((pair_loop (left i) (left (words ++ other)) s).at i d (omega arith)) in
          k.2 words other (sized_words i front y.1 words k.0 e k.1 sw) nx dw (omega arith),
    )
    sized i d m (Err rest) g (front, e, h) = (
      front,
      e,
      λ words other sw nx dw lw.
          let k = subst (ReachesAs (loop (left (words ++ other)) s) (left (words ++ other)) i) g ((pair_loop (left i) (left (words ++ other)) s).at i d (omega arith)) in
          k.2 words other (sized_words i front rest words k.0 e k.1 sw) nx dw (omega arith),
    )

    -- a loop that is bounded by the bytes that are left
    pub law_loop : Steady (λ i. loop (left i) s i)
    law_loop = record { pair = λ n m. record { at = λ i d l. sized i d m (loop (left i) s i) refl ((pair_loop (left i) (left i) s).at i d (omega arith)) } }
