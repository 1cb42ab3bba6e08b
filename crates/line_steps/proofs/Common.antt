-- What is common to the steps of a session.
use Rattle.std.proofs.Common.{◌≡◌, ◌≤◌, ℕ, ◌+◌, ◌++◌, ◌∷◌, [], ◌==◌, Bool, true, false, List, length, refl, ◌∙◌, sym, ap, subst, arith, Option, Some, None, slice_get}
use Rattle.std.proofs.lemmas.Bool.{false≢true}
use Rattle.std.proofs.lemmas.Option.{none-some}
use Rattle.rdo_ast.specs.declared.reply.Standing.{Standing}
use Rattle.rdo_ast.specs.Tree.{Uttered}
use Rattle.lock_needs.specs.declared.need.Need.{Need}
use Rattle.line_view.specs.Knowledge.{IsInOrder}
use Rattle.rdb_account.specs.Places.{Opening, Place, Transaction, nothing, living, at, begins, next_item}
use Rattle.rdb_account.specs.Lawful.{got_of}
use Rattle.rdb_account.specs.Legal.{is_ready}
use Rattle.lock_tree_laws.specs.Forest.{no_conflict}
use Rattle.line_history.specs.session_jobs.Records.{Model}
use Rattle.line_steps.specs.Members.{Member, left_of, life_of}
use Rattle.lock_ties.specs.Ties.{Apart, needs_at}
use Rattle.line_steps.specs.Right.{Desk, Ground, StandsAs, Stands, IsFit, with_desk}
use Rattle.lock_ties.proofs.Places.{at-same, at-other, number, turned}

-- nobody is dead, nothing must come next, and s lives
pub ready : (p : Place) (s : ℕ) → p.frozen ≡ 0 → p.due ≡ nothing → p.life s ≡ living → is_ready p s ≡ true
ready p s awake free lives = rw awake (rw free (rw lives refl))

-- ---- the next item

get-behind : {A : Type 0} (xs : List A) (y : A) (ys : List A) → slice_get (xs ++ y ∷ ys) (length xs) ≡ Some y
get-behind [] y ys = refl
get-behind (x ∷ xs) y ys = get-behind xs y ys

get-end : {A : Type 0} (xs : List A) → slice_get (xs ++ []) (length xs) ≡ None
get-end [] = refl
get-end (x ∷ xs) = get-end xs

joined : {A : Type 0} (xs : List A) (y : A) (ys : List A) → xs ++ y ∷ ys ≡ (xs ++ y ∷ []) ++ ys
joined [] y ys = refl
joined (x ∷ xs) y ys = ap (λ zs. x ∷ zs) (joined xs y ys)

length-more : {A : Type 0} (xs : List A) (y : A) → length (xs ++ y ∷ []) ≡ length xs + 1
length-more [] y = refl
length-more (x ∷ xs) y = let h = length-more xs y in grind arith

-- no statement is under way that began it
pub none-begun : (k : Standing) → ((i : Uttered) × (None ≡ Some i) × (begins i ≡ Some k)) → ⊥
none-begun k e = none-some e.0 e.1

module _ (M : Model) where
  pub next-is : (o : Opening) (p : Place) (g : Ground) (s : ℕ) (m : Member) (item : Uttered) (rest : List Uttered) → (h : Stands M o p g s m) → left_of m ≡ item ∷ rest → next_item o p s ≡ Some item
  next-is o p g s m item rest h left =
      ap (λ n. slice_get (o.script s) n) h.count ∙ (ap (λ xs. slice_get xs (length h.answered)) (h.script ∙ ap (λ ys. h.answered ++ ys) left) ∙ get-behind h.answered item rest)

  pub next-none : (o : Opening) (p : Place) (g : Ground) (s : ℕ) (m : Member) → (h : Stands M o p g s m) → left_of m ≡ [] → next_item o p s ≡ None
  next-none o p g s m h left =
      ap (λ n. slice_get (o.script s) n) h.count ∙ (ap (λ xs. slice_get xs (length h.answered)) (h.script ∙ ap (λ ys. h.answered ++ ys) left) ∙ get-end h.answered)

  -- an item was said
  pub stands-said : (o : Opening) (p q : Place) (g k : Ground) (s : ℕ) (m n : Member) (item : Uttered) → (h : Stands M o p g s m) →
      left_of m ≡ item ∷ left_of n → n.total ≡ m.total → q.said s ≡ p.said s + 1 → q.life s ≡ life_of n.state → StandsAs M o q k s n.left n.state → Stands M o q k s n
  stands-said o p q g k s m n item h left total said lives state = record {
    answered = h.answered ++ item ∷ [];
    script = h.script ∙ (ap (λ ys. h.answered ++ ys) left ∙ joined h.answered item (left_of n));
    total = h.total ∙ sym total;
    count = said ∙ (ap (λ k. k + 1) h.count ∙ sym (length-more h.answered item));
    lives = lives;
    state = state;
  }

  -- none was said
  pub stands-silent : (o : Opening) (p q : Place) (g k : Ground) (s : ℕ) (m n : Member) → (h : Stands M o p g s m) →
      left_of m ≡ left_of n → n.total ≡ m.total → q.said s ≡ p.said s → q.life s ≡ life_of n.state → StandsAs M o q k s n.left n.state → Stands M o q k s n
  stands-silent o p q g k s m n h left total said lives state = record {
    answered = h.answered;
    script = h.script ∙ ap (λ ys. h.answered ++ ys) left;
    total = h.total ∙ sym total;
    count = said ∙ h.count;
    lives = lives;
    state = state;
  }

-- ---- needs apart

pub none-conflicts : (ws : List Need) → no_conflict ws [] ≡ true
none-conflicts [] = refl
none-conflicts (w ∷ ws) = none-conflicts ws

abbrev pub AreApart : (ℕ → List Need) → Type 0
AreApart needs = (a b : ℕ) → (a == b) ≡ false → no_conflict (needs a) (needs b) ≡ true

-- s comes to these needs, which conflict with none of the others
pub apart-with : (p : Place) (needs : ℕ → List Need) (s : ℕ) (got : List Need) → needs s ≡ got → ((t : ℕ) → (t == s) ≡ false → needs t ≡ needs_at p t) → AreApart (needs_at p) →
    ((t : ℕ) → (t == s) ≡ false → Apart got (needs_at p t)) → AreApart needs
apart-with p needs s got mine others was new a b other = by (a == s) (b == s) refl refl
  where
    by : (x y : Bool) → (a == s) ≡ x → (b == s) ≡ y → no_conflict (needs a) (needs b) ≡ true
    by true true e f = absurd (false≢true (sym other ∙ clash a b s e f))
      where
        clash : (a b s : ℕ) → (a == s) ≡ true → (b == s) ≡ true → (a == b) ≡ true
        clash a b s e f = grind arith
    by true false e f = subst (λ ws. no_conflict ws (needs b) ≡ true) (sym (ap needs (number a s e) ∙ mine)) (subst (λ ws. no_conflict got ws ≡ true) (sym (others b f)) (new b f).0)
    by false true e f = subst (λ ws. no_conflict (needs a) ws ≡ true) (sym (ap needs (number b s f) ∙ mine)) (subst (λ ws. no_conflict ws got ≡ true) (sym (others a e)) (new a e).1)
    by false false e f = subst (λ ws. no_conflict ws (needs b) ≡ true) (sym (others a e)) (subst (λ ws. no_conflict (needs_at p a) ws ≡ true) (sym (others b f)) (was a b other))

-- the needs as they were
pub apart-still : (p : Place) (s : ℕ) (got : List Need) → needs_at p s ≡ got → AreApart (needs_at p) → (t : ℕ) → (t == s) ≡ false → Apart got (needs_at p t)
apart-still p s got is was t other = (
  subst (λ ws. no_conflict ws (needs_at p t) ≡ true) is (was s t (turned s t other)),
  subst (λ ws. no_conflict (needs_at p t) ws ≡ true) is (was t s other),
)

-- no needs
pub apart-none : (p : Place) (t : ℕ) → Apart [] (needs_at p t)
apart-none p t = (refl, none-conflicts (needs_at p t))

-- the transaction of s is another, and its needs are these
pub needs-other : (p q : Place) (s : ℕ) (x : Option Transaction) → q.transaction ≡ at s x p.transaction → (t : ℕ) → (t == s) ≡ false → needs_at q t ≡ needs_at p t
needs-other p q s x is t other = ap (λ (f : ℕ → Option Transaction). got_of (f t)) is ∙ ap got_of (at-other s t x p.transaction other)

pub needs-own : (p q : Place) (s : ℕ) (x : Option Transaction) → q.transaction ≡ at s x p.transaction → needs_at q s ≡ got_of x
needs-own p q s x is = ap (λ (f : ℕ → Option Transaction). got_of (f s)) is ∙ ap got_of (at-same s x p.transaction)

-- the place behind is as fit, where the transaction of s is another whose needs conflict with none
pub fit-with : (M : Model) (p q : Place) (g h : Ground) (s : ℕ) (x : Option Transaction) → q.transaction ≡ at s x p.transaction → q.frozen ≡ h.dead → q.moment ≤ h.time → IsInOrder h.now → M h.now q.tables →
    ((t : ℕ) → (t == s) ≡ false → Apart (got_of x) (needs_at p t)) → IsFit M p g → IsFit M q h
fit-with M p q g h s x is awake past order stands new fit = record {
  dead = awake;
  past = past;
  order = order;
  stands = stands;
  apart = apart-with p (needs_at q) s (got_of x) (needs-own p q s x is) (needs-other p q s x is) fit.apart new;
}

-- ---- the ground

pub desk-same : (s : ℕ) (d : Desk) (g : Ground) → (with_desk s d g).desk s ≡ d
desk-same s d g = at-same s d g.desk

pub desk-other : (s : ℕ) (d : Desk) (g : Ground) (t : ℕ) → (t == s) ≡ false → (with_desk s d g).desk t ≡ g.desk t
desk-other s d g t other = at-other s t d g.desk other
