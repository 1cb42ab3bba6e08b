-- A session comes nearer, by the first of its numbers that changes.
use Rattle.std.proofs.Common.{◌≡◌, ◌<◌, ◌+◌, ◌⊎◌, ◌&&◌, ℕ, ◌∷◌, [], List, Bool, true, false, length, refl, sym, ap, subst, ◌∙◌, inl, inr, arith}
use Rattle.std.proofs.lemmas.Bool.{false≢true}
use Rattle.rdo_ast.specs.declared.syntax.Item.{Item}
use Rattle.lock_tree_laws.specs.Forest.{opened_of}
use Rattle.rdb_drive.specs.Boards.{Less}
use Rattle.session_states.specs.declared.stage.Phase.{Phase}
use Rattle.session_states.specs.declared.stage.Member.{Member}
use Rattle.session_states.specs.States.{session, dead_session, gone_session}
use Rattle.session_measure.specs.Weights.{Beside, Falls, weight, life_left, items_in, items_left, rank, round_left, places_left, unopened}
use Rattle.session_measure.specs.Nearer.{takes_next, has_due, has_out, RoundsBy, AreRounds, ComesNearer, StaysNear}
use Rattle.session_measure.proofs.Falling.{by-life, by-items, by-rank, by-rounds, by-round, by-place}

-- ---- rounds

-- no item is taken up, and no job is handed out
pub same-rounds : (x y : Phase) (k l : ℕ) → takes_next x ≡ false → has_out y ≡ false → AreRounds x y k l → l ≡ k
same-rounds x y k l e f r = by (takes_next x) (has_due x) (has_out y) e f r
  where
    by : (takes due out : Bool) → takes ≡ false → out ≡ false → RoundsBy takes (due && out) k l → l ≡ k
    by true due out e f r = absurd (false≢true (sym e))
    by false due true e f r = absurd (false≢true (sym f))
    by false true false e f r = r
    by false false false e f r = r

-- a job that was due is handed out
fewer-rounds : (x y : Phase) (k l : ℕ) → takes_next x ≡ false → has_due x ≡ true → has_out y ≡ true → AreRounds x y k l → l < k
fewer-rounds x y k l e f g r = by (takes_next x) (has_due x) (has_out y) e f g r
  where
    by : (takes due out : Bool) → takes ≡ false → due ≡ true → out ≡ true → RoundsBy takes (due && out) k l → l < k
    by true due out e f g r = absurd (false≢true (sym e))
    by false false out e f g r = absurd (false≢true f)
    by false true false e f g r = absurd (false≢true g)
    by false true true e f g r = r

-- ---- nothing of the script is taken up

module _ (s : ℕ) (c d : Beside) (x y : Phase) where
  same-items : (left : List Item) → items_in y ≡ items_in x → length left + items_in y ≡ length left + items_in x
  same-items left e = ap (λ (n : ℕ). length left + n) e

  -- an item is answered
  pub nearer-answered : items_in y < items_in x → (left : List Item) (total : ℕ) → ComesNearer c d s (session left total x) (session left total y)
  nearer-answered h left total = record { nears = λ k l r. inl (by-items k l s c d (session left total x) (session left total y) refl (omega (arith, h))) }

  pub nearer-by-rank : items_in y ≡ items_in x → rank y < rank x → (left : List Item) (total : ℕ) → ComesNearer c d s (session left total x) (session left total y)
  nearer-by-rank e h left total = record { nears = λ k l r. inl (by-rank k l s c d (session left total x) (session left total y) refl (same-items left e) h) }

  -- a job is handed out
  pub nearer-handed-out : items_in y ≡ items_in x → rank y ≡ rank x → takes_next x ≡ false → has_due x ≡ true → has_out y ≡ true → (left : List Item) (total : ℕ) → ComesNearer c d s (session left total x) (session left total y)
  nearer-handed-out e f g due h left total = record { nears = λ k l r. inl (by-rounds k l s c d (session left total x) (session left total y) refl (same-items left e) f (fewer-rounds x y k l g due h r)) }

  module _ (e : items_in y ≡ items_in x) (f : rank y ≡ rank x) (none : takes_next x ≡ false) (kept : has_out y ≡ false) where
    -- a round comes nearer to its end
    pub nearer-in-round : round_left y < round_left x → (left : List Item) (total : ℕ) → ComesNearer c d s (session left total x) (session left total y)
    nearer-in-round h left total = record { nears = λ k l r. inl (by-round k l s c d (session left total x) (session left total y) refl (same-items left e) f (same-rounds x y k l none kept r) h) }

    -- one of what is done one after another
    pub nearer-by-place : round_left y ≡ round_left x → places_left y < places_left x → (left : List Item) (total : ℕ) → ComesNearer c d s (session left total x) (session left total y)
    nearer-by-place g h left total = record { nears = λ k l r. inl (by-place k l s c d (session left total x) (session left total y) refl (same-items left e) f (same-rounds x y k l none kept r) g h) }

    -- the store has fewer steps left for it
    pub nearer-by-steps : round_left y ≡ round_left x → places_left y ≡ places_left x → opened_of d.locks s ≡ opened_of c.locks s → d.steps s < c.steps s → (left : List Item) (total : ℕ) → ComesNearer c d s (session left total x) (session left total y)
    nearer-by-steps g j o h left total = record {
      nears = λ k l r. inl (inr (refl, inr (same-items left e, inr (f, inr (same-rounds x y k l none kept r, inr (g, inr (j, inr (ap unopened o, inl (h, refl)))))))));
    }

-- ---- the next item is taken up

module _ (s : ℕ) (c d : Beside) (x y : Phase) (item : Item) where
  pub nearer-taken-up : items_in y ≡ items_in x + 1 → rank y < rank x → (left : List Item) (total : ℕ) → ComesNearer c d s (session (item ∷ left) total x) (session left total y)
  nearer-taken-up e h left total = record { nears = λ k l r. inl (by-rank k l s c d (session (item ∷ left) total x) (session left total y) refl (omega (arith, e)) h) }

  -- it is answered at once
  pub nearer-said : items_in y ≡ items_in x → (left : List Item) (total : ℕ) → ComesNearer c d s (session (item ∷ left) total x) (session left total y)
  nearer-said e left total = record { nears = λ k l r. inl (by-items k l s c d (session (item ∷ left) total x) (session left total y) refl (omega (arith, e))) }

-- ---- deaths

module _ (s : ℕ) (c d : Beside) (x : Phase) where
  pub nearer-died : (left : List Item) (total : ℕ) (k l : ℕ) → Falls k l c d s (session left total x) (dead_session left total x)
  nearer-died left total k l = by-life k l s c d (session left total x) (dead_session left total x) (omega arith)

  pub nearer-recovered : (left : List Item) (total : ℕ) (k l : ℕ) → Falls k l c d s (dead_session left total x) (gone_session left total x)
  nearer-recovered left total k l = by-life k l s c d (dead_session left total x) (gone_session left total x) (omega arith)

-- ---- what comes nearer comes no farther away

pub near : (s : ℕ) (c d : Beside) (m n : Member) → ((k l : ℕ) → AreRounds m.phase n.phase k l → Falls k l c d s m n) → StaysNear c d s m n
near s c d m n all = record { keeps = λ k l r. inl (all k l r) }

-- the numbers of a session whose phase stays
pub same-weight : (k l s : ℕ) (c d : Beside) (m : Member) → l ≡ k → unopened (opened_of d.locks s) ≡ unopened (opened_of c.locks s) → d.steps s ≡ c.steps s → weight l d s m ≡ weight k c s m
same-weight k l s c d m e o f =
    ap (λ (j : ℕ). weight j d s m) e
    ∙ (ap (λ (u : ℕ). numbers u (d.steps s)) o ∙ ap (λ (n : ℕ). numbers (unopened (opened_of c.locks s)) n) f)
  where
    numbers : ℕ → ℕ → List ℕ
    numbers u n = life_left m.life ∷ items_left m ∷ rank m.phase ∷ k ∷ round_left m.phase ∷ places_left m.phase ∷ u ∷ n ∷ []

-- ---- one fall behind another

less-long : (xs ys : List ℕ) → Less xs ys → length xs ≡ length ys
less-long [] ys h = absurd h
less-long (x ∷ xs) [] h = absurd h
less-long (x ∷ xs) (y ∷ ys) (inl h) = let e = h.1 in omega (arith, e)
less-long (x ∷ xs) (y ∷ ys) (inr h) = let e = less-long xs ys h.1 in omega (arith, e)

less-trans : (xs ys zs : List ℕ) → Less xs ys → Less ys zs → Less xs zs
less-trans [] ys zs h k = absurd h
less-trans (x ∷ xs) [] zs h k = absurd h
less-trans (x ∷ xs) (y ∷ ys) [] h k = absurd k
less-trans (x ∷ xs) (y ∷ ys) (z ∷ zs) (inl h) (inl k) = let a = h.0 in let b = k.0 in inl (omega (arith, a, b), h.1 ∙ k.1)
less-trans (x ∷ xs) (y ∷ ys) (z ∷ zs) (inl h) (inr k) = let a = h.0 in let b = k.0 in inl (omega (arith, a, b), h.1 ∙ less-long ys zs k.1)
less-trans (x ∷ xs) (y ∷ ys) (z ∷ zs) (inr h) (inl k) = let a = h.0 in let b = k.0 in inl (omega (arith, a, b), less-long xs ys h.1 ∙ k.1)
less-trans (x ∷ xs) (y ∷ ys) (z ∷ zs) (inr h) (inr k) = inr (h.0 ∙ k.0, less-trans xs ys zs h.1 k.1)

-- where it falls first, it falls in the end
pub falls-behind : {P : Type 0} (k l s : ℕ) (c d : Beside) (m n o : Member) → Falls k k c c s m n → Falls k l c d s n o ⊎ ((weight l d s o ≡ weight k c s n) × P) → Falls k l c d s m o
falls-behind k l s c d m n o first (inl then) = less-trans (weight l d s o) (weight k c s n) (weight k c s m) then first
falls-behind k l s c d m n o first (inr stays) = subst (λ (ws : List ℕ). Less ws (weight k c s m)) (sym stays.0) first
