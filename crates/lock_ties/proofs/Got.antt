-- A want that is got, or that ends otherwise, leaves the account tied to the tree.
use Rattle.std.proofs.Common.{◌≡◌, ℕ, ◌++◌, ◌∷◌, [], ◌==◌, cond, Bool, true, false, List, refl, ◌∙◌, sym, ap, subst, Option, Some, None, ◌⊎◌, inl, inr}
use Rattle.rdb_types.specs.declared.node.Node.{Node}
use Rattle.lock_needs.specs.declared.need.Need.{Need}
use Rattle.lock_needs.specs.declared.party.OpenWant.{OpenWant}
use Rattle.lock_needs.specs.Party.{Party}
use Rattle.lock_needs.specs.Waits.{wanted, has_asked}
use Rattle.lock_tree_laws.specs.Forest.{State, KeepsParties, party_of, open_asks, opened_of}
use Rattle.lock_tree_laws.specs.Parties.{wanting as wanting_this, resting}
use Rattle.lock_tree_laws.specs.Wanted.{asks_for, IsOf, needs_of, want_of}
use Rattle.rdb_account.specs.Events.{Got}
use Rattle.rdb_account.specs.Places.{Opening, Place, Transaction, after, place_from, asks_of_others, wanting, with_need, changed}
use Rattle.rdb_account.specs.Lawful.{got_of}
use Rattle.lock_ties.specs.Ties.{needs_at, AreTied, IsTiedTo, IsCall, wanted_at}
use Rattle.lock_ties.proofs.Places.{same-number, at-same, at-other, number}
use Rattle.lock_ties.proofs.Asks.{tied-ended}
use Rattle.lock_ties.proofs.Trails.{tied-opens, wants-tied, open-closed, closed-same, asked-once, once-place, once-needs}
use Rattle.lock_ties.proofs.Answers.{closed-unasked}

-- the parties as they were, with this want open
abbrev in-want : State → ℕ → Need → ℕ → Party
in-want old s need t = cond (t == s) (wanting_this (needs_of old s) (want_of (opened_of old s) need)) (party_of old.parties t)

in-own : (old : State) (s : ℕ) (need : Need) → in-want old s need s ≡ wanting_this (needs_of old s) (want_of (opened_of old s) need)
in-own old s need = ap (λ b. cond b (wanting_this (needs_of old s) (want_of (opened_of old s) need)) (party_of old.parties s)) (same-number s)

in-other : (old : State) (s : ℕ) (need : Need) (t : ℕ) → (t == s) ≡ false → in-want old s need t ≡ party_of old.parties t
in-other old s need t e = ap (λ b. cond b (wanting_this (needs_of old s) (want_of (opened_of old s) need)) (party_of old.parties t)) e

of-need : (need : Need) (w : Option OpenWant) → IsOf need w → (want_of w need).need ≡ need
of-need need None h = refl
of-need need (Some v) h = h

-- the want has ended in the call, and at this place nothing of it is asked any more
pub closed-tied : (o : Opening) (old new : State) (s : ℕ) (need : Need) (p q : Place) (x : Transaction) → p.transaction s ≡ Some x → IsTiedTo p old → (c : IsCall s need old new) → (party_of new.parties s).opened ≡ None →
    q.asks ≡ asks_of_others s (place_from o p (wanted_at s need c.asks.nodes)).asks → ((t : ℕ) → needs_at q t ≡ (party_of new.parties t).needs) →
    IsTiedTo q new
closed-tied o old new s need p q x is_open tied c closed less needs =
    subst (AreTied q (party_of new.parties)) (sym (open-closed old new s c.others closed need c.asks))
    (tied-ended (place_from o p (wanted_at s need c.asks.nodes)) q (in-want old s need) (party_of new.parties) (open_asks old.parties old.trail ++ asks_for s c.asks.nodes) s
    (wants-tied o p s x need c.asks.nodes (in-want old s need) (open_asks old.parties old.trail) is_open (ap (λ (y : Party). wanted y.opened) (in-own old s need) ∙ ap Some (of-need need (opened_of old s) c.same))
    (tied-opens p (party_of old.parties) (in-want old s need) (open_asks old.parties old.trail) s tied (λ t. by-needs t (t == s) refl) (λ t e. ap (λ (y : Party). y.opened) (in-other old s need t e)) (how (opened_of old s) refl c.same)))
    less needs (λ t e. ap (λ (y : Party). y.opened) (c.others t e ∙ sym (in-other old s need t e))) closed)
  where
    by-needs : (t : ℕ) (b : Bool) → (t == s) ≡ b → (in-want old s need t).needs ≡ (party_of old.parties t).needs
    by-needs t true e = subst (λ u. (in-want old s need u).needs ≡ (party_of old.parties u).needs) (sym (number t s e)) (ap (λ (y : Party). y.needs) (in-own old s need))
    by-needs t false e = ap (λ (y : Party). y.needs) (in-other old s need t e)

    how : (w : Option OpenWant) → opened_of old s ≡ w → IsOf need w → (has_asked s (open_asks old.parties old.trail) ≡ false) ⊎ (wanted (in-want old s need s).opened ≡ wanted (party_of old.parties s).opened)
    how None e h = inl (closed-unasked old.parties s old.trail e)
    how (Some v) e h = inr (ap (λ (y : Party). wanted y.opened) (in-own old s need) ∙ (ap (λ (w : Option OpenWant). wanted (Some (want_of w need))) e ∙ sym (ap wanted e)))

-- ---- a need is got

-- the events of a call change no needs
pub wants-needs : (o : Opening) (p : Place) (s : ℕ) (x : Transaction) (n : Need) (nodes : List Node) → p.transaction s ≡ Some x → (t : ℕ) → needs_at (place_from o p (wanted_at s n nodes)) t ≡ needs_at p t
wants-needs o p s x n [] is_open t = refl
wants-needs o p s x n (node ∷ nodes) is_open t =
    let q = asked-once p s x n node in
    ap (λ (r : Place). needs_at (place_from o r (wanted_at s n nodes)) t) (once-place o p s x n node is_open)
    ∙ (wants-needs o q s (wanting n x) n nodes (at-same s (Some (wanting n x)) p.transaction) t ∙ once-needs p s x n node is_open t)

-- and leave the transaction open
pub wants-open : (o : Opening) (p : Place) (s : ℕ) (x : Transaction) (n : Need) (nodes : List Node) → p.transaction s ≡ Some x → (y : Transaction) × ((place_from o p (wanted_at s n nodes)).transaction s ≡ Some y)
wants-open o p s x n [] is_open = (x, is_open)
wants-open o p s x n (node ∷ nodes) is_open =
    let q = asked-once p s x n node in
    subst (λ (r : Place). (y : Transaction) × ((place_from o r (wanted_at s n nodes)).transaction s ≡ Some y)) (sym (once-place o p s x n node is_open))
    (wants-open o q s (wanting n x) n nodes (at-same s (Some (wanting n x)) p.transaction))

got-own : (o : Opening) (q : Place) (s : ℕ) (n : Need) (y : Transaction) → q.transaction s ≡ Some y → needs_at (after o q (Got s n)) s ≡ needs_at q s ++ n ∷ []
got-own o q s n y e =
    ap (λ (z : Option Transaction). got_of ((changed s (with_need n) z q).transaction s)) e
    ∙ (ap got_of (at-same s (Some (with_need n y)) q.transaction) ∙ sym (ap (λ (z : Option Transaction). got_of z ++ n ∷ []) e))

got-other : (o : Opening) (q : Place) (s : ℕ) (n : Need) (y : Transaction) → q.transaction s ≡ Some y → (t : ℕ) → (t == s) ≡ false → needs_at (after o q (Got s n)) t ≡ needs_at q t
got-other o q s n y e t other =
    ap (λ (z : Option Transaction). got_of ((changed s (with_need n) z q).transaction t)) e ∙ ap got_of (at-other s t (Some (with_need n y)) q.transaction other)

-- behind the events of the call
module _ (o : Opening) (old new : State) (s : ℕ) (need : Need) (p : Place) (x : Transaction) (is_open : p.transaction s ≡ Some x) (tied : IsTiedTo p old) (c : IsCall s need old new) where
  abbrev asked-place : Place
  asked-place = place_from o p (wanted_at s need c.asks.nodes)

  same-needs : (t : ℕ) → needs_at asked-place t ≡ needs_of old t
  same-needs t = wants-needs o p s x need c.asks.nodes is_open t ∙ tied.needs t

  got-needs : party_of new.parties s ≡ resting (needs_of old s ++ need ∷ []) → (t : ℕ) (b : Bool) → (t == s) ≡ b → needs_at (after o asked-place (Got s need)) t ≡ (party_of new.parties t).needs
  got-needs rests t true e =
      let there = wants-open o p s x need c.asks.nodes is_open in
      subst (λ u. needs_at (after o asked-place (Got s need)) u ≡ (party_of new.parties u).needs) (sym (number t s e))
      (got-own o asked-place s need there.0 there.1 ∙ (ap (λ ws. ws ++ need ∷ []) (same-needs s) ∙ sym (ap (λ (y : Party). y.needs) rests)))
  got-needs rests t false e =
      let there = wants-open o p s x need c.asks.nodes is_open in
      got-other o asked-place s need there.0 there.1 t e ∙ (same-needs t ∙ sym (ap (λ (y : Party). y.needs) (c.others t e)))

  pub got-tied : party_of new.parties s ≡ resting (needs_of old s ++ need ∷ []) → IsTiedTo (after o asked-place (Got s need)) new
  got-tied rests = closed-tied o old new s need p (after o asked-place (Got s need)) x is_open tied c (ap (λ (y : Party). y.opened) rests) refl (λ t. got-needs rests t (t == s) refl)

-- ---- a want is given up, or all is released

-- The want has ended with nothing asked, and at this place nothing of it is asked any more.
pub ended-tied : (old new : State) (s : ℕ) (p q : Place) → IsTiedTo p old → KeepsParties s old.parties new.parties → (party_of new.parties s).opened ≡ None → new.trail ≡ old.trail →
    q.asks ≡ asks_of_others s p.asks → ((t : ℕ) → needs_at q t ≡ (party_of new.parties t).needs) → IsTiedTo q new
ended-tied old new s p q tied others closed same less needs =
    subst (AreTied q (party_of new.parties)) (sym (ap (open_asks new.parties) same ∙ closed-same old new s others closed))
    (tied-ended p q (party_of old.parties) (party_of new.parties) (open_asks old.parties old.trail) s tied less needs (λ t e. ap (λ (y : Party). y.opened) (others t e)) closed)
