-- The trail of open wants, as a want is asked and as it ends, and the events of a call.
use Rattle.std.proofs.Common.{◌≡◌, ℕ, ◌++◌, ◌∷◌, [], ◌==◌, ◌&&◌, not, cond, Bool, true, false, List, refl, ◌∙◌, sym, ap, subst, arith, Option, Some, None, ◌⊎◌, inl, inr, append_assoc, append-nil}
use Rattle.std.specs.Prelude.{is_some}
use Rattle.std.specs.List.{filter}
use Rattle.std.proofs.lemmas.List.Elements.{filter-append}
use Rattle.rdb_types.specs.declared.node.Node.{Node}
use Rattle.lock_needs.specs.declared.need.Need.{Need}
use Rattle.lock_needs.specs.declared.party.OpenWant.{OpenWant}
use Rattle.lock_needs.specs.declared.party.Asked.{Asked}
use Rattle.lock_needs.specs.Party.{Party}
use Rattle.lock_needs.specs.Waits.{wanted, has_asked}
use Rattle.lock_tree_laws.specs.Forest.{State, party_of, open_asks, opened_of, KeepsParties}
use Rattle.lock_tree_laws.specs.Order.{without_asks}
use Rattle.lock_tree_laws.specs.Wanted.{AddsAsks, asks_for, trail_of_want}
use Rattle.rdb_account.specs.Events.{Wanted}
use Rattle.rdb_account.specs.Places.{Opening, Place, Transaction, at, after, place_from, wanting}
use Rattle.rdb_account.specs.Lawful.{got_of}
use Rattle.lock_ties.specs.Ties.{needs_at, asked_want, AreTied, wanted_at}
use Rattle.lock_ties.proofs.Places.{at-same, at-other, number}
use Rattle.lock_ties.proofs.Asks.{ask, entry, tied-wanted}

-- ---- lists

filter-both : {A : Type 0} (r p q : A → Bool) → ((a : A) → (r a && p a) ≡ q a) → (xs : List A) → filter p (filter r xs) ≡ filter q xs
filter-both r p q same [] = refl
filter-both r p q same (x ∷ xs) =
    let rest = filter-both r p q same xs in
    elim (r x) as (λ a. (a && p x) ≡ q x → filter p (cond a (x ∷ filter r xs) (filter r xs)) ≡ cond (q x) (x ∷ filter q xs) (filter q xs)) [
      | true ↦ λ s. subst (λ b. cond (p x) (x ∷ filter p (filter r xs)) (filter p (filter r xs)) ≡ cond b (x ∷ filter q xs) (filter q xs)) s (ap (λ l. cond (p x) (x ∷ l) l) rest)
      | false ↦ λ s. subst (λ b. filter p (filter r xs) ≡ cond b (x ∷ filter q xs) (filter q xs)) s rest
    ] (same x)

filter-same : {A : Type 0} (p q : A → Bool) → ((a : A) → p a ≡ q a) → (xs : List A) → filter p xs ≡ filter q xs
filter-same p q same [] = refl
filter-same p q same (x ∷ xs) = subst (λ b. cond (p x) (x ∷ filter p xs) (filter p xs) ≡ cond b (x ∷ filter q xs) (filter q xs)) (same x)
    (ap (λ l. cond (p x) (x ∷ l) l) (filter-same p q same xs))

-- ---- the trail of open wants

module _ (old new : State) (s : ℕ) (others : KeepsParties s old.parties new.parties) (is_open : is_some (party_of new.parties s).opened ≡ true) where
  abbrev opened-now : Asked → Bool
  opened-now a = is_some (party_of new.parties a.owner).opened

  abbrev opened-then : Asked → Bool
  opened-then a = is_some (party_of old.parties a.owner).opened

  all-kept : (nodes : List Node) → filter opened-now (asks_for s nodes) ≡ asks_for s nodes
  all-kept [] = refl
  all-kept (n ∷ ns) = rw is_open (ap (λ l. (record { owner = s; node = n }) ∷ l) (all-kept ns))

  same-open : (o : Option OpenWant) → opened_of old s ≡ o → filter opened-now (trail_of_want old s) ≡ open_asks old.parties old.trail
  same-open (Some w) e =
      ap (λ (x : Option OpenWant). filter opened-now (cond (is_some x) old.trail (without_asks s old.trail))) e
      ∙ filter-same opened-now opened-then (λ a. by a (a.owner == s) refl) old.trail
    where
      by : (a : Asked) (b : Bool) → (a.owner == s) ≡ b → opened-now a ≡ opened-then a
      by a true k = subst (λ (u : ℕ). is_some (party_of new.parties u).opened ≡ is_some (party_of old.parties u).opened) (sym (number a.owner s k)) (is_open ∙ sym (ap is_some e))
      by a false k = ap (λ (p : Party). is_some p.opened) (others a.owner k)
  same-open None e =
      ap (λ (x : Option OpenWant). filter opened-now (cond (is_some x) old.trail (without_asks s old.trail))) e
      ∙ filter-both (λ a. not (a.owner == s)) opened-now opened-then (λ a. by a (a.owner == s) refl) old.trail
    where
      by : (a : Asked) (b : Bool) → (a.owner == s) ≡ b → (not (a.owner == s) && opened-now a) ≡ opened-then a
      by a true k = ap (λ b. not b && opened-now a) k ∙ sym (subst (λ (u : ℕ). is_some (party_of old.parties u).opened ≡ false) (sym (number a.owner s k)) (ap is_some e))
      by a false k = ap (λ b. not b && opened-now a) k ∙ ap (λ (p : Party). is_some p.opened) (others a.owner k)

  -- the trail of open wants grows by the nodes newly asked
  pub open-grown : (need : Need) → (added : AddsAsks s need (trail_of_want old s) new.trail) → open_asks new.parties new.trail ≡ open_asks old.parties old.trail ++ asks_for s added.nodes
  open-grown need added =
      ap (filter opened-now) added.added
      ∙ (filter-append opened-now (trail_of_want old s) (asks_for s added.nodes)
      ∙ (ap (λ l. l ++ filter opened-now (asks_for s added.nodes)) (same-open (opened_of old s) refl) ∙ ap (λ l. open_asks old.parties old.trail ++ l) (all-kept added.nodes)))

-- ---- the account

-- a want is open that was asked nowhere yet, or is the one that was open
pub tied-opens : (p : Place) (party then : ℕ → Party) (asks : List Asked) (s : ℕ) → AreTied p party asks → ((t : ℕ) → (then t).needs ≡ (party t).needs) → ((t : ℕ) → (t == s) ≡ false → (then t).opened ≡ (party t).opened) →
    (has_asked s asks ≡ false) ⊎ (wanted (then s).opened ≡ wanted (party s).opened) → AreTied p then asks
tied-opens p party then asks s tied same others how = record {
  needs = λ t. tied.needs t ∙ sym (same t);
  asks = tied.asks;
  wants = λ t. tied.wants t ∙ by t (t == s) refl;
}
  where
    mine : (has_asked s asks ≡ false) ⊎ (wanted (then s).opened ≡ wanted (party s).opened) → asked_want asks s (party s).opened ≡ asked_want asks s (then s).opened
    mine (inl none) = ap (λ b. cond b (wanted (party s).opened) None) none ∙ sym (ap (λ b. cond b (wanted (then s).opened) None) none)
    mine (inr e) = ap (λ w. cond (has_asked s asks) w None) (sym e)

    by : (t : ℕ) (b : Bool) → (t == s) ≡ b → asked_want asks t (party t).opened ≡ asked_want asks t (then t).opened
    by t true e = subst (λ u. asked_want asks u (party u).opened ≡ asked_want asks u (then u).opened) (sym (number t s e)) (mine how)
    by t false e = ap (λ (o : Option OpenWant). asked_want asks t o) (sym (others t e))

abbrev pub asked-once : Place → ℕ → Transaction → Need → Node → Place
asked-once p s x n node = record p { transaction = at s (Some (wanting n x)) p.transaction; asks = p.asks ++ ask s n node ∷ [] }

pub once-place : (o : Opening) (p : Place) (s : ℕ) (x : Transaction) (n : Need) (node : Node) → p.transaction s ≡ Some x → after o p (Wanted s n node) ≡ asked-once p s x n node
once-place o p s x n node is_open = rw is_open refl

pub once-needs : (p : Place) (s : ℕ) (x : Transaction) (n : Need) (node : Node) → p.transaction s ≡ Some x → (t : ℕ) → needs_at (asked-once p s x n node) t ≡ needs_at p t
once-needs p s x n node is_open t = by (t == s) refl
  where
    by : (b : Bool) → (t == s) ≡ b → needs_at (asked-once p s x n node) t ≡ needs_at p t
    by true e = subst (λ u. needs_at (asked-once p s x n node) u ≡ needs_at p u) (sym (number t s e)) (ap got_of (at-same s (Some (wanting n x)) p.transaction) ∙ sym (ap got_of is_open))
    by false e = ap got_of (at-other s t (Some (wanting n x)) p.transaction e)

either : (b : Bool) (n : Need) → (cond b (Some n) None ≡ None) ⊎ (cond b (Some n) None ≡ Some n)
either true n = inr refl
either false n = inl refl

-- The events of a call: the want was asked at these nodes in turn.
pub wants-tied : (o : Opening) (p : Place) (s : ℕ) (x : Transaction) (n : Need) (nodes : List Node) (party : ℕ → Party) (asks : List Asked) → p.transaction s ≡ Some x → wanted (party s).opened ≡ Some n → AreTied p party asks →
    AreTied (place_from o p (wanted_at s n nodes)) party (asks ++ asks_for s nodes)
wants-tied o p s x n [] party asks is_open opens tied = subst (AreTied p party) (sym (append-nil asks)) tied
wants-tied o p s x n (node ∷ nodes) party asks is_open opens tied =
    let q = asked-once p s x n node in
    let one : AreTied q party (asks ++ entry s node ∷ []) = tied-wanted p q party party asks s n node tied refl (once-needs p s x n node is_open) (λ t. refl) (λ t other. refl) opens
    (subst (λ (w : Option Need). (w ≡ None) ⊎ (w ≡ Some n)) (sym (tied.wants s ∙ ap (λ w. cond (has_asked s asks) w None) opens)) (either (has_asked s asks) n)) in
    let rest = wants-tied o q s (wanting n x) n nodes party (asks ++ entry s node ∷ []) (at-same s (Some (wanting n x)) p.transaction) opens one in
    subst (λ (r : Place). AreTied (place_from o r (wanted_at s n nodes)) party (asks ++ asks_for s (node ∷ nodes))) (sym (once-place o p s x n node is_open))
    (subst (AreTied (place_from o q (wanted_at s n nodes)) party) (append_assoc asks (entry s node ∷ []) (asks_for s nodes)) rest)

-- ---- a want ends

module _ (old new : State) (s : ℕ) (others : KeepsParties s old.parties new.parties) (closed : (party_of new.parties s).opened ≡ None) where
  abbrev open-now : Asked → Bool
  open-now a = is_some (party_of new.parties a.owner).opened

  abbrev open-then : Asked → Bool
  open-then a = is_some (party_of old.parties a.owner).opened

  abbrev other : Asked → Bool
  other a = not (a.owner == s)

  and-not : (a b : Bool) → b ≡ true → (a && not b) ≡ false
  and-not true b h = ap not h
  and-not false b h = refl

  and-kept : (a b : Bool) → b ≡ false → (a && not b) ≡ a
  and-kept true b h = ap not h
  and-kept false b h = refl

  own-closed : (a : Asked) → (a.owner == s) ≡ true → open-now a ≡ false
  own-closed a k = subst (λ (u : ℕ). is_some (party_of new.parties u).opened ≡ false) (sym (number a.owner s k)) (ap is_some closed)

  -- where the trail is as it was
  pub closed-same : filter open-now old.trail ≡ filter other (open_asks old.parties old.trail)
  closed-same = sym (filter-both open-then other open-now (λ a. by a (a.owner == s) refl) old.trail)
    where
      by : (a : Asked) (b : Bool) → (a.owner == s) ≡ b → (open-then a && other a) ≡ open-now a
      by a true k = and-not (open-then a) (a.owner == s) k ∙ sym (own-closed a k)
      by a false k = and-kept (open-then a) (a.owner == s) k ∙ sym (ap (λ (p : Party). is_some p.opened) (others a.owner k))

  none-now : (nodes : List Node) → filter open-now (asks_for s nodes) ≡ []
  none-now [] = refl
  none-now (n ∷ ns) = ap (λ b. cond b ((record { owner = s; node = n }) ∷ filter open-now (asks_for s ns)) (filter open-now (asks_for s ns))) (ap is_some closed) ∙ none-now ns

  none-other : (nodes : List Node) → filter other (asks_for s nodes) ≡ []
  none-other [] = refl
  none-other (n ∷ ns) = ap (λ b. cond (not b) ((record { owner = s; node = n }) ∷ filter other (asks_for s ns)) (filter other (asks_for s ns))) (self s) ∙ none-other ns
    where
      self : (s : ℕ) → (s == s) ≡ true
      self s = grind arith

  trail-closed : (o : Option OpenWant) → opened_of old s ≡ o → filter open-now (trail_of_want old s) ≡ filter other (open_asks old.parties old.trail)
  trail-closed (Some w) e = ap (λ (x : Option OpenWant). filter open-now (cond (is_some x) old.trail (without_asks s old.trail))) e ∙ closed-same
  trail-closed None e =
      ap (λ (x : Option OpenWant). filter open-now (cond (is_some x) old.trail (without_asks s old.trail))) e
      ∙ (filter-both other open-now open-now (λ a. by a (a.owner == s) refl) old.trail ∙ closed-same)
    where
      by : (a : Asked) (b : Bool) → (a.owner == s) ≡ b → (other a && open-now a) ≡ open-now a
      by a true k = ap (λ b. not b && open-now a) k ∙ sym (own-closed a k)
      by a false k = ap (λ b. not b && open-now a) k

  -- where it was asked before
  pub open-closed : (need : Need) → (added : AddsAsks s need (trail_of_want old s) new.trail) → open_asks new.parties new.trail ≡ filter other (open_asks old.parties old.trail ++ asks_for s added.nodes)
  open-closed need added =
      ap (filter open-now) added.added
      ∙ (filter-append open-now (trail_of_want old s) (asks_for s added.nodes)
      ∙ (ap (λ l. l ++ filter open-now (asks_for s added.nodes)) (trail-closed (opened_of old s) refl)
      ∙ (ap (λ l. filter other (open_asks old.parties old.trail) ++ l) (none-now added.nodes ∙ sym (none-other added.nodes))
      ∙ sym (filter-append other (open_asks old.parties old.trail) (asks_for s added.nodes)))))
