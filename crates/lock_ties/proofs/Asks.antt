-- The tree and the account go on telling the same.
use Rattle.std.proofs.Common.{◌≡◌, ℕ, ◌++◌, ◌∷◌, [], ◌==◌, ◌||◌, not, cond, Bool, true, false, List, refl, ◌∙◌, sym, ap, subst, arith, map, Option, Some, None, ◌⊎◌, inl, inr}
use Rattle.std.proofs.lemmas.Option.{none-some}
use Rattle.std.proofs.lemmas.List.{map-append}
use Rattle.std.proofs.lemmas.List.Folds.{list_any-append}
use Rattle.rdb_types.specs.declared.node.Node.{Node}
use Rattle.lock_needs.specs.declared.need.Need.{Need}
use Rattle.lock_needs.specs.declared.party.OpenWant.{OpenWant}
use Rattle.lock_needs.specs.declared.party.Asked.{Asked}
use Rattle.lock_needs.specs.Party.{Party}
use Rattle.lock_needs.specs.Waits.{wanted, has_asked, is_behind}
use Rattle.rdb_account.specs.Places.{Place, Ask, asks_of_others}
use Rattle.rdb_account.specs.Lawful.{asked_of, want_in, waits, waits_by}
use Rattle.lock_tree_laws.specs.Order.{without_asks}
use Rattle.lock_ties.specs.Ties.{needs_at, asked_want, AreTied}
use Rattle.lock_ties.proofs.Places.{same-number, number, turned}

-- an owner that wants this waits for another, by needs and by wants that were asked
abbrev pub waits_by_asks : List Asked → (ℕ → Party) → ℕ → Need → ℕ → Bool
waits_by_asks asks party s w t = is_behind asks s w t (party t).needs (asked_want asks t (party t).opened)

-- whom the tree names, the account has it wait for
pub waits-tied : (p : Place) (party : ℕ → Party) (asks : List Asked) → AreTied p party asks → (s : ℕ) (w : Need) (t : ℕ) → want_in s p.asks ≡ Some w → waits_by_asks asks party s w t ≡ true → waits p s t ≡ true
waits-tied p party asks tied s w t want h =
    ap (waits_by p s t) want
    ∙ (ap (λ a. is_behind a s w t (needs_at p t) (want_in t p.asks)) tied.asks
    ∙ (ap (λ n. is_behind asks s w t n (want_in t p.asks)) (tied.needs t)
    ∙ (ap (λ v. is_behind asks s w t (party t).needs v) (tied.wants t) ∙ h)))

-- ---- one more asking

abbrev pub ask : ℕ → Need → Node → Ask
ask s n node = record { session = s; need = n; node = node }

abbrev pub entry : ℕ → Node → Asked
entry s node = record { owner = s; node = node }

pub want-other : (s t : ℕ) (n : Need) (node : Node) (as' : List Ask) → (s == t) ≡ false → want_in t (as' ++ ask s n node ∷ []) ≡ want_in t as'
want-other s t n node [] other = rw other refl
want-other s t n node (a ∷ as') other = ap (λ x. cond (a.session == t) (Some a.need) x) (want-other s t n node as' other)

pub want-more : (s : ℕ) (n : Need) (node : Node) (as' : List Ask) → want_in s as' ≡ None → want_in s (as' ++ ask s n node ∷ []) ≡ Some n
want-more s n node [] none = rw (same-number s) refl
want-more s n node (a ∷ as') none =
    elim (a.session == s) as (λ b. cond b (Some a.need) (want_in s as') ≡ None → cond b (Some a.need) (want_in s (as' ++ ask s n node ∷ [])) ≡ Some n) [
      | true ↦ λ h. absurd (none-some a.need (sym h))
      | false ↦ λ h. want-more s n node as' h
    ] none

pub want-again : (s : ℕ) (n m : Need) (node : Node) (as' : List Ask) → want_in s as' ≡ Some m → want_in s (as' ++ ask s n node ∷ []) ≡ Some m
want-again s n m node [] some = absurd (none-some m some)
want-again s n m node (a ∷ as') some =
    elim (a.session == s) as (λ b. cond b (Some a.need) (want_in s as') ≡ Some m → cond b (Some a.need) (want_in s (as' ++ ask s n node ∷ [])) ≡ Some m) [
      | true ↦ λ h. h
      | false ↦ λ h. want-again s n m node as' h
    ] some

asked-more : (s t : ℕ) (node : Node) (asks : List Asked) → has_asked t (asks ++ entry s node ∷ []) ≡ (has_asked t asks || (s == t))
asked-more s t node asks = list_any-append (λ a. a.owner == t) asks (entry s node ∷ []) ∙ or-last (has_asked t asks) (s == t)
  where
    or-last : (a b : Bool) → (a || (b || false)) ≡ (a || b)
    or-last a b = grind arith

or-none : (a b : Bool) → b ≡ false → (a || b) ≡ a
or-none a b h = grind arith

or-some : (a b : Bool) → b ≡ true → (a || b) ≡ true
or-some a b h = grind arith

-- A want that is open, of this need, is asked at one more node.
pub tied-wanted : (p q : Place) (party then : ℕ → Party) (asks : List Asked) (s : ℕ) (n : Need) (node : Node) → AreTied p party asks → q.asks ≡ p.asks ++ ask s n node ∷ [] →
    ((t : ℕ) → needs_at q t ≡ needs_at p t) → ((t : ℕ) → (then t).needs ≡ (party t).needs) → ((t : ℕ) → (t == s) ≡ false → (then t).opened ≡ (party t).opened) →
    wanted (then s).opened ≡ Some n → (want_in s p.asks ≡ None) ⊎ (want_in s p.asks ≡ Some n) →
    AreTied q then (asks ++ entry s node ∷ [])
tied-wanted p q party then asks s n node tied more needs same others opens before = record {
  needs = λ t. needs t ∙ (tied.needs t ∙ sym (same t));
  asks = ap (map asked_of) more ∙ (map-append asked_of p.asks (ask s n node ∷ []) ∙ ap (λ a. a ++ entry s node ∷ []) tied.asks);
  wants = λ t. ap (want_in t) more ∙ by t (t == s) refl;
}
  where
    by : (t : ℕ) (b : Bool) → (t == s) ≡ b → want_in t (p.asks ++ ask s n node ∷ []) ≡ asked_want (asks ++ entry s node ∷ []) t (then t).opened
    by t false e =
        want-other s t n node p.asks (turned s t e)
        ∙ (tied.wants t
        ∙ (ap (λ (o : Option OpenWant). cond (has_asked t asks) (wanted o) None) (sym (others t e))
        ∙ sym (ap (λ b. cond b (wanted (then t).opened) None) (asked-more s t node asks ∙ or-none (has_asked t asks) (s == t) (turned s t e)))))
    by t true e =
        subst (λ u. want_in u (p.asks ++ ask s n node ∷ []) ≡ asked_want (asks ++ entry s node ∷ []) u (then u).opened) (sym (number t s e))
        (mine before ∙ sym (ap (λ b. cond b (wanted (then s).opened) None) (asked-more s s node asks ∙ or-some (has_asked s asks) (s == s) (same-number s)) ∙ opens))
      where
        mine : (want_in s p.asks ≡ None) ⊎ (want_in s p.asks ≡ Some n) → want_in s (p.asks ++ ask s n node ∷ []) ≡ Some n
        mine (inl none) = want-more s n node p.asks none
        mine (inr some) = want-again s n n node p.asks some

-- ---- a want ends

apart-from : (a s t : ℕ) → (t == s) ≡ false → (a == s) ≡ true → (a == t) ≡ false
apart-from a s t other e = subst (λ x. (x == t) ≡ false) (sym (number a s e)) (turned s t other)

pub want-kept : (s t : ℕ) (as' : List Ask) → (t == s) ≡ false → want_in t (asks_of_others s as') ≡ want_in t as'
want-kept s t [] other = refl
want-kept s t (a ∷ as') other =
    elim (a.session == s) as (λ b. (a.session == s) ≡ b → want_in t (cond (not b) (a ∷ asks_of_others s as') (asks_of_others s as')) ≡ cond (a.session == t) (Some a.need) (want_in t as')) [
      | true ↦ λ e. want-kept s t as' other ∙ sym (ap (λ b. cond b (Some a.need) (want_in t as')) (apart-from a.session s t other e))
      | false ↦ λ e. ap (λ x. cond (a.session == t) (Some a.need) x) (want-kept s t as' other)
    ] refl

pub want-gone : (s : ℕ) (as' : List Ask) → want_in s (asks_of_others s as') ≡ None
want-gone s [] = refl
want-gone s (a ∷ as') =
    elim (a.session == s) as (λ b. (a.session == s) ≡ b → want_in s (cond (not b) (a ∷ asks_of_others s as') (asks_of_others s as')) ≡ None) [
      | true ↦ λ e. want-gone s as'
      | false ↦ λ e. ap (λ b. cond b (Some a.need) (want_in s (asks_of_others s as'))) e ∙ want-gone s as'
    ] refl

asks-without : (s : ℕ) (as' : List Ask) → map asked_of (asks_of_others s as') ≡ without_asks s (map asked_of as')
asks-without s [] = refl
asks-without s (a ∷ as') =
    elim (a.session == s) as (λ b. map asked_of (cond (not b) (a ∷ asks_of_others s as') (asks_of_others s as')) ≡ cond (not b) (asked_of a ∷ without_asks s (map asked_of as')) (without_asks s (map asked_of as'))) [
      | true ↦ asks-without s as'
      | false ↦ ap (λ l. asked_of a ∷ l) (asks-without s as')
    ]

asked-kept : (s t : ℕ) (asks : List Asked) → (t == s) ≡ false → has_asked t (without_asks s asks) ≡ has_asked t asks
asked-kept s t [] other = refl
asked-kept s t (a ∷ as') other =
    elim (a.owner == s) as (λ b. (a.owner == s) ≡ b → has_asked t (cond (not b) (a ∷ without_asks s as') (without_asks s as')) ≡ ((a.owner == t) || has_asked t as')) [
      | true ↦ λ e. asked-kept s t as' other ∙ sym (ap (λ b. b || has_asked t as') (apart-from a.owner s t other e))
      | false ↦ λ e. ap (λ x. (a.owner == t) || x) (asked-kept s t as' other)
    ] refl

abbrev no_need : Option Need
no_need = None

none-either : (b : Bool) → cond b no_need no_need ≡ no_need
none-either true = refl
none-either false = refl

-- The want of s has ended: it was got, refused, given up, or its transaction ended. Its needs may be others.
pub tied-ended : (p q : Place) (party then : ℕ → Party) (asks : List Asked) (s : ℕ) → AreTied p party asks → q.asks ≡ asks_of_others s p.asks →
    ((t : ℕ) → needs_at q t ≡ (then t).needs) → ((t : ℕ) → (t == s) ≡ false → (then t).opened ≡ (party t).opened) → (then s).opened ≡ None →
    AreTied q then (without_asks s asks)
tied-ended p q party then asks s tied less needs others closed = record {
  needs = needs;
  asks = ap (map asked_of) less ∙ (asks-without s p.asks ∙ ap (without_asks s) tied.asks);
  wants = λ t. ap (want_in t) less ∙ by t (t == s) refl;
}
  where
    by : (t : ℕ) (b : Bool) → (t == s) ≡ b → want_in t (asks_of_others s p.asks) ≡ asked_want (without_asks s asks) t (then t).opened
    by t false e =
        want-kept s t p.asks e
        ∙ (tied.wants t
        ∙ (ap (λ (o : Option OpenWant). cond (has_asked t asks) (wanted o) None) (sym (others t e))
        ∙ sym (ap (λ b. cond b (wanted (then t).opened) None) (asked-kept s t asks e))))
    by t true e =
        subst (λ u. want_in u (asks_of_others s p.asks) ≡ asked_want (without_asks s asks) u (then u).opened) (sym (number t s e))
        (want-gone s p.asks ∙ sym (ap (λ (o : Option OpenWant). cond (has_asked s (without_asks s asks)) (wanted o) None) closed ∙ none-either (has_asked s (without_asks s asks))))
