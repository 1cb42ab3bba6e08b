-- The places that are kept for the ends of open wants, as the party of one owner changes.
use Rattle.std.proofs.Common.{◌≡◌, ℕ, zero, suc, ◌+◌, ◌-◌, ◌<◌, ◌≤◌, Bool, true, false, refl, sym, ◌∙◌, ap, subst, inl, inr, length, get_or, arith}
use Rattle.std.specs.Prelude.{◌==◌, nat_le, if◌then◌else◌, Option, Some, None, is_some}
use Rattle.std.specs.List.{sum_by, range_with_len}
use Rattle.std.proofs.Math.Nat.{eq-or-lt_of_le}
use Rattle.std.proofs.lemmas.Bool.{false≢true, cases_Bool, and_parts, eqb-true, eq-eqb, leb-true}
use Rattle.std.proofs.lemmas.List.FromFn.{get_or-range_with_len}
use Rattle.std.proofs.lemmas.List.Sums.{sum_by-cons, sum_by-le-sum_by, get_or-le-sum_by}
use Rattle.vms_queues.specs.Owners.{is_owner}
use Rattle.lock_needs.specs.declared.party.OpenWant.{OpenWant}
use Rattle.lock_needs.specs.Party.{Party}
use Rattle.lock_tree_laws.specs.Forest.{Parties, State, IsWhole, KeepsParties, party_of, opened_of, places_of, places_kept, all_owners}

-- ---- sums over numbers in a row

-- the first of them, and the others
pub sum-first : (f : ℕ → ℕ) (a n m : ℕ) → n ≡ m + 1 → sum_by f (range_with_len a n) ≡ f a + sum_by f (range_with_len (a + 1) m)
sum-first f a n m e =
    let suc_m : n ≡ suc m = omega arith in
    ap (λ (k : ℕ). sum_by f (range_with_len a k)) suc_m ∙ sum_by-cons f a (range_with_len (a + 1) m)

-- two sums whose terms differ at one number alone
module _ (f g : ℕ → ℕ) (o : ℕ) (others : (u : ℕ) → (u == o) ≡ false → g u ≡ f u) where
  apart : (a : ℕ) → o < a → (a == o) ≡ false
  apart a h = elim (cases_Bool (a == o)) [
    | inr d ↦ d
    | inl e ↦ let is : a ≡ o = eqb-true a o e in absurd (omega arith)
  ]

  under : (a : ℕ) → a ≤ o → (a == o) ≡ false → a < o
  under a h d = elim (eq-or-lt_of_le h) [ inl e ↦ absurd (false≢true (sym d ∙ eq-eqb a o e)) | inr l ↦ l ]

  sum-beyond : (a n : ℕ) → o < a → sum_by g (range_with_len a n) ≡ sum_by f (range_with_len a n)
  sum-beyond a zero h = refl
  sum-beyond a (suc n) h =
      let first = others a (apart a h) in
      let rest = sum-beyond (a + 1) n (omega arith) in
      let on = sum_by-cons f a (range_with_len (a + 1) n) in
      let to = sum_by-cons g a (range_with_len (a + 1) n) in
      omega (arith, first, rest, on, to)

  sum-but : (a n : ℕ) → a ≤ o → o < a + n → sum_by g (range_with_len a n) + f o ≡ sum_by f (range_with_len a n) + g o
  sum-but a zero h k = absurd (omega arith)
  sum-but a (suc n) h k =
      let on = sum_by-cons f a (range_with_len (a + 1) n) in
      let to = sum_by-cons g a (range_with_len (a + 1) n) in
      elim (cases_Bool (a == o)) [
        | inl e ↦
            let is : a ≡ o = eqb-true a o e in
            let rest = sum-beyond (a + 1) n (omega arith) in
            let own : f a ≡ f o = ap f is in
            let new : g a ≡ g o = ap g is in
            omega (arith, rest, on, to, own, new)
        | inr d ↦
            let is = others a d in
            let rest = sum-but (a + 1) n (omega (arith, under a h d)) (omega arith) in
            omega (arith, is, rest, on, to)
      ]

-- ---- places

abbrev places_in : Parties → ℕ → ℕ
places_in ps u = places_of (party_of ps u)

within : (o : ℕ) → is_owner o ≡ true → (1 ≤ o) × (o ≤ 16)
within o h =
    let p = and_parts (nat_le 1 o) (nat_le o 16) h in
    (leb-true 1 o p.0, leb-true o 16 p.1)

closed-places : (p : Party) → p.opened ≡ None → places_of p ≡ 0
closed-places p e = ap (λ (o : Option OpenWant). if is_some o then length p.needs else 0) e

open-places : (p : Party) (w : OpenWant) → p.opened ≡ Some w → places_of p ≡ length p.needs
open-places p w e = ap (λ (o : Option OpenWant). if is_some o then length p.needs else 0) e

most-places : (p : Party) → places_of p ≤ length p.needs
most-places p = elim (is_some p.opened) as (λ t. (if t then length p.needs else 0) ≤ length p.needs) [ true ↦ omega arith | false ↦ omega arith ]

-- what is kept for an owner is a part of what is kept
places-own : (ps : Parties) (owner : ℕ) → is_owner owner ≡ true → places_in ps owner ≤ places_kept ps
places-own ps owner is =
    let w = within owner is in
    let at : get_or all_owners (owner - 1) 0 ≡ owner = get_or-range_with_len 1 16 (owner - 1) 0 (omega (arith, w.0, w.1)) ∙ omega (arith, w.0) in
    subst (λ (u : ℕ). places_in ps u ≤ places_kept ps) at (get_or-le-sum_by (places_in ps) all_owners (owner - 1) 0 (omega (arith, w.0, w.1)))

module _ (owner : ℕ) (old new : Parties) (others : KeepsParties owner old new) where
  places-others : (u : ℕ) → (u == owner) ≡ false → places_in new u ≡ places_in old u
  places-others u d = ap places_of (others u d)

  -- no more than before are kept for the owner
  places-most : places_in new owner ≤ places_in old owner → places_kept new ≤ places_kept old
  places-most less =
      sum_by-le-sum_by (places_in new) (places_in old) all_owners
      (λ u. elim (cases_Bool (u == owner)) [
        | inl e ↦ subst (λ (k : ℕ). places_in new k ≤ places_in old k) (sym (eqb-true u owner e)) less
        | inr d ↦ let same = places-others u d in omega (arith, same)
      ])

  -- it has and wants what it did
  pub places-same : party_of new owner ≡ party_of old owner → places_kept new ≤ places_kept old
  places-same e = let own = ap places_of e in places-most (omega (arith, own))

  -- its want has ended
  pub places-closed : (party_of new owner).opened ≡ None → places_kept new ≤ places_kept old
  places-closed e = let none = closed-places (party_of new owner) e in places-most (omega (arith, none))

  -- its want is open still, with the same needs
  pub places-still : is_some (party_of old owner).opened ≡ true → (party_of new owner).needs ≡ (party_of old owner).needs → places_kept new ≤ places_kept old
  places-still open_ needs =
      let most = most-places (party_of new owner) in
      let long = ap (λ ws. length ws) needs in
      let own : places_in old owner ≡ length (party_of old owner).needs = ap (λ (b : Bool). if b then length (party_of old owner).needs else 0) open_ in
      places-most (omega (arith, most, long, own))

  -- what changes is what is kept for the owner
  places-change : is_owner owner ≡ true → places_kept new + places_in old owner ≡ places_kept old + places_in new owner
  places-change is = let w = within owner is in sum-but (places_in old) (places_in new) owner places-others 1 16 w.0 (omega (arith, w.1))

  -- a want of it has opened
  pub places-opened : is_owner owner ≡ true → (party_of new owner).needs ≡ (party_of old owner).needs → places_kept new ≤ places_kept old + length (party_of old owner).needs
  places-opened is needs =
      let most = most-places (party_of new owner) in
      let long = ap (λ ws. length ws) needs in
      let change = places-change is in
      omega (arith, most, long, change)

  -- its open want has ended: as many are free as its end may have taken
  pub places-freed : is_owner owner ≡ true → is_some (party_of old owner).opened ≡ true → (party_of new owner).opened ≡ None → places_kept new + length (party_of old owner).needs ≤ places_kept old
  places-freed is open_ e =
      let none = closed-places (party_of new owner) e in
      let change = places-change is in
      let own : places_in old owner ≡ length (party_of old owner).needs = ap (λ (b : Bool). if b then length (party_of old owner).needs else 0) open_ in
      omega (arith, none, change, own)

-- ---- by the tree's state

-- who has a want open is an owner
pub open-owner : (s : State) (owner : ℕ) (w : OpenWant) → IsWhole s → opened_of s owner ≡ Some w → is_owner owner ≡ true
open-owner s owner w whole opened = elim (cases_Bool (is_owner owner)) [
  | inl t ↦ t
  | inr f ↦ absurd (false≢true (ap (λ (o : Option OpenWant). is_some o) (sym (whole.owners owner f) ∙ opened)))
]

-- its end has the room that it may take
pub room-own : (s : State) (owner : ℕ) (w : OpenWant) → IsWhole s → opened_of s owner ≡ Some w → length (party_of s.parties owner).needs ≤ s.table.spare
room-own s owner w whole opened =
    let own = open-places (party_of s.parties owner) w opened in
    let part = places-own s.parties owner (open-owner s owner w whole opened) in
    omega (arith, own, part, whole.room)
