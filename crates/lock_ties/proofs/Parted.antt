-- A need that is got conflicts with none that others have got.
use Rattle.std.proofs.Common.{◌≡◌, ℕ, ◌++◌, ◌∷◌, [], ◌==◌, ◌||◌, not, Bool, true, false, List, refl, ◌∙◌, sym, ap, subst}
use Rattle.std.specs.List.{list_any, list_all}
use Rattle.std.proofs.lemmas.Bool.{and_parts, or_left, or_right}
use Rattle.std.proofs.lemmas.List.Folds.{list_all-append}
use Rattle.lock_needs.specs.declared.need.Need.{Need}
use Rattle.lock_needs.specs.Needs.{conflict}
use Rattle.lock_needs.specs.Party.{Party}
use Rattle.lock_tree_laws.specs.Forest.{State, NeedsAreApart, KeepsParties, no_conflict, party_of}
use Rattle.lock_tree_laws.specs.Parties.{resting}
use Rattle.lock_tree_laws.specs.Wanted.{needs_of}
use Rattle.rdb_account.specs.Places.{Place}
use Rattle.rdb_account.specs.Lawful.{sessions}
use Rattle.rdb_account.specs.AskedFor.{IsApart, is_apart_from}
use Rattle.lock_ties.specs.Ties.{Apart, needs_at}
use Rattle.lock_ties.proofs.Places.{turned}

none-any : (n : Need) (ws : List Need) → list_all (λ v. not (conflict n v)) ws ≡ true → not (list_any (conflict n) ws) ≡ true
none-any n [] h = refl
none-any n (w ∷ ws) h =
    let p = and_parts (not (conflict n w)) (list_all (λ v. not (conflict n v)) ws) h in
    neither (conflict n w) (list_any (conflict n) ws) p.0 (none-any n ws p.1)
  where
    neither : (a b : Bool) → not a ≡ true → not b ≡ true → not (a || b) ≡ true
    neither true b h k = h
    neither false b h k = k

all-of : (f : ℕ → Bool) → ((t : ℕ) → f t ≡ true) → (ts : List ℕ) → list_all f ts ≡ true
all-of f h [] = refl
all-of f h (t ∷ ts) = rw (h t) (all-of f h ts)

-- the last of the needs conflicts with none of theirs
last-apart : (got : List Need) (n : Need) (theirs : List Need) → no_conflict (got ++ n ∷ []) theirs ≡ true → list_all (λ v. not (conflict n v)) theirs ≡ true
last-apart got n theirs h =
    let both = sym (list_all-append (λ w. list_all (λ v. not (conflict w v)) theirs) got (n ∷ [])) ∙ h in
    (and_parts (list_all (λ v. not (conflict n v)) theirs) true (and_parts (no_conflict got theirs) (no_conflict (n ∷ []) theirs) both).1).0

-- Where a session's needs with this one conflict with those of no other, the account may have it got.
pub may-get : (p : Place) (s : ℕ) (n : Need) → ((t : ℕ) → (t == s) ≡ false → Apart (needs_at p s ++ n ∷ []) (needs_at p t)) → IsApart p s n
may-get p s n apart = all-of (is_apart_from p s n) (λ t. by t (t == s) refl) sessions
  where
    by : (t : ℕ) (b : Bool) → (t == s) ≡ b → is_apart_from p s n t ≡ true
    by t true e = or_left (t == s) (not (list_any (conflict n) (needs_at p t))) e
    by t false e = or_right (t == s) (not (list_any (conflict n) (needs_at p t))) (none-any n (needs_at p t) (last-apart (needs_at p s) n (needs_at p t) (apart t e).0))

-- So it is where the tree got it, at a place with the needs that the tree had before.
pub got-apart : (old new : State) (s : ℕ) (n : Need) (p : Place) → ((t : ℕ) → needs_at p t ≡ needs_of old t) → KeepsParties s old.parties new.parties → party_of new.parties s ≡ resting (needs_of old s ++ n ∷ []) → NeedsAreApart new →
    (t : ℕ) → (t == s) ≡ false → Apart (needs_at p s ++ n ∷ []) (needs_at p t)
got-apart old new s n p same others rests apart t other = (
  subst (λ ws. no_conflict ws (needs_at p t) ≡ true) mine (subst (λ ws. no_conflict (needs_of new s) ws ≡ true) theirs (apart s t other)),
  subst (λ ws. no_conflict (needs_at p t) ws ≡ true) mine (subst (λ ws. no_conflict ws (needs_of new s) ≡ true) theirs (apart t s (turned s t other))),
)
  where
    mine : needs_of new s ≡ needs_at p s ++ n ∷ []
    mine = ap (λ (q : Party). q.needs) rests ∙ sym (ap (λ ws. ws ++ n ∷ []) (same s))

    theirs : needs_of new t ≡ needs_at p t
    theirs = ap (λ (q : Party). q.needs) (others t other) ∙ sym (same t)
