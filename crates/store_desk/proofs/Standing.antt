-- What the place of a session tells of its seat, and what calls leave.
use Rattle.std.proofs.Common.{◌≡◌, ◌==◌, ℕ, Bool, true, false, List, None, refl, sym, ap, subst, ◌∙◌}
use Rattle.std.proofs.lemmas.Bool.{eqb-true}
use Rattle.std.proofs.lemmas.Option.{none-some}
use Rattle.line_store.specs.Seats.{Seat, committing, dead, IsMember, in_flight}
use Rattle.line_store.specs.Shelves.{Shelf}
use Rattle.line_store.specs.Sights.{Sight, Does, bare}
use Rattle.store_desk.specs.declared.place.Place.{Place}
use Rattle.store_desk.specs.Places.{Fits, seat_in, place_of}

-- ---- whose commit is under way, tells the seat without lines

calm-seat : (seat : Seat) → in_flight (bare seat) ≡ None → in_flight seat ≡ None
calm-seat (committing ws) h = absurd (none-some _ (sym h))
calm-seat (dead true ws) h = absurd (none-some _ (sym h))
calm-seat (dead false ws) h = refl
calm-seat _ h = refl

calm-bare : (seat : Seat) → in_flight seat ≡ None → in_flight (bare seat) ≡ None
calm-bare (committing ws) h = absurd (none-some _ (sym h))
calm-bare (dead true ws) h = absurd (none-some _ (sym h))
calm-bare (dead false ws) h = refl
calm-bare _ h = refl

-- ---- what calls leave

module _ (old : Sight) (places : List Place) (fits : Fits old places) (s : ℕ) (member : IsMember s) where
  others-calm : (there : Seat) (R : Shelf → Shelf → Type 0) (new : Sight) → Does s there R old new → (t : ℕ) → (IsMember t → ⊥) → in_flight (new.stand t) ≡ None
  others-calm there R new does t not = by (t == s) refl
    where
      by : (b : Bool) → (t == s) ≡ b → in_flight (new.stand t) ≡ None
      by true same = absurd (not (subst IsMember (sym (eqb-true t s same)) member))
      by false apart = calm-seat (new.stand t) (subst (λ (x : Seat). in_flight x ≡ None) (sym (does.others t apart)) (calm-bare (old.stand t) (fits.calm t not)))

  -- s stays at its place
  pub stays-there : (there : Seat) (R : Shelf → Shelf → Type 0) (new : Sight) → Does s there R old new → bare there ≡ bare (old.stand s) → Fits new places
  stays-there there R new does same = record {
    each = λ t mem. by t mem (t == s) refl;
    calm = others-calm there R new does;
  }
    where
      by : (t : ℕ) → IsMember t → (b : Bool) → (t == s) ≡ b → bare (new.stand t) ≡ seat_in (place_of places t)
      by t mem true equal = ap (λ u. bare (new.stand u)) (eqb-true t s equal) ∙ (does.mine ∙ (same ∙ (ap (λ u. bare (old.stand u)) (sym (eqb-true t s equal)) ∙ fits.each t mem)))
      by t mem false apart = does.others t apart ∙ fits.each t mem
