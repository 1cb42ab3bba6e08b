-- Where sessions stand, as the cases keep it.
use Rattle.std.specs.Prelude.{◌≡◌, ℕ, true, false, List, [], None, slice_index_or}
use Rattle.line_store.specs.Seats.{Seat, outside, beginning, writing, changing, broken, prepared, committing, rolling_back, closing, reading, copying, dead, IsMember, in_flight}
use Rattle.line_store.specs.Sights.{Sight, bare}
use Rattle.store_desk.specs.declared.place.Place.{Place}
use Rattle.store_desk.specs.declared.place.Place.TheVariants as at

-- the seat without lines
abbrev pub seat_in : Place → Seat
seat_in at.Outside = outside
seat_in at.Beginning = beginning
seat_in at.Writing = writing []
seat_in at.Changing = changing []
seat_in at.Broken = broken []
seat_in at.Prepared = prepared []
seat_in at.Committing = committing []
seat_in at.RollingBack = rolling_back []
seat_in at.Closing = closing
seat_in at.Reading = reading []
seat_in (at.Copying number) = copying number []
seat_in at.Fallen = dead false []
seat_in at.FallenInCommit = dead true []

abbrev pub place_of : List Place → ℕ → Place
place_of places s = slice_index_or places s at.Outside

-- The store has each session at its place, and nobody else commits.
pub record Fits (sight : Sight) (places : List Place) : Type 0 where
  pub each : (s : ℕ) → IsMember s → bare (sight.stand s) ≡ seat_in (place_of places s)
  pub calm : (t : ℕ) → (IsMember t → ⊥) → in_flight (sight.stand t) ≡ None
