-- Where a session stands that copies, and what a shelf has beside that.
use Rattle.std.proofs.Common.{◌≡◌, ◌==◌, ℕ, Option, Some, None, refl, sym, ap, ◌∙◌, inl, inr, sum_by}
use Rattle.std.specs.Prelude.{if◌then◌else◌}
use Rattle.line_view.specs.Knowledge.{Lines}
use Rattle.line_store.specs.Seats.{Seat, outside, beginning, writing, changing, broken, prepared, committing, rolling_back, closing, reading, copying, dead, in_flight, members, set_aside}
use Rattle.line_store.specs.Shelves.{Shelf, seen_from, seen_by, set_aside_beside}
use Rattle.line_store.specs.Calls.{MayStand}
use Rattle.line_store.specs.Sights.{bare}
use Rattle.backup_steps.specs.next_lines.partial_backup.declared.copying.Copying.{Copying}
use Rattle.store_copies.specs.Shown.{copying_at, seated, steps_with, with_copies}

-- ---- of a seat

bare-copying : (n : ℕ) (seat : Seat) → bare (copying_at n seat) ≡ bare (copying_at n (bare seat))
bare-copying n outside = refl
bare-copying n beginning = refl
bare-copying n (writing ws) = refl
bare-copying n (changing ws) = refl
bare-copying n (broken ws) = refl
bare-copying n (prepared ws) = refl
bare-copying n (committing ws) = refl
bare-copying n (rolling_back ws) = refl
bare-copying n closing = refl
bare-copying n (reading start) = refl
bare-copying n (copying number start) = refl
bare-copying n (dead commits ws) = refl

pub bare-seated : (c : Option Copying) (a b : Seat) → bare a ≡ bare b → bare (seated c a) ≡ bare (seated c b)
bare-seated None a b same = same
bare-seated (Some c) a b same = bare-copying c.backup.number a ∙ ap (λ (seat : Seat). bare (copying_at c.backup.number seat)) same ∙ sym (bare-copying c.backup.number b)

flight-copying : (n : ℕ) (seat : Seat) → in_flight (copying_at n seat) ≡ in_flight seat
flight-copying n outside = refl
flight-copying n beginning = refl
flight-copying n (writing ws) = refl
flight-copying n (changing ws) = refl
flight-copying n (broken ws) = refl
flight-copying n (prepared ws) = refl
flight-copying n (committing ws) = refl
flight-copying n (rolling_back ws) = refl
flight-copying n closing = refl
flight-copying n (reading start) = refl
flight-copying n (copying number start) = refl
flight-copying n (dead commits ws) = refl

pub flight-seated : (c : Option Copying) (seat : Seat) → in_flight (seated c seat) ≡ in_flight seat
flight-seated None seat = refl
flight-seated (Some c) seat = flight-copying c.backup.number seat

seen-copying : (n : ℕ) (seat : Seat) (now : Lines) → seen_from (copying_at n seat) now ≡ seen_from seat now
seen-copying n outside now = refl
seen-copying n beginning now = refl
seen-copying n (writing ws) now = refl
seen-copying n (changing ws) now = refl
seen-copying n (broken ws) now = refl
seen-copying n (prepared ws) now = refl
seen-copying n (committing ws) now = refl
seen-copying n (rolling_back ws) now = refl
seen-copying n closing now = refl
seen-copying n (reading start) now = refl
seen-copying n (copying number start) now = refl
seen-copying n (dead commits ws) now = refl

pub seen-seated : (c : Option Copying) (seat : Seat) (now : Lines) → seen_from (seated c seat) now ≡ seen_from seat now
seen-seated None seat now = refl
seen-seated (Some c) seat now = seen-copying c.backup.number seat now

aside-copying : (n : ℕ) (seat : Seat) → set_aside (copying_at n seat) ≡ set_aside seat
aside-copying n outside = refl
aside-copying n beginning = refl
aside-copying n (writing ws) = refl
aside-copying n (changing ws) = refl
aside-copying n (broken ws) = refl
aside-copying n (prepared ws) = refl
aside-copying n (committing ws) = refl
aside-copying n (rolling_back ws) = refl
aside-copying n closing = refl
aside-copying n (reading start) = refl
aside-copying n (copying number start) = refl
aside-copying n (dead commits ws) = refl

pub aside-seated : (c : Option Copying) (seat : Seat) → set_aside (seated c seat) ≡ set_aside seat
aside-seated None seat = refl
aside-seated (Some c) seat = aside-copying c.backup.number seat

-- ---- of a shelf

module _ (copied : ℕ → Option Copying) (h : Shelf) where
  pub seen-with : (s : ℕ) → seen_by s (with_copies copied h) ≡ seen_by s h
  seen-with s = seen-seated (copied s) (h.seat s) h.now

  pub stand-with : (lines : Lines) → MayStand h lines → MayStand (with_copies copied h) lines
  stand-with lines (inl same) = inl same
  stand-with lines (inr flies) = inr (flies.0, flies.1, flight-seated (copied flies.0) (h.seat flies.0) ∙ flies.2, flies.3)

  pub stands-with : (lines : Lines) → MayStand (with_copies copied h) lines → MayStand h lines
  stands-with lines (inl same) = inl same
  stands-with lines (inr flies) = inr (flies.0, flies.1, sym (flight-seated (copied flies.0) (h.seat flies.0)) ∙ flies.2, flies.3)

  pub aside-with : (s : ℕ) → set_aside_beside s (with_copies copied h) ≡ set_aside_beside s h
  aside-with s = λ i. sum_by (λ (t : ℕ). if t == s then 0 else aside-seated (copied t) (h.seat t) i) members

  -- who copies nothing stands where it did
  module _ (s : ℕ) (none : copied s ≡ None) where
    pub seat-with : (with_copies copied h).seat s ≡ h.seat s
    seat-with = ap (λ (c : Option Copying). seated c (h.seat s)) none

    pub steps-plain : (with_copies copied h).steps s ≡ h.steps s
    steps-plain = ap (λ (c : Option Copying). steps_with c (h.steps s)) none
