-- What is put in a seat, and what stays.
use Rattle.std.proofs.Common.{◌≡◌, ◌≤◌, ◌<◌, ◌+◌, ◌==◌, ◌⊎◌, inl, inr, ℕ, zero, suc, Bool, true, false, cond, List, [], ◌∷◌, length, Some, refl, sym, ap, subst, ◌∙◌, arith}
use Rattle.std.specs.Prelude.{slice_get, slice_set}
use Rattle.std.proofs.lemmas.Option.{same_Some, none-some}
use Rattle.std.proofs.lemmas.Bool.{eqb-false, eqb-true}
use Rattle.line_view.specs.Knowledge.{Lines}
use Rattle.line_store.specs.Seats.{Seat}
use Rattle.line_store.specs.Shelves.{Shelf, Space}
use Rattle.line_store.specs.Calls.{KeepsOthers, KeepsSpace, Moves}
use Rattle.memory_store.specs.declared.seat.Seat.{Seat as Held}
use Rattle.memory_store.specs.declared.seat.Seat.TheVariants as held
use Rattle.memory_store.specs.Kept.{Kept, AreKept, empty_seats, is_ready, count_ready, seat_of, seat_or, seat_at, shelf_of, with_seat, with_stock, copier_of}

-- ---- lists

get-set : {X : Type 0} (xs : List X) (i : ℕ) (x y : X) → slice_get xs i ≡ Some x → slice_get (slice_set xs i y) i ≡ Some y
get-set [] i x y h = absurd (none-some _ h)
get-set (z ∷ zs) zero x y h = refl
get-set (z ∷ zs) (suc i) x y h = get-set zs i x y h

pub set-here : {X : Type 0} (xs : List X) (i : ℕ) (y : X) → i < length xs → slice_get (slice_set xs i y) i ≡ Some y
set-here [] i y h = absurd (omega (arith, h))
set-here (z ∷ zs) zero y h = refl
set-here (z ∷ zs) (suc i) y h = set-here zs i y (omega (arith, h))

pub get-apart : {X : Type 0} (xs : List X) (i t : ℕ) (y : X) → (t ≡ i → ⊥) → slice_get (slice_set xs i y) t ≡ slice_get xs t
get-apart [] i t y h = refl
get-apart (z ∷ zs) zero zero y h = absurd (h refl)
get-apart (z ∷ zs) zero (suc t) y h = refl
get-apart (z ∷ zs) (suc i) zero y h = refl
get-apart (z ∷ zs) (suc i) (suc t) y h = get-apart zs i t y (λ e. h (ap suc e))

set-twice : {X : Type 0} (xs : List X) (i : ℕ) (x y : X) → slice_set (slice_set xs i x) i y ≡ slice_set xs i y
set-twice [] i x y = refl
set-twice (z ∷ zs) zero x y = refl
set-twice (z ∷ zs) (suc i) x y = ap (λ ws. z ∷ ws) (set-twice zs i x y)

set-length : {X : Type 0} (xs : List X) (i : ℕ) (y : X) → length (slice_set xs i y) ≡ length xs
set-length [] i y = refl
set-length (z ∷ zs) zero y = refl
set-length (z ∷ zs) (suc i) y = ap suc (set-length zs i y)

-- ---- seats

seat-apart : (seats : List Held) (s t : ℕ) (h : Held) → (t == s) ≡ false → seat_at (slice_set seats s h) t ≡ seat_at seats t
seat-apart seats s t h apart = ap seat_or (get-apart seats s t h (eqb-false t s apart))

pub seat-here : (seats : List Held) (s : ℕ) (h : Held) → slice_get seats s ≡ Some h → seat_at seats s ≡ seat_of h
seat-here seats s h is = ap seat_or is

-- ---- commits that may land

abbrev at-once : Bool → ℕ
at-once b = cond b 1 0

most-one : (b : Bool) → at-once b ≤ 1
most-one true = omega arith
most-one false = omega arith

one-more : (seats : List Held) (s : ℕ) (h : Held) → count_ready (slice_set seats s h) ≤ count_ready seats + 1
one-more [] s h = omega arith
one-more (z ∷ zs) zero h = omega (arith, most-one (is_ready (seat_of h)))
one-more (z ∷ zs) (suc s) h = omega (arith, one-more zs s h)

none-more : (seats : List Held) (s : ℕ) (h : Held) → is_ready (seat_of h) ≡ false → count_ready (slice_set seats s h) ≤ count_ready seats
none-more [] s h quiet = omega arith
none-more (z ∷ zs) zero h quiet = let none : at-once (is_ready (seat_of h)) ≡ 0 = ap at-once quiet in omega (arith, none)
none-more (z ∷ zs) (suc s) h quiet = omega (arith, none-more zs s h quiet)

one-less : (seats : List Held) (s : ℕ) (was : Held) → slice_get seats s ≡ Some was → is_ready (seat_of was) ≡ true → count_ready (slice_set seats s held.Outside) < count_ready seats
one-less [] s was had ready = absurd (none-some _ had)
one-less (z ∷ zs) zero was had ready =
    let one : at-once (is_ready (seat_of z)) ≡ 1 = ap (λ (h : Held). at-once (is_ready (seat_of h))) (same_Some _ _ had) ∙ ap at-once ready in omega (arith, one)
one-less (z ∷ zs) (suc s) was had ready = omega (arith, one-less zs s was had ready)

most : (seats : List Held) → count_ready seats ≤ length seats
most [] = omega arith
most (z ∷ zs) = omega (arith, most-one (is_ready (seat_of z)), most zs)

fewer : (seats : List Held) (s : ℕ) → s < length seats → count_ready (slice_set seats s held.Outside) < length seats
fewer [] s inside = absurd (omega (arith, inside))
fewer (z ∷ zs) zero inside = omega (arith, most zs)
fewer (z ∷ zs) (suc s) inside =
    let less : s < length zs = omega (arith, inside) in omega (arith, most-one (is_ready (seat_of z)), fewer zs s less)

module _ (room : ℕ) (seats : List Held) (kept : AreKept room seats) (s : ℕ) where
  pub taken-few : s < 17 → count_ready (slice_set seats s held.Outside) < 17
  taken-few low = subst (λ (n : ℕ). count_ready (slice_set seats s held.Outside) < n) kept.count (fewer seats s (subst (λ (n : ℕ). s < n) (sym kept.count) low))

  pub taken-ready : (was : Held) → slice_get seats s ≡ Some was → is_ready (seat_of was) ≡ true → count_ready (slice_set seats s held.Outside) < room
  taken-ready was had ready = omega (arith, one-less seats s was had ready, kept.fits)

  pub put-kept : (h : Held) → (is_ready (seat_of h) ≡ false) ⊎ (count_ready seats < room) → AreKept room (slice_set seats s h)
  put-kept h may = record { count = set-length seats s h ∙ kept.count; fits = fits may }
    where
      fits : (is_ready (seat_of h) ≡ false) ⊎ (count_ready seats < room) → count_ready (slice_set seats s h) ≤ room
      fits (inl quiet) = omega (arith, none-more seats s h quiet, kept.fits)
      fits (inr less) = omega (arith, one-more seats s h, less)

pub room-kept : (old new : ℕ) (seats : List Held) → AreKept old seats → old ≤ new → AreKept new seats
room-kept old new seats kept more = record { count = kept.count; fits = omega (arith, kept.fits, more) }

pub fresh : (room : ℕ) → AreKept room empty_seats
fresh room = record { count = refl; fits = omega arith }

-- ---- moves

no-room : (space : Space) → KeepsSpace space space
no-room space = record { limits = refl; taken = λ file page. refl; snaps = omega arith; slots = omega arith }

pub others-stay : (k : Kept) (s : ℕ) (h : Held) (lines : Lines) (room : ℕ) → KeepsOthers s (shelf_of k) (shelf_of (with_stock lines room (with_seat s h k)))
others-stay k s h lines room = record {
  seat = λ t apart. seat-apart k.seats s t h apart;
  steps = λ t apart. refl;
  later = record { later = omega arith; no_fewer = omega arith };
}

moves-by : (k : Kept) (s : ℕ) (h : Held) (seat : Seat) → seat_at (slice_set k.seats s h) s ≡ seat → Moves s seat (shelf_of k) (shelf_of (with_seat s h k))
moves-by k s h seat here = record {
  now = refl;
  mine = here;
  others = others-stay k s h k.lines k.room;
  space = no-room (shelf_of k).space;
}

-- h was put
pub moves : (k new : Kept) (s : ℕ) (h : Held) (seat : Seat) → new ≡ with_seat s h k → slice_get new.seats s ≡ Some h → seat_of h ≡ seat → Moves s seat (shelf_of k) (shelf_of new)
moves k new s h seat is here seat-is =
    subst (λ (n : Kept). Moves s seat (shelf_of k) (shelf_of n)) (sym is)
    (moves-by k s h seat (ap (λ (n : Kept). seat_at n.seats s) (sym is) ∙ (seat-here new.seats s h here ∙ seat-is)))

pub twice : (k : Kept) (s : ℕ) (g h : Held) → with_seat s h (with_seat s g k) ≡ with_seat s h k
twice k s g h = ap (λ (seats : List Held). record { limits = k.limits; lines = k.lines; room = k.room; seats = seats; copiers = k.copiers; pages = k.pages }) (set-twice k.seats s g h)

pub put-twice : (k mid new : Kept) (s : ℕ) (g h : Held) → mid ≡ with_seat s g k → new ≡ with_seat s h mid → new ≡ with_seat s h k
put-twice k mid new s g h first then = then ∙ (ap (λ (n : Kept). with_seat s h n) first ∙ twice k s g h)

-- who began a backup last stays
pub copier-put : (k new : Kept) (s : ℕ) (h : Held) → new ≡ with_seat s h k → (n : ℕ) → copier_of new n ≡ copier_of k n
copier-put k new s h is n = ap (λ (it : Kept). copier_of it n) is

pub copier-put-twice : (k mid new : Kept) (s : ℕ) (g h : Held) → mid ≡ with_seat s g k → new ≡ with_seat s h mid → (n : ℕ) → copier_of new n ≡ copier_of k n
copier-put-twice k mid new s g h first then n = copier-put mid new s h then n ∙ copier-put k mid s g first n

-- what was held was taken out, and h was put
pub moves-twice : (k mid new : Kept) (s : ℕ) (h : Held) (seat : Seat) → mid ≡ with_seat s held.Outside k → new ≡ with_seat s h mid → slice_get new.seats s ≡ Some h → seat_of h ≡ seat → Moves s seat (shelf_of k) (shelf_of new)
moves-twice k mid new s h seat first then here seat-is = moves k new s h seat (put-twice k mid new s held.Outside h first then) here seat-is

abbrev shelf-with : Kept → (ℕ → Seat) → Shelf
shelf-with k seat = record { now = k.lines; seat = seat; steps = λ s. 0; space = (shelf_of k).space; clock = (shelf_of k).clock }

-- what is put back is as what was taken out
pub put-back : (k mid new : Kept) (s : ℕ) (was h : Held) → slice_get k.seats s ≡ Some was → mid ≡ with_seat s held.Outside k → new ≡ with_seat s h mid → slice_get new.seats s ≡ Some h → seat_of h ≡ seat_of was → shelf_of new ≡ shelf_of k
put-back k mid new s was h had first then here same =
    let is : new ≡ with_seat s h k = put-twice k mid new s held.Outside h first then in
    let each : (t : ℕ) → seat_at (slice_set k.seats s h) t ≡ seat_at k.seats t = λ t. by t (t == s) refl in
    let seats : seat_at (slice_set k.seats s h) ≡ seat_at k.seats = λ i t. each t i in
    ap shelf_of is ∙ ap (shelf-with k) seats
  where
    by : (t : ℕ) → (b : Bool) → (t == s) ≡ b → seat_at (slice_set k.seats s h) t ≡ seat_at k.seats t
    by t true equal =
        ap (λ u. seat_at (slice_set k.seats s h) u) (eqb-true t s equal)
        ∙ (ap (λ (n : Kept). seat_at n.seats s) (sym (put-twice k mid new s held.Outside h first then))
        ∙ (seat-here new.seats s h here ∙ (same ∙ (sym (seat-here k.seats s was had) ∙ sym (ap (λ u. seat_at k.seats u) (eqb-true t s equal))))))
    by t false apart = seat-apart k.seats s t h apart
