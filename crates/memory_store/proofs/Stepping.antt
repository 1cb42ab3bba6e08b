-- What steps come to.
use Rattle.std.proofs.Common.{◌≡◌, ◌++◌, ℕ, true, false, List, Some, Result, Ok, Err, OnOk, OnErr, refl, sym, ap, subst, ◌∙◌, arith}
use Rattle.std.specs.Prelude.{slice_get}
use Rattle.std.proofs.lemmas.Bool.{true≢false}
use Rattle.line_view.specs.declared.writes.Write.{Write}
use Rattle.line_view.specs.Knowledge.{Lines}
use Rattle.line_view.specs.Writes.{laid_all}
use Rattle.line_store.specs.declared.answers.Stepped.{Stepped}
use Rattle.line_store.specs.declared.answers.Stepped.TheVariants.{More, Done, Committed, Recovered}
use Rattle.line_store.specs.Seats.{Seat, outside, beginning, writing, changing, broken, prepared, committing, rolling_back, closing, reading, copying, dead, writes_of, done_at, Adds}
use Rattle.line_store.specs.Shelves.{seen_from}
use Rattle.line_store.specs.Calls.{Moves, Changes, Comes, IsCommitted}
use Rattle.memory_store.specs.declared.seat.Seat.{Seat as Held}
use Rattle.memory_store.specs.declared.seat.Seat.TheVariants as held
use Rattle.memory_store.specs.Kept.{Kept, StepsTo, base_of, seat_of, seat_at, shelf_of, with_seat, with_stock}
use Rattle.memory_store.proofs.Seating.{seat-here, others-stay, twice, moves-twice}

-- ---- seen

-- what a session sees are its writes over a reader's start, or over what is committed
pub seen-laid : (seat : Seat) (now : Lines) → laid_all (writes_of seat) (base_of seat now) ≡ seen_from seat now
seen-laid outside now = refl
seen-laid beginning now = refl
seen-laid (writing ws) now = refl
seen-laid (changing ws) now = refl
seen-laid (broken ws) now = refl
seen-laid (prepared ws) now = refl
seen-laid (committing ws) now = refl
seen-laid (rolling_back ws) now = refl
seen-laid closing now = refl
seen-laid (reading start) now = refl
seen-laid (copying number start) now = refl
seen-laid (dead commits ws) now = refl

-- ---- answers

pub on-ok : {T E : Type 0} (r : Result T E) (x : T) (P : Type 0) → r ≡ Ok x → OnOk r P → P
on-ok (Ok y) x P is holds = holds
on-ok (Err e) x P is holds = let bad : ⊥ = cc in absurd bad

pub on-err : {T E : Type 0} (r : Result T E) (e : E) (P : Type 0) → r ≡ Err e → OnErr r P → P
on-err (Ok y) e P is holds = let bad : ⊥ = cc in absurd bad
on-err (Err d) e P is holds = holds

-- ---- changes

pub changed : (k new : Kept) (s : ℕ) (more behind : List Write) → Adds more (writes_of (seat_at k.seats s)) behind → Moves s (changing behind) (shelf_of k) (shelf_of new) → Changes s more (shelf_of k) (shelf_of new)
changed k new s more behind adds moves = record {
  behind = behind;
  adds = adds;
  now = moves.now;
  mine = moves.mine;
  others = moves.others;
  space = record { limits = moves.space.limits; taken = moves.space.taken; snaps = omega arith; slots = refl };
}

-- ---- steps

pub committed : (k mid landed new : Kept) (s : ℕ) (was : Held) (ws : List Write) (room : ℕ) →
    slice_get k.seats s ≡ Some was → seat_of was ≡ committing ws →
    mid ≡ with_seat s held.Outside k → landed ≡ with_stock (laid_all ws mid.lines) room mid → new ≡ with_seat s held.Closing landed → slice_get new.seats s ≡ Some held.Closing →
    IsCommitted s 0 (shelf_of k) (shelf_of new)
committed k mid landed new s was ws room had was-is first second third here =
    let behind = laid_all ws k.lines in
    let total : new ≡ with_stock behind room (with_seat s held.Closing k) =
    third
    ∙ (ap (λ (n : Kept). with_seat s held.Closing n) second
    ∙ (ap (λ (n : Kept). with_seat s held.Closing (with_stock (laid_all ws n.lines) room n)) first
    ∙ ap (λ (n : Kept). with_stock behind room n) (twice k s held.Outside held.Closing))) in
    subst (λ (n : Kept). IsCommitted s 0 (shelf_of k) (shelf_of n)) (sym total) (record {
      writes = ws;
      was = seat-here k.seats s was had ∙ was-is;
      commits = record {
        now = refl;
        mine = ap (λ (n : Kept). seat_at n.seats s) (sym total) ∙ seat-here new.seats s held.Closing here;
        others = others-stay k s held.Closing behind room;
        space = record { limits = refl; taken = λ file page. refl; snaps = omega arith; slots = omega arith };
        at = refl;
      };
    })

pub stepped : (k mid new : Kept) (s : ℕ) (was h : Held) (answer : Stepped) → slice_get k.seats s ≡ Some was → StepsTo (seat_of was) (seat_of h) answer →
    mid ≡ with_seat s held.Outside k → new ≡ with_seat s h mid → slice_get new.seats s ≡ Some h → Comes s (shelf_of k) (shelf_of new) (Ok answer)
stepped k mid new s was h More had steps first then here = absurd steps
stepped k mid new s was h Done had steps first then here = record {
  seat = seat_of h;
  comes = ap done_at (seat-here k.seats s was had) ∙ steps;
  moves = moves-twice k mid new s h (seat_of h) first then here refl;
}
stepped k mid new s was h (Committed moment) had steps first then here = absurd steps
stepped k mid new s was h (Recovered true moment) had steps first then here = absurd (true≢false steps.0)
stepped k mid new s was h (Recovered false moment) had steps first then here = record {
  commits = steps.3.0;
  writes = steps.3.1;
  was = seat-here k.seats s was had ∙ steps.3.2;
  moves = moves-twice k mid new s h outside first then here steps.2;
  at = steps.1;
}
