-- What ended and came to rest stays so where its slots are given back behind it.
use Rattle.std.proofs.Common.{◌≡◌, ◌≤◌, ℕ, None, Option, refl, sym, ap, subst, ◌∙◌, inl, arith}
use Rattle.std.proofs.lemmas.Option.{none-some}
use Rattle.rdb_outside.specs.Disk.{View}
use Rattle.line_store.specs.Seats.{Seat, outside, beginning, writing, changing, broken, prepared, committing, rolling_back, closing, reading, copying, dead, in_flight, done_at, begun}
use Rattle.line_store.specs.Shelves.{Shelf}
use Rattle.line_store.specs.Calls.{IsDone, IsUndone, Moves}
use Rattle.line_store.specs.Sights.{Sight, Behind, bare, seat_or, Does}
use Rattle.line_store.proofs.Begun.{begun-there}
use Rattle.line_store.proofs.InTurn.{does-there, does-behind-move, lasts-in-turn, moves-in-turn, moves-stand}
use Rattle.disk_store.specs.Giving.{StaysStill}
use Rattle.disk_store.specs.Memory.{StoreMemory}
use Rattle.disk_store.specs.Seats.{stand_at}
use Rattle.disk_store.specs.Shown.{DoesOn, sight_of}

none-flies : (seat : Seat) → in_flight (seat_or outside (done_at seat)) ≡ None
none-flies outside = refl
none-flies beginning = refl
none-flies (writing ws) = refl
none-flies (changing ws) = refl
none-flies (broken ws) = refl
none-flies (prepared ws) = refl
none-flies (committing ws) = refl
none-flies (rolling_back ws) = refl
none-flies closing = refl
none-flies (reading start) = refl
none-flies (copying number start) = refl
none-flies (dead commits ws) = refl

module _ (s : ℕ) (there : Seat) (v w x : View) (held mid behind : StoreMemory) (out : stand_at mid.members s ≡ outside) (then : DoesOn s outside (StaysStill s) w mid x behind) where
  abbrev a : Sight
  a = sight_of v held

  abbrev b : Sight
  b = sight_of w mid

  abbrev c : Sight
  c = sight_of x behind

  -- what comes to rest where the call came to, and is related as that was
  module _ (R : Shelf → Shelf → Type 0) (seat : Shelf → Seat) (moves : (h m : Shelf) → R h m → Moves s (seat h) h m) (none : (h : Shelf) → in_flight (seat h) ≡ None) (both : (h m g : Shelf) → R h m → StaysStill s m g → R h g) (first : DoesOn s there R v held w mid) where
    arrives : bare outside ≡ bare there
    arrives = ap bare (sym out) ∙ first.does.mine

    begins : begun (a.stand s) there ≡ None
    begins = begun-there (a.stand s) there outside (sym arrives)

    then-none : begun (b.stand s) outside ≡ None
    then-none = refl

    still : Does s there R a c
    still = does-there s outside there R a c arrives (does-behind-move s there outside R (StaysStill s) R seat a b c moves none both begins refl first.does then.does)

    ends-still : DoesOn s there R v held x behind
    ends-still = record {
      does = record {
        mine = still.mine;
        others = still.others;
        steps = still.steps;
        copier = still.copier;
        each = λ h shown. let m : Behind a b (begun (a.stand s) there) R h = first.does.each h shown in
            let g : Behind b c (begun (b.stand s) outside) (StaysStill s) m.shelf = then.does.each m.shelf m.shown in
            let later : h.clock.time ≤ m.shelf.clock.time = (moves h m.shelf m.related).others.later.later in
            record {
              shelf = g.shelf;
              shown = g.shown;
              related = both h m.shelf g.shelf m.related g.related;
              lasts = lasts-in-turn a.left b.left c.left h m.shelf g.shelf later (λ lines stands. inl (moves-stand s (seat h) h m.shelf (moves h m.shelf m.related) (none h) lines stands)) m.lasts g.lasts;
              opens = λ t early was. g.opens t (omega (arith, early, later)) (m.opens t early was);
              backed = λ n t lines early apart was. g.backed n t lines (omega (arith, early, later)) (λ e. none-some n (sym then-none ∙ e)) (m.backed n t lines early apart was);
            };
      };
      rolls = λ h shown base last was. then.rolls (first.does.each h shown).shelf (first.does.each h shown).shown base last (first.rolls h shown base last was);
    }

  pub done-still : DoesOn s there (λ h g. IsDone s h g) v held w mid → DoesOn s there (λ h g. IsDone s h g) v held x behind
  done-still first = ends-still (λ h g. IsDone s h g) (λ h. seat_or outside (done_at (h.seat s)))
      (λ h m done. subst (λ (x : Option Seat). Moves s (seat_or outside x) h m) (sym done.comes) done.moves) (λ h. none-flies (h.seat s))
      (λ h m g done stays. record { seat = done.seat; comes = done.comes; moves = moves-in-turn s done.seat done.seat h m g done.moves (subst (λ x. Moves s x m g) done.moves.mine stays.0) })
      first

  pub undone-still : (moment : ℕ) → DoesOn s there (λ h g. IsUndone s moment h g) v held w mid → DoesOn s there (λ h g. IsUndone s moment h g) v held x behind
  undone-still moment first = ends-still (λ h g. IsUndone s moment h g) (λ h. outside) (λ h m undone. undone.moves) (λ h. refl)
      (λ h m g undone stays. record { commits = undone.commits; writes = undone.writes; was = undone.was; moves = moves-in-turn s outside outside h m g undone.moves (subst (λ x. Moves s x m g) undone.moves.mine stays.0); at = undone.at ∙ sym stays.1 })
      first

  pub moved-still : DoesOn s there (λ h g. Moves s outside h g) v held w mid → DoesOn s there (λ h g. Moves s outside h g) v held x behind
  moved-still first = ends-still (λ h g. Moves s outside h g) (λ h. outside) (λ h m moves. moves) (λ h. refl)
      (λ h m g moves stays. moves-in-turn s outside outside h m g moves (subst (λ x. Moves s x m g) moves.mine stays.0))
      first
