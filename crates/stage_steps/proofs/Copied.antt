-- A reader that copies into a backup, as memory knows it.
use Rattle.std.proofs.Common.{◌≡◌, ◌≤◌, ℕ, [], Option, Some, None, true, false, refl, sym, ap, subst, ◌∙◌, arith}
use Rattle.std.specs.Prelude.{is_some}
use Rattle.std.proofs.lemmas.Bool.{false≢true}
use Rattle.std.proofs.lemmas.Option.{none-some}
use Rattle.line_view.specs.Knowledge.{Lines}
use Rattle.line_store.specs.Seats.{Seat, outside, beginning, writing, changing, broken, prepared, committing, rolling_back, closing, reading, copying, dead, copied_at, done_at, in_flight, is_changing}
use Rattle.line_store.specs.Shelves.{Shelf}
use Rattle.line_store.specs.Calls.{Moves, IsDone}
use Rattle.line_store.specs.Sights.{Sight, Does, IsBackedBy, bare, seat_or}
use Rattle.line_store.proofs.Begun.{copied-bare, done-begins}
use Rattle.line_store.proofs.InTurn.{moves-in-turn}
use Rattle.session_limits.specs.session_states.States.{seat_of_reader}
use Rattle.stage_steps.proofs.Goes.{does-behind}

pub copies-on : (seat : Seat) → is_some (copied_at seat) ≡ true → is_some (done_at seat) ≡ true
copies-on outside h = absurd (false≢true h)
copies-on beginning h = absurd (false≢true h)
copies-on (writing ws) h = absurd (false≢true h)
copies-on (changing ws) h = absurd (false≢true h)
copies-on (broken ws) h = absurd (false≢true h)
copies-on (prepared ws) h = absurd (false≢true h)
copies-on (committing ws) h = absurd (false≢true h)
copies-on (rolling_back ws) h = absurd (false≢true h)
copies-on closing h = absurd (false≢true h)
copies-on (reading start) h = absurd (false≢true h)
copies-on (copying number start) h = refl
copies-on (dead commits ws) h = absurd (false≢true h)

pub copies-plain : (seat : Seat) → is_some (copied_at seat) ≡ true → is_changing seat ≡ false
copies-plain outside h = refl
copies-plain beginning h = refl
copies-plain (writing ws) h = refl
copies-plain (changing ws) h = absurd (false≢true h)
copies-plain (broken ws) h = refl
copies-plain (prepared ws) h = refl
copies-plain (committing ws) h = refl
copies-plain (rolling_back ws) h = refl
copies-plain closing h = refl
copies-plain (reading start) h = refl
copies-plain (copying number start) h = refl
copies-plain (dead commits ws) h = refl

-- once that is done it is a reader like others
pub copies-done : (seat : Seat) → is_some (copied_at seat) ≡ true → bare (seat_or seat (done_at seat)) ≡ reading []
copies-done outside h = absurd (false≢true h)
copies-done beginning h = absurd (false≢true h)
copies-done (writing ws) h = absurd (false≢true h)
copies-done (changing ws) h = absurd (false≢true h)
copies-done (broken ws) h = absurd (false≢true h)
copies-done (prepared ws) h = absurd (false≢true h)
copies-done (committing ws) h = absurd (false≢true h)
copies-done (rolling_back ws) h = absurd (false≢true h)
copies-done closing h = absurd (false≢true h)
copies-done (reading start) h = absurd (false≢true h)
copies-done (copying number start) h = refl
copies-done (dead commits ws) h = absurd (false≢true h)

copied-reader : (number : Option ℕ) → copied_at (seat_of_reader number []) ≡ number
copied-reader None = refl
copied-reader (Some n) = refl

-- who stands so copies
pub copies-seated : (seat : Seat) (number : Option ℕ) → bare seat ≡ seat_of_reader number [] → is_some number ≡ true → is_some (copied_at seat) ≡ true
copies-seated seat number at some = ap is_some (sym (copied-bare seat) ∙ (ap copied_at at ∙ copied-reader number)) ∙ some

-- what was whole behind the copying is so behind the reader's end
pub backs-behind : (s : ℕ) (there : Seat) (R : Shelf → Shelf → Type 0) (a b c : Sight) (moment : ℕ) → Does s there R a b → IsBackedBy s a b → Does s outside (Moves s outside) b c → ((g : Shelf) → c.shows g → moment ≡ g.clock.time) →
    (h : Shelf) (number : ℕ) (start : Lines) → a.shows h → h.seat s ≡ copying number start → a.copier number ≡ Some s → (since : ℕ) × (since ≤ moment) × c.backed number since start
backs-behind s there R a b c moment one backed two at h number start shown seat mine =
    let m = one.each h shown in
    let g = two.each m.shelf m.shown in
    let now : moment ≡ g.shelf.clock.time = at g.shelf g.shown in
    let later : m.shelf.clock.time ≤ g.shelf.clock.time = g.related.others.later.later in
    (m.shelf.clock.time, omega (arith, now, later), g.backed number m.shelf.clock.time start (omega arith) (λ e. none-some number e) (backed h m.shelf number start shown m.shown seat mine))

-- what is done leaves it whether a commit is under way
done-flight : (seat : Seat) → in_flight (seat_or seat (done_at seat)) ≡ in_flight seat
done-flight outside = refl
done-flight beginning = refl
done-flight (writing ws) = refl
done-flight (changing ws) = refl
done-flight (broken ws) = refl
done-flight (prepared ws) = refl
done-flight (committing ws) = refl
done-flight (rolling_back ws) = refl
done-flight closing = refl
done-flight (reading start) = refl
done-flight (copying number start) = refl
done-flight (dead commits ws) = refl

-- and then the transaction is away
pub does-out : (s : ℕ) (a b c : Sight) → Does s (seat_or (a.stand s) (done_at (a.stand s))) (IsDone s) a b → Does s outside (Moves s outside) b c → Does s outside (Moves s outside) a c
does-out s a b c one two = does-behind s (seat_or (a.stand s) (done_at (a.stand s))) outside (IsDone s) (Moves s outside) (Moves s outside) (λ h. seat_or (h.seat s) (done_at (h.seat s))) a b c
    (λ h m r. subst (λ (seat : Seat). Moves s seat h m) (sym (ap (λ (there : Option Seat). seat_or (h.seat s) there) r.comes)) r.moves)
    (λ h. done-flight (h.seat s)) (λ h m g r q. moves-in-turn s r.seat outside h m g r.moves q) (done-begins (a.stand s)) refl one two
