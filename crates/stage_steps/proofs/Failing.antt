-- A call that failed leaves a session where it stood, unless its change was under way.
use Rattle.std.proofs.Common.{◌≡◌, ℕ, [], true, false, refl, sym, ap, subst, ◌∙◌}
use Rattle.std.proofs.lemmas.Bool.{false≢true}
use Rattle.line_store.specs.Seats.{Seat, outside, beginning, writing, changing, broken, prepared, committing, rolling_back, closing, reading, copying, dead, failed_at, is_changing, is_committing, IsAlive, IsAtRest, IsReader, IsWriting}
use Rattle.line_store.specs.Shelves.{Shelf}
use Rattle.line_store.specs.Calls.{Moves, Fails}
use Rattle.line_store.specs.Sights.{Sight, Agrees, Does, bare}
use Rattle.line_store.specs.declared.answers.Fault.{Fault}
use Rattle.line_store.proofs.FailedSeats.{stays-failed}
use Rattle.line_store.proofs.InTurn.{does-there}

pub changing-bare : (seat : Seat) → is_changing (bare seat) ≡ is_changing seat
changing-bare outside = refl
changing-bare beginning = refl
changing-bare (writing ws) = refl
changing-bare (changing ws) = refl
changing-bare (broken ws) = refl
changing-bare (prepared ws) = refl
changing-bare (committing ws) = refl
changing-bare (rolling_back ws) = refl
changing-bare closing = refl
changing-bare (reading start) = refl
changing-bare (copying number start) = refl
changing-bare (dead commits ws) = refl

pub rests-plain : (seat : Seat) → IsAtRest seat → is_changing seat ≡ false
rests-plain outside h = refl
rests-plain beginning h = refl
rests-plain (writing ws) h = refl
rests-plain (changing ws) h = absurd h
rests-plain (broken ws) h = refl
rests-plain (prepared ws) h = refl
rests-plain (committing ws) h = refl
rests-plain (rolling_back ws) h = refl
rests-plain closing h = refl
rests-plain (reading start) h = refl
rests-plain (copying number start) h = refl
rests-plain (dead commits ws) h = refl

pub reader-plain : (seat : Seat) → IsReader seat → is_changing seat ≡ false
reader-plain outside h = refl
reader-plain beginning h = refl
reader-plain (writing ws) h = refl
reader-plain (changing ws) h = absurd h
reader-plain (broken ws) h = refl
reader-plain (prepared ws) h = refl
reader-plain (committing ws) h = refl
reader-plain (rolling_back ws) h = refl
reader-plain closing h = refl
reader-plain (reading start) h = refl
reader-plain (copying number start) h = refl
reader-plain (dead commits ws) h = refl

pub writing-plain : (seat : Seat) → IsWriting seat → is_changing seat ≡ false
writing-plain outside h = refl
writing-plain beginning h = refl
writing-plain (writing ws) h = refl
writing-plain (changing ws) h = absurd h
writing-plain (broken ws) h = refl
writing-plain (prepared ws) h = refl
writing-plain (committing ws) h = refl
writing-plain (rolling_back ws) h = refl
writing-plain closing h = refl
writing-plain (reading start) h = refl
writing-plain (copying number start) h = refl
writing-plain (dead commits ws) h = refl

pub commits-plain : (seat : Seat) → is_committing seat ≡ true → is_changing seat ≡ false
commits-plain outside h = refl
commits-plain beginning h = refl
commits-plain (writing ws) h = refl
commits-plain (changing ws) h = absurd (false≢true h)
commits-plain (broken ws) h = refl
commits-plain (prepared ws) h = refl
commits-plain (committing ws) h = refl
commits-plain (rolling_back ws) h = refl
commits-plain closing h = refl
commits-plain (reading start) h = refl
commits-plain (copying number start) h = refl
commits-plain (dead commits ws) h = refl

pub dead-plain : (seat : Seat) → (IsAlive seat → ⊥) → is_changing seat ≡ false
dead-plain outside h = refl
dead-plain beginning h = refl
dead-plain (writing ws) h = refl
dead-plain (changing ws) h = absurd (h tt)
dead-plain (broken ws) h = refl
dead-plain (prepared ws) h = refl
dead-plain (committing ws) h = refl
dead-plain (rolling_back ws) h = refl
dead-plain closing h = refl
dead-plain (reading start) h = refl
dead-plain (copying number start) h = refl
dead-plain (dead commits ws) h = refl

-- a change is broken by it
pub change-breaks : (seat : Seat) → bare seat ≡ changing [] → bare (failed_at seat) ≡ broken []
change-breaks outside h = cc h
change-breaks beginning h = cc h
change-breaks (writing ws) h = cc h
change-breaks (changing ws) h = refl
change-breaks (broken ws) h = cc h
change-breaks (prepared ws) h = cc h
change-breaks (committing ws) h = cc h
change-breaks (rolling_back ws) h = cc h
change-breaks closing h = cc h
change-breaks (reading start) h = cc h
change-breaks (copying number start) h = cc h
change-breaks (dead commits ws) h = cc h

-- as memory knows it
pub still-there : (s : ℕ) (seat : Seat) (R : Shelf → Shelf → Type 0) (a b : Sight) → is_changing seat ≡ false → Does s (failed_at seat) R a b → Does s seat R a b
still-there s seat R a b plain d = does-there s (failed_at seat) seat R a b (ap bare (stays-failed seat plain)) d

-- and on each shelf that is shown
pub plain-shown : (s : ℕ) (a : Sight) → Agrees a → is_changing (a.stand s) ≡ false → (h : Shelf) → a.shows h → is_changing (h.seat s) ≡ false
plain-shown s a agrees plain h shown = sym (changing-bare (h.seat s)) ∙ (sym (ap is_changing (agrees h shown s)) ∙ (changing-bare (a.stand s) ∙ plain))

pub fault-moves : (s : ℕ) (fault : Fault) (h g : Shelf) → is_changing (h.seat s) ≡ false → Fails s fault h g → Moves s (h.seat s) h g
fault-moves s fault h g plain r = subst (λ (seat : Seat). Moves s seat h g) (stays-failed (h.seat s) plain) r.moves
