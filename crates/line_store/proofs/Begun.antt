-- Which backup a call begins.
use Rattle.std.proofs.Common.{◌≡◌, ℕ, Option, Some, None, Result, Ok, Err, refl, sym, ap, ◌∙◌, if◌then◌else◌, ◌==◌}
use Rattle.line_store.specs.declared.answers.Fault.{Fault}
use Rattle.line_store.specs.declared.answers.Stepped.{Stepped}
use Rattle.line_store.specs.declared.answers.Stepped.TheVariants.{More, Done, Committed, Recovered}
use Rattle.line_store.specs.Seats.{Seat, outside, beginning, writing, changing, broken, prepared, committing, rolling_back, closing, reading, copying, dead, done_at, failed_at, copied_at, begun_by, begun}
use Rattle.line_store.specs.Sights.{bare, seat_or, stepped_to, copier_behind}

-- who stays begins none
pub begun-same : (number : Option ℕ) → begun_by number number ≡ None
begun-same None = refl
begun-same (Some n) = refl

pub copied-bare : (seat : Seat) → copied_at (bare seat) ≡ copied_at seat
copied-bare outside = refl
copied-bare beginning = refl
copied-bare (writing ws) = refl
copied-bare (changing ws) = refl
copied-bare (broken ws) = refl
copied-bare (prepared ws) = refl
copied-bare (committing ws) = refl
copied-bare (rolling_back ws) = refl
copied-bare closing = refl
copied-bare (reading start) = refl
copied-bare (copying number start) = refl
copied-bare (dead commits ws) = refl

pub copied-as : (a b : Seat) → bare a ≡ bare b → copied_at a ≡ copied_at b
copied-as a b same = sym (copied-bare a) ∙ ap copied_at same ∙ copied-bare b

-- seats that are shown alike, behind the call and before it
pub begun-there : (before a b : Seat) → bare a ≡ bare b → begun before a ≡ begun before b
begun-there before a b same = ap (begun_by (copied_at before)) (copied-as a b same)

pub begun-from : (a b there : Seat) → bare a ≡ bare b → begun a there ≡ begun b there
begun-from a b there same = ap (λ (number : Option ℕ). begun_by number (copied_at there)) (copied-as a b same)

-- a step begins none
pub done-begins : (seat : Seat) → begun seat (seat_or seat (done_at seat)) ≡ None
done-begins outside = refl
done-begins beginning = refl
done-begins (writing ws) = refl
done-begins (changing ws) = refl
done-begins (broken ws) = refl
done-begins (prepared ws) = refl
done-begins (committing ws) = refl
done-begins (rolling_back ws) = refl
done-begins closing = refl
done-begins (reading start) = refl
done-begins (copying number start) = refl
done-begins (dead commits ws) = refl

pub failed-begins : (seat : Seat) → begun seat (failed_at seat) ≡ None
failed-begins outside = refl
failed-begins beginning = refl
failed-begins (writing ws) = refl
failed-begins (changing ws) = refl
failed-begins (broken ws) = refl
failed-begins (prepared ws) = refl
failed-begins (committing ws) = refl
failed-begins (rolling_back ws) = refl
failed-begins closing = refl
failed-begins (reading start) = refl
failed-begins (copying number start) = refl
failed-begins (dead commits ws) = refl

pub step-begins : (seat : Seat) (result : Result Stepped Fault) → begun seat (stepped_to seat result) ≡ None
step-begins seat (Ok More) = begun-same (copied_at seat)
step-begins seat (Ok Done) = done-begins seat
step-begins seat (Ok (Committed moment)) = refl
step-begins seat (Ok (Recovered is_committed moment)) = refl
step-begins seat (Err fault) = failed-begins seat

-- ---- who began a backup last

pub copier-as : (s : ℕ) (number : Option ℕ) (f g : ℕ → Option ℕ) (n : ℕ) → f n ≡ g n → copier_behind s number f n ≡ copier_behind s number g n
copier-as s None f g n same = same
copier-as s (Some number) f g n same = ap (λ (last : Option ℕ). if n == number then Some s else last) same

-- where a call begins none, it is who it was
pub copier-none : (s : ℕ) (number : Option ℕ) (f : ℕ → Option ℕ) (n : ℕ) → number ≡ None → copier_behind s number f n ≡ f n
copier-none s number f n none = ap (λ (it : Option ℕ). copier_behind s it f n) none
