-- Room for the deaths and recoveries that may still come.
use Rattle.std.proofs.Common.{◌≡◌, ◌≤◌, ◌<◌, ◌+◌, ◌-◌, ◌*◌, ℕ, zero, suc, ◌∷◌, [], List, length, refl, ap, arith, Some, slice_get, slice_set, Result, Ok, Err}
use Rattle.std.proofs.lemmas.Option.{same_Some}
use Rattle.line_store.specs.declared.answers.Fault.{Fault}
use Rattle.session_states.specs.declared.stage.Life.{Life}
use Rattle.session_states.specs.declared.stage.Life.TheVariants.{Alive, Dead}
use Rattle.session_states.specs.declared.stage.Member.{Member}
use Rattle.session_measure.specs.Weights.{life_left}
use Rattle.line_account.specs.stage_steps.declared.dying.Recovery.{Recovery}
use Rattle.line_account.specs.stage_steps.declared.dying.Recovery.TheVariants.{More, Done}
use Rattle.line_account.specs.stage_steps.Deaths.{life_behind, recovery_events}
use Rattle.lent_members.specs.Going.{with_life}
use Rattle.line_cluster.specs.Deaths.{lives_in}
use Rattle.line_cluster.proofs.Bounds.{life-few}
use Rattle.line_cluster.proofs.Places.{set-length}

-- where one comes to another life
pub lives-moved : (ms : List Member) (i : ℕ) (m n : Member) → slice_get ms i ≡ Some m → lives_in (slice_set ms i n) + life_left m.life ≡ lives_in ms + life_left n.life
lives-moved [] i m n found = cc found
lives-moved (x ∷ xs) zero m n found = let e : life_left x.life ≡ life_left m.life = ap (λ (y : Member). life_left y.life) (same_Some x m found) in omega (arith, e)
lives-moved (x ∷ xs) (suc i) m n found = let rest = lives-moved xs i m n found in omega (arith, rest)

-- each dies and is recovered at most
pub lives-few : (ms : List Member) → lives_in ms ≤ 2 * length ms
lives-few [] = omega arith
lives-few (x ∷ xs) = let more = lives-few xs in let few = life-few x.life in omega (arith, more, few)

lives-at : (ms : List Member) (i : ℕ) (m : Member) → slice_get ms i ≡ Some m → life_left m.life ≤ lives_in ms
lives-at [] i m found = cc found
lives-at (x ∷ xs) zero m found = let e : life_left x.life ≡ life_left m.life = ap (λ (y : Member). life_left y.life) (same_Some x m found) in omega (arith, e)
lives-at (x ∷ xs) (suc i) m found = let rest = lives-at xs i m found in omega (arith, rest)

alive-two : (l : Life) → l ≡ Alive → life_left l ≡ 2
alive-two l is = ap life_left is

dead-one : (l : Life) → l ≡ Dead → life_left l ≡ 1
dead-one l is = ap life_left is

-- ---- events of this length, in this capacity

-- before anything happened
pub room-first : (len cap : ℕ) → len ≡ 0 → 32 ≤ cap → 32 ≤ cap - len
room-first len cap none room = omega (arith, none, room)

-- of sixteen sessions at most, where there is room for a step
pub room-before : (ms : List Member) (len cap : ℕ) → length ms ≤ 16 → len + 39 ≤ cap → lives_in ms ≤ cap - len
room-before ms len cap few room = let most = lives-few ms in omega (arith, most, few, room)

-- in its step
pub room-within : (ms put : List Member) (at : ℕ) (n : Member) (len cap : ℕ) → length ms ≤ 16 → put ≡ slice_set ms at n → len + 39 ≤ cap → lives_in put ≤ cap - len
room-within ms put at n len cap few put-is room =
    let most = lives-few put in
    let long = ap length put-is in
    let as-many = set-length ms at n in
    omega (arith, most, long, as-many, few, room)

-- behind it, where a notice may be served still
pub room-behind : (ms put : List Member) (at : ℕ) (n : Member) (len cap then capacity : ℕ) → length ms ≤ 16 → put ≡ slice_set ms at n → then ≤ len + 6 → capacity ≡ cap → len + 39 ≤ cap → lives_in put < capacity - then
room-behind ms put at n len cap then capacity few put-is more same room =
    let most = lives-few put in
    let long = ap length put-is in
    let as-many = set-length ms at n in
    omega (arith, most, long, as-many, few, more, same, room)

pub room-still : (lives spare : ℕ) → lives < spare → lives ≤ spare
room-still lives spare less = omega (arith, less)

-- where no more is in it, and it is as large
pub room-wider : (lives len cap then capacity : ℕ) → lives ≤ cap - len → then ≡ len → cap ≤ capacity → lives ≤ capacity - then
room-wider lives len cap then capacity kept same wider = omega (arith, kept, same, wider)

-- behind one event more
pub room-noticed : (lives len cap then capacity : ℕ) → lives < cap - len → then ≤ len + 1 → capacity ≡ cap → lives ≤ capacity - then
room-noticed lives len cap then capacity room more same = omega (arith, room, more, same)

-- for the death of one that lives
pub room-to-die : (ms : List Member) (at : ℕ) (m : Member) (len cap : ℕ) → slice_get ms at ≡ Some m → m.life ≡ Alive → lives_in ms ≤ cap - len → len < cap
room-to-die ms at m len cap found alive kept = let least = lives-at ms at m found in let two = alive-two m.life alive in omega (arith, least, two, kept)

pub room-dead : (ms put : List Member) (at : ℕ) (m n : Member) (len cap then capacity : ℕ) → slice_get ms at ≡ Some m → m.life ≡ Alive → n.life ≡ Dead → put ≡ slice_set ms at n → then ≡ len + 1 → capacity ≡ cap → lives_in ms ≤ cap - len → lives_in put ≤ capacity - then
room-dead ms put at m n len cap then capacity found alive died put-is more same kept =
    let moved = lives-moved ms at m n found in
    let two = alive-two m.life alive in
    let one = dead-one n.life died in
    let is = ap lives_in put-is in
    omega (arith, moved, two, one, is, more, same, kept)

-- for the recovery of one that died
pub room-to-recover : (ms : List Member) (at : ℕ) (m : Member) (len cap : ℕ) → slice_get ms at ≡ Some m → m.life ≡ Dead → lives_in ms ≤ cap - len → len < cap
room-to-recover ms at m len cap found died kept = let least = lives-at ms at m found in let one = dead-one m.life died in omega (arith, least, one, kept)

-- a step of a recovery has an event where it is the last
last-event : (s : ℕ) (r : Result Recovery Fault) → life_left (life_behind r) + length (recovery_events s r) ≡ 1
last-event s (Ok (Done committed moment)) = refl
last-event s (Ok More) = refl
last-event s (Err fault) = refl

pub room-recovered : (ms put : List Member) (at : ℕ) (m : Member) (s : ℕ) (r : Result Recovery Fault) (len cap then capacity : ℕ) → slice_get ms at ≡ Some m → m.life ≡ Dead → put ≡ slice_set ms at (with_life (life_behind r) m) →
    then ≡ len + length (recovery_events s r) → capacity ≡ cap → lives_in ms ≤ cap - len → lives_in put ≤ capacity - then
room-recovered ms put at m s r len cap then capacity found died put-is more same kept =
    let moved = lives-moved ms at m (with_life (life_behind r) m) found in
    let one = dead-one m.life died in
    let last = last-event s r in
    let is = ap lives_in put-is in
    omega (arith, moved, one, last, is, more, same, kept)
