-- What a turn of a session comes to.
use Rattle.std.specs.Prelude.{◌≡◌, ℕ, ◌+◌, ◌*◌, ◌≤◌, ◌<◌, ◌^◌, Bool, true, false, List, [], ◌∷◌, length, ◌⊎◌}
use Rattle.rdb_drive.specs.Boards.{Mark, Board, AllOf, answers, AtMost, AllEnded}
use Rattle.rdb_drive.specs.Steps.{Goes, IsQuiet, IsAwake}
use Rattle.rdb_drive.specs.Orders.{Keeps, upward}
use Rattle.rdb_drive.specs.declared.order.Came.{Came}
use Rattle.rdb_drive.specs.declared.order.Came.TheVariants.{Said, Went, Sleeps, Over, Halts}

-- a measure as one number
abbrev pub room : List ℕ → ℕ
room [] = 1
room (x ∷ xs) = 2 ^ 80 * room xs

abbrev pub weight : List ℕ → ℕ
weight [] = 0
weight (x ∷ xs) = x * room xs + weight xs

abbrev pub Falls : Board → Board → Type 0
Falls old new = weight new.measure < weight old.measure

-- nothing was answered since
pub record Under (s : ℕ) (old new : Board) : Type 0 where
  pub more : List Mark
  pub goes : Goes old new more
  pub of_s : AllOf s more
  pub none : answers more ≡ 0

-- one answer was given since
pub record Within (s : ℕ) (old new : Board) : Type 0 where
  pub more : List Mark
  pub goes : Goes old new more
  pub of_s : AllOf s more
  pub one : answers more ≡ 1

-- the measure fell, or nothing but the sleep of s changed
abbrev pub GetsOn : ℕ → Board → Board → Type 0
GetsOn s old new = Falls old new ⊎ IsQuiet s old new

pub record Rests (sessions s : ℕ) (old new : Board) : Type 0 where
  pub under : Under s old new
  pub rests_now : new.rests (length new.marks) s
  pub gets_on : GetsOn s old new
  pub awake : IsAwake sessions new

abbrev pub CameOf : ℕ → ℕ → Board → Board → Came → Type 0
CameOf sessions s old new Said = Within s old new × Falls old new
CameOf sessions s old new Went = Under s old new × Falls old new
CameOf sessions s old new Sleeps = Rests sessions s old new × (new.asleep s ≡ true) × (new.ended s ≡ false)
CameOf sessions s old new Over = Rests sessions s old new × (new.ended s ≡ true)
CameOf sessions s old new Halts = new.stopped ≡ true

-- what a whole turn comes to
abbrev pub EndsTurn : ℕ → ℕ → Board → Board → Came → Type 0
EndsTurn sessions s old new Said = Within s old new × Falls old new
EndsTurn sessions s old new Went = ⊥
EndsTurn sessions s old new Sleeps = Rests sessions s old new × (new.asleep s ≡ true) × (new.ended s ≡ false)
EndsTurn sessions s old new Over = Rests sessions s old new × (new.ended s ≡ true)
EndsTurn sessions s old new Halts = new.stopped ≡ true

-- a whole turn of s
pub record TurnOf (sessions s : ℕ) (old new : Board) (came : Came) : Type 0 where
  pub ends : EndsTurn sessions s old new came

abbrev pub RecoverOf : ℕ → Board → Board → Came → Type 0
RecoverOf s old new Said = ⊥
RecoverOf s old new Went = Under s old new × Falls old new
RecoverOf s old new Sleeps = ⊥
RecoverOf s old new Over = ⊥
RecoverOf s old new Halts = new.stopped ≡ true

-- what stands in the middle of a turn
abbrev pub Midway : ℕ → Board → Board → Type 0
Midway s old now = Under s old now × GetsOn s old now

-- who rests at a length that both have, rests there later too
abbrev pub KeepsRests : Board → Board → Type 0
KeepsRests old new = (n s : ℕ) → n ≤ length old.marks → old.rests n s → new.rests n s

-- a round of turns of all sessions
abbrev pub RoundOf : ℕ → Board → Board → Came → Type 0
RoundOf sessions old new Said = ⊥
RoundOf sessions old new Went = Keeps (upward 1 sessions) old new × KeepsRests old new × Falls old new
RoundOf sessions old new Sleeps = ⊥
RoundOf sessions old new Over = Keeps (upward 1 sessions) old new × KeepsRests old new × AllEnded sessions new
RoundOf sessions old new Halts = new.stopped ≡ true

-- nothing moved in so many turns: each session so far is asleep or has ended, and where one of them hasn't ended, it sleeps
pub record IsStill (sessions turns : ℕ) (are_over : Bool) (old now : Board) : Type 0 where
  pub measure : AtMost now.measure old.measure
  pub still : (s : ℕ) → 1 ≤ s → s ≤ turns → (now.asleep s ≡ true) ⊎ (now.ended s ≡ true)
  pub sleeper : are_over ≡ false → (s : ℕ) × (1 ≤ s) × (s ≤ turns) × (now.ended s ≡ false)
  pub awake : 0 < turns → IsAwake sessions now

-- so many turns of a round were made
pub record InRound (sessions turns : ℕ) (are_over : Bool) (old now : Board) : Type 0 where
  pub keeps : Keeps (upward 1 turns) old now
  pub rests : KeepsRests old now
  pub over : are_over ≡ true → (s : ℕ) → 1 ≤ s → s ≤ turns → now.ended s ≡ true
  pub gets_on : Falls old now ⊎ IsStill sessions turns are_over old now
