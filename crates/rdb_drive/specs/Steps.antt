-- What a step of a session, its death and a step of a recovery come to.
use Rattle.std.specs.Prelude.{◌≡◌, ◌≢◌, ℕ, ◌≤◌, true, false, List, ◌++◌, length, ◌⊎◌}
use Rattle.rdb_drive.specs.declared.driven.Step.{Step}
use Rattle.rdb_drive.specs.declared.driven.Step.TheVariants.{Compute, Moved, Asleep, Frozen, Ended, Stopped}
use Rattle.rdb_drive.specs.Boards.{Mark, Board, IsSession, AllOf, AllNobodys, answers, Below, AtMost}

-- what a step may add and has to keep
pub record Goes (old new : Board) (more : List Mark) : Type 0 where
  pub marks : new.marks ≡ old.marks ++ more
  pub rests : (n s : ℕ) → n ≤ length old.marks → old.rests n s → new.rests n s
  pub ended : (s : ℕ) → old.ended s ≡ true → new.ended s ≡ true

-- where some session hasn't ended, some session that hasn't ended isn't asleep
abbrev pub IsAwake : ℕ → Board → Type 0
IsAwake sessions b = (s : ℕ) → IsSession sessions s → b.ended s ≡ false → (t : ℕ) × IsSession sessions t × (b.ended t ≡ false) × (b.asleep t ≡ false)

-- nothing but the sleep of s changed
pub record IsQuiet (s : ℕ) (old new : Board) : Type 0 where
  pub asleep : (t : ℕ) → t ≢ s → old.asleep t ≡ true → new.asleep t ≡ true
  pub ended : (t : ℕ) → t ≢ s → new.ended t ≡ old.ended t
  pub measure : AtMost new.measure old.measure

-- what the answer of a step of s tells. Only a step that moved may add an answer
abbrev pub Tells : {P : Type 0} → ℕ → Board → Board → List Mark → Step P → Type 0
Tells s old new more (Compute p) = Below new.measure old.measure × (answers more ≡ 0)
Tells s old new more Moved = Below new.measure old.measure × (answers more ≤ 1)
Tells s old new more Asleep = new.rests (length new.marks) s × (new.asleep s ≡ true) × (new.ended s ≡ false) × IsQuiet s old new × (answers more ≡ 0)
Tells s old new more Frozen = (new.mourns ≡ true) × AtMost new.measure old.measure × (answers more ≡ 0)
Tells s old new more Ended = new.rests (length new.marks) s × (old.ended s ≡ true) × IsQuiet s old new × (answers more ≡ 0)
Tells s old new more Stopped = (new.stopped ≡ true) × AtMost new.measure old.measure

-- what the answer of a recovery step tells
abbrev pub Recovers : {P : Type 0} → Board → Board → Step P → Type 0
Recovers old new (Compute p) = ⊥
Recovers old new Moved = Below new.measure old.measure
Recovers old new Asleep = ⊥
Recovers old new Frozen = ⊥
Recovers old new Ended = (old.mourns ≡ false) × AtMost new.measure old.measure
Recovers old new Stopped = (new.stopped ≡ true) × AtMost new.measure old.measure

-- a step of s
pub record StepOf {P : Type 0} (sessions s : ℕ) (old new : Board) (result : Step P) : Type 0 where
  pub more : List Mark
  pub goes : Goes old new more
  pub of_s : AllOf s more
  pub tells : Tells s old new more result
  pub awake : IsAwake sessions new

-- a step of a recovery
pub record RecoveryOf {P : Type 0} (sessions : ℕ) (old new : Board) (result : Step P) : Type 0 where
  pub more : List Mark
  pub goes : Goes old new more
  pub nobodys : AllNobodys more
  pub tells : Recovers old new result
  pub awake : IsAwake sessions new

-- the death of s
pub record DeathOf (sessions s : ℕ) (old new : Board) : Type 0 where
  pub more : List Mark
  pub goes : Goes old new more
  pub of_s : AllOf s more
  pub none : answers more ≡ 0
  pub rests_now : new.rests (length new.marks) s
  pub less : Below new.measure old.measure ⊎ IsQuiet s old new
  pub awake : IsAwake sessions new
