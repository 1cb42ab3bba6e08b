-- What a step of a session is, from what is shared and the session before to those behind it.
use Rattle.std.specs.Prelude.{◌≡◌, ℕ, List, [], ◌∷◌}
use Rattle.rdb_account.specs.Events.{Event, Committed, Recovered}
use Rattle.rdb_account.specs.Places.{Opening, Place, place_from}
use Rattle.line_steps.specs.session_jobs.Records.{Model}
use Rattle.line_steps.specs.Right.{Ground}
use Rattle.store_counts.specs.Counts.{IsCounted}
use Rattle.line_steps.specs.Steps.{Found, Here, Steps}
use Rattle.session_states.specs.declared.stage.Member.{Member}
use Rattle.session_states.specs.States.{seen}
use Rattle.session_states.specs.Shared.{Shared, LeavesOthers}
use Rattle.session_states.specs.Fits.{Fits}

-- what is committed or recovered in an event is so at this moment
abbrev pub IsAt : ℕ → Event → Type 0
IsAt time (Committed s moment) = moment ≡ time
IsAt time (Recovered s committed moment) = moment ≡ time
IsAt time e = Unit {0}

abbrev pub AreAt : ℕ → List Event → Type 0
AreAt time [] = Unit {0}
AreAt time (e ∷ es) = IsAt time e × AreAt time es

-- what session s finds
pub record Finds (M : Model) (o : Opening) (p : Place) (g : Ground) (c : Shared) (s : ℕ) (m : Member) : Type 0 where
  pub word : o.word ≡ c.word
  pub here : Here M o p g s (seen m)
  pub fits : Fits M p g c s m
  pub counted : IsCounted o p c.shelf

-- what it leaves behind the events
pub record Leaves (M : Model) (o : Opening) (p : Place) (g : Ground) (d : Shared) (s : ℕ) (n : Member) (es : List Event) : Type 0 where
  pub ground : Ground
  pub steps : Steps M o p g s (seen n) ground es
  pub fits : Fits M (place_from o p es) ground d s n
  pub counted : IsCounted o (place_from o p es) d.shelf

-- A step of s, with these events, from wherever it finds that it fits. What is committed in it is committed at the moment behind it.
pub record Step (M : Model) (s : ℕ) (c : Shared) (m : Member) (d : Shared) (n : Member) (es : List Event) : Type 0 where
  pub word : d.word ≡ c.word
  pub others : LeavesOthers s c d
  pub moments : AreAt d.shelf.clock.time es
  pub leaves : (o : Opening) (p : Place) (g : Ground) → Finds M o p g c s m → Leaves M o p g d s n es

-- what session s finds, whoever is dead
pub record FindsAny (M : Model) (o : Opening) (p : Place) (g : Ground) (c : Shared) (s : ℕ) (m : Member) : Type 0 where
  pub word : o.word ≡ c.word
  pub found : Found M o p g s (seen m)
  pub fits : Fits M p g c s m
  pub counted : IsCounted o p c.shelf

-- A step of the death or the recovery of s.
pub record Fall (M : Model) (o : Opening) (s : ℕ) (c : Shared) (m : Member) (d : Shared) (n : Member) (es : List Event) : Type 0 where
  pub word : d.word ≡ c.word
  pub others : LeavesOthers s c d
  pub moments : AreAt d.shelf.clock.time es
  pub leaves : (p : Place) (g : Ground) → FindsAny M o p g c s m → Leaves M o p g d s n es
