-- What a step of a session over lines is, from its place.
use Rattle.std.specs.Prelude.{◌≡◌, ℕ, false, ◌==◌, List, [], ◌∷◌}
use Rattle.rdb_account.specs.Events.{Event, Began, Wanted, Got, Demoted, Said, Committed, RolledBack, Died, Recovered}
use Rattle.rdb_account.specs.Places.{Opening, Place, nothing, place_from}
use Rattle.rdb_account.specs.Legal.{MayFollow}
use Rattle.line_history.specs.kept_apart.Alike.{AreAlike}
use Rattle.line_history.specs.session_jobs.Records.{Model}
use Rattle.line_steps.specs.Members.{Member}
use Rattle.lock_ties.specs.Ties.{AskForOne, needs_at}
use Rattle.line_steps.specs.Right.{Ground, Stands, IsFit}

-- A notice brings down the lock of another, and changes nothing that an account keeps.
abbrev pub IsOf : ℕ → Event → Type 0
IsOf s (Began t k) = t ≡ s
IsOf s (Wanted t n a) = t ≡ s
IsOf s (Got t n) = t ≡ s
IsOf s (Demoted t n from to) = Unit {0}
IsOf s (Said t i c r) = t ≡ s
IsOf s (Committed t m) = t ≡ s
IsOf s (RolledBack t) = t ≡ s
IsOf s (Died t c) = t ≡ s
IsOf s (Recovered t c m) = t ≡ s

abbrev pub AreOf : ℕ → List Event → Type 0
AreOf s [] = Unit {0}
AreOf s (e ∷ es) = IsOf s e × AreOf s es

-- what session s finds
pub record Here (M : Model) (o : Opening) (p : Place) (g : Ground) (s : ℕ) (m : Member) : Type 0 where
  pub free : p.due ≡ nothing
  pub awake : p.frozen ≡ 0
  pub fit : IsFit M p g
  pub asks : AskForOne p
  pub stands : Stands M o p g s m

-- what is found where somebody may be dead
pub record Found (M : Model) (o : Opening) (p : Place) (g : Ground) (s : ℕ) (m : Member) : Type 0 where
  pub free : p.due ≡ nothing
  pub fit : IsFit M p g
  pub stands : Stands M o p g s m

-- The events of one step of s may follow at this place, and lead to one where s stands so. For all others the committed lines are alike.
pub record Steps (M : Model) (o : Opening) (p : Place) (g : Ground) (s : ℕ) (n : Member) (h : Ground) (es : List Event) : Type 0 where
  pub may : MayFollow o p es
  pub own : AreOf s es
  pub to : Place
  pub leads : place_from o p es ≡ to
  pub settled : to.due ≡ nothing
  pub fit : IsFit M to h
  pub stands : Stands M o to h s n
  pub desks : (t : ℕ) → (t == s) ≡ false → h.desk t ≡ g.desk t
  pub alike : (t : ℕ) → (t == s) ≡ false → AreAlike (needs_at p t) g.now h.now
