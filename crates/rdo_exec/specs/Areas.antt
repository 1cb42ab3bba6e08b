-- The logical areas of what a job comes to.
use Rattle.std.specs.Prelude.{◌≡◌, ℕ, true, List, ◌∷◌, Result}
use Rattle.std.specs.List.{AllByRecursion}
use Rattle.line_view.specs.declared.need.Need.{Need}
use Rattle.line_view.specs.declared.need.Need.TheVariants.{Line, Area, Room}
use Rattle.line_view.specs.Stops.{Answers}
use Rattle.statement_view.specs.Areas.{is_among, IsNeedOf}
use Rattle.session_jobs.specs.declared.jobs.Found.{Found}
use Rattle.session_jobs.specs.declared.jobs.Found.TheVariants.{Done, Missing, Bad, Unworked, NoMemory}
use Rattle.deleted_areas.specs.schema_writes.Stop.{SchemaStop}

-- each need is a line, or all lines, of the areas that are read, or a room of those that are changed, where each line is written
abbrev pub FoundIn : List ℕ → List ℕ → Found → Type 0
FoundIn read changed (Done r) = AllByRecursion (λ w. is_among changed w.key.area ≡ true) r.writes
FoundIn read changed (Missing next later) = AllByRecursion (IsNeedOf read changed) (next ∷ later)
FoundIn read changed (Bad key) = Unit {0}
FoundIn read changed Unworked = Unit {0}
FoundIn read changed NoMemory = Unit {0}

-- what is missing is a room, or of these areas
abbrev pub IsReadOf : List ℕ → Need → Type 0
IsReadOf areas (Line key) = is_among areas key.area ≡ true
IsReadOf areas (Area area) = is_among areas area ≡ true
IsReadOf areas (Room room) = Unit {0}

abbrev pub ReadsOf : List ℕ → Result (Unit {0}) SchemaStop → Type 0
ReadsOf areas end = Answers (λ done. Unit {0}) (IsReadOf areas) (λ key. Unit {0}) (λ own. Unit {0}) end
