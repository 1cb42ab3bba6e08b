-- What a step of a stage is, whatever else the session has and the sessions share.
use Rattle.std.specs.Prelude.{◌≡◌, ℕ, false, List, [], ◌∷◌, ◌++◌}
use Rattle.rdo_ast.specs.declared.syntax.Item.{Item}
use Rattle.rdo_ast.specs.Tree.{Uttered, said, commit, rollback}
use Rattle.rdb_account.specs.Events.{Event}
use Rattle.rdb_account.specs.Legal.{ends_by}
use Rattle.lock_tree_laws.specs.Forest.{State}
use Rattle.line_store.specs.Shelves.{Shelf}
use Rattle.session_jobs.specs.Records.{Model}
use Rattle.session_limits.specs.session_states.declared.stage.Stage.{Stage}
use Rattle.session_limits.specs.session_states.declared.stage.Phase.{Phase}
use Rattle.session_limits.specs.session_states.declared.stage.Phase.TheVariants.{Writing, Reading}
use Rattle.session_limits.specs.session_states.declared.stage.ReaderStage.{ReaderStage}
use Rattle.session_limits.specs.session_states.States.{writer, reader, session}
use Rattle.session_limits.specs.session_states.Shared.{Shared}
use Rattle.session_limits.specs.session_states.Steps.{Step}
use Rattle.stage_steps.specs.declared.terms.Terms.{Terms}
use Rattle.stage_steps.specs.declared.terms.ReaderTerms.{ReaderTerms}
use Rattle.stage_steps.specs.declared.items.End.{End}
use Rattle.stage_steps.specs.declared.items.End.TheVariants as end

-- what all sessions share
abbrev pub shared : (word : List ℕ) → Shelf → State → (dead : ℕ) → Shared
shared word shelf locks dead = record { word = word; shelf = shelf; locks = locks; dead = dead }

-- a read-write transaction at this stage
abbrev pub at_stage : Terms → Stage → Phase
at_stage t stage = Writing (writer t.standing t.known t.spoken t.waits stage)

-- a read-only transaction at this stage
abbrev pub reads_at : ReaderTerms → ReaderStage → Phase
reads_at t stage = Reading (reader t.standing t.known t.spoken stage)

-- A step from phase x to phase y, whatever is left of the script.
abbrev pub Comes : Model → ℕ → Shared → Phase → Shared → Phase → List Event → Type 0
Comes M s c x d y es = (left : List Item) (total : ℕ) → Step M s c (session left total x) d (session left total y) es

-- A step that takes up the next item of the script, and puts these back before the rest.
abbrev pub TakesUp : Model → ℕ → Item → Shared → Phase → Shared → Phase → List Item → List Event → Type 0
TakesUp M s item c x d y back es = (left : List Item) (total : ℕ) → Step M s c (session (item ∷ left) total x) d (session (back ++ left) total y) es

-- A step at the end of the script.
abbrev pub Ends : Model → ℕ → Shared → Phase → Shared → Phase → List Event → Type 0
Ends M s c x d y es = (total : ℕ) → Step M s c (session [] total x) d (session [] total y) es

-- how an item ends a transaction
abbrev pub EndsAs : End → Uttered → Type 0
EndsAs end.Commit item = item ≡ said commit
EndsAs end.Rollback item = item ≡ said rollback
EndsAs end.Nothing item = ends_by item ≡ false
