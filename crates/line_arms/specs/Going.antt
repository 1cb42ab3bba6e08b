-- What a step of one session is, with what is left of its script.
use Rattle.std.specs.Prelude.{◌≡◌, ◌≤◌, ◌+◌, ◌==◌, ℕ, Bool, true, false, List, length, Option, Some, None}
use Rattle.rdo_ast.specs.declared.syntax.Item.{Item}
use Rattle.lock_needs.specs.declared.need.Need.{Need}
use Rattle.lock_needs.specs.Needs.{is_plain}
use Rattle.lock_needs.specs.Nodes.{is_on}
use Rattle.lock_tree_laws.specs.Forest.{State}
use Rattle.journal_waits.specs.Holders.{OthersKeepTo}
use Rattle.line_steps.specs.Images.{journal_node}
use Rattle.line_store.specs.Seats.{Seat}
use Rattle.session_jobs.specs.Records.{Model}
use Rattle.job_steps.specs.session_states.declared.stage.Phase.{Phase}
use Rattle.job_steps.specs.session_states.declared.stage.Phase.TheVariants.{Outside, Over}
use Rattle.job_steps.specs.session_states.declared.stage.Life.TheVariants.{Alive}
use Rattle.job_steps.specs.session_states.States.{session}
use Rattle.job_steps.specs.session_states.Steps.{Step}
use Rattle.job_steps.specs.session_stands.Sessions.{FlyWithJournal}
use Rattle.job_steps.specs.stage_steps.declared.happening.Happening.{Happening}
use Rattle.job_steps.specs.stage_steps.Happenings.{events_of}
use Rattle.job_steps.specs.stage_steps.Scenes.{Scene, Goes, NearerIn, on_shelf}
use Rattle.job_steps.specs.session_measure.Weights.{items_in}

-- session s goes from phase x to y, and what is left of its script from `left` to `rest`, where this happens
abbrev pub GoesOn : Model → ℕ → Scene → List Item → Phase → Scene → List Item → Phase → Happening → Type 0
GoesOn M s old left x new rest y e =
    Goes s x Alive y Alive (λ h g. (dead total : ℕ) → Step M s (on_shelf old h dead) (session left total x) (on_shelf new g dead) (session rest total y) (events_of s e))
    ((total : ℕ) → NearerIn M s e old new (session left total x) (session rest total y)) old new

-- what the steps of s rest on of others: they have and want the journal for themselves, and who commits has it
pub record IsAmong (stand : ℕ → Seat) (locks : State) (s : ℕ) : Type 0 where
  pub rest : OthersKeepTo locks s journal_node
  pub flies : FlyWithJournal stand locks

-- whether a session of this phase, of whose script this is left, has nothing to do
abbrev pub is_done : List Item → Phase → Bool
is_done left Outside = length left == 0
is_done left Over = true
is_done left x = false

-- in a step from this phase at most one item of the script is taken up, and none where one is under way
abbrev pub TakesOne : (left rest : List Item) → Phase → Type 0
TakesOne left rest x = length left + items_in x ≤ length rest + 1

-- a lock that a statement may ask for: it is plain, and isn't the journal
abbrev pub MayBeAsked : Option Need → Type 0
MayBeAsked (Some n) = (is_plain n ≡ true) × (is_on journal_node n.node ≡ false)
MayBeAsked None = Unit {0}
