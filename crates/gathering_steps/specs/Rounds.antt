-- The needs of one round of a statement's work.
use Rattle.std.specs.Prelude.{ℕ, List, []}
use Rattle.rdo_ast.specs.declared.syntax.Item.{Item}
use Rattle.rdo_ast.specs.Views.{uttered_of}
use Rattle.lock_tree_laws.specs.Forest.{State}
use Rattle.line_view.specs.declared.need.Need.{Need}
use Rattle.line_view.specs.Held.{knows}
use Rattle.line_store.specs.Seats.{Seat}
use Rattle.session_jobs.specs.Records.{Model}
use Rattle.session_jobs.specs.Jobs.{IsFound}
use Rattle.session_jobs.specs.declared.jobs.Found.TheVariants.{Missing}
use Rattle.stage_steps.specs.session_states.declared.stage.Gather.{Gather}
use Rattle.stage_steps.specs.session_states.declared.stage.Work.TheVariants.{Out}
use Rattle.stage_steps.specs.session_states.declared.stage.Stage.TheVariants.{Working, Gathering}
use Rattle.stage_steps.specs.session_states.declared.stage.Phase.{Phase}
use Rattle.stage_steps.specs.session_states.Shared.{Shared}
use Rattle.stage_steps.specs.session_states.States.{session}
use Rattle.stage_steps.specs.session_stands.Seated.{IsSeated}
use Rattle.stage_steps.specs.session_measure.Weights.{Beside}
use Rattle.stage_steps.specs.session_measure.Nearer.{ComesNearer}
use Rattle.stage_steps.specs.declared.terms.Terms.{Terms}
use Rattle.stage_steps.specs.Turns.{Comes, at_stage}
use Rattle.gathering_steps.specs.declared.round.Round.{Round}

-- a read-write transaction at a need of this round
abbrev pub gathers_at : Terms → Round → Gather → Phase
gathers_at t r gather = at_stage t (Gathering r.item gather r.later r.place)

-- A job that lacked these comes back, by any session: neither store nor locks are called.
pub record GathersFrom (M : Model) (t : Terms) (item : Item) (next : Need) (later : List Need) (y : Phase) : Type 0 where
  pub comes : (s : ℕ) (c : Shared) → IsFound M c.word t.standing (uttered_of item) (knows t.known) (Missing next later) → Comes M s c (at_stage t (Working item Out)) c y []
  pub seated : (stand : ℕ → Seat) (locks : State) (s : ℕ) → IsSeated stand locks s (at_stage t (Working item Out)) → IsSeated stand locks s y
  pub nearer : (s : ℕ) (c : Beside) (left : List Item) (total : ℕ) → ComesNearer c c s (session left total (at_stage t (Working item Out))) (session left total y)
