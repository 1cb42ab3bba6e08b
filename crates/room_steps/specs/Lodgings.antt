-- What comes behind the lodging of a room is nearer to the session's end.
use Rattle.std.specs.Prelude.{ℕ, List}
use Rattle.rdb_types.specs.declared.keys.Dbkey.{Dbkey}
use Rattle.rdo_ast.specs.declared.syntax.Item.{Item}
use Rattle.line_view.specs.declared.need.Room.{Room}
use Rattle.gathering_steps.specs.session_states.declared.stage.Gather.TheVariants.{Lodging}
use Rattle.gathering_steps.specs.session_states.declared.stage.Phase.{Phase}
use Rattle.gathering_steps.specs.session_states.States.{session}
use Rattle.gathering_steps.specs.session_measure.Weights.{Beside}
use Rattle.gathering_steps.specs.stage_steps.declared.happening.Happening.{Happening}
use Rattle.gathering_steps.specs.stage_steps.declared.terms.Terms.{Terms}
use Rattle.gathering_steps.specs.stage_steps.Nearer.{Nearer}
use Rattle.gathering_steps.specs.declared.round.Round.{Round}
use Rattle.gathering_steps.specs.Rounds.{gathers_at}

-- Session s comes nearer from any room of the round to this phase, whatever the store and the locks are before and behind.
abbrev pub NearerFrom : ℕ → Round → Phase → Happening → Type 0
NearerFrom s round y e = (c d : Beside) (t : Terms) (room : Room) (key : Dbkey) (left : List Item) (total : ℕ) → Nearer s e c d (session left total (gathers_at t round (Lodging room key))) (session left total y)
