-- Which sessions live, are dead, or have nothing left to do.
use Rattle.std.specs.Prelude.{◌≡◌, ℕ, suc, nat_lt, Bool, true, false, not, ◌&&◌, List, length, Some, slice_get}
use Rattle.rdo_ast.specs.declared.syntax.Item.{Item}
use Rattle.session_states.specs.declared.stage.Phase.{Phase}
use Rattle.session_states.specs.declared.stage.Phase.TheVariants.{Writing}
use Rattle.session_states.specs.declared.stage.Life.{Life}
use Rattle.session_states.specs.declared.stage.Life.TheVariants.{Alive, Dead, Gone}
use Rattle.session_states.specs.declared.stage.Member.{Member}
use Rattle.session_states.specs.States.{has_said_all}
use Rattle.answered_steps.specs.session_measure.Nearer.{takes_next}
use Rattle.line_arms.specs.Going.{is_done}

-- Whether a session has nothing left to do. Where its script ends in a stop it has that before it as long as it lives.
abbrev pub is_over : (stops : Bool) → Member → Life → Bool
is_over stops m Alive = is_done m.left m.phase && not stops
is_over stops m Dead = true
is_over stops m Gone = true

-- whether the next step of a session of this phase, of whose script this is left, takes up an item
abbrev pub takes_item : List Item → Phase → Bool
takes_item left x = takes_next x && nat_lt 0 (length left)

-- its script has come to the stop in which it ends
abbrev pub is_stopping : (stops : Bool) → Member → Bool
is_stopping stops m = stops && has_said_all m.left m.phase

abbrev pub is_dead_life : Life → Bool
is_dead_life Alive = false
is_dead_life Dead = true
is_dead_life Gone = false

abbrev pub is_dead : Member → Bool
is_dead m = is_dead_life m.life

abbrev pub is_alive_life : Life → Bool
is_alive_life Alive = true
is_alive_life Dead = false
is_alive_life Gone = false

-- a session died that stands at this place
pub record IsDeadAt (members : List Member) (at : ℕ) : Type 0 where
  pub member : Member
  pub found : slice_get members at ≡ Some member
  pub dead : is_dead member ≡ true

-- whether a session of this phase and life has a read-write transaction
abbrev pub writes_at : Phase → Life → Bool
writes_at (Writing w) Alive = true
writes_at _ _ = false

-- the session of this number has a read-write transaction
pub record IsWriterAt (members : List Member) (s : ℕ) : Type 0 where
  pub at : ℕ
  pub member : Member
  pub number : s ≡ suc at
  pub found : slice_get members at ≡ Some member
  pub writes : writes_at member.phase member.life ≡ true

-- the session with this life
abbrev pub with_life : Life → Member → Member
with_life l m = record { left = m.left; total = m.total; phase = m.phase; life = l }
