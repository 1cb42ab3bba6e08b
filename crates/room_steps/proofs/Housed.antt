-- How a session stands that wants a line for a room.
use Rattle.std.proofs.Common.{◌≡◌, ℕ, Bool, false, [], List, None}
use Rattle.rdb_types.specs.declared.keys.Dbkey.{Dbkey}
use Rattle.rdo_ast.specs.declared.reply.Standing.{Standing}
use Rattle.rdo_ast.specs.declared.syntax.Item.{Item}
use Rattle.rdo_ast.specs.Views.{uttered_of}
use Rattle.rdb_account.specs.Legal.{ends_by}
use Rattle.lock_tree_laws.specs.Forest.{State, opened_of}
use Rattle.lock_tree_laws.specs.Wanted.{needs_of}
use Rattle.line_view.specs.declared.need.Need.{Need}
use Rattle.line_view.specs.declared.need.Room.{Room}
use Rattle.line_view.specs.Held.{Held}
use Rattle.line_store.specs.Seats.{Seat, writing}
use Rattle.line_store.specs.Sights.{bare}
use Rattle.gathering_steps.specs.session_states.declared.stage.Gather.TheVariants.{Housing}
use Rattle.gathering_steps.specs.session_states.declared.stage.Stage.TheVariants.{Gathering}
use Rattle.gathering_steps.specs.session_states.declared.stage.Phase.TheVariants.{Writing}
use Rattle.gathering_steps.specs.session_states.Locks.{HasJournal}
use Rattle.gathering_steps.specs.session_states.States.{writer}
use Rattle.gathering_steps.specs.session_stands.Seated.{IsSeated}
use Rattle.gathering_steps.proofs.of_stage_steps.Seated.{rests-at}

pub house-seat : (stand : ℕ → Seat) (locks : State) (s : ℕ) (standing : Standing) (known : Held) (spoken waits : Bool) (item : Item) → bare (stand s) ≡ writing [] → opened_of locks s ≡ None → HasJournal false (needs_of locks s) → ends_by (uttered_of item) ≡ false →
    (room : Room) (key : Dbkey) (later : List Need) (place : ℕ) → IsSeated stand locks s (Writing (writer standing known spoken waits (Gathering item (Housing room key) later place)))
house-seat stand locks s standing known spoken waits item at ended needs statement room key later place = rests-at stand locks s (writer standing known spoken waits (Gathering item (Housing room key) later place)) at ended needs statement
