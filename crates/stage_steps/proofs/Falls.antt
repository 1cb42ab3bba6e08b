-- A session that died is undone, or its commit stands.
use Rattle.std.proofs.Common.{◌≡◌, ◌∙◌, ℕ, ◌∷◌, [], Bool, true, false, List, Ok}
use Rattle.rdb_types.specs.declared.session.Moment.{Moment}
use Rattle.rdo_ast.specs.declared.syntax.Item.{Item}
use Rattle.lock_tree_laws.specs.Forest.{State}
use Rattle.rdb_account.specs.Events.{Recovered}
use Rattle.rdb_account.specs.Places.{Opening}
use Rattle.line_store.specs.declared.answers.Stepped.TheVariants as stepped
use Rattle.line_store.specs.Seats.{Seat}
use Rattle.line_store.specs.Sights.{bare}
use Rattle.session_stands.specs.Seated.{HasFallen}
use Rattle.line_store.specs.Shelves.{Shelf}
use Rattle.line_store.specs.Calls.{Comes}
use Rattle.session_jobs.specs.Records.{Model, IsOrderly}
use Rattle.session_limits.specs.session_states.declared.stage.Phase.{Phase}
use Rattle.session_limits.specs.session_states.Shared.{Shared, with_recovery, RestsWith}
use Rattle.session_limits.specs.session_states.States.{dead_session, gone_session}
use Rattle.session_limits.specs.session_states.Steps.{Fall}
use Rattle.session_limits.proofs.of_session_states.Dying.{recovers-on, recovers-commit}

module _ (M : Model) (orderly : IsOrderly M) where
  pub recovers-as : (o : Opening) (s : ℕ) (c : Shared) (shelf : Shelf) (locks : State) (left : List Item) (total : ℕ) (x : Phase) (b : Bool) (m : Moment) → Comes s c.shelf shelf (Ok (stepped.Recovered b m)) → RestsWith s [] c.locks locks →
      Fall M o s c (dead_session left total x) (with_recovery shelf locks c) (gone_session left total x) (Recovered s b m.number ∷ [])
  recovers-as o s c shelf locks left total x true m h rests = recovers-commit M orderly o s c shelf locks left total x m.number h rests
  recovers-as o s c shelf locks left total x false m h rests = recovers-on M orderly o s c shelf locks left total x m.number h rests

-- a dead session stands as it did
pub falls-on : (old new : ℕ → Seat) (locks : State) (s : ℕ) (x : Phase) → bare (new s) ≡ bare (old s) → HasFallen old locks s x → HasFallen new locks s x
falls-on old new locks s x e f = record { seat = e ∙ f.seat; wants = f.wants; beside = f.beside; needs = f.needs }
