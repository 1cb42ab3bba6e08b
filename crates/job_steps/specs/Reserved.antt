-- What a START_TRANSACTION reserves.
use Rattle.std.specs.Prelude.{◌≡◌, Bool, true, List}
use Rattle.std.specs.List.{AllByRecursion}
use Rattle.rdo_ast.specs.declared.reply.Standing.TheVariants.{Closed}
use Rattle.rdo_ast.specs.declared.syntax.Item.{Item}
use Rattle.rdo_ast.specs.declared.syntax.Reservation.{Reservation}
use Rattle.rdo_ast.specs.Tree.{said, start_read_write}
use Rattle.rdo_ast.specs.Views.{uttered_of}
use Rattle.lock_needs.specs.declared.need.Need.{Need}
use Rattle.rdb_account.specs.AskedFor.{reservations_ask}
use Rattle.line_view.specs.Held.{knows}
use Rattle.session_jobs.specs.Jobs.{WhereItAgrees}
use Rattle.session_jobs.specs.Records.{Model}
use Rattle.reserved_locks.specs.Reserved.{AreOnAreas}
use Rattle.gathering_steps.specs.session_states.declared.stage.Phase.{Phase}
use Rattle.gathering_steps.specs.session_states.declared.stage.Stage.TheVariants as stage
use Rattle.gathering_steps.specs.stage_steps.declared.terms.Terms.{Terms}
use Rattle.gathering_steps.specs.stage_steps.Turns.{at_stage}
use Rattle.job_steps.specs.declared.reserving.Reserving.{Reserving}

-- The item begins a transaction, and its reservations ask for each of these locks, on areas, over all that agrees with what is known.
pub record IsReserved (M : Model) (t : Terms) (item : Item) (locks : List Need) : Type 0 where
  pub wait : Bool
  pub reserved : List Reservation
  pub begins : uttered_of item ≡ said (start_read_write wait reserved)
  pub closed : t.standing ≡ Closed
  pub asked : AllByRecursion (λ n. WhereItAgrees M (knows t.known) (λ u. reservations_ask u n reserved ≡ true)) locks
  pub areas : AreOnAreas locks

-- a read-write transaction that wants the lock at the place of its reservations
abbrev pub reserves_at : Terms → Reserving → Phase
reserves_at t r = at_stage t (stage.Reserving r.item r.worked r.locks r.place)
