-- What statements ask for is plain, and isn't the journal.
use Rattle.std.proofs.Common.{◌≡◌, ◌==◌, ◌<◌, ◌≤◌, if◌then◌else◌, ℕ, zero, suc, arith, Bool, true, false, List, [], ◌∷◌, length, refl, sym, ap, ◌∙◌, Option, Some, None, slice_get}
use Rattle.std.proofs.lemmas.Option.{none-some}
use Rattle.rdb_types.specs.declared.keys.Dbkey.{Dbkey}
use Rattle.rdo_ast.specs.Tree.{Uttered}
use Rattle.vms_queues.specs.declared.lock_mode.Mode.TheVariants.{PR, EX}
use Rattle.rdb_account.specs.Events.{need}
use Rattle.kept_apart.specs.Guards.{line_node}
use Rattle.line_view.specs.declared.need.Need.{Need}
use Rattle.line_view.specs.declared.need.Need.TheVariants.{Line, Area, Room}
use Rattle.line_view.specs.declared.writes.Write.{Write}
use Rattle.job_steps.specs.session_states.declared.stage.Work.{Work}
use Rattle.job_steps.specs.session_states.declared.stage.Work.TheVariants.{Opening, Due, Out, Lacking, Housing, Fetching, Lodging}
use Rattle.job_steps.specs.session_states.declared.stage.Gather.{Gather}
use Rattle.job_steps.specs.session_states.declared.stage.Gather.TheVariants as gather
use Rattle.job_steps.specs.session_states.declared.stage.Laying.{Laying}
use Rattle.job_steps.specs.session_states.declared.stage.Laying.TheVariants.{Claiming, Changing, Broken}
use Rattle.job_steps.specs.session_states.declared.stage.Stage.{Stage}
use Rattle.job_steps.specs.session_states.declared.stage.Stage.TheVariants.{Between, Working, Gathering, Reserving, Saying, Ending}
use Rattle.line_store.specs.Seats.{Seat, IsWriting}
use Rattle.line_store.specs.Sights.{bare}
use Rattle.job_steps.specs.session_stands.Seated.{stand_of}
use Rattle.job_steps.proofs.of_session_stands.Seats.{writing-seat}
use Rattle.job_steps.specs.stage_steps.Asking.{IsOfStatement}
use Rattle.job_steps.specs.session_states.Locks.{lock_of, lock_for_area, lock_for, lock_of_work, lock_of_gather, lock_of_write, lock_of_laying}
use Rattle.line_arms.specs.Going.{MayBeAsked}

line-asked : (item : Uttered) (key : Dbkey) (b : Bool) → MayBeAsked (Some (if b then lock_for_area item 1 else need (line_node key) PR))
line-asked item key true = (refl, refl)
line-asked item key false = (refl, refl)

read-asked : (item : Uttered) (n : Need) → MayBeAsked (lock_for item n)
read-asked item (Line key) = line-asked item key (key.area == 1)
read-asked item (Area area) = (refl, refl)
read-asked item (Room room) = tt

pub work-asked : (item : Uttered) (work : Work) → MayBeAsked (lock_of_work item work)
work-asked item Opening = tt
work-asked item Due = tt
work-asked item Out = tt
work-asked item (Lacking n) = read-asked item n
work-asked item (Housing room key) = (refl, refl)
work-asked item (Fetching n) = tt
work-asked item (Lodging room key) = tt

pub gather-asked : (item : Uttered) (g : Gather) → MayBeAsked (lock_of_gather item g)
gather-asked item (gather.Locking n) = read-asked item n
gather-asked item (gather.Housing room key) = (refl, refl)
gather-asked item (gather.Reading n) = tt
gather-asked item (gather.Lodging room key) = tt

write-asked : (w : Option Write) → MayBeAsked (lock_of_write w)
write-asked (Some w) = (refl, refl)
write-asked None = tt

pub laying-asked : (ws : List Write) (laying : Laying) → MayBeAsked (lock_of_laying ws laying)
laying-asked ws (Claiming place) = write-asked (slice_get ws place)
laying-asked ws Changing = tt
laying-asked ws Broken = tt

-- ---- the lock on a write

within-get : (ws : List Write) (place : ℕ) → place < length ws → (w : Write) × (slice_get ws place ≡ Some w)
within-get [] place h = absurd (omega (arith, h))
within-get (w ∷ ws) zero h = (w, refl)
within-get (w ∷ ws) (suc place) h = within-get ws place (omega (arith, h))

pub within-asked : (ws : List Write) (place : ℕ) → place < length ws → lock_of_write (slice_get ws place) ≡ None → ⊥
within-asked ws place h none = let at = within-get ws place h in none-some (need (line_node at.0.key) EX) (sym none ∙ ap lock_of_write at.1)

past-get : (ws : List Write) (place : ℕ) → length ws ≤ place → slice_get ws place ≡ None
past-get [] place h = refl
past-get (w ∷ ws) zero h = absurd (omega (arith, h))
past-get (w ∷ ws) (suc place) h = past-get ws place (omega (arith, h))

pub past-asked : (ws : List Write) (place : ℕ) → length ws ≤ place → lock_of_write (slice_get ws place) ≡ None
past-asked ws place h = ap lock_of_write (past-get ws place h)

-- ---- where a statement that wants a lock has the store

pub writing-statement : (stage : Stage) (seat : Seat) → IsOfStatement stage → (lock_of stage ≡ None → ⊥) → bare seat ≡ stand_of stage → IsWriting seat
writing-statement Between seat st wants at = absurd st
writing-statement (Working item Opening) seat st wants at = absurd (wants refl)
writing-statement (Working item Due) seat st wants at = writing-seat seat at
writing-statement (Working item Out) seat st wants at = writing-seat seat at
writing-statement (Working item (Lacking n)) seat st wants at = writing-seat seat at
writing-statement (Working item (Housing room key)) seat st wants at = writing-seat seat at
writing-statement (Working item (Fetching n)) seat st wants at = writing-seat seat at
writing-statement (Working item (Lodging room key)) seat st wants at = writing-seat seat at
writing-statement (Gathering item gather later place) seat st wants at = writing-seat seat at
writing-statement (Reserving item r locks place) seat st wants at = writing-seat seat at
writing-statement (Saying item r (Claiming place)) seat st wants at = writing-seat seat at
writing-statement (Saying item r Changing) seat st wants at = absurd (wants refl)
writing-statement (Saying item r Broken) seat st wants at = absurd (wants refl)
writing-statement (Ending end) seat st wants at = absurd st
