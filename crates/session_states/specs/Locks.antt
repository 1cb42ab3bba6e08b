-- The lock that a stage wants.
use Rattle.std.specs.Prelude.{◌≡◌, ℕ, ◌==◌, if◌then◌else◌, Bool, true, false, List, Option, Some, None, slice_get}
use Rattle.std.specs.List.{list_all, AllByRecursion}
use Rattle.rdb_types.specs.declared.keys.Dbkey.{Dbkey}
use Rattle.vms_queues.specs.declared.lock_mode.Mode.TheVariants.{PR, EX}
use Rattle.rdo_ast.specs.Tree.{Uttered}
use Rattle.rdo_ast.specs.Views.{uttered_of}
use Rattle.lock_needs.specs.declared.need.Need.{Need as LockNeed}
use Rattle.lock_needs.specs.Nodes.{is_on}
use Rattle.lock_needs.specs.Waits.{converts_at}
use Rattle.rdb_account.specs.Events.{need}
use Rattle.rdb_account.specs.AskedFor.{area_node}
use Rattle.line_view.specs.declared.need.Need.{Need}
use Rattle.line_view.specs.declared.need.Need.TheVariants.{Line, Area, Room}
use Rattle.line_view.specs.declared.writes.Write.{Write}
use Rattle.stepped_jobs.specs.kept_apart.Guards.{line_node, may_write}
use Rattle.line_steps.specs.session_jobs.Asked.{area_mode}
use Rattle.line_steps.specs.Images.{journal_node}
use Rattle.journal_waits.specs.Holders.{is_exclusive_on}
use Rattle.session_states.specs.declared.stage.Work.{Work}
use Rattle.session_states.specs.declared.stage.Work.TheVariants.{Lacking, Housing}
use Rattle.session_states.specs.declared.stage.Gather.{Gather}
use Rattle.session_states.specs.declared.stage.Gather.TheVariants as gather
use Rattle.session_states.specs.declared.stage.Laying.{Laying}
use Rattle.session_states.specs.declared.stage.Laying.TheVariants.{Claiming}
use Rattle.session_states.specs.declared.stage.End.{End}
use Rattle.session_states.specs.declared.stage.End.TheVariants.{Journal, Ready, Committing}
use Rattle.session_states.specs.declared.stage.Stage.{Stage}
use Rattle.session_states.specs.declared.stage.Stage.TheVariants.{Between, Working, Gathering, Reserving, Saying, Ending}

abbrev pub lock_for_area : Uttered → ℕ → LockNeed
lock_for_area item area = need (area_node area) (area_mode item area)

-- whoever reads a line of the catalog has the whole catalog
abbrev pub lock_for_line : Uttered → Dbkey → LockNeed
lock_for_line item key = if key.area == 1 then lock_for_area item 1 else need (line_node key) PR

-- for what is read of a line or an area; a room is written, on the line that is named for it
abbrev pub lock_for : Uttered → Need → Option LockNeed
lock_for item (Line key) = Some (lock_for_line item key)
lock_for item (Area area) = Some (lock_for_area item area)
lock_for item (Room room) = None

abbrev pub lock_of_work : Uttered → Work → Option LockNeed
lock_of_work item (Lacking n) = lock_for item n
lock_of_work item (Housing room key) = Some (need (line_node key) EX)
lock_of_work item _ = None

abbrev pub lock_of_gather : Uttered → Gather → Option LockNeed
lock_of_gather item (gather.Locking n) = lock_for item n
lock_of_gather item (gather.Housing room key) = Some (need (line_node key) EX)
lock_of_gather item _ = None

abbrev pub lock_of_write : Option Write → Option LockNeed
lock_of_write (Some w) = Some (need (line_node w.key) EX)
lock_of_write None = None

abbrev pub lock_of_laying : List Write → Laying → Option LockNeed
lock_of_laying ws (Claiming place) = lock_of_write (slice_get ws place)
lock_of_laying ws _ = None

abbrev pub lock_of_end : End → Option LockNeed
lock_of_end Journal = Some (need journal_node EX)
lock_of_end _ = None

abbrev pub lock_of : Stage → Option LockNeed
lock_of Between = None
lock_of (Working item work) = lock_of_work (uttered_of item) work
lock_of (Gathering item gather later place) = lock_of_gather (uttered_of item) gather
lock_of (Reserving item r locks place) = slice_get locks place
lock_of (Saying item r laying) = lock_of_laying r.writes laying
lock_of (Ending end) = lock_of_end end

-- ---- the journal

-- whether it has been got
abbrev pub has_journal : Stage → Bool
has_journal (Ending Ready) = true
has_journal (Ending Committing) = true
has_journal stage = false

-- these needs have the journal, for EX alone, or not
abbrev pub HasJournal : Bool → List LockNeed → Type 0
HasJournal true needs = (may_write needs journal_node ≡ true) × (list_all (is_exclusive_on journal_node) needs ≡ true)
HasJournal false needs = converts_at needs journal_node ≡ false

-- the journal is none of these
abbrev pub AreOffJournal : List LockNeed → Type 0
AreOffJournal = AllByRecursion (λ n. is_on journal_node n.node ≡ false)
