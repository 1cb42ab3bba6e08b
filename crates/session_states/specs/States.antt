-- What the account sees of a session.
use Rattle.std.specs.Prelude.{ℕ, ◌++◌, ◌==◌, ◌&&◌, Bool, true, false, List, length, map, Option, Some, None}
use Rattle.rdb_types.specs.declared.session.Cause.{Cause}
use Rattle.rdb_types.specs.declared.session.Cause.TheVariants.{Device, Gate, Stop, Memory}
use Rattle.rdo_ast.specs.declared.reply.Standing.{Standing}
use Rattle.rdo_ast.specs.declared.syntax.Item.{Item}
use Rattle.rdo_ast.specs.Tree.{Uttered, said, commit, rollback}
use Rattle.rdo_ast.specs.Views.{uttered_of}
use Rattle.line_view.specs.Held.{Held}
use Rattle.line_view.specs.Knowledge.{Lines}
use Rattle.line_store.specs.Seats.{Seat, reading as seat_reading, copying as seat_copying}
use Rattle.rdb_account.specs.Places.{Opening as Terms, backup_of}
use Rattle.line_steps.specs.Members.{State, outside, writing, reading, ended, fallen, recovered, awaited, Member as Seen, member}
use Rattle.session_states.specs.declared.stage.Work.TheVariants.{Opening}
use Rattle.session_states.specs.declared.stage.Laying.TheVariants.{Changing, Broken}
use Rattle.session_states.specs.declared.stage.End.{End}
use Rattle.session_states.specs.declared.stage.End.TheVariants.{Preparing, Journal, Ready, Committing, RollingBack, Leaving}
use Rattle.session_states.specs.declared.stage.Stage.{Stage}
use Rattle.session_states.specs.declared.stage.Stage.TheVariants.{Between, Working, Gathering, Reserving, Saying, Ending}
use Rattle.session_states.specs.declared.stage.Writer.{Writer}
use Rattle.session_states.specs.declared.stage.ReaderWork.TheVariants.{Copying}
use Rattle.session_states.specs.declared.stage.ReaderStage.{ReaderStage}
use Rattle.session_states.specs.declared.stage.ReaderStage.TheVariants as look
use Rattle.session_states.specs.declared.stage.Reader.{Reader}
use Rattle.session_states.specs.declared.stage.Phase.{Phase}
use Rattle.session_states.specs.declared.stage.Phase.TheVariants.{Outside, Closing, Writing, Reading, Over}
use Rattle.session_states.specs.declared.stage.Life.{Life}
use Rattle.session_states.specs.declared.stage.Life.TheVariants.{Alive, Dead, Gone}
use Rattle.session_states.specs.declared.stage.Member.{Member}

abbrev pub item_at_end : End → Option Uttered
item_at_end Preparing = Some (said commit)
item_at_end Journal = Some (said commit)
item_at_end Ready = Some (said commit)
item_at_end Committing = Some (said commit)
item_at_end RollingBack = Some (said rollback)
item_at_end Leaving = None

-- the statement under way
abbrev pub item_of : Stage → Option Uttered
item_of Between = None
item_of (Working item work) = Some (uttered_of item)
item_of (Gathering item gather later place) = Some (uttered_of item)
item_of (Reserving item r locks place) = Some (uttered_of item)
item_of (Saying item r laying) = Some (uttered_of item)
item_of (Ending end) = item_at_end end

abbrev pub reader_item : ReaderStage → Option Uttered
reader_item look.Between = None
reader_item (look.Working item work) = Some (uttered_of item)
reader_item (look.Gathering item n later place) = Some (uttered_of item)

-- the number of the backup that the store copies at this stage
abbrev pub copies_at : ReaderStage → Option ℕ
copies_at (look.Working item Copying) = backup_of (uttered_of item)
copies_at stage = None

abbrev pub copies_in : Phase → Option ℕ
copies_in (Reading r) = copies_at r.stage
copies_in x = None

-- where the store has a reader with these lines at its start, which are copied into a backup or not
abbrev pub seat_of_reader : Option ℕ → Lines → Seat
seat_of_reader (Some number) start = seat_copying number start
seat_of_reader None start = seat_reading start

-- whether the store has nothing to do or taken at this stage
abbrev pub is_at_rest : Stage → Bool
is_at_rest (Working item Opening) = false
is_at_rest (Saying item r Changing) = false
is_at_rest (Saying item r Broken) = false
is_at_rest (Ending Journal) = false
is_at_rest (Ending Ready) = false
is_at_rest (Ending Committing) = false
is_at_rest (Ending RollingBack) = false
is_at_rest (Ending Leaving) = false
is_at_rest stage = true

abbrev pub state_in : Phase → State
state_in Outside = outside
state_in Closing = outside
state_in (Writing w) = writing w.standing (item_of w.stage)
state_in (Reading r) = reading r.standing (reader_item r.stage)
state_in Over = ended

abbrev pub state_of : Phase → Life → State
state_of x Alive = state_in x
state_of x Dead = fallen (state_in x)
state_of x Gone = recovered

-- what it hasn't said: of one that is recovered with the statement that was under way
abbrev pub left_of : List Item → Phase → Life → List Uttered
left_of left x Alive = map uttered_of left
left_of left x Dead = map uttered_of left
left_of left x Gone = awaited (state_in x) ++ map uttered_of left

abbrev pub seen : Member → Seen
seen m = member (left_of m.left m.phase m.life) (state_of m.phase m.life) m.total

-- whether a commit is under way for it
abbrev pub commits_at : Stage → Bool
commits_at (Ending Committing) = true
commits_at stage = false

abbrev pub commits_in : Phase → Bool
commits_in (Writing w) = commits_at w.stage
commits_in x = false

-- ---- at the end of a script

abbrev pub is_between : Stage → Bool
is_between Between = true
is_between stage = false

abbrev pub is_reader_between : ReaderStage → Bool
is_reader_between look.Between = true
is_reader_between stage = false

-- whether all items of a script are said, of which this is left in this phase
abbrev pub has_said_all : List Item → Phase → Bool
has_said_all left Outside = length left == 0
has_said_all left Closing = false
has_said_all left (Writing w) = is_between w.stage && (length left == 0)
has_said_all left (Reading r) = is_reader_between r.stage && (length left == 0)
has_said_all left Over = true

-- Session s may die of this in this phase: of a stop where it has said all items of a script that ends in one, of another cause where it is let.
abbrev pub may_die_in : Terms → ℕ → List Item → Phase → Cause → Bool
may_die_in o s left x Device = o.may_die s Device
may_die_in o s left x Gate = o.may_die s Gate
may_die_in o s left x Stop = o.stops s && has_said_all left x
may_die_in o s left x Memory = o.may_die s Memory

-- ---- sessions by their parts

abbrev pub writer : Standing → Held → (spoken waits : Bool) → Stage → Writer
writer standing known spoken waits stage = record { standing = standing; known = known; spoken = spoken; waits = waits; stage = stage }

abbrev pub reader : Standing → Held → (spoken : Bool) → ReaderStage → Reader
reader standing known spoken stage = record { standing = standing; known = known; spoken = spoken; stage = stage }

abbrev pub session : List Item → ℕ → Phase → Member
session left total phase = record { left = left; total = total; phase = phase; life = Alive }

abbrev pub dead_session : List Item → ℕ → Phase → Member
dead_session left total phase = record { left = left; total = total; phase = phase; life = Dead }

abbrev pub gone_session : List Item → ℕ → Phase → Member
gone_session left total phase = record { left = left; total = total; phase = phase; life = Gone }
