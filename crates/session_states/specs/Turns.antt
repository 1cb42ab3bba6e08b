-- What a stage comes to.
use Rattle.std.specs.Prelude.{◌+◌, ◌<◌, Bool, true, List, length, Result, Ok, Err}
use Rattle.rdo_ast.specs.declared.syntax.Item.{Item}
use Rattle.rdo_ast.specs.declared.syntax.Item.TheVariants.{Statement}
use Rattle.rdo_ast.specs.declared.syntax.Statement.TheVariants.{Commit, Rollback}
use Rattle.line_steps.specs.session_jobs.declared.jobs.Found.{Found}
use Rattle.line_steps.specs.session_jobs.declared.jobs.Found.TheVariants.{Done, Missing, Bad, Unworked, NoMemory}
use Rattle.line_steps.specs.session_jobs.declared.jobs.TxRecord.{TxRecord}
use Rattle.line_view.specs.Held.{Held}
use Rattle.line_view.specs.declared.writes.Write.{Write}
use Rattle.session_states.specs.declared.stage.Work.{Work}
use Rattle.session_states.specs.declared.stage.Work.TheVariants.{Due, Lacking, Housing, Fetching, Lodging}
use Rattle.session_states.specs.declared.stage.Gather.{Gather}
use Rattle.session_states.specs.declared.stage.Gather.TheVariants as gather
use Rattle.session_states.specs.declared.stage.Laying.{Laying}
use Rattle.session_states.specs.declared.stage.Laying.TheVariants.{Claiming}
use Rattle.session_states.specs.declared.stage.End.{End}
use Rattle.session_states.specs.declared.stage.End.TheVariants.{Preparing, Journal, Ready, RollingBack}
use Rattle.session_states.specs.declared.stage.Stage.{Stage}
use Rattle.session_states.specs.declared.stage.Stage.TheVariants.{Between, Working, Gathering, Reserving, Saying, Ending}
use Rattle.session_states.specs.declared.stage.Writer.{Writer}

-- an item is taken up
abbrev pub taken : Item → Stage
taken (Statement Commit) = Ending Preparing
taken (Statement Rollback) = Ending RollingBack
taken item = Working item Due

-- a job came back; where it wasn't worked, or no memory was found, the item is left
abbrev pub returned : Item → Found → Result Stage Item
returned item (Done r) = Ok (Saying item r (Claiming 0))
returned item (Missing next later) = Ok (Gathering item (gather.Locking next) later 0)
returned item (Bad key) = Ok (Working item Due)
returned item Unworked = Err item
returned item NoMemory = Err item

abbrev pub got_work : Work → Work
got_work (Lacking n) = Fetching n
got_work (Housing room key) = Lodging room key
got_work work = work

abbrev pub got_gather : Gather → Gather
got_gather (gather.Locking n) = gather.Reading n
got_gather (gather.Housing room key) = gather.Lodging room key
got_gather x = x

abbrev pub got_laying : Laying → Laying
got_laying (Claiming place) = Claiming (place + 1)
got_laying laying = laying

abbrev pub got_end : End → End
got_end Journal = Ready
got_end end = end

-- the lock that was wanted is got
abbrev pub got : Stage → Stage
got Between = Between
got (Working item work) = Working item (got_work work)
got (Gathering item gather later place) = Gathering item (got_gather gather) later place
got (Reserving item r locks place) = Reserving item r locks (place + 1)
got (Saying item r laying) = Saying item r (got_laying laying)
got (Ending end) = Ending (got_end end)

-- the write whose lock is wanted is one of these
abbrev pub IsPlace : List Write → Laying → Type 0
IsPlace ws (Claiming place) = place < length ws
IsPlace ws _ = Unit {0}

-- and of the record's, or the reservation is one of these
abbrev pub IsWithin : Stage → Type 0
IsWithin (Reserving item r locks place) = place < length locks
IsWithin (Saying item r laying) = IsPlace r.writes laying
IsWithin stage = Unit {0}

abbrev pub said_writer : TxRecord → Held → Bool → Writer
said_writer r known waits = record { standing = r.standing; known = known; spoken = true; waits = waits; stage = Between }
