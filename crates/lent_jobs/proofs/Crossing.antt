-- A job and what it came to may cross threads.
use denote.Param.Send.{IsSend, sendable, enum_send, struct_send, view_send}
use denote.Enum.Declared as E
use denote.RattleType.{RattleType}
use denote.Struct.Declared as S
use Rattle.std.proofs.alloc.Global.TheSendSync as heap
use Rattle.std.proofs.marker.PhantomData.TheSendSync as phantom
use Rattle.event_crossing.proofs.Crossing.{item_field_send, names_send, whole_struct}
use Rattle.sqlite_items.proofs.items.Items.TheSendSync as items
use Rattle.rdb_types.proofs.keys.Dbkey.TheSendSync as dbkey
use Rattle.rdo_ast.proofs.reply.Standing.TheSendSync as standing
use Rattle.line_view.proofs.known.Known.TheSendSync as known
use Rattle.line_view.proofs.need.Need.TheSendSync as need
use Rattle.session_jobs.proofs.jobs.TxRecord.TheSendSync as worked
use Rattle.session_jobs.specs.contracts.jobs.Job as Job
use Rattle.session_jobs.specs.contracts.jobs.Found as Found
use Rattle.session_jobs.specs.declared.statements.Statements.{Ghosts}
use Rattle.lent_jobs.specs.contracts.worked_job.WorkedJob as WorkedJob
use Rattle.lent_jobs.specs.contracts.worked_job.WorkedJob.TheInside as inside

job_field_send : IsSend (Job.the_field).row
job_field_send = struct_send (S.shape Job.the_type) (heap.the_field_send, (names_send, (standing.the_field_send, (item_field_send, (known.the_send, tt)))))

pub job_send : IsSend Job.the_row
job_send = whole_struct Job.the_type (struct_send (S.shape Job.the_type) (heap.the_field_send, (names_send, (standing.the_field_send, (item_field_send, (known.the_send, tt))))))

found_send : IsSend (Found.the_field).row
found_send = enum_send (E.shape Found.the_type) (
  (worked.the_field_send, tt),
  ((need.the_field_send, (items.the_send _ need.the_send, tt)), ((dbkey.the_field_send, tt), (tt, (tt, tt)))),
)

module _ (A K : RattleType) (a : Ghosts A.Denot K.Denot) where
  pub worked_job_send : IsSend (WorkedJob.the_row A K a)
  worked_job_send = view_send _ _ _ _ _ (whole_struct (inside.the_type A K a) (struct_send (S.shape (inside.the_type A K a)) (job_field_send, (found_send, (search phantom.the_field_send, tt)))))
