-- The sessions over lines may cross threads.
use denote.Param.Send.{IsSend, sendable, enum_send, struct_send, view_send}
use denote.Enum.Declared as E
use denote.RattleType.{RattleType}
use denote.Struct.Declared as S
use Rattle.std.proofs.Crossing.{crosses}
use Rattle.std.proofs.alloc.Global.TheSendSync as heap
use Rattle.std.proofs.marker.PhantomData.TheSendSync as phantom
use Rattle.event_crossing.proofs.Crossing.{event_send, item_field_send, item_send, names_send, whole_struct}
use Rattle.sqlite_items.proofs.items.Items.TheSendSync as items
use Rattle.rdo_ast.proofs.reply.Standing.TheSendSync as standing
use Rattle.line_view.proofs.known.Known.TheSendSync as known
use Rattle.lock_tree.proofs.tree.Tree.TheSendSync as tree
use Rattle.session_jobs.proofs.jobs.TxRecord.TheSendSync as worked
use Rattle.lock_needs.proofs.need.Need.TheSendSync as lock_need
use Rattle.line_view.proofs.need.Need.TheSendSync as need
use Rattle.session_states.proofs.stage.Work.TheSendSync as work
use Rattle.session_states.proofs.stage.Gather.TheSendSync as gather
use Rattle.session_states.proofs.stage.Laying.TheSendSync as laying
use Rattle.session_states.proofs.stage.End.TheSendSync as end
use Rattle.session_states.proofs.stage.Life.TheSendSync as life
use Rattle.session_states.proofs.stage.ReaderWork.TheSendSync as reader_work
use Rattle.session_states.specs.contracts.stage.Stage as Stage
use Rattle.session_states.specs.contracts.stage.ReaderStage as ReaderStage
use Rattle.session_states.specs.contracts.stage.Writer as Writer
use Rattle.session_states.specs.contracts.stage.Reader as Reader
use Rattle.session_states.specs.contracts.stage.Phase as Phase
use Rattle.session_states.specs.contracts.item_queue.ItemQueue as ItemQueue
use Rattle.session_jobs.specs.declared.statements.Statements.{Ghosts as StatementGhosts}
use Rattle.line_store.specs.declared.store.LineStore.{Ghosts as StoreGhosts}
use Rattle.line_cluster.specs.stage_steps.contracts.common.Common as Common
use Rattle.line_cluster.specs.declared.origin.Origin.{Ghosts as OriginGhosts}
use Rattle.line_cluster.proofs.allotments.Allotments.TheSendSync as allotments
use Rattle.line_cluster.proofs.sessions.Halt.TheSendSync as halt
use Rattle.lent_values.specs.declared.desk.Naming.{Ghosts as NamingGhosts}
use Rattle.lent_values.proofs.Crossing.{receipt_send}
use Rattle.lent_values.proofs.desk.Desk.TheSendSync as desk
use Rattle.session_jobs.specs.contracts.jobs.Job as Job
use Rattle.lent_jobs.proofs.Crossing.{worked_job_send}
use Rattle.line_cluster.proofs.of_answered_steps.answered.Absence.TheSendSync as absence
use Rattle.line_cluster.specs.lent_members.contracts.lent_members.Whereabouts as Whereabouts
use Rattle.line_cluster.specs.lent_members.contracts.lent_members.LentMember as LentMember
use Rattle.line_cluster.specs.lent_members.contracts.lent_members.LentMember.TheInside as member_inside
use Rattle.line_cluster.specs.contracts.sessions.Core as Core
use Rattle.line_cluster.specs.contracts.cluster.LineCluster as LineCluster
use Rattle.line_cluster.specs.contracts.cluster.LineCluster.TheInside as cluster_inside
use Rattle.line_drive.specs.contracts.driver.LineDriver as LineDriver
use Rattle.line_drive.specs.contracts.driver.LineDriver.TheInside as driver_inside
use Rattle.session_states.specs.contracts.item_queue.ItemQueue.TheInside as queue_inside

queue_send : IsSend ItemQueue.the_row
queue_send = view_send _ _ _ _ _ (whole_struct queue_inside.the_type (struct_send (S.shape queue_inside.the_type) (search (crosses, item_send), tt)))

stage_send : IsSend (Stage.the_field).row
stage_send = enum_send (E.shape Stage.the_type) (
  tt,
  (
    (item_field_send, (work.the_field_send, tt)),
    (
      (item_field_send, (gather.the_field_send, (items.the_send _ need.the_send, (search sendable, tt)))),
      (
        (item_field_send, (worked.the_field_send, (items.the_send _ lock_need.the_send, (search sendable, tt)))),
        ((item_field_send, (worked.the_field_send, (laying.the_field_send, tt))), ((end.the_field_send, tt), tt)),
      ),
    ),
  ),
)

reader_stage_send : IsSend (ReaderStage.the_field).row
reader_stage_send = enum_send (E.shape ReaderStage.the_type) (
  tt,
  ((item_field_send, (reader_work.the_field_send, tt)), ((item_field_send, (need.the_field_send, (items.the_send _ need.the_send, (search sendable, tt)))), tt)),
)

writer_send : IsSend (Writer.the_field).row
writer_send = struct_send (S.shape Writer.the_type) (standing.the_field_send, (known.the_send, (search sendable, (search sendable, (stage_send, tt)))))

reader_send : IsSend (Reader.the_field).row
reader_send = struct_send (S.shape Reader.the_type) (standing.the_field_send, (known.the_send, (search sendable, (reader_stage_send, tt))))

phase_send : IsSend (Phase.the_field).row
phase_send = enum_send (E.shape Phase.the_type) (tt, (tt, ((writer_send, tt), ((reader_send, tt), (tt, tt)))))

module _ (A B K : RattleType) (j : NamingGhosts A.Denot) (b : StatementGhosts B.Denot K.Denot) where
  whereabouts_send : IsSend (Whereabouts.the_field A B K j b).row
  whereabouts_send = enum_send (E.shape (Whereabouts.the_type A B K j b)) (
    (phase_send, tt),
    ((absence.the_field_send, (receipt_send A Job.the_row j, tt)), ((absence.the_field_send, (worked_job_send B K b, tt)), tt)),
  )

  member_send : IsSend (LentMember.the_row A B K j b)
  member_send = view_send _ _ _ _ _ (whole_struct (member_inside.the_type A B K j b) (struct_send (S.shape (member_inside.the_type A B K j b)) (queue_send, (search sendable, (life.the_field_send, (whereabouts_send, tt))))))

common_send : (L : RattleType) → IsSend L → IsSend (Common.the_field L).row
common_send L l = struct_send (S.shape (Common.the_type L)) (heap.the_field_send, (names_send, (l, (tree.the_send, tt))))

module _ (A B L K : RattleType) (j : NamingGhosts A.Denot) (b : StatementGhosts B.Denot K.Denot) (send : IsSend L) where
  core_send : IsSend (Core.the_field A B L K j b).row
  core_send = struct_send (S.shape (Core.the_type A B L K j b)) (
    common_send L send,
    (
      search (crosses, member_send A B K j b),
      (search (sendable, desk.the_field_send), (allotments.the_send, (search (crosses, event_send), (search (sendable, halt.the_send), (search phantom.the_field_send, tt))))),
    ),
  )

module _ (A B L K : RattleType) (a : OriginGhosts A.Denot) (j : NamingGhosts A.Denot) (b : StatementGhosts B.Denot K.Denot) (l : StoreGhosts L.Denot) (send : IsSend L) where
  cluster_send : IsSend (LineCluster.the_row A B L K j a b l)
  cluster_send = view_send _ _ _ _ _ (whole_struct (cluster_inside.the_type A B L K j a b l) (struct_send (S.shape (cluster_inside.the_type A B L K j a b l)) (core_send A B L K j b send, (search (sendable, crosses), tt))))

  pub driver_send : IsSend (LineDriver.the_row A B L K a j b l)
  driver_send = view_send _ _ _ _ _ (whole_struct (driver_inside.the_type A B L K a j b l) (struct_send (S.shape (driver_inside.the_type A B L K a j b l)) (cluster_send, (search (sendable, crosses), tt))))
