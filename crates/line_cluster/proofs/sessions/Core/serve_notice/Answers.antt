use Rattle.std.proofs.Common.{refl, sym, ap, map, append-nil, inl, inr}
use Rattle.rdb_types.specs.declared.session.Cause.TheVariants.{Memory}
use Rattle.rdb_account.specs.Events.{event_of}
use Rattle.line_account.specs.stage_steps.Notices.{demoted_by}
use Rattle.line_cluster.specs.Deaths.{faults_in}
use Rattle.line_cluster.specs.Sound.{is_over_slot, is_unsound}
use Rattle.line_cluster.proofs.Counting.{demotion-still}
use Rattle.line_cluster.proofs.Faults.{counts-fewer, demotion-alive, other-death}
use Rattle.line_cluster.proofs.Marks.{notice-marks}
use Rattle.line_cluster.proofs.Nearing.{spare-writes}
use Rattle.line_cluster.proofs.Room.{room-noticed, room-still}
use Rattle.line_cluster.proofs.Stepping.{served}
use Rattle.line_cluster.proofs.sessions.Core.serve_notice.Goals as goal

pub returns-in-Ok-clause-writer : goal.returns-in-Ok-clause-writer
returns-in-Ok-clause-writer g c = spare-writes (g.L.LineStore.sight c.args.self.now.common.store).stand c.args.self.now.common.tree c.args.self.now.members.items (c.requires.sound.seated c.requires.going) c.blocker.ensures.whole c.requires.lives c.args.notice.to.number c.args.notice.node c.requires.due

pub returns-in-Err-clause-writer : goal.returns-in-Err-clause-writer
returns-in-Err-clause-writer g c = spare-writes (g.L.LineStore.sight c.args.self.now.common.store).stand c.args.self.now.common.tree c.args.self.now.members.items (c.requires.sound.seated c.requires.going) c.blocker.ensures.whole c.requires.lives c.args.notice.to.number c.args.notice.node c.requires.due

pub returns-in-Ok-clause-sound : goal.returns-in-Ok-clause-sound
returns-in-Ok-clause-sound g c = served g.S.Statements.stands g.met.S.Statements.orderly g.O.Origin.told g.O.Origin.opening g.O.Origin.faults _ _ (g.L.LineStore.stands c.args.self.now.common.store) _ _ _ _ _ _ _ _ _ c.requires.going c.requires.lives
    (spare-writes (g.L.LineStore.sight c.args.self.now.common.store).stand c.args.self.now.common.tree c.args.self.now.members.items (c.requires.sound.seated c.requires.going) c.blocker.ensures.whole c.requires.lives c.args.notice.to.number c.args.notice.node c.requires.due)
    c.requires.sound c.serve.ensures.parties c.in-Ok.ensures.served (demotion-alive c.args.notice.to.number c.args.notice.node c.in-Ok.demotion) (demotion-still g.O.Origin.opening c.args.notice.to.number c.args.notice.node c.in-Ok.demotion) (ap faults_in c.requires.going) (ap is_unsound c.requires.going) (ap is_over_slot c.requires.going) c.record_demotion.ensures.events

pub returns-in-Ok-clause-kept : goal.returns-in-Ok-clause-kept
returns-in-Ok-clause-kept g c = room-noticed _ _ _ _ _ c.requires.room c.record_demotion.ensures.len c.record_demotion.ensures.capacity

pub returns-in-Ok-clause-events : goal.returns-in-Ok-clause-events
returns-in-Ok-clause-events g c = λ moved. record {
  more = demoted_by c.args.notice.to.number c.args.notice.node c.in-Ok.demotion;
  grown = c.record_demotion.ensures.events;
  nobodys = notice-marks c.args.notice.to.number c.args.notice.node c.in-Ok.demotion;
}

pub returns-in-Ok-clause-done : goal.returns-in-Ok-clause-done
returns-in-Ok-clause-done g c = inl refl

-- no memory was found: all is as before

pub fall-requires-clause-sound : goal.fall-requires-clause-sound
fall-requires-clause-sound g c = served g.S.Statements.stands g.met.S.Statements.orderly g.O.Origin.told g.O.Origin.opening g.O.Origin.faults _ _ (g.L.LineStore.stands c.args.self.now.common.store) _ _ _ _ _ _ _ _ _ c.requires.going c.requires.lives
    (spare-writes (g.L.LineStore.sight c.args.self.now.common.store).stand c.args.self.now.common.tree c.args.self.now.members.items (c.requires.sound.seated c.requires.going) c.blocker.ensures.whole c.requires.lives c.args.notice.to.number c.args.notice.node c.requires.due)
    c.requires.sound c.serve.ensures.parties c.in-Err.ensures.err refl (λ p b. refl) (ap faults_in c.requires.going) (ap is_unsound c.requires.going) (ap is_over_slot c.requires.going) (sym (append-nil _))

pub fall-requires-clause-mortal : goal.fall-requires-clause-mortal
fall-requires-clause-mortal g c = λ m found. (c.requires.mortal c.args.s.number).1

pub fall-requires-clause-caused : goal.fall-requires-clause-caused
fall-requires-clause-caused g c = λ told. counts-fewer g.O.Origin.faults _ _ (g.L.LineStore.sight c.args.self.now.common.store) (other-death (map event_of c.args.self.now.events.items) Memory c.args.self.now.halt refl) (c.requires.sound.causes told)

pub fall-requires-clause-kept : goal.fall-requires-clause-kept
fall-requires-clause-kept g c = room-still _ _ c.requires.room

pub returns-in-Err-clause-died : goal.returns-in-Err-clause-died
returns-in-Err-clause-died g c = λ fallen. c.fall.ensures.died

pub returns-in-Err-clause-death : goal.returns-in-Err-clause-death
returns-in-Err-clause-death g c = λ fallen. c.fall.ensures.events

pub returns-in-Err-clause-done : goal.returns-in-Err-clause-done
returns-in-Err-clause-done g c = inr refl
