use Rattle.std.proofs.Common.{◌≡◌, ◌∙◌, ◌+◌, ◌++◌, ℕ, arith, sym, ap, refl, length, map, Result, is_some, slice_set, append-nil}
use Rattle.std.specs.Vec.{vec_len}
use Rattle.std.proofs.lemmas.Bool.{false≢true}
use Rattle.rdb_account.specs.Events.{event_of}
use Rattle.line_store.specs.declared.answers.Fault.{Fault}
use Rattle.session_states.specs.declared.stage.Life.{Life}
use Rattle.session_states.specs.declared.stage.Member.{Member}
use Rattle.line_account.specs.stage_steps.declared.dying.Recovery.{Recovery}
use Rattle.line_account.specs.stage_steps.Deaths.{life_behind, recovery_events}
use Rattle.line_account.specs.stage_steps.Scenes.{scene}
use Rattle.lent_members.specs.Going.{with_life}
use Rattle.line_cluster.specs.Sound.{is_over_slot, is_unsound}
use Rattle.line_cluster.proofs.Coming.{has-recovered-on, put-back}
use Rattle.line_cluster.proofs.Falling.{has-recovered, dead-stands, died-at}
use Rattle.line_cluster.proofs.Faults.{fault-within, quiet-within, slot_in, slot-of}
use Rattle.line_cluster.proofs.Nearing.{recovered-nearer}
use Rattle.line_cluster.proofs.Room.{room-recovered, room-to-recover}
use Rattle.line_cluster.proofs.Unbroken.{whole-recovered}
use Rattle.line_cluster.proofs.sessions.Core.recover_at.Goals as goal

plus-none : (n : ℕ) → n + 0 ≡ n
plus-none n = omega arith

pub recover-step-requires-clause-died : goal.recover-step-requires-clause-died
recover-step-requires-clause-died g c = dead-stands (g.L.LineStore.sight c.args.self.now.common.store).stand c.args.self.now.common.tree c.args.self.now.members.items c.args.at c.take_member-member.result c.take_member-member.ensures.taken (died-at c.args.self.now.members.items c.args.at c.take_member-member.result c.requires.dead c.take_member-member.ensures.taken) (c.requires.sound.seated c.requires.going)

pub returns-in-Ok-clause-sound : goal.returns-in-Ok-clause-sound
returns-in-Ok-clause-sound g c =
    has-recovered g.S.Statements.stands g.met.S.Statements.orderly g.O.Origin.told g.O.Origin.opening g.O.Origin.faults _ _ (g.L.LineStore.stands c.recover-step.new.common.store) _ _ _ _ c.args.at c.take_member-member.result c.recover-step.result _ _ c.requires.going c.take_member-member.ensures.taken (died-at c.args.self.now.members.items c.args.at c.take_member-member.result c.requires.dead c.take_member-member.ensures.taken) c.requires.sound (quiet-within c.recover-step.result c.args.self.now.halt c.requires.going) (ap is_unsound c.requires.going) (ap is_over_slot c.requires.going ∙ sym (ap slot_in c.in-Ok.is)) (c.recover-step.ensures c.take_member-member.result.phase)
    (c.put_member.ensures ∙ ((c.take_member-member.ensures.rest _ ∙ ap (λ (n : Member). slice_set c.args.self.now.members.items c.args.at n) c.with_life.ensures) ∙ ap (λ (l : Life). slice_set c.args.self.now.members.items c.args.at (record { left = c.take_member-member.result.left; total = c.take_member-member.result.total; phase = c.take_member-member.result.phase; life = l })) c.life_behind.ensures))
    (c.record_recovery.ensures.events ∙ ap (λ (r : Result Recovery Fault). map event_of c.args.self.now.events.items ++ recovery_events (c.args.at + 1) r) (sym c.in-Ok.is))

pub returns-in-Err-clause-sound : goal.returns-in-Err-clause-sound
returns-in-Err-clause-sound g c =
    has-recovered g.S.Statements.stands g.met.S.Statements.orderly g.O.Origin.told g.O.Origin.opening g.O.Origin.faults _ _ (g.L.LineStore.stands c.recover-step.new.common.store) _ _ _ _ c.args.at c.take_member-member.result c.recover-step.result _ _ c.requires.going c.take_member-member.ensures.taken (died-at c.args.self.now.members.items c.args.at c.take_member-member.result c.requires.dead c.take_member-member.ensures.taken) c.requires.sound (fault-within c.recover-step.result c.in-Err.fault c.in-Err.is) refl (slot-of c.in-Err.fault ∙ sym (ap slot_in c.in-Err.is)) (c.recover-step.ensures c.take_member-member.result.phase)
    (c.put_member.ensures ∙ ((c.take_member-member.ensures.rest _ ∙ ap (λ (n : Member). slice_set c.args.self.now.members.items c.args.at n) c.with_life.ensures) ∙ ap (λ (l : Life). slice_set c.args.self.now.members.items c.args.at (record { left = c.take_member-member.result.left; total = c.take_member-member.result.total; phase = c.take_member-member.result.phase; life = l })) c.life_behind.ensures))
    (sym (append-nil _) ∙ ap (λ (r : Result Recovery Fault). map event_of c.args.self.now.events.items ++ recovery_events (c.args.at + 1) r) (sym c.in-Err.is))

pub returns-in-Ok-clause-came : goal.returns-in-Ok-clause-came
returns-in-Ok-clause-came g c =
    has-recovered-on c.args.at _ _ c.take_member-member.result c.recover-step.result c.take_member-member.ensures.taken (died-at c.args.self.now.members.items c.args.at c.take_member-member.result c.requires.dead c.take_member-member.ensures.taken)
    (c.put_member.ensures ∙ ((c.take_member-member.ensures.rest _ ∙ ap (λ (n : Member). slice_set c.args.self.now.members.items c.args.at n) c.with_life.ensures) ∙ ap (λ (l : Life). slice_set c.args.self.now.members.items c.args.at (with_life l c.take_member-member.result)) c.life_behind.ensures))
    (c.record_recovery.ensures.events ∙ ap (λ (r : Result Recovery Fault). map event_of c.args.self.now.events.items ++ recovery_events (c.args.at + 1) r) (sym c.in-Ok.is))

pub returns-in-Err-clause-came : goal.returns-in-Err-clause-came
returns-in-Err-clause-came g c = record {
  halted = refl;
  members =
      c.put_member.ensures ∙ ((c.take_member-member.ensures.rest _ ∙ ap (λ (n : Member). slice_set c.args.self.now.members.items c.args.at n) c.with_life.ensures)
      ∙ (ap (λ (l : Life). slice_set c.args.self.now.members.items c.args.at (with_life l c.take_member-member.result)) (c.life_behind.ensures ∙ ap life_behind c.in-Err.is)
      ∙ put-back c.args.self.now.members.items c.args.at c.take_member-member.result c.take_member-member.ensures.taken (died-at c.args.self.now.members.items c.args.at c.take_member-member.result c.requires.dead c.take_member-member.ensures.taken)));
  events = refl;
  rests = λ stopped. absurd (false≢true (sym (ap is_some c.requires.going) ∙ stopped));
}

pub returns-in-Ok-clause-nearer : goal.returns-in-Ok-clause-nearer
returns-in-Ok-clause-nearer g c = λ moved.
    recovered-nearer g.S.Statements.stands (scene c.args.self.now.common.word (g.L.LineStore.sight c.args.self.now.common.store) c.args.self.now.common.tree) (scene c.recover-step.new.common.word (g.L.LineStore.sight c.recover-step.new.common.store) c.recover-step.new.common.tree)
    c.args.self.now.members.items c.args.self.now.allotments c.args.at c.take_member-member.result (died-at c.args.self.now.members.items c.args.at c.take_member-member.result c.requires.dead c.take_member-member.ensures.taken) c.take_member-member.ensures.taken c.put_member.new.members.items c.recover-step.result c.in-Ok.step c.args.self.now.halt c.requires.going c.in-Ok.is
    (c.recover-step.ensures c.take_member-member.result.phase)
    (c.put_member.ensures ∙ ((c.take_member-member.ensures.rest _ ∙ ap (λ (n : Member). slice_set c.args.self.now.members.items c.args.at n) c.with_life.ensures) ∙ ap (λ (l : Life). slice_set c.args.self.now.members.items c.args.at (with_life l c.take_member-member.result)) c.life_behind.ensures))

pub record_recovery-requires : goal.record_recovery-requires
record_recovery-requires g c = record { room = room-to-recover c.args.self.now.members.items c.args.at c.take_member-member.result _ _ c.take_member-member.ensures.taken (died-at c.args.self.now.members.items c.args.at c.take_member-member.result c.requires.dead c.take_member-member.ensures.taken) c.requires.kept }

pub returns-in-Ok-clause-kept : goal.returns-in-Ok-clause-kept
returns-in-Ok-clause-kept g c =
    room-recovered c.args.self.now.members.items c.put_member.new.members.items c.args.at c.take_member-member.result (c.args.at + 1) c.recover-step.result _ _ _ _ c.take_member-member.ensures.taken (died-at c.args.self.now.members.items c.args.at c.take_member-member.result c.requires.dead c.take_member-member.ensures.taken)
    (c.put_member.ensures ∙ ((c.take_member-member.ensures.rest _ ∙ ap (λ (n : Member). slice_set c.args.self.now.members.items c.args.at n) c.with_life.ensures) ∙ ap (λ (l : Life). slice_set c.args.self.now.members.items c.args.at (with_life l c.take_member-member.result)) c.life_behind.ensures))
    (c.record_recovery.ensures.len ∙ ap (λ (r : Result Recovery Fault). vec_len c.args.self.now.events + length (recovery_events (c.args.at + 1) r)) (sym c.in-Ok.is)) c.record_recovery.ensures.capacity c.requires.kept

pub returns-in-Err-clause-kept : goal.returns-in-Err-clause-kept
returns-in-Err-clause-kept g c =
    room-recovered c.args.self.now.members.items c.put_member.new.members.items c.args.at c.take_member-member.result (c.args.at + 1) c.recover-step.result _ _ _ _ c.take_member-member.ensures.taken (died-at c.args.self.now.members.items c.args.at c.take_member-member.result c.requires.dead c.take_member-member.ensures.taken)
    (c.put_member.ensures ∙ ((c.take_member-member.ensures.rest _ ∙ ap (λ (n : Member). slice_set c.args.self.now.members.items c.args.at n) c.with_life.ensures) ∙ ap (λ (l : Life). slice_set c.args.self.now.members.items c.args.at (with_life l c.take_member-member.result)) c.life_behind.ensures))
    (sym (plus-none (vec_len c.args.self.now.events)) ∙ ap (λ (r : Result Recovery Fault). vec_len c.args.self.now.events + length (recovery_events (c.args.at + 1) r)) (sym c.in-Err.is)) refl c.requires.kept

pub returns-in-Ok-clause-unbroken : goal.returns-in-Ok-clause-unbroken
returns-in-Ok-clause-unbroken g c =
    whole-recovered c.args.self.now.members.items c.put_member.new.members.items c.args.at c.take_member-member.result c.recover-step.result
    (c.put_member.ensures ∙ ((c.take_member-member.ensures.rest _ ∙ ap (λ (n : Member). slice_set c.args.self.now.members.items c.args.at n) c.with_life.ensures) ∙ ap (λ (l : Life). slice_set c.args.self.now.members.items c.args.at (with_life l c.take_member-member.result)) c.life_behind.ensures)) c.requires.unbroken

pub returns-in-Err-clause-unbroken : goal.returns-in-Err-clause-unbroken
returns-in-Err-clause-unbroken g c =
    whole-recovered c.args.self.now.members.items c.put_member.new.members.items c.args.at c.take_member-member.result c.recover-step.result
    (c.put_member.ensures ∙ ((c.take_member-member.ensures.rest _ ∙ ap (λ (n : Member). slice_set c.args.self.now.members.items c.args.at n) c.with_life.ensures) ∙ ap (λ (l : Life). slice_set c.args.self.now.members.items c.args.at (with_life l c.take_member-member.result)) c.life_behind.ensures)) c.requires.unbroken
