use Rattle.std.proofs.Common.{◌∙◌, ap, refl, sym, slice_set}
use Rattle.std.proofs.lemmas.Option.{same_Some}
use Rattle.session_states.specs.declared.stage.Life.TheVariants.{Dead}
use Rattle.session_states.specs.declared.stage.Member.{Member}
use Rattle.lent_members.specs.Going.{with_life}
use Rattle.line_cluster.specs.Deaths.{faults_in}
use Rattle.line_cluster.specs.Sound.{is_over_slot, is_unsound}
use Rattle.line_cluster.proofs.Falling.{has-died, alive-stands}
use Rattle.line_cluster.proofs.Room.{room-dead, room-to-die}
use Rattle.line_cluster.proofs.sessions.Core.fall.Goals as goal

pub die-requires-clause-alive : goal.die-requires-clause-alive
die-requires-clause-alive g c = alive-stands (g.L.LineStore.sight c.args.self.now.common.store).stand c.args.self.now.common.tree c.args.self.now.members.items c.args.s.number c.args.at c.take_member-member.result c.requires.one.first c.requires.at c.take_member-member.ensures.taken (c.requires.lives c.take_member-member.result c.take_member-member.ensures.taken) (c.requires.sound.seated c.requires.going)

pub returns-clause-sound : goal.returns-clause-sound
returns-clause-sound g c = has-died g.S.Statements.stands g.met.S.Statements.orderly g.O.Origin.told g.O.Origin.opening g.O.Origin.faults _ _ (g.L.LineStore.stands c.die.new.store) _ _ _ _ c.args.s.number c.args.at c.take_member-member.result c.args.cause _ _ c.requires.one.first c.requires.at c.requires.going c.take_member-member.ensures.taken (c.requires.lives c.take_member-member.result c.take_member-member.ensures.taken) c.requires.sound (c.requires.mortal c.take_member-member.result c.take_member-member.ensures.taken) (ap faults_in c.requires.going) (ap is_unsound c.requires.going) (ap is_over_slot c.requires.going) c.requires.caused
    (c.die.ensures c.args.self.now.common.word c.args.self.now.common.tree c.take_member-member.result.phase) (c.put_member.ensures ∙ (c.take_member-member.ensures.rest _ ∙ ap (λ (n : Member). slice_set c.args.self.now.members.items c.args.at n) c.with_life.ensures)) c.record_death.ensures.events

pub returns-clause-died : goal.returns-clause-died
returns-clause-died g c = λ m found.
    c.put_member.ensures ∙ ((c.take_member-member.ensures.rest _ ∙ ap (λ (n : Member). slice_set c.args.self.now.members.items c.args.at n) c.with_life.ensures) ∙ ap (λ (n : Member). slice_set c.args.self.now.members.items c.args.at (with_life Dead n)) (same_Some c.take_member-member.result m (sym c.take_member-member.ensures.taken ∙ found)))

pub record_death-requires : goal.record_death-requires
record_death-requires g c = record { room = room-to-die c.args.self.now.members.items c.args.at c.take_member-member.result _ _ c.take_member-member.ensures.taken (c.requires.lives c.take_member-member.result c.take_member-member.ensures.taken) c.requires.kept }

pub returns-clause-kept : goal.returns-clause-kept
returns-clause-kept g c =
    room-dead c.args.self.now.members.items c.put_member.new.members.items c.args.at c.take_member-member.result (with_life Dead c.take_member-member.result) _ _ _ _ c.take_member-member.ensures.taken (c.requires.lives c.take_member-member.result c.take_member-member.ensures.taken) refl
    (c.put_member.ensures ∙ (c.take_member-member.ensures.rest _ ∙ ap (λ (n : Member). slice_set c.args.self.now.members.items c.args.at n) c.with_life.ensures)) c.record_death.ensures.len c.record_death.ensures.capacity c.requires.kept
