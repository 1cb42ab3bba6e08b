use Rattle.std.proofs.Common.{refl, ap, ◌∙◌, [], Ok}
use Rattle.gathering_steps.specs.session_states.declared.stage.Life.TheVariants.{Alive}
use Rattle.gathering_steps.specs.session_states.declared.stage.Gather.TheVariants.{Lodging as LodgingOf}
use Rattle.gathering_steps.specs.session_states.declared.stage.Stage.{Stage}
use Rattle.gathering_steps.specs.session_states.declared.stage.Stage.TheVariants.{Gathering}
use Rattle.gathering_steps.specs.session_states.States.{session}
use Rattle.gathering_steps.proofs.of_session_states.InTurn.{steps-on}
use Rattle.gathering_steps.proofs.of_session_measure.Nearer.{nearer-by-steps}
use Rattle.gathering_steps.specs.stage_steps.Turns.{at_stage, shared}
use Rattle.gathering_steps.proofs.of_stage_steps.Goes.{goes, goes-behind, has-failed, comes-as}
use Rattle.gathering_steps.proofs.of_stage_steps.Nearer.{near-in}
use Rattle.gathering_steps.proofs.of_stage_steps.Resting.{as-before}
use Rattle.gathering_steps.proofs.of_stage_steps.Failing.{plain-shown, writing-plain}
use Rattle.gathering_steps.proofs.of_stage_steps.Seated.{rests-at}
use Rattle.gathering_steps.proofs.of_stage_steps.Read.{was-read, was-more, was-forgone, was-fault, was-failed}
use Rattle.room_steps.proofs.Lodged.{lodging-read}
use Rattle.room_steps.proofs.lodging.lodge.Goals as goal

pub returns-in-Ok-Done : goal.returns-in-Ok-Done
returns-in-Ok-Done g c =
    goes-behind c.args.s.number (at_stage c.args.terms (Gathering c.args.round.item (LodgingOf c.args.given.room c.args.given.key) c.args.round.later c.args.round.place)) (at_stage (record { standing = c.args.terms.standing; known = c.fetch.new.known; spoken = c.args.terms.spoken; waits = c.args.terms.waits }) (Gathering c.args.round.item (LodgingOf c.args.given.room c.args.given.key) c.args.round.later c.args.round.place)) _ Alive c.args.common.now.word c.args.common.now.tree _ (g.L.LineStore.sight c.fetch.new.store) _ _ _ _ _ (λ h. h.seat c.args.s.number)
    (λ e f. rests-at _ _ c.args.s.number _ (e ∙ f.seat) f.wants f.needs f.statement)
    (λ h m r. (was-read c.args.s.number h m _ c.in-Ok-Done.field-0-is r)) (λ h. refl) refl
    (λ h m k shown told r q dead left total. steps-on g.S.Statements.stands g.met.S.Statements.orderly c.args.s.number (shared c.args.common.now.word h c.args.common.now.tree dead) (shared c.args.common.now.word m c.args.common.now.tree dead) _ (session left total (at_stage c.args.terms (Gathering c.args.round.item (LodgingOf c.args.given.room c.args.given.key) c.args.round.later c.args.round.place))) (session left total (at_stage (record { standing = c.args.terms.standing; known = c.fetch.new.known; spoken = c.args.terms.spoken; waits = c.args.terms.waits }) (Gathering c.args.round.item (LodgingOf c.args.given.room c.args.given.key) c.args.round.later c.args.round.place))) _ [] _ refl tt
    (lodging-read g.S.Statements.stands g.met.S.Statements.orderly c.args.s.number (shared c.args.common.now.word h c.args.common.now.tree dead) left total c.args.terms.standing c.args.terms.known c.fetch.new.known c.args.terms.spoken c.args.terms.waits c.args.round.item c.args.given.room c.args.given.key c.args.round.later c.args.round.place m (was-read c.args.s.number h m _ c.in-Ok-Done.field-0-is r) (record { agrees = c.fetch.ensures.agrees h shown; guarded = c.fetch.ensures.guarded }) c.fetch.ensures.more) (q dead left total))
    c.in-Ok-Done.ensures.read c.settle.ensures.comes (λ left total. near-in _ c.args.s.number _ _ _ _ _ (c.settle.ensures.nearer _ _ c.args.terms c.args.given.room c.args.given.key left total))

pub returns-in-Ok-More : goal.returns-in-Ok-More
returns-in-Ok-More g c =
    comes-as g.S.Statements.stands c.args.s.number _ _ _ _ _ _ _ (c.quiet.ensures.phase ∙ c.at-in-Ok-More.ensures ∙ ap (λ (x : Stage). at_stage (record { standing = c.args.terms.standing; known = c.fetch.new.known; spoken = c.args.terms.spoken; waits = c.args.terms.waits }) x) (c.at.ensures ∙ ap (λ y. Gathering c.args.round.item y c.args.round.later c.args.round.place) c.lodging.ensures)) c.quiet.ensures.happened
    (goes c.args.s.number _ Alive _ Alive _ _ _ _ _ (λ e f. rests-at _ _ c.args.s.number _ (e ∙ f.seat) f.wants f.needs f.statement) (λ u other. refl) (nearer-by-steps c.args.s.number _ _ _ _ refl refl refl refl refl refl refl (c.fetch.ensures.less (c.in-Ok-More.is ∙ ap Ok c.in-Ok-More.field-0-is)))
    (λ h k shown told r dead left total. lodging-read g.S.Statements.stands g.met.S.Statements.orderly c.args.s.number (shared c.args.common.now.word h c.args.common.now.tree dead) left total c.args.terms.standing c.args.terms.known c.fetch.new.known c.args.terms.spoken c.args.terms.waits c.args.round.item c.args.given.room c.args.given.key c.args.round.later c.args.round.place k (was-more c.args.s.number h k _ c.in-Ok-More.field-0-is r) (record { agrees = c.fetch.ensures.agrees h shown; guarded = c.fetch.ensures.guarded }) c.fetch.ensures.more)
    c.in-Ok-More.ensures.read)

pub returns-in-Err-NoMemory : goal.returns-in-Err-NoMemory
returns-in-Err-NoMemory g c =
    goes-behind c.args.s.number (at_stage c.args.terms (Gathering c.args.round.item (LodgingOf c.args.given.room c.args.given.key) c.args.round.later c.args.round.place)) (at_stage (record { standing = c.args.terms.standing; known = c.fetch.new.known; spoken = c.args.terms.spoken; waits = c.args.terms.waits }) (Gathering c.args.round.item (LodgingOf c.args.given.room c.args.given.key) c.args.round.later c.args.round.place)) _ Alive c.args.common.now.word c.args.common.now.tree _ (g.L.LineStore.sight c.fetch.new.store) _ _ _ _ _ (λ h. h.seat c.args.s.number)
    (λ e f. rests-at _ _ c.args.s.number _ (e ∙ f.seat) f.wants f.needs f.statement)
    (λ h m r. (was-forgone c.args.s.number h m _ c.in-Err-NoMemory.field-0-is r)) (λ h. refl) refl
    (λ h m k shown told r q dead left total. steps-on g.S.Statements.stands g.met.S.Statements.orderly c.args.s.number (shared c.args.common.now.word h c.args.common.now.tree dead) (shared c.args.common.now.word m c.args.common.now.tree dead) _ (session left total (at_stage c.args.terms (Gathering c.args.round.item (LodgingOf c.args.given.room c.args.given.key) c.args.round.later c.args.round.place))) (session left total (at_stage (record { standing = c.args.terms.standing; known = c.fetch.new.known; spoken = c.args.terms.spoken; waits = c.args.terms.waits }) (Gathering c.args.round.item (LodgingOf c.args.given.room c.args.given.key) c.args.round.later c.args.round.place))) _ [] _ refl tt
    (lodging-read g.S.Statements.stands g.met.S.Statements.orderly c.args.s.number (shared c.args.common.now.word h c.args.common.now.tree dead) left total c.args.terms.standing c.args.terms.known c.fetch.new.known c.args.terms.spoken c.args.terms.waits c.args.round.item c.args.given.room c.args.given.key c.args.round.later c.args.round.place m (was-forgone c.args.s.number h m _ c.in-Err-NoMemory.field-0-is r) (record { agrees = c.fetch.ensures.agrees h shown; guarded = c.fetch.ensures.guarded }) c.fetch.ensures.more) (q dead left total))
    c.in-Err-NoMemory.ensures.read (c.forgo.ensures.forgoes c.args.common.now.tree (Gathering c.args.round.item (LodgingOf c.args.given.room c.args.given.key) c.args.round.later c.args.round.place) (as-before c.args.common.now.tree) refl refl) (λ left total. near-in _ c.args.s.number _ _ _ _ _ (c.forgo.ensures.nearer _ _ _ left total refl))

pub returns-in-Err-Fault : goal.returns-in-Err-Fault
returns-in-Err-Fault g c =
    comes-as g.S.Statements.stands c.args.s.number _ _ _ _ _ _ _ (c.failed.ensures.phase ∙ c.at-in-Err-Fault-2.ensures ∙ ap (λ (x : Stage). at_stage (record { standing = c.args.terms.standing; known = c.fetch.new.known; spoken = c.args.terms.spoken; waits = c.args.terms.waits }) x) (c.at-in-Err-Fault.ensures ∙ ap (λ y. Gathering c.args.round.item y c.args.round.later c.args.round.place) c.lodging-in-Err-Fault.ensures)) c.failed.ensures.happened
    (goes c.args.s.number _ Alive _ Alive _ _ _ _ _ (λ e f. rests-at _ _ c.args.s.number _ (e ∙ f.seat) f.wants f.needs f.statement) (λ u other. refl) (λ left total. has-failed c.args.s.number _ _ c.in-Err-Fault.fault _ _ (λ h k r. was-failed c.args.s.number h k _ c.in-Err-Fault.fault c.in-Err-Fault.field-0-is r) c.in-Err-Fault.ensures.read)
    (λ h k shown told r dead left total. lodging-read g.S.Statements.stands g.met.S.Statements.orderly c.args.s.number (shared c.args.common.now.word h c.args.common.now.tree dead) left total c.args.terms.standing c.args.terms.known c.fetch.new.known c.args.terms.spoken c.args.terms.waits c.args.round.item c.args.given.room c.args.given.key c.args.round.later c.args.round.place k (was-fault c.args.s.number h k _ c.in-Err-Fault.fault (plain-shown c.args.s.number (g.L.LineStore.sight c.args.common.now.store) (g.L.LineStore.agrees c.args.common.now.store) (writing-plain _ c.requires.seat) h shown) c.in-Err-Fault.field-0-is r) (record { agrees = c.fetch.ensures.agrees h shown; guarded = c.fetch.ensures.guarded }) c.fetch.ensures.more)
    c.in-Err-Fault.ensures.read)
