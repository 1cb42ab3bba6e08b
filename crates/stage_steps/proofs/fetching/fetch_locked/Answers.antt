use Rattle.session_limits.specs.session_states.declared.stage.Life.TheVariants.{Alive}
use Rattle.std.proofs.Common.{refl, ◌∙◌, [], arith, ap, Ok}
use Rattle.session_limits.specs.session_states.declared.stage.Work.TheVariants.{Fetching}
use Rattle.session_limits.specs.session_states.declared.stage.Stage.TheVariants.{Working}
use Rattle.session_limits.specs.session_states.States.{session}
use Rattle.session_limits.proofs.of_session_states.InTurn.{steps-on}
use Rattle.session_limits.proofs.of_session_states.Resting.{rests-by}
use Rattle.session_measure.proofs.Nearer.{nearer-in-round, nearer-by-steps}
use Rattle.stage_steps.specs.Turns.{at_stage, shared}
use Rattle.stage_steps.proofs.Failing.{plain-shown, writing-plain}
use Rattle.stage_steps.proofs.Goes.{goes, goes-still, goes-behind, has-failed, comes-as}
use Rattle.stage_steps.proofs.Resting.{as-before}
use Rattle.stage_steps.proofs.Seated.{rests-at}
use Rattle.stage_steps.proofs.Nearer.{near-in}
use Rattle.stage_steps.proofs.Read.{was-read, was-more, was-forgone, was-fault, was-failed}
use Rattle.stage_steps.proofs.Fetched.{read-on, read-up}
use Rattle.stage_steps.proofs.fetching.fetch_locked.Goals as goal

pub returns-in-Ok-Done : goal.returns-in-Ok-Done
returns-in-Ok-Done g c =
    comes-as g.S.Statements.stands c.args.s.number _ _ _ _ _ _ _ (c.quiet-in-Ok-Done.ensures.phase ∙ c.at-in-Ok-Done.ensures) c.quiet-in-Ok-Done.ensures.happened
    (goes c.args.s.number _ Alive _ Alive _ _ _ _ _ (λ e f. rests-at _ _ c.args.s.number _ (e ∙ f.seat) f.wants f.needs f.statement) (λ u other. refl) (nearer-in-round c.args.s.number _ _ _ _ refl refl refl refl (omega arith))
    (λ h k shown told r dead. read-up g.S.Statements.stands g.met.S.Statements.orderly c.args.s.number (shared c.args.common.now.word h c.args.common.now.tree dead) k c.args.terms.standing c.args.terms.known c.fetch.new.known c.args.item c.args.need (was-read c.args.s.number h k _ c.in-Ok-Done.field-0-is r) (c.fetch.ensures.agrees h shown) c.args.terms.spoken c.args.terms.waits (c.fetch.ensures.guarded))
    c.in-Ok-Done.ensures.read)

pub returns-in-Ok-More : goal.returns-in-Ok-More
returns-in-Ok-More g c =
    comes-as g.S.Statements.stands c.args.s.number _ _ _ _ _ _ _ (c.quiet-in-Ok-More.ensures.phase ∙ c.at-in-Ok-More.ensures) c.quiet-in-Ok-More.ensures.happened
    (goes c.args.s.number _ Alive _ Alive _ _ _ _ _ (λ e f. rests-at _ _ c.args.s.number _ (e ∙ f.seat) f.wants f.needs f.statement) (λ u other. refl) (nearer-by-steps c.args.s.number _ _ _ _ refl refl refl refl refl refl refl (c.fetch.ensures.less (c.in-Ok-More.is ∙ ap Ok c.in-Ok-More.field-0-is)))
    (λ h k shown told r dead. read-on g.S.Statements.stands g.met.S.Statements.orderly c.args.s.number (shared c.args.common.now.word h c.args.common.now.tree dead) k c.args.terms.standing c.args.terms.known c.fetch.new.known c.args.item c.args.need (was-more c.args.s.number h k _ c.in-Ok-More.field-0-is r) (c.fetch.ensures.agrees h shown) c.args.terms.spoken c.args.terms.waits (c.fetch.ensures.guarded))
    c.in-Ok-More.ensures.read)

pub returns-in-Err-NoMemory : goal.returns-in-Err-NoMemory
returns-in-Err-NoMemory g c =
    let y = at_stage (record { standing = c.args.terms.standing; known = c.fetch.new.known; spoken = c.args.terms.spoken; waits = c.args.terms.waits }) (Working c.args.item (Fetching c.args.need)) in
    goes-behind c.args.s.number (at_stage c.args.terms (Working c.args.item (Fetching c.args.need))) y _ Alive c.args.common.now.word c.args.common.now.tree _ (g.L.LineStore.sight c.fetch.new.store) _ _ _ _ _ (λ h. h.seat c.args.s.number)
    (λ e f. rests-at _ _ c.args.s.number _ (e ∙ f.seat) f.wants f.needs f.statement)
    (λ h m r. was-forgone c.args.s.number h m _ c.in-Err-NoMemory.field-0-is r) (λ h. refl) refl
    (λ h m k shown told r q dead left total. steps-on g.S.Statements.stands g.met.S.Statements.orderly c.args.s.number (shared c.args.common.now.word h c.args.common.now.tree dead) (shared c.args.common.now.word m c.args.common.now.tree dead) _ (session left total (at_stage c.args.terms (Working c.args.item (Fetching c.args.need)))) (session left total y) _ [] _ refl tt
    (read-on g.S.Statements.stands g.met.S.Statements.orderly c.args.s.number (shared c.args.common.now.word h c.args.common.now.tree dead) m c.args.terms.standing c.args.terms.known c.fetch.new.known c.args.item c.args.need (was-forgone c.args.s.number h m _ c.in-Err-NoMemory.field-0-is r) (c.fetch.ensures.agrees h shown) c.args.terms.spoken c.args.terms.waits (c.fetch.ensures.guarded) left total) (q dead left total))
    c.in-Err-NoMemory.ensures.read (c.forgo.ensures.forgoes c.args.common.now.tree (Working c.args.item (Fetching c.args.need)) (as-before c.args.common.now.tree) refl refl)
    (λ left total. near-in _ c.args.s.number _ _ _ _ _ (c.forgo.ensures.nearer _ _ _ left total refl))

pub returns-in-Err-Fault : goal.returns-in-Err-Fault
returns-in-Err-Fault g c =
    comes-as g.S.Statements.stands c.args.s.number _ _ _ _ _ _ _ (c.failed.ensures.phase ∙ c.at-in-Err-Fault.ensures) c.failed.ensures.happened
    (goes c.args.s.number _ Alive _ Alive _ _ _ _ _ (λ e f. rests-at _ _ c.args.s.number _ (e ∙ f.seat) f.wants f.needs f.statement) (λ u other. refl) (λ left total. has-failed c.args.s.number _ _ c.in-Err-Fault.fault _ _ (λ h k r. was-failed c.args.s.number h k _ c.in-Err-Fault.fault c.in-Err-Fault.field-0-is r) c.in-Err-Fault.ensures.read)
    (λ h k shown told r dead. read-on g.S.Statements.stands g.met.S.Statements.orderly c.args.s.number (shared c.args.common.now.word h c.args.common.now.tree dead) k c.args.terms.standing c.args.terms.known c.fetch.new.known c.args.item c.args.need (was-fault c.args.s.number h k _ c.in-Err-Fault.fault (plain-shown c.args.s.number (g.L.LineStore.sight c.args.common.now.store) (g.L.LineStore.agrees c.args.common.now.store) (writing-plain _ c.requires.seat) h shown) c.in-Err-Fault.field-0-is r) (c.fetch.ensures.agrees h shown) c.args.terms.spoken c.args.terms.waits (c.fetch.ensures.guarded))
    c.in-Err-Fault.ensures.read)

pub returns-in-Room : goal.returns-in-Room
returns-in-Room g c =
    comes-as g.S.Statements.stands c.args.s.number _ _ _ _ _ _ _ (c.quiet.ensures.phase ∙ c.at.ensures) c.quiet.ensures.happened
    (goes-still c.args.s.number _ Alive _ Alive _ _ _ refl (λ f. rests-at _ _ c.args.s.number _ f.seat f.wants f.needs f.statement) (λ u other. refl) (nearer-in-round c.args.s.number _ _ _ _ refl refl refl refl (omega arith))
    (λ h shown dead left total. rests-by g.S.Statements.stands g.met.S.Statements.orderly c.args.s.number (shared c.args.common.now.word h c.args.common.now.tree dead) left total _ _ refl
    (λ o p g1 f. record { desk = f.fits.phase.desk; spoken = f.fits.phase.spoken; waits = f.fits.phase.waits; stage = (f.fits.phase.stage.0, tt); wants = f.fits.phase.wants; journal = f.fits.phase.journal; ends = tt; claims = tt })))
