use Rattle.session_limits.specs.session_states.declared.stage.Life.TheVariants.{Alive}
use Rattle.std.proofs.Common.{refl, sym, ◌∙◌, [], ap, Ok}
use Rattle.session_limits.specs.session_states.declared.stage.ReaderStage.{ReaderStage}
use Rattle.session_limits.specs.session_states.declared.stage.ReaderStage.TheVariants.{Gathering}
use Rattle.session_limits.specs.session_states.States.{session}
use Rattle.session_limits.proofs.of_session_states.InTurn.{steps-on}
use Rattle.session_measure.proofs.Nearer.{nearer-by-steps}
use Rattle.stage_steps.specs.Turns.{reads_at, shared}
use Rattle.stage_steps.proofs.Goes.{goes, goes-still, goes-behind, has-failed, comes-as}
use Rattle.stage_steps.proofs.Seated.{reads-on}
use Rattle.stage_steps.proofs.Nearer.{near-in}
use Rattle.stage_steps.proofs.Read.{was-read, was-more, was-forgone, was-fault, was-failed}
use Rattle.stage_steps.proofs.Failing.{plain-shown, reader-plain}
use Rattle.stage_steps.proofs.ReaderRounds.{knowing, names-behind, nearer-behind, passed-behind, plain-behind, read-behind, read-more-of-it}
use Rattle.stage_steps.proofs.reading.fetch_reading.Goals as goal

pub returns-in-Ok-Done : goal.returns-in-Ok-Done
returns-in-Ok-Done g c word locks =
    let round = c.args.round in
    let behind = c.behind-in-Ok-Done in
    comes-as g.S.Statements.stands c.args.s.number _ _ _ _ _ _ _ (c.quiet-in-Ok-Done.ensures.phase ∙ c.at-in-Ok-Done.ensures) c.quiet-in-Ok-Done.ensures.happened
    (goes c.args.s.number _ Alive _ Alive _ _ _ _ _ (λ e f. reads-on _ _ locks c.args.s.number _ _ e (sym (plain-behind round.item round.later round.place behind.result behind.ensures)) (names-behind round.item round.later round.place behind.result behind.ensures) f) (λ u other. refl) (λ left total. nearer-behind round.item round.later round.place behind.result behind.ensures c.args.s.number _ _ c.args.terms (knowing c.args.terms c.fetch.new.known) left total c.args.need)
    (λ h k shown told r dead. read-behind round.item round.later round.place behind.result behind.ensures g.S.Statements.stands g.met.S.Statements.orderly c.args.s.number (shared word h locks dead) c.args.terms c.args.need k c.fetch.new.known (was-read c.args.s.number h k _ c.in-Ok-Done.field-0-is r) (c.fetch.ensures.agrees h shown))
    c.in-Ok-Done.ensures.read)

pub returns-in-Ok-More : goal.returns-in-Ok-More
returns-in-Ok-More g c word locks =
    let round = c.args.round in
    comes-as g.S.Statements.stands c.args.s.number _ _ _ _ _ _ _ (c.quiet-in-Ok-More.ensures.phase ∙ c.at-in-Ok-More-2.ensures ∙ ap (λ (x : ReaderStage). reads_at (knowing c.args.terms c.fetch.new.known) x) c.at-in-Ok-More.ensures) c.quiet-in-Ok-More.ensures.happened
    (goes c.args.s.number _ Alive _ Alive _ _ _ _ _ (λ e f. reads-on _ _ locks c.args.s.number _ _ e refl tt f) (λ u other. refl) (nearer-by-steps c.args.s.number _ _ _ _ refl refl refl refl refl refl refl (c.fetch.ensures.less (c.in-Ok-More.is ∙ ap Ok c.in-Ok-More.field-0-is)))
    (λ h k shown told r dead. read-more-of-it g.S.Statements.stands g.met.S.Statements.orderly c.args.s.number (shared word h locks dead) c.args.terms round.item c.args.need round.later round.place k c.fetch.new.known (was-more c.args.s.number h k _ c.in-Ok-More.field-0-is r) (c.fetch.ensures.agrees h shown))
    c.in-Ok-More.ensures.read)

pub returns-in-Err-NoMemory : goal.returns-in-Err-NoMemory
returns-in-Err-NoMemory g c word locks =
    let round = c.args.round in
    let stage = Gathering round.item c.args.need round.later round.place in
    let x = reads_at c.args.terms stage in
    let y = reads_at (knowing c.args.terms c.fetch.new.known) stage in
    goes-behind c.args.s.number x y _ Alive word locks _ (g.L.LineStore.sight c.fetch.new.store) _ _ _ _ _ (λ h. h.seat c.args.s.number)
    (λ e f. reads-on _ _ locks c.args.s.number _ _ e refl tt f)
    (λ h m r. was-forgone c.args.s.number h m _ c.in-Err-NoMemory.field-0-is r) (λ h. refl) refl
    (λ h m k shown told r q dead left total. steps-on g.S.Statements.stands g.met.S.Statements.orderly c.args.s.number (shared word h locks dead) (shared word m locks dead) _ (session left total x) (session left total y) _ [] _ refl tt
    (read-more-of-it g.S.Statements.stands g.met.S.Statements.orderly c.args.s.number (shared word h locks dead) c.args.terms round.item c.args.need round.later round.place m c.fetch.new.known (was-forgone c.args.s.number h m _ c.in-Err-NoMemory.field-0-is r) (c.fetch.ensures.agrees h shown) left total) (q dead left total))
    c.in-Err-NoMemory.ensures.read (c.forgo_reading.ensures.forgoes word locks stage refl)
    (λ left total. near-in _ c.args.s.number _ _ _ _ _ (c.forgo_reading.ensures.nearer _ _ _ left total refl))

pub returns-in-Err-Fault : goal.returns-in-Err-Fault
returns-in-Err-Fault g c word locks =
    let round = c.args.round in
    comes-as g.S.Statements.stands c.args.s.number _ _ _ _ _ _ _ (c.failed.ensures.phase ∙ c.at-in-Err-Fault-2.ensures ∙ ap (λ (x : ReaderStage). reads_at (knowing c.args.terms c.fetch.new.known) x) c.at-in-Err-Fault.ensures) c.failed.ensures.happened
    (goes c.args.s.number _ Alive _ Alive _ _ _ _ _ (λ e f. reads-on _ _ locks c.args.s.number _ _ e refl tt f) (λ u other. refl) (λ left total. has-failed c.args.s.number _ _ c.in-Err-Fault.fault _ _ (λ h k r. was-failed c.args.s.number h k _ c.in-Err-Fault.fault c.in-Err-Fault.field-0-is r) c.in-Err-Fault.ensures.read)
    (λ h k shown told r dead. read-more-of-it g.S.Statements.stands g.met.S.Statements.orderly c.args.s.number (shared word h locks dead) c.args.terms round.item c.args.need round.later round.place k c.fetch.new.known (was-fault c.args.s.number h k _ c.in-Err-Fault.fault (plain-shown c.args.s.number (g.L.LineStore.sight c.args.store.now) (g.L.LineStore.agrees c.args.store.now) (reader-plain _ c.requires.seat) h shown) c.in-Err-Fault.field-0-is r) (c.fetch.ensures.agrees h shown))
    c.in-Err-Fault.ensures.read)

pub returns-in-Room : goal.returns-in-Room
returns-in-Room g c word locks =
    let round = c.args.round in
    let behind = c.behind in
    comes-as g.S.Statements.stands c.args.s.number _ _ _ _ _ _ _ (c.quiet.ensures.phase ∙ c.at.ensures) c.quiet.ensures.happened
    (goes-still c.args.s.number _ Alive _ Alive _ _ _ refl (λ f. reads-on _ _ locks c.args.s.number _ _ refl (sym (plain-behind round.item round.later round.place behind.result behind.ensures)) (names-behind round.item round.later round.place behind.result behind.ensures) f) (λ u other. refl) (λ left total. nearer-behind round.item round.later round.place behind.result behind.ensures c.args.s.number _ _ c.args.terms c.args.terms left total c.args.need)
    (λ h shown dead. passed-behind round.item round.later round.place behind.result behind.ensures g.S.Statements.stands g.met.S.Statements.orderly c.args.s.number (shared word h locks dead) c.args.terms c.args.need))
