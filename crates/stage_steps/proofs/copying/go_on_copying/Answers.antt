use Rattle.std.proofs.Common.{◌∙◌, refl, sym, ap, Ok, Option, arith}
use Rattle.std.specs.Prelude.{is_some}
use Rattle.line_store.specs.Seats.{outside}
use Rattle.line_store.proofs.InTurn.{moves-in-turn}
use Rattle.session_limits.specs.session_states.declared.stage.Life.TheVariants.{Alive}
use Rattle.session_limits.specs.session_states.declared.stage.ReaderWork.TheVariants.{Copying}
use Rattle.session_limits.specs.session_states.declared.stage.ReaderStage.TheVariants.{Working}
use Rattle.session_limits.proofs.of_session_states.Copying.{copied-on}
use Rattle.session_measure.proofs.Nearer.{nearer-answered}
use Rattle.session_stands.proofs.Seats.{reader-seat}
use Rattle.stage_steps.specs.Turns.{reads_at, shared}
use Rattle.stage_steps.proofs.Copied.{backs-behind, copies-done, copies-on, copies-plain, does-out}
use Rattle.stage_steps.proofs.Goes.{goes, comes-as}
use Rattle.stage_steps.proofs.Seated.{reads-out}
use Rattle.stage_steps.proofs.Stored.{when-done, when-more, on-more, on-fault}
use Rattle.stage_steps.proofs.copying.go_on_copying.Goals as goal

pub work_on-requires-clause-under_way : goal.work_on-requires-clause-under_way
work_on-requires-clause-under_way g c = copies-on _ c.requires.copying

pub work_on-requires-clause-plain : goal.work_on-requires-clause-plain
work_on-requires-clause-plain g c = copies-plain _ c.requires.copying

pub end_reading-requires-clause-reader : goal.end_reading-requires-clause-reader
end_reading-requires-clause-reader g c =
    reader-seat _ ((when-done c.args.s.number ((g.L.LineStore.sight c.args.store.now).stand c.args.s.number) _ _ _ c.in-Ok-Done.field-0-is c.in-Ok-Done.ensures.does).mine ∙ copies-done _ c.requires.copying)

pub returns-in-Ok-Done-clause-comes : goal.returns-in-Ok-Done-clause-comes
returns-in-Ok-Done-clause-comes g c word locks =
    let first = when-done c.args.s.number ((g.L.LineStore.sight c.args.store.now).stand c.args.s.number) _ _ _ c.in-Ok-Done.field-0-is c.in-Ok-Done.ensures.does in
    goes c.args.s.number _ Alive _ Alive _ _ _ _ _ (λ e f. reads-out _ _ locks c.args.s.number _ e f) (λ u other. refl) (nearer-answered c.args.s.number _ _ _ _ (omega arith))
    (λ h k shown told r dead left total. rw (c.moment-moment.ensures k told) (copied-on g.S.Statements.stands g.met.S.Statements.orderly c.args.s.number (shared word h locks dead) k left total c.args.terms.standing c.args.terms.known c.args.terms.spoken c.args.item r))
    (does-out c.args.s.number _ _ _ first c.end_reading.ensures.does)

pub returns-in-Ok-Done-clause-backed : goal.returns-in-Ok-Done-clause-backed
returns-in-Ok-Done-clause-backed g c =
    backs-behind c.args.s.number _ _ _ _ _ _ c.in-Ok-Done.ensures.does (c.work_on.ensures.backed (c.in-Ok-Done.is ∙ ap Ok c.in-Ok-Done.field-0-is)) c.end_reading.ensures.does c.moment-moment.ensures

pub returns-in-Ok-More-clause-comes : goal.returns-in-Ok-More-clause-comes
returns-in-Ok-More-clause-comes g c word locks =
    comes-as g.S.Statements.stands c.args.s.number _ _ _ _ _ _ _ (c.quiet.ensures.phase ∙ c.at.ensures) c.quiet.ensures.happened
    (on-more g.S.Statements.stands g.met.S.Statements.orderly c.args.s.number word locks _ _ (reads_at c.args.terms (Working c.args.item Copying)) refl refl (c.work_on.ensures.less (c.in-Ok-More.is ∙ ap Ok c.in-Ok-More.field-0-is)) (when-more c.args.s.number _ _ _ _ c.in-Ok-More.field-0-is c.in-Ok-More.ensures.does))

pub returns-in-Ok-More-clause-backed : goal.returns-in-Ok-More-clause-backed
returns-in-Ok-More-clause-backed g c = rw c.quiet.ensures.happened tt

pub returns-in-Err-clause-comes : goal.returns-in-Err-clause-comes
returns-in-Err-clause-comes g c word locks =
    comes-as g.S.Statements.stands c.args.s.number _ _ _ _ _ _ _ (c.failed.ensures.phase ∙ c.at-in-Err.ensures) c.failed.ensures.happened
    (on-fault g.S.Statements.stands g.met.S.Statements.orderly c.args.s.number word locks _ _ (reads_at c.args.terms (Working c.args.item Copying)) (g.L.LineStore.agrees c.args.store.now) (copies-plain _ c.requires.copying) c.in-Err.fault c.in-Err.ensures.does)

pub returns-in-Err-clause-backed : goal.returns-in-Err-clause-backed
returns-in-Err-clause-backed g c = rw c.failed.ensures.happened tt
