use Rattle.std.proofs.Common.{◌≡◌, true, refl, subst}
use Rattle.std.specs.Prelude.{is_some}
use Rattle.std.proofs.lemmas.Bool.{false≢true}
use Rattle.job_steps.specs.session_states.declared.stage.ReaderWork.{ReaderWork}
use Rattle.job_steps.specs.session_states.States.{copies_at}
use Rattle.job_steps.specs.session_stands.Seated.{IsSeated}
use Rattle.job_steps.specs.stage_steps.Turns.{reads_at}
use Rattle.job_steps.proofs.of_session_stands.Seats.{reader-seat}
use Rattle.job_steps.proofs.of_stage_steps.Copied.{copies-seated}
use Rattle.job_steps.specs.session_states.declared.stage.ReaderStage.TheVariants.{Working}
use Rattle.job_steps.specs.stage_steps.Scenes.{scene}
use Rattle.line_arms.proofs.Arms.{quiet-comes, passes}
use Rattle.line_arms.proofs.reading.look.Goals as goal

pub returns-else-allotment-eq0-clause-comes : goal.returns-else-allotment-eq0-clause-comes
returns-else-allotment-eq0-clause-comes g c = rw c.in-Due.is (quiet-comes _ _ _ _ _ _ _ _ c.quiet.ensures.phase c.quiet.ensures.happened (passes _ c.args.s.number (scene c.args.common.now.word (g.L.LineStore.sight c.args.common.now.store) c.args.common.now.tree) _ _ c.hand_out_reading.ensures.passes))

pub returns-then-allotment-eq0-clause-comes : goal.returns-then-allotment-eq0-clause-comes
returns-then-allotment-eq0-clause-comes g c = c.forgo_reading.ensures.forgoes c.args.common.now.word c.args.common.now.tree (Working c.args.item c.args.work) refl

pub forgo_reading-requires-clause-seat : goal.forgo_reading-requires-clause-seat
forgo_reading-requires-clause-seat g c = reader-seat _ (subst (λ (work : ReaderWork). IsSeated (g.L.LineStore.sight c.args.common.now.store).stand c.args.common.now.tree c.args.s.number (reads_at c.args.terms (Working c.args.item work))) c.in-Due.is c.requires.seated).seat

pub compute_reading-requires-clause-seat : goal.compute_reading-requires-clause-seat
compute_reading-requires-clause-seat g c = reader-seat _ (subst (λ (work : ReaderWork). IsSeated (g.L.LineStore.sight c.args.common.now.store).stand c.args.common.now.tree c.args.s.number (reads_at c.args.terms (Working c.args.item work))) c.in-Out.is c.requires.seated).seat

pub go_on_copying-requires-clause-copying : goal.go_on_copying-requires-clause-copying
go_on_copying-requires-clause-copying g c =
    let seated = (subst (λ (work : ReaderWork). IsSeated (g.L.LineStore.sight c.args.common.now.store).stand c.args.common.now.tree c.args.s.number (reads_at c.args.terms (Working c.args.item work))) c.in-Copying.is c.requires.seated) in
    copies-seated _ _ seated.seat seated.statement

pub returns-in-Copying-clause-comes : goal.returns-in-Copying-clause-comes
returns-in-Copying-clause-comes g c = rw c.in-Copying.is (c.go_on_copying.ensures.comes c.args.common.now.word c.args.common.now.tree)

pub returns-in-Copying-clause-rounds : goal.returns-in-Copying-clause-rounds
returns-in-Copying-clause-rounds g c = rw c.in-Copying.is refl

pub returns-in-Copying-clause-backed : goal.returns-in-Copying-clause-backed
returns-in-Copying-clause-backed g c copies = c.go_on_copying.ensures.backed

pub returns-in-Out-clause-backed : goal.returns-in-Out-clause-backed
returns-in-Out-clause-backed g c copies = absurd (false≢true (subst (λ (work : ReaderWork). is_some (copies_at (Working c.args.item work)) ≡ true) c.in-Out.is copies))

pub returns-then-allotment-eq0-clause-backed : goal.returns-then-allotment-eq0-clause-backed
returns-then-allotment-eq0-clause-backed g c copies = absurd (false≢true (subst (λ (work : ReaderWork). is_some (copies_at (Working c.args.item work)) ≡ true) c.in-Due.is copies))

pub returns-else-allotment-eq0-clause-backed : goal.returns-else-allotment-eq0-clause-backed
returns-else-allotment-eq0-clause-backed g c copies = absurd (false≢true (subst (λ (work : ReaderWork). is_some (copies_at (Working c.args.item work)) ≡ true) c.in-Due.is copies))
