use Rattle.std.proofs.Common.{◌≡◌, true, subst}
use Rattle.std.specs.Prelude.{is_some}
use Rattle.std.proofs.lemmas.Bool.{false≢true}
use Rattle.job_steps.specs.session_states.declared.stage.ReaderStage.{ReaderStage}
use Rattle.job_steps.specs.session_states.declared.stage.Phase.TheVariants.{Reading}
use Rattle.job_steps.specs.session_states.States.{copies_at, reader}
use Rattle.job_steps.specs.session_stands.Seated.{IsSeated}
use Rattle.job_steps.proofs.of_session_stands.Seats.{reader-seat}
use Rattle.line_arms.proofs.Arms.{reads-on, reads-between}
use Rattle.job_steps.specs.session_states.declared.stage.Phase.TheVariants.{Reading}
use Rattle.line_arms.proofs.Taken.{takes-none}
use Rattle.line_arms.proofs.reading.go_on_reading.Goals as goal

pub returns-in-Working-clause-goes : goal.returns-in-Working-clause-goes
returns-in-Working-clause-goes g c = λ none. reads-on _ _ _ _ c.args.reader _ _ _ _ c.in-Working.is c.look.ensures.comes

pub returns-in-Working-clause-some : goal.returns-in-Working-clause-some
returns-in-Working-clause-some g c = (c.args.left.now, reads-on _ _ _ _ c.args.reader _ _ _ _ c.in-Working.is c.look.ensures.comes)

pub returns-in-Gathering-clause-goes : goal.returns-in-Gathering-clause-goes
returns-in-Gathering-clause-goes g c = λ none. reads-on _ _ _ _ c.args.reader _ _ _ _ c.in-Gathering.is (c.fetch_reading.ensures c.args.common.now.word c.args.common.now.tree)

pub returns-in-Gathering-clause-some : goal.returns-in-Gathering-clause-some
returns-in-Gathering-clause-some g c = (c.args.left.now, reads-on _ _ _ _ c.args.reader _ _ _ _ c.in-Gathering.is (c.fetch_reading.ensures c.args.common.now.word c.args.common.now.tree))

pub returns-in-Between-clause-goes : goal.returns-in-Between-clause-goes
returns-in-Between-clause-goes g c = λ none. reads-between _ _ _ _ c.args.reader _ _ _ _ _ c.in-Between.is (c.read_next.ensures.goes none)

pub returns-in-Between-clause-some : goal.returns-in-Between-clause-some
returns-in-Between-clause-some g c = (c.read_next.ensures.some.0, reads-between _ _ _ _ c.args.reader _ _ _ _ _ c.in-Between.is c.read_next.ensures.some.1)

pub look-requires-clause-seated : goal.look-requires-clause-seated
look-requires-clause-seated g c =
    let r = c.args.reader in
    subst (λ (stage : ReaderStage). IsSeated (g.L.LineStore.sight c.args.common.now.store).stand c.args.common.now.tree c.args.s.number (Reading (reader r.standing r.known r.spoken stage))) c.in-Working.is c.requires.seated

pub read_next-requires-clause-seated : goal.read_next-requires-clause-seated
read_next-requires-clause-seated g c =
    let r = c.args.reader in
    subst (λ (stage : ReaderStage). IsSeated (g.L.LineStore.sight c.args.common.now.store).stand c.args.common.now.tree c.args.s.number (Reading (reader r.standing r.known r.spoken stage))) c.in-Between.is c.requires.seated

pub fetch_reading-requires-clause-seat : goal.fetch_reading-requires-clause-seat
fetch_reading-requires-clause-seat g c =
    let r = c.args.reader in
    reader-seat _ (subst (λ (stage : ReaderStage). IsSeated (g.L.LineStore.sight c.args.common.now.store).stand c.args.common.now.tree c.args.s.number (Reading (reader r.standing r.known r.spoken stage))) c.in-Gathering.is c.requires.seated).seat

pub returns-in-Working-clause-backed : goal.returns-in-Working-clause-backed
returns-in-Working-clause-backed g c copies = c.look.ensures.backed (subst (λ (stage : ReaderStage). is_some (copies_at stage) ≡ true) c.in-Working.is copies)

pub returns-in-Gathering-clause-backed : goal.returns-in-Gathering-clause-backed
returns-in-Gathering-clause-backed g c copies = absurd (false≢true (subst (λ (stage : ReaderStage). is_some (copies_at stage) ≡ true) c.in-Gathering.is copies))

pub returns-in-Between-clause-backed : goal.returns-in-Between-clause-backed
returns-in-Between-clause-backed g c copies = absurd (false≢true (subst (λ (stage : ReaderStage). is_some (copies_at stage) ≡ true) c.in-Between.is copies))

pub returns-in-Working-clause-one : goal.returns-in-Working-clause-one
returns-in-Working-clause-one g c = takes-none c.args.left.now (Reading c.args.reader)

pub returns-in-Gathering-clause-one : goal.returns-in-Gathering-clause-one
returns-in-Gathering-clause-one g c = takes-none c.args.left.now (Reading c.args.reader)
