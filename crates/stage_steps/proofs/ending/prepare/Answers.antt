use Rattle.std.proofs.Common.{refl, ◌∙◌, subst, arith}
use Rattle.session_limits.specs.session_states.declared.stage.Life.TheVariants.{Alive}
use Rattle.session_limits.specs.session_states.declared.stage.End.TheVariants.{Preparing}
use Rattle.session_limits.specs.session_states.declared.stage.Stage.TheVariants.{Between, Ending}
use Rattle.line_store.specs.declared.answers.CommitStop.{CommitStop}
use Rattle.line_store.specs.Calls.{MayStopCommit}
use Rattle.session_measure.proofs.Nearer.{nearer-answered}
use Rattle.stage_steps.specs.Turns.{at_stage, shared}
use Rattle.stage_steps.proofs.Goes.{goes, goes-behind-none, comes-as}
use Rattle.stage_steps.proofs.Nearer.{near-in}
use Rattle.stage_steps.proofs.Preparing.{full-step, writes-shown}
use Rattle.stage_steps.proofs.Resting.{as-before}
use Rattle.stage_steps.proofs.Seated.{bare-writing, rests-at}
use Rattle.stage_steps.proofs.ending.prepare.Goals as goal

pub returns-in-Ok : goal.returns-in-Ok
returns-in-Ok g c = c.want_journal.ensures.behind c.args.common.now.store c.requires.idle (writes-shown (g.L.LineStore.sight c.args.common.now.store) (g.L.LineStore.agrees c.args.common.now.store) c.args.s.number (bare-writing _ c.requires.seat)) c.in-Ok.ensures.ok

pub returns-in-Err-NoMemory : goal.returns-in-Err-NoMemory
returns-in-Err-NoMemory g c =
    goes-behind-none c.args.s.number _ _ Alive c.args.common.now.word c.args.common.now.tree _ (g.L.LineStore.sight c.prepare.new.self) _ _ c.in-Err-NoMemory.ensures.err
    (c.forgo.ensures.forgoes c.args.common.now.tree (Ending Preparing) (as-before c.args.common.now.tree) refl refl) (λ left total. near-in _ c.args.s.number _ _ _ _ _ (c.forgo.ensures.nearer _ _ _ left total refl))

pub returns-in-Err-AijFull : goal.returns-in-Err-AijFull
returns-in-Err-AijFull g c =
    comes-as g.S.Statements.stands c.args.s.number _ _ _ _ _ _ _ c.refuse_at_limit.ensures.phase c.refuse_at_limit.ensures.happened
    (goes c.args.s.number (at_stage c.args.terms (Ending Preparing)) Alive (at_stage c.args.terms Between) Alive _ _ _ _ _ (λ e f. rests-at _ _ c.args.s.number _ (e ∙ f.seat) f.wants f.needs tt) (λ u other. refl) (nearer-answered c.args.s.number _ _ _ _ (omega arith))
    (λ h k shown told same dead left total. rw same (full-step g.S.Statements.stands g.met.S.Statements.orderly c.args.s.number (shared c.args.common.now.word h c.args.common.now.tree dead) left total c.args.terms.standing c.args.terms.known c.args.terms.spoken c.args.terms.waits c.in-Err-AijFull.limit (subst (λ (y : CommitStop). MayStopCommit h c.args.s.number y) c.in-Err-AijFull.field-0-is (c.in-Err-AijFull.ensures.cause h shown))))
    c.in-Err-AijFull.ensures.err)
