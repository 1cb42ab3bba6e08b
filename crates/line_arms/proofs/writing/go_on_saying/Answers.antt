use Rattle.std.proofs.Common.{◌<◌, ◌≤◌, subst}
use Rattle.job_steps.specs.session_states.declared.stage.Laying.TheVariants.{Claiming}
use Rattle.job_steps.specs.stage_steps.Scenes.{scene}
use Rattle.line_arms.proofs.Asked.{laying-asked, within-asked, past-asked}
use Rattle.line_arms.proofs.writing.go_on_saying.Goals as goal

pub want_lock-requires-clause-wants : goal.want_lock-requires-clause-wants
want_lock-requires-clause-wants g c = λ none. within-asked c.args.worked.writes c.in-Claiming.place (subst (λ n. c.in-Claiming.place < n) c.len.ensures c.if-place-len.true) none

pub want_lock-requires-clause-asked : goal.want_lock-requires-clause-asked
want_lock-requires-clause-asked g c = laying-asked c.args.worked.writes (Claiming c.in-Claiming.place)

pub lay-requires-clause-locked : goal.lay-requires-clause-locked
lay-requires-clause-locked g c = past-asked c.args.worked.writes c.in-Claiming.place (subst (λ n. n ≤ c.in-Claiming.place) c.len.ensures c.if-place-len.false)

pub returns-in-Changing : goal.returns-in-Changing
returns-in-Changing g c = rw c.in-Changing.is (c.change.ensures c.args.common.now.word c.args.common.now.tree)

pub returns-then-place-len : goal.returns-then-place-len
returns-then-place-len g c = rw c.in-Claiming.is c.want_lock.ensures

pub returns-else-place-len : goal.returns-else-place-len
returns-else-place-len g c = rw c.in-Claiming.is c.lay.ensures
