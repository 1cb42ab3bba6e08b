use Rattle.std.proofs.Common.{subst}
use Rattle.vms_queues.specs.declared.lock_mode.Mode.{Mode}
use Rattle.vms_locks.specs.Answers.{Answers}
use Rattle.lock_tree_laws.specs.Asking.{AnswersAt, request_at}
use Rattle.lock_tree_laws.proofs.WantAsked.{want-quiet, want-answered, answer-intents, answer-others, asked-mode}
use Rattle.lock_tree.proofs.asking.ask_here.Goals as goal

pub ask-requires-clause-quiet : goal.ask-requires-clause-quiet
ask-requires-clause-quiet c =
    let mode = c.join.result in
    want-quiet c.args.locks.now c.args.locks.now c.args.owner c.args.needs.now c.args.want mode (asked-mode _ _ _ _ mode c.granted_of-held.ensures.value c.mode_for.ensures c.join.ensures.table) c.requires.kept c.requires.least

pub returns-clause-answer : goal.returns-clause-answer
returns-clause-answer c =
    let mode = c.join.result in
    want-answered c.args.locks.now c.ask.new.locks c.args.owner c.args.needs.now c.args.want mode (asked-mode _ _ _ _ mode c.granted_of-held.ensures.value c.mode_for.ensures c.join.ensures.table) c.requires.kept c.requires.least c.requires.intents c.args.wait c.ask.result c.ask.ensures.answer

pub returns-clause-intents : goal.returns-clause-intents
returns-clause-intents c =
    let mode = c.join.result in
    answer-intents c.args.locks.now c.ask.new.locks c.args.owner c.args.needs.now c.args.want mode (asked-mode _ _ _ _ mode c.granted_of-held.ensures.value c.mode_for.ensures c.join.ensures.table) c.requires.kept c.requires.least c.requires.intents c.args.wait c.ask.result c.ask.ensures.answer

pub returns-clause-others : goal.returns-clause-others
returns-clause-others c =
    let mode = c.join.result in
    answer-others c.args.locks.now c.ask.new.locks c.args.owner c.args.needs.now c.args.want mode (asked-mode _ _ _ _ mode c.granted_of-held.ensures.value c.mode_for.ensures c.join.ensures.table) c.requires.kept c.requires.least c.requires.intents c.args.wait c.ask.result c.ask.ensures.answer

pub returns-clause-exact : goal.returns-clause-exact
returns-clause-exact c =
    subst (λ (m : Mode). Answers c.args.locks.now c.ask.new.locks c.args.owner c.args.want.here c.args.wait (request_at c.args.locks.now c.args.owner c.args.want.here m) c.ask.result)
    (asked-mode _ _ _ _ c.join.result c.granted_of-held.ensures.value c.mode_for.ensures c.join.ensures.table) c.ask.ensures.exact

pub returns-clause-left : goal.returns-clause-left
returns-clause-left c =
    subst (λ (m : Mode). AnswersAt c.args.locks.now c.ask.new.locks c.args.owner c.args.want.here m c.args.wait c.ask.result)
    (asked-mode _ _ _ _ c.join.result c.granted_of-held.ensures.value c.mode_for.ensures c.join.ensures.table) c.ask.ensures.answer
