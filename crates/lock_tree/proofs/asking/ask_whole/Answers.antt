use Rattle.std.proofs.Common.{◌≡◌, true, refl, sym, ◌∙◌, subst}
use Rattle.vms_queues.specs.declared.lock_mode.Mode.{Mode}
use Rattle.vms_queues.specs.Modes.{at_most}
use Rattle.lock_needs.proofs.ModeTables.{join-left}
use Rattle.lock_tree_laws.specs.LockTable.{granted_at}
use Rattle.lock_tree_laws.proofs.WantAsked.{asked-mode}
use Rattle.lock_tree_laws.proofs.Getting.{whole-quiet, whole-intents, whole-others, whole-answered, whole-refused, whole-raised, whole-exact}
use Rattle.lock_tree_laws.proofs.TakingWhole.{whole-granted}
use Rattle.lock_tree.proofs.asking.ask_whole.Goals as goal

pub ask-answer-requires-clause-quiet : goal.ask-answer-requires-clause-quiet
ask-answer-requires-clause-quiet c =
    whole-quiet c.args.locks.now c.args.locks.now c.args.owner c.requires.kept.0 c.args.want c.join-mode.result (asked-mode _ _ _ _ c.join-mode.result c.granted_of-held.ensures.value refl c.join-mode.ensures.table) c.requires.kept.1

pub returns-clause-got : goal.returns-clause-got
returns-clause-got c = λ g ws k.
    whole-answered c.args.locks.now c.ask-answer.new.locks c.args.owner ws c.args.want c.join-mode.result (asked-mode _ _ _ _ c.join-mode.result c.granted_of-held.ensures.value refl c.join-mode.ensures.table) k c.requires.intents
    c.requires.plain _ c.ask-answer.ensures.answer (sym c.is_granted.ensures ∙ g)

pub returns-clause-taken : goal.returns-clause-taken
returns-clause-taken c = λ g. record {
  live = c.granted_of-held.ensures.live;
  live_after = c.ask-answer.ensures.live;
  exact = whole-exact c.args.locks.now c.ask-answer.new.locks c.args.owner c.args.want c.join-mode.result (asked-mode _ _ _ _ c.join-mode.result c.granted_of-held.ensures.value refl c.join-mode.ensures.table) _ c.ask-answer.ensures.exact (sym c.is_granted.ensures ∙ g);
  raised = whole-raised c.args.locks.now c.ask-answer.new.locks c.args.owner c.requires.kept.0 c.args.want c.join-mode.result (asked-mode _ _ _ _ c.join-mode.result c.granted_of-held.ensures.value refl c.join-mode.ensures.table) c.requires.kept.1
      _ c.ask-answer.ensures.answer (sym c.is_granted.ensures ∙ g);
}

pub returns-clause-left : goal.returns-clause-left
returns-clause-left c = λ g.
    whole-refused c.args.locks.now c.ask-answer.new.locks c.args.owner c.requires.kept.0 c.args.want c.join-mode.result (asked-mode _ _ _ _ c.join-mode.result c.granted_of-held.ensures.value refl c.join-mode.ensures.table) c.requires.kept.1 c.requires.intents
    _ c.ask-answer.ensures.answer (sym c.is_granted.ensures ∙ g)

pub returns-clause-intents : goal.returns-clause-intents
returns-clause-intents c =
    whole-intents c.args.locks.now c.ask-answer.new.locks c.args.owner c.requires.kept.0 c.args.want c.join-mode.result (asked-mode _ _ _ _ c.join-mode.result c.granted_of-held.ensures.value refl c.join-mode.ensures.table) c.requires.kept.1 c.requires.intents
    _ c.ask-answer.ensures.answer

pub returns-clause-others : goal.returns-clause-others
returns-clause-others c =
    whole-others c.args.locks.now c.ask-answer.new.locks c.args.owner c.requires.kept.0 c.args.want c.join-mode.result (asked-mode _ _ _ _ c.join-mode.result c.granted_of-held.ensures.value refl c.join-mode.ensures.table) c.requires.kept.1 c.requires.intents
    _ c.ask-answer.ensures.answer

pub returns-clause-strong : goal.returns-clause-strong
returns-clause-strong c = λ may.
    c.is_granted.ensures
    ∙ whole-granted c.args.locks.now c.ask-answer.new.locks c.args.owner c.args.want c.join-mode.result (asked-mode _ _ _ _ c.join-mode.result c.granted_of-held.ensures.value refl c.join-mode.ensures.table)
    c.granted_of-held.ensures.live may _ c.ask-answer.ensures.exact

pub ask-answer-requires-clause-ascends : goal.ask-answer-requires-clause-ascends
ask-answer-requires-clause-ascends c =
    let held = granted_at c.args.locks.now c.args.owner c.args.want.here in
    subst (λ (m : Mode). at_most held m ≡ true) (sym (asked-mode _ _ _ _ c.join-mode.result c.granted_of-held.ensures.value refl c.join-mode.ensures.table)) (join-left held c.args.want.need.mode)
