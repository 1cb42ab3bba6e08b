use Rattle.std.proofs.Common.{◌+◌, ◌≤◌, ℕ, refl, sym, ◌∙◌, ap, subst, map, drop, length, Result}
use Rattle.std.specs.Prelude.{IfOk}
use Rattle.std.specs.Result.{result_from_control_flow}
use Rattle.rdb_types.specs.declared.memory.NoMemory.{NoMemory}
use Rattle.lock_tree_laws.specs.declared.answer.Want.{Want}
use Rattle.lock_tree_laws.specs.Progress.{MovesOn}
use Rattle.lock_tree_laws.specs.Forest.{asks_of}
use Rattle.lock_tree_laws.specs.Wanted.{trail_of_want}
use Rattle.stage_steps.proofs.Asked.{asked-nodes, few-asked}
use Rattle.stage_steps.proofs.calling.call.Goals as goal

pub asked_behind-nodes-requires : goal.asked_behind-nodes-requires
asked_behind-nodes-requires c =
    record {
      few = subst (λ (k : ℕ). length (asks_of c.want.new.self.trail c.args.s.number) ≤ k + 4) (sym c.count_asked-before.ensures) (few-asked c.args.s.number (trail_of_want c.args.tree.now c.args.s.number) c.want.new.self.trail c.in_ok-answer.ensures.trail.nodes c.in_ok-answer.ensures.trail.added c.in_ok-answer.ensures.few);
    }

pub returns-clause-called : goal.returns-clause-called
returns-clause-called c =
    record {
      call = record { same = c.requires.same; others = c.want.ensures.others; asks = c.in_ok-answer.ensures.trail };
      no_weaker = c.in_ok-answer.ensures.no_weaker;
      progress = λ is. subst (λ (r : Result Want NoMemory). IfOk r (MovesOn c.args.s.number c.args.tree.now c.want.new.self)) (c.branch-answer.ensures ∙ ap result_from_control_flow c.in_ok-answer.is) (c.want.ensures.progress is);
      nodes = sym (c.asked_behind-nodes.ensures ∙ (ap (λ (k : ℕ). map (λ a. a.node) (drop k (asks_of c.want.new.self.trail c.args.s.number))) c.count_asked-before.ensures ∙ asked-nodes c.args.s.number (trail_of_want c.args.tree.now c.args.s.number) c.want.new.self.trail c.in_ok-answer.ensures.trail.nodes c.in_ok-answer.ensures.trail.added));
      need = refl;
      was_whole = c.blocker.ensures.whole;
      whole = c.blocker-2.ensures.whole;
      apart = c.mode_of.ensures.apart;
      by_rule = c.in_ok-answer.ensures.by_rule;
      answered = c.in_ok-answer.ensures.answer;
    }
