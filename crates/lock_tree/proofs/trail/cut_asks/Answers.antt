use Rattle.std.proofs.Common.{rules, ◌∙◌, ap, List}
use Rattle.std.specs.Prelude.{◌==◌, not, ◌||◌}
use Rattle.std.proofs.lemmas.Fn.{filter_same}
use Rattle.lock_needs.specs.declared.party.Asked.{Asked}
use Rattle.lock_tree_laws.specs.Parties.{was_asked}
use Rattle.lock_tree_laws.specs.Forest.{is_asked_at}
use Rattle.lock_tree_laws.proofs.Trails.{cut-own, cut-others}
use Rattle.lock_tree.proofs.trail.cut_asks.Goals as goal

pub returns-clause-cut : goal.returns-clause-cut
returns-clause-cut c =
    filter_same _ (λ (a : Asked). not (a.owner == c.args.owner) || was_asked c.args.want a.node) _ (λ x b f' k. search rules) _ _ c.retain.ensures.filtered

pub returns-clause-own : goal.returns-clause-own
returns-clause-own c = λ n. ap (λ (t : List Asked). is_asked_at t c.args.owner n) (returns-clause-cut c) ∙ cut-own c.args.owner c.args.want n c.args.trail.now.items

pub returns-clause-others : goal.returns-clause-others
returns-clause-others c = λ u n d. ap (λ (t : List Asked). is_asked_at t u n) (returns-clause-cut c) ∙ cut-others c.args.owner c.args.want c.args.trail.now.items u n d
