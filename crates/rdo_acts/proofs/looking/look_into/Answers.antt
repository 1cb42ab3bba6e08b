use Rattle.std.proofs.Common.{◌≡◌, sym, ap, subst, ◌∙◌, rules}
use Rattle.rdo_values.specs.declared.bound.BoundExpression as tree
use Rattle.rdo_values.specs.declared.bound.BoundInner.{out-BoundInner}
use Rattle.rdo_values.specs.Tree.{Ranging, Conjunction, without_condition, with_condition}
use Rattle.rdo_values.specs.Views.{condition_of}
use Rattle.rdo_select.specs.Chosen.{with_behind}
use Rattle.rdo_select.proofs.Matchings.{HasParts, parts_are, parts_bound}
use Rattle.served_selections.specs.Ranges.{chosen_from, chosen_in_ranging}
use Rattle.index_ahead.specs.Added.{AddsOnly}
use Rattle.rdo_acts.specs.Looking.{IsReadBy}
use Rattle.rdo_acts.proofs.LookedThrough.{if_ok, with_read}
use Rattle.rdo_acts.proofs.looking.look_into.Goals as goal

pub returns-in-Some : goal.returns-in-Some
returns-in-Some c t vs shown bound own =
    let i = c.args.inner.now in
    let sources = c.args.sight.sources.now.entries in
    let ss = c.as_slice-ranges.result.now in
    let k = c.get.result.now in
    let is = c.in-Some.is in
    let old = c.args.keys.now.keys in
    let new = c.look_over.new.keys.keys in
    let behind : with_condition (condition_of c.in-Some.condition) ≡ with_behind (out-BoundInner i).condition = search (rules, tree.the_lemmas) in
    let parts : HasParts i ss (with_condition (condition_of k)) = record { ranges = c.as_slice-ranges.ensures; condition = ap (λ k. with_condition (condition_of k)) c.get.ensures ∙ behind } in
    if_ok c.look_over.result _ _
    (λ added. subst (λ (r : Ranging). AddsOnly (IsReadBy t sources (chosen_in_ranging r vs)) old new) (sym (parts_are i ss (with_condition (condition_of k)) parts))
    (with_read t sources (out-BoundInner i).first ss vs (with_condition (condition_of k)) old new
    (subst (λ (ts : Conjunction). AddsOnly (IsReadBy t sources (chosen_from ss vs ts)) old new) c.sole_tests.ensures added)))
    (c.look_over.ensures t vs shown (parts_bound i ss (with_condition (condition_of k)) t vs parts bound).0 own)

pub returns-in-None : goal.returns-in-None
returns-in-None c t vs shown bound own =
    let i = c.args.inner.now in
    let sources = c.args.sight.sources.now.entries in
    let ss = c.as_slice-ranges.result.now in
    let is = c.in-None.is in
    let old = c.args.keys.now.keys in
    let new = c.look_over-in-None.new.keys.keys in
    let behind : without_condition ≡ with_behind (out-BoundInner i).condition = search (rules, tree.the_lemmas) in
    let parts : HasParts i ss without_condition = record { ranges = c.as_slice-ranges.ensures; condition = behind } in
    if_ok c.look_over-in-None.result _ _
    (λ added. subst (λ (r : Ranging). AddsOnly (IsReadBy t sources (chosen_in_ranging r vs)) old new) (sym (parts_are i ss without_condition parts)) added)
    (c.look_over-in-None.ensures t vs shown (parts_bound i ss without_condition t vs parts bound).0 own)
