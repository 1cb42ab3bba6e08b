use Rattle.std.proofs.Common.{Bool, cond, map, sym, ap, ◌∙◌}
use Rattle.access_paths.specs.declared.choice.Access.TheVariants.{Scan}
use Rattle.access_paths.specs.Choice.{choice}
use Rattle.rdo_values.specs.Views.{testing_of, conjunction_with}
use Rattle.rdo_acts.proofs.LookedThrough.{if_given}
use Rattle.rdo_acts.proofs.looking.access_by.Goals as goal

pub returns-then-reads_once : goal.returns-then-reads_once
returns-then-reads_once c =
    sym (ap (λ (b : Bool). cond b Scan (choice c.args.source.now.indexes.now c.args.before.now (conjunction_with (map testing_of c.args.tests.now)))) (sym c.reads_once.ensures ∙ c.if-reads_once.true))

pub returns : goal.returns
returns c =
    if_given c.choose.result _ _
    (λ access is. is ∙ sym (ap (λ (b : Bool). cond b Scan (choice c.args.source.now.indexes.now c.args.before.now (conjunction_with (map testing_of c.args.tests.now)))) (sym c.reads_once.ensures ∙ c.if-reads_once.false)))
    c.choose.ensures
