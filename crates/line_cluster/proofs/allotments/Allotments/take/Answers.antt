use Rattle.std.proofs.Common.{◌-◌, ◌∙◌, List, ap, slice_set}
use Rattle.lent_members.specs.line_arms.declared.allotment.Allotment.{Allotment}
use Rattle.lent_members.proofs.Places.{set-set}
use Rattle.line_cluster.proofs.allotments.Allotments.take.Goals as goal

pub returns-clause-rest : goal.returns-clause-rest
returns-clause-rest c a = set-set c.self.inside.each.items (c.args.s.number - 1) c.replace.new.dest a ∙ ap (λ (xs : List Allotment). slice_set xs (c.args.s.number - 1) a) c.self.view_is
