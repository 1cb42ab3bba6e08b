use Rattle.std.proofs.Common.{Some, sym, subst}
use Rattle.line_view.specs.Held.{knows}
use Rattle.rdo_exec.specs.Lasting.{lasts}
use Rattle.remembered_catalog.specs.Part.{part_knows, IsPartOf}
use Rattle.remembered_catalog.specs.Shown.{Shown}
use Rattle.remembered_catalog.proofs.Parts.{has_catalog}
use Rattle.remembered_catalog.proofs.shown.Shown.work.Goals as goal

pub work-job-requires : goal.work-job-requires
work-job-requires c =
    let known = knows c.args.job.known in
    let part = c.self.inside.part in
    lasts (Some c.self.inside.schema) (part_knows part) known c.self.invariant (has_catalog known part (subst (λ (s : Shown). IsPartOf known s.part) (sym c.self.view_is) c.requires))
