use Rattle.std.proofs.Common.{◌∙◌}
use Rattle.line_opening.proofs.Counted.{if_ok}
use Rattle.rmu_verify.proofs.lines.check_lines.Goals as goal

pub returns-clause-checked : goal.returns-clause-checked
returns-clause-checked c = if_ok _ _ c.check_catalog.result (λ checked is all sorted are. is all sorted (c.in_ok-images.ensures ∙ are)) c.check_catalog.ensures.checked
