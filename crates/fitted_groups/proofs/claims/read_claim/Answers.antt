use Rattle.std.proofs.Common.{◌∙◌, sym, ap}
use Rattle.fitted_groups.specs.Claims.{claim_at}
use Rattle.fitted_groups.proofs.Claiming.{zeros_claim}
use Rattle.fitted_groups.proofs.claims.read_claim.Goals as goal

pub returns-then-slot-end-clause-claim : goal.returns-then-slot-end-clause-claim
returns-then-slot-end-clause-claim g c = λ t ends. zeros_claim c.args.file ∙ ap claim_at (sym (ends c.args.slot c.if-slot-end.true))
