use Rattle.std.proofs.Common.{◌∙◌, sym, inr}
use Rattle.stage_steps.proofs.Tests.{write-some, not-false, not-true}
use Rattle.stage_steps.proofs.saying.has_to_lay.Goals as goal

pub returns-clause-lays : goal.returns-clause-lays
returns-clause-lays c h = (sym c.is_done.ensures ∙ c.if-not-is_done.false, write-some _ (λ e. not-false _ h (c.is_empty.ensures.1 e)))

pub returns-clause-rests : goal.returns-clause-rests
returns-clause-rests c h = inr (c.is_empty.ensures.0 (not-true _ h))
