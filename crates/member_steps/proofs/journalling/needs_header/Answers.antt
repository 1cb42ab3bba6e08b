use Rattle.std.proofs.Common.{rules}
use Rattle.member_steps.proofs.journalling.needs_header.Goals as goal

pub returns-in_err-is_there-clause-bad : goal.returns-in_err-is_there-clause-bad
returns-in_err-is_there-clause-bad g c = λ file slot is t member ledger facts. c.is_named.ensures.bad file slot (search rules) t member ledger facts
