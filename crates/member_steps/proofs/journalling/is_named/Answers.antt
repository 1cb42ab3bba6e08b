use Rattle.std.proofs.Common.{rules, arith}
use Rattle.member_steps.proofs.Journals.{header_there}
use Rattle.member_steps.proofs.journalling.is_named.Goals as goal

pub returns-in_err-number-clause-bad : goal.returns-in_err-number-clause-bad
returns-in_err-number-clause-bad g c = let v = g.D.Disk.view c.args.disk.now in λ file slot is t member ledger was.
    c.named_by.ensures.bad file slot (search rules) t (header_there v ledger (g.met.D.Disk.content_left c.args.disk.now v.moment t (omega arith)) was c.args.member member)
