use Rattle.std.proofs.Common.{rules, ◌<◌, arith}
use Rattle.database_opening.proofs.Nearer.{nearer_member, nearer_restoring}
use Rattle.database_opening.proofs.steps.behind.Goals as goal

pub returns-then-member-ge16-clause-nearer : goal.returns-then-member-ge16-clause-nearer
returns-then-member-ge16-clause-nearer c = λ entries. nearer_restoring c.args.counts.now c.args.member entries

pub returns-clause-stage : goal.returns-clause-stage
returns-clause-stage c = let less : c.args.member < 16 = search rules in record { first = omega arith; last = omega (arith, less) }

pub returns-clause-nearer : goal.returns-clause-nearer
returns-clause-nearer c = λ entries. nearer_member c.args.counts.now c.args.member entries (search rules) (search rules)
