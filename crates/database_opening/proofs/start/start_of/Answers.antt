use Rattle.std.proofs.Common.{ℕ, Option, subst}
use Rattle.rdb_outside.specs.Disk.{Pending}
use Rattle.line_opening.specs.stable_lines.Progress.{Open}
use Rattle.line_opening.specs.stable_lines.Facts.{Facts}
use Rattle.line_opening.specs.stable_lines.Opening.{found}
use Rattle.database_opening.proofs.start.start_of.Goals as goal

pub returns-clause-begins : goal.returns-clause-begins
returns-clause-begins g c = let v = g.D.Disk.view c.args.disk.now in λ classes lines journal F. record {
  facts = subst (λ (going : ℕ → Option Open). Facts (Pending v) (found classes lines journal c.args.found.now.root going)) (λ i member. F.done.none member i) F.facts;
  next = F.next;
  closed = F.done.closed;
}
