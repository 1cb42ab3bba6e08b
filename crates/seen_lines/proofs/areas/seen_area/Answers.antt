use Rattle.std.proofs.Common.{subst}
use Rattle.line_view.specs.Knowledge.{Lines, IsInOrder}
use Rattle.committed_lines.proofs.of_member_steps.Standings.{same_lines}
use Rattle.seen_lines.proofs.areas.seen_area.Goals as goal

pub returns-in-Ok-lay_own-clause-seen : goal.returns-in-Ok-lay_own-clause-seen
returns-in-Ok-lay_own-clause-seen g c = let v = g.D.Disk.view c.args.disk.now in λ t ledger file was are owner were.
    c.in-Ok-lay_own.ensures.laid ledger.base.lines (subst (λ (l : Lines). IsInOrder l) (same_lines v ledger was) was.facts.in_order) (c.in-Ok.ensures.committed t ledger file was are owner were)
