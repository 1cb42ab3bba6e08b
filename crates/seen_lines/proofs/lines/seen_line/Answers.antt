use Rattle.std.proofs.Common.{◌∙◌, ap, sym}
use Rattle.std.specs.Option.{option_copied}
use Rattle.line_seat.proofs.CommitSteps.{if_ok}
use Rattle.seen_lines.proofs.Own.{own_seen, other_seen}
use Rattle.seen_lines.proofs.lines.seen_line.Goals as goal

pub returns-in-Some-clause-seen : goal.returns-in-Some-clause-seen
returns-in-Some-clause-seen g c = λ t ledger was are.
    c.shown.ensures ∙ own_seen c.args.key c.args.own.now ledger.base.lines c.in-Some.line.now c.line.ensures.ordered (sym c.line.ensures.found ∙ ap option_copied c.in-Some.is)

pub returns-in-None-clause-seen : goal.returns-in-None-clause-seen
returns-in-None-clause-seen g c = if_ok _ _ c.committed_line.result
    (λ image on t ledger was are. on t ledger was are ∙ other_seen c.args.key c.args.own.now ledger.base.lines c.line.ensures.ordered (sym c.line.ensures.found ∙ ap option_copied c.in-None.is))
    c.committed_line.ensures.committed
