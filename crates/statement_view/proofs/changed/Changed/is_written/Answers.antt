use Rattle.std.proofs.Common.{sym, ap}
use Rattle.statement_view.proofs.Steps.{is_written_is}
use Rattle.statement_view.proofs.changed.Changed.is_written.Goals as goal

pub returns : goal.returns
returns c = is_written_is c.self.inside.lines.entries c.args.self.now c.args.key c.contains_key.result (ap (λ o. o.lines) (sym c.self.view_is)) c.contains_key.ensures
