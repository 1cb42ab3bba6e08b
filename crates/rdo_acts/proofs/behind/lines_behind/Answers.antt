use Rattle.std.proofs.Common.{List, ap, subst}
use Rattle.line_view.specs.declared.need.Need.{Need}
use Rattle.rdo_bind.specs.Acting.{act_of}
use Rattle.index_ahead.specs.Added.{AddsOnly}
use Rattle.rdo_acts.specs.Looking.{IsLineOf}
use Rattle.rdo_acts.proofs.WantedBehind.{lines_wanted}
use Rattle.rdo_acts.proofs.behind.lines_behind.Goals as goal

pub returns-clause-wanted : goal.returns-clause-wanted
returns-clause-wanted c ta shown bound =
    lines_wanted ta c.args.sight.sources.now.entries (act_of c.args.action.now) c.args.first c.in_ok-keys.keys.keys c.add_lines.new.self.needs (c.in_ok-keys.ensures ta shown bound)
    (subst (λ (ns : List Need). AddsOnly (IsLineOf c.in_ok-keys.keys.keys) ns c.add_lines.new.self.needs) (ap (λ b. b.needs) c.new-batch.ensures) c.in_ok-add_lines.ensures.only)
