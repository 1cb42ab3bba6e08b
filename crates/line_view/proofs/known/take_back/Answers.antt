use Rattle.std.proofs.Common.{◌∙◌}
use Rattle.line_view.proofs.Steps.{laid_back, removed_back}
use Rattle.line_view.proofs.known.take_back.Goals as goal

pub returns-in-Some : goal.returns-in-Some
returns-in-Some c = λ lines image sorted found laid.
    laid_back c.insert-laid.result lines c.args.lines.now.entries c.insert-laid.new.self.entries c.args.key image c.in-Some.image c.insert-laid.ensures.entries c.insert-laid.ensures.absent sorted (found ∙ c.in-Some.is) laid

pub returns-in-None : goal.returns-in-None
returns-in-None c = λ lines image sorted found laid.
    removed_back lines c.args.lines.now.entries c.remove-laid.new.self.entries c.args.key image c.remove-laid.ensures.entries (found ∙ c.in-None.is) laid
