use Rattle.std.proofs.Common.{[], ◌∷◌}
use Rattle.row_writes.proofs.Shown.{shown_laid, nothing_written}
use Rattle.row_writes.proofs.pairs.put_changed.Goals as goal

pub returns-then-is_shown-clause-laid : goal.returns-then-is_shown-clause-laid
returns-then-is_shown-clause-laid c = λ first stands. shown_laid c.args.view.now c.args.write.now.key c.args.write.now.image first (c.is_shown.ensures c.if-is_shown.true) stands

pub returns-then-is_shown-clause-areas : goal.returns-then-is_shown-clause-areas
returns-then-is_shown-clause-areas c = nothing_written (c.args.write.now.key.area ∷ []) c.args.view.now
