use Rattle.std.proofs.Common.{rules, sym}
use Rattle.statement_view.proofs.Keeping.{zipped_by}
use Rattle.statement_view.proofs.changed.copied_keys.Goals as goal

pub returns : goal.returns
returns c = zipped_by _ (λ x y r. sym (search (rules, r))) _ _ c.in_ok-copy.ensures.cases
