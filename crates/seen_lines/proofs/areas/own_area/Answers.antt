use Rattle.std.proofs.Common.{◌∙◌, sym, subst}
use Rattle.line_view.specs.Knowledge.{Lines}
use Rattle.seen_lines.specs.Seen.{IsOfArea}
use Rattle.seen_lines.proofs.Gathered.{none_yet}
use Rattle.seen_lines.proofs.areas.own_area.Goals as goal

pub returns-clause-area : goal.returns-clause-area
returns-clause-area c = c.in_ok-lay_own.ensures.area (subst (λ (l : Lines). IsOfArea c.args.area l) (sym c.new-found.ensures) (none_yet c.args.area))

pub returns-clause-seen : goal.returns-clause-seen
returns-clause-seen c = λ committed sorted none. c.in_ok-lay_own.ensures.laid committed sorted (c.new-found.ensures ∙ sym none)
