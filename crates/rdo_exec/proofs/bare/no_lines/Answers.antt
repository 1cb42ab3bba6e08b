use Rattle.std.proofs.Common.{[], refl, sym, subst}
use Rattle.line_view.specs.Knowledge.{Agrees}
use Rattle.line_view.specs.Held.{Held, knows}
use Rattle.rdo_exec.proofs.Alone.{nothing_agrees}
use Rattle.rdo_exec.proofs.bare.no_lines.Goals as goal

pub returns : goal.returns
returns c = c.learn_area.ensures.agrees [] refl (subst (λ (h : Held). Agrees (knows h) []) (sym c.new-known.ensures) (nothing_agrees [])) refl
