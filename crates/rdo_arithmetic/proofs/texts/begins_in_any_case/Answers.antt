use Rattle.std.proofs.Common.{sym, ◌∙◌, arith}
use Rattle.rdo_arithmetic.proofs.Prefixes.{begins_not, begins_all}
use Rattle.rdo_arithmetic.proofs.texts.begins_in_any_case.Goals as goal

pub returns-then-to_ascii_uppercase : goal.returns-then-to_ascii_uppercase
returns-then-to_ascii_uppercase c = begins_not c.args.pattern.now c.args.text.now c.loop-at.at c.loop-at.invariant (omega arith) (omega arith) (λ e. c.if-to_ascii_uppercase.true (c.to_ascii_uppercase.ensures.value ∙ sym e ∙ sym c.to_ascii_uppercase-in-loop-at.ensures.value))

pub returns : goal.returns
returns c = begins_all c.args.pattern.now c.args.text.now c.loop-at.at c.loop-at.invariant (omega arith)
