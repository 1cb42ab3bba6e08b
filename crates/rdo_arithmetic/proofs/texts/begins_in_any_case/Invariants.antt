use Rattle.std.proofs.Common.{◌≡◌, drop}
use Rattle.rdo_arithmetic.proofs.Prefixes.{agrees}
use Rattle.rdo_arithmetic.proofs.texts.begins_in_any_case.Given as goal

abbrev pub invariant-loop-at : goal.invariant-loop-at
invariant-loop-at l = agrees l.pattern l.text ≡ agrees (drop l.at l.pattern) (drop l.at l.text)
