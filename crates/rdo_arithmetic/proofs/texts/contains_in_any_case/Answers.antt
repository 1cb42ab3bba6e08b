use Rattle.std.proofs.Common.{◌∙◌, sym, ap, length, nat_eq, arith}
use Rattle.std.specs.List.{starts_with}
use Rattle.std.specs.Str.{str_to_ascii_uppercase}
use Rattle.std.proofs.lemmas.Slice.{between_to_end}
use Rattle.rdo_arithmetic.proofs.Prefixes.{contains_more}
use Rattle.rdo_arithmetic.proofs.texts.contains_in_any_case.Goals as goal

pub loop-start-preserved : goal.loop-start-preserved
loop-start-preserved c =
    let text = c.args.text.now in
    let rest = between_to_end text c.loop-start.start (length text) (omega arith) in
    c.loop-start.invariant
    ∙ contains_more (str_to_ascii_uppercase c.args.pattern.now) text c.loop-start.start c.loop-start-test.true
    (sym c.if-begins_in_any_case.false ∙ c.begins_in_any_case.ensures ∙ ap (λ part. starts_with nat_eq (str_to_ascii_uppercase part) (str_to_ascii_uppercase c.args.pattern.now)) rest)
