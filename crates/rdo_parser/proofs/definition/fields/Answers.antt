use Rattle.std.proofs.Common.{rules, arith}
use Rattle.std.proofs.lemmas.Grind.{common_steps}
use Rattle.rdo_parser.specs.Statements.{fields_from, fields}
use Rattle.rdo_tokens.proofs.Turns.{one_more, no_more}
use Rattle.rdo_parser.proofs.definition.fields.Goals as goal

pub returns-then-not-sees : goal.returns-then-not-sees
unfolding fields_from
returns-then-not-sees c =
    let e = one_more (λ n. fields_from n c.loop-turn.found c.loop-turn.tokens) _ c.loop-turn._turn c.loop-turn-test.true c.loop-turn.invariant in
    first_of (search rules, grind (arith, common_steps))

pub returns-in_err-pointed_field-2 : goal.returns-in_err-pointed_field-2
unfolding fields_from
returns-in_err-pointed_field-2 c =
    let e = one_more (λ n. fields_from n c.loop-turn.found c.loop-turn.tokens) _ c.loop-turn._turn c.loop-turn-test.true c.loop-turn.invariant in
    first_of (search rules, grind (arith, common_steps))

pub loop-turn-preserved : goal.loop-turn-preserved
unfolding fields_from
loop-turn-preserved c =
    let e = one_more (λ n. fields_from n c.loop-turn.found c.loop-turn.tokens) _ c.loop-turn._turn c.loop-turn-test.true c.loop-turn.invariant in
    first_of (search rules, grind (arith, common_steps))

pub returns : goal.returns
unfolding fields_from
returns c =
    let e = no_more (λ n. fields_from n c.loop-turn.found c.loop-turn.tokens) _ c.loop-turn._turn c.loop-turn-test.false c.loop-turn.invariant in
    first_of (search rules, grind (arith, common_steps))
