use Rattle.std.proofs.Common.{rules, arith}
use Rattle.std.proofs.lemmas.Grind.{common_steps}
use Rattle.rdo_grammar.specs.Grammar.{assigns_from, assigns}
use Rattle.rdo_tokens.proofs.Turns.{one_more, no_more}
use Rattle.rdo_grammar.proofs.action.assigns.Goals as goal

pub returns-then-not-sees : goal.returns-then-not-sees
unfolding assigns_from
returns-then-not-sees c =
    let e = one_more (λ n. assigns_from c.args.depth n c.loop-turn.found c.loop-turn.tokens) _ c.loop-turn._turn c.loop-turn-test.true c.loop-turn.invariant in
    first_of (search rules, grind (arith, common_steps))

pub returns-in_err-assign : goal.returns-in_err-assign
unfolding assigns_from
returns-in_err-assign c =
    let e = one_more (λ n. assigns_from c.args.depth n c.loop-turn.found c.loop-turn.tokens) _ c.loop-turn._turn c.loop-turn-test.true c.loop-turn.invariant in
    first_of (search rules, grind (arith, common_steps))

pub loop-turn-preserved : goal.loop-turn-preserved
unfolding assigns_from
loop-turn-preserved c =
    let e = one_more (λ n. assigns_from c.args.depth n c.loop-turn.found c.loop-turn.tokens) _ c.loop-turn._turn c.loop-turn-test.true c.loop-turn.invariant in
    first_of (search rules, grind (arith, common_steps))

pub returns : goal.returns
unfolding assigns_from
returns c =
    let e = no_more (λ n. assigns_from c.args.depth n c.loop-turn.found c.loop-turn.tokens) _ c.loop-turn._turn c.loop-turn-test.false c.loop-turn.invariant in
    first_of (search rules, grind (arith, common_steps))
