use Rattle.std.proofs.Common.{rules, arith}
use Rattle.std.proofs.lemmas.Grind.{common_steps}
use Rattle.rdo_grammar.specs.Grammar.{level_at, products_from, products}
use Rattle.rdo_tokens.proofs.Turns.{one_more, no_more}
use Rattle.rdo_grammar.proofs.expr.Grammar.products.Goals as goal

pub returns-then-not-eat : goal.returns-then-not-eat
unfolding products_from
returns-then-not-eat g c =
    let e = one_more (λ n. products_from (level_at c.args.self.now.depth) c.args.plain n c.loop-turn.found c.loop-turn.tokens) _ c.loop-turn._turn c.loop-turn-test.true c.loop-turn.invariant in
    first_of (search rules, grind (arith, common_steps))

pub returns-in_err-operand : goal.returns-in_err-operand
unfolding products_from
returns-in_err-operand g c =
    let e = one_more (λ n. products_from (level_at c.args.self.now.depth) c.args.plain n c.loop-turn.found c.loop-turn.tokens) _ c.loop-turn._turn c.loop-turn-test.true c.loop-turn.invariant in
    first_of (search rules, grind (arith, common_steps))

pub loop-turn-preserved : goal.loop-turn-preserved
unfolding products_from
loop-turn-preserved g c =
    let e = one_more (λ n. products_from (level_at c.args.self.now.depth) c.args.plain n c.loop-turn.found c.loop-turn.tokens) _ c.loop-turn._turn c.loop-turn-test.true c.loop-turn.invariant in
    first_of (search rules, grind (arith, common_steps))

pub returns : goal.returns
unfolding products_from
returns g c =
    let e = no_more (λ n. products_from (level_at c.args.self.now.depth) c.args.plain n c.loop-turn.found c.loop-turn.tokens) _ c.loop-turn._turn c.loop-turn-test.false c.loop-turn.invariant in
    first_of (search rules, grind (arith, common_steps))
