use Rattle.std.proofs.Common.{rules, arith}
use Rattle.std.proofs.lemmas.Grind.{common_steps}
use Rattle.rdo_grammar.specs.Grammar.{level_at, sums_from, sums}
use Rattle.rdo_tokens.proofs.Turns.{one_more, no_more}
use Rattle.rdo_grammar.proofs.expr.Grammar.sums.Goals as goal

pub returns-in_err-signed_term : goal.returns-in_err-signed_term
unfolding sums_from
returns-in_err-signed_term g c =
    let e = one_more (λ n. sums_from (level_at c.args.self.now.depth) c.args.plain n c.loop-turn.found c.loop-turn.tokens) _ c.loop-turn._turn c.loop-turn-test.true c.loop-turn.invariant in
    first_of (search rules, grind (arith, common_steps))

pub returns-in_err-signed_term-2 : goal.returns-in_err-signed_term-2
unfolding sums_from
returns-in_err-signed_term-2 g c =
    let e = one_more (λ n. sums_from (level_at c.args.self.now.depth) c.args.plain n c.loop-turn.found c.loop-turn.tokens) _ c.loop-turn._turn c.loop-turn-test.true c.loop-turn.invariant in
    first_of (search rules, grind (arith, common_steps))

pub returns-else-eat-2 : goal.returns-else-eat-2
unfolding sums_from
returns-else-eat-2 g c =
    let e = one_more (λ n. sums_from (level_at c.args.self.now.depth) c.args.plain n c.loop-turn.found c.loop-turn.tokens) _ c.loop-turn._turn c.loop-turn-test.true c.loop-turn.invariant in
    first_of (search rules, grind (arith, common_steps))

pub loop-turn-preserved : goal.loop-turn-preserved
unfolding sums_from
loop-turn-preserved g c =
    let e = one_more (λ n. sums_from (level_at c.args.self.now.depth) c.args.plain n c.loop-turn.found c.loop-turn.tokens) _ c.loop-turn._turn c.loop-turn-test.true c.loop-turn.invariant in
    first_of (search rules, grind (arith, common_steps))

pub returns : goal.returns
unfolding sums_from
returns g c =
    let e = no_more (λ n. sums_from (level_at c.args.self.now.depth) c.args.plain n c.loop-turn.found c.loop-turn.tokens) _ c.loop-turn._turn c.loop-turn-test.false c.loop-turn.invariant in
    first_of (search rules, grind (arith, common_steps))
