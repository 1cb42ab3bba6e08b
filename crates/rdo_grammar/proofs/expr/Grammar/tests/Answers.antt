use Rattle.std.proofs.Common.{rules, arith}
use Rattle.std.proofs.lemmas.Grind.{common_steps}
use Rattle.rdo_tokens.specs.declared.token.Kind.TheVariants as k
use Rattle.rdo_tokens.specs.Input.{more_from, separated}
use Rattle.rdo_grammar.specs.Grammar.{level_at, one_test, tests}
use Rattle.rdo_tokens.proofs.Turns.{one_more, no_more}
use Rattle.rdo_grammar.proofs.expr.Grammar.tests.Goals as goal

pub returns-then-not-eat : goal.returns-then-not-eat
unfolding more_from
returns-then-not-eat g c =
    let e = one_more (λ n. more_from k.And (one_test (level_at c.args.self.now.depth)) n c.loop-turn.found c.loop-turn.tokens) _ c.loop-turn._turn c.loop-turn-test.true c.loop-turn.invariant in
    first_of (search rules, grind (arith, common_steps))

pub returns-in_err-test-2 : goal.returns-in_err-test-2
unfolding more_from
returns-in_err-test-2 g c =
    let e = one_more (λ n. more_from k.And (one_test (level_at c.args.self.now.depth)) n c.loop-turn.found c.loop-turn.tokens) _ c.loop-turn._turn c.loop-turn-test.true c.loop-turn.invariant in
    first_of (search rules, grind (arith, common_steps))

pub loop-turn-preserved : goal.loop-turn-preserved
unfolding more_from
loop-turn-preserved g c =
    let e = one_more (λ n. more_from k.And (one_test (level_at c.args.self.now.depth)) n c.loop-turn.found c.loop-turn.tokens) _ c.loop-turn._turn c.loop-turn-test.true c.loop-turn.invariant in
    first_of (search rules, grind (arith, common_steps))

pub returns : goal.returns
unfolding more_from
returns g c =
    let e = no_more (λ n. more_from k.And (one_test (level_at c.args.self.now.depth)) n c.loop-turn.found c.loop-turn.tokens) _ c.loop-turn._turn c.loop-turn-test.false c.loop-turn.invariant in
    first_of (search rules, grind (arith, common_steps))
