use Rattle.std.proofs.Common.{rules, arith, true}
use Rattle.std.proofs.lemmas.Grind.{common_steps}
use Rattle.rdo_grammar.specs.Grammar.{action_at, body_from, body, point}
use Rattle.rdo_tokens.proofs.Turns.{one_more, no_more}
use Rattle.rdo_grammar.proofs.action.Actions.body.Goals as goal

pub returns-then-not-begins_action : goal.returns-then-not-begins_action
unfolding body_from point
returns-then-not-begins_action g c =
    let e = one_more (λ n. body_from c.args.self.now.depth (action_at c.args.self.now.depth true) n c.loop-turn.found c.loop-turn.tokens) _ c.loop-turn._turn c.loop-turn-test.true c.loop-turn.invariant in
    first_of (search rules, grind (arith, common_steps))

pub returns-in_err-next_action : goal.returns-in_err-next_action
unfolding body_from point
returns-in_err-next_action g c =
    let e = one_more (λ n. body_from c.args.self.now.depth (action_at c.args.self.now.depth true) n c.loop-turn.found c.loop-turn.tokens) _ c.loop-turn._turn c.loop-turn-test.true c.loop-turn.invariant in
    first_of (search rules, grind (arith, common_steps))

pub loop-turn-preserved : goal.loop-turn-preserved
unfolding body_from point
loop-turn-preserved g c =
    let e = one_more (λ n. body_from c.args.self.now.depth (action_at c.args.self.now.depth true) n c.loop-turn.found c.loop-turn.tokens) _ c.loop-turn._turn c.loop-turn-test.true c.loop-turn.invariant in
    first_of (search rules, grind (arith, common_steps))

pub returns : goal.returns
unfolding body_from point
returns g c =
    let e = no_more (λ n. body_from c.args.self.now.depth (action_at c.args.self.now.depth true) n c.loop-turn.found c.loop-turn.tokens) _ c.loop-turn._turn c.loop-turn-test.false c.loop-turn.invariant in
    first_of (search rules, grind (arith, common_steps))
