use Rattle.std.proofs.Common.{sym, refl, ◌∙◌}
use Rattle.node_search.specs.Values.{value_of}
use Rattle.node_search.proofs.Keys.{both_longer, both_apart, both_same, both_shorter, both_ended}
use Rattle.node_search.proofs.key.keys_order.Goals as goal

pub loop-found-init : goal.loop-found-init
loop-found-init c = λ values others shows also. record { rest = values; other_rest = others; are = shows; other_are = also; same = refl }

pub returns-in_default-value_at : goal.returns-in_default-value_at
returns-in_default-value_at c = λ values others shows also.
    both_longer c.args.a.bytes.now c.args.b.bytes.now c.loop-found.at c.loop-found.other_at c.in-Some.found.end values others (value_of c.in-Some.found.value)
    c.in-Some.ensures.found (rw c.in_default-value_at.is at c.value_at-in-Some.ensures.none) (c.loop-found.invariant values others shows also)

pub returns-then-is_ne : goal.returns-then-is_ne
returns-then-is_ne c = λ values others shows also.
    both_apart c.args.a.bytes.now c.args.b.bytes.now c.loop-found.at c.loop-found.other_at c.in-Some.found.end c.in-Some-value_at.other.end values others (value_of c.in-Some.found.value) (value_of c.in-Some-value_at.other.value) c.value_order-order.result
    c.in-Some.ensures.found c.in-Some-value_at.ensures.found c.value_order-order.ensures (sym c.is_ne.ensures ∙ c.if-is_ne.true) (c.loop-found.invariant values others shows also)

pub loop-found-preserved : goal.loop-found-preserved
loop-found-preserved c = λ values others shows also.
    both_same c.args.a.bytes.now c.args.b.bytes.now c.loop-found.at c.loop-found.other_at c.in-Some.found.end c.in-Some-value_at.other.end values others (value_of c.in-Some.found.value) (value_of c.in-Some-value_at.other.value) c.value_order-order.result
    c.in-Some.ensures.found c.in-Some-value_at.ensures.found c.value_order-order.ensures (sym c.is_ne.ensures ∙ c.if-is_ne.false) (c.loop-found.invariant values others shows also)

pub returns-then-other_at-b : goal.returns-then-other_at-b
returns-then-other_at-b c = λ values others shows also.
    both_shorter c.args.a.bytes.now c.args.b.bytes.now c.loop-found.at c.loop-found.other_at values others (rw c.in_default.is at c.value_at.ensures.none) c.if-other_at-b.true (c.loop-found.invariant values others shows also)

pub returns-else-other_at-b : goal.returns-else-other_at-b
returns-else-other_at-b c = λ values others shows also.
    both_ended c.args.a.bytes.now c.args.b.bytes.now c.loop-found.at c.loop-found.other_at values others (rw c.in_default.is at c.value_at.ensures.none) c.if-other_at-b.false (c.loop-found.invariant values others shows also)
