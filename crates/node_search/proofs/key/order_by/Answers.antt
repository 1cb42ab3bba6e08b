use Rattle.std.proofs.Common.{◌≡◌, ℕ, ◌+◌, ◌<◌, List, ◌∷◌, length, drop, get_or, refl, sym, ap, ◌∙◌}
use Rattle.std.proofs.lemmas.List.{drop_all, drop_more}
use Rattle.rdb_types.specs.declared.values.Value.{Value}
use Rattle.rdb_types.specs.Order.{value_order}
use Rattle.node_search.specs.Values.{value_of}
use Rattle.node_search.proofs.Keys.{left_none, left_apart, left_same, left_more, left_ended}
use Rattle.node_search.proofs.key.order_by.Goals as goal

there : (others : List Value) (i : ℕ) (other : Value) → i < length others → other ≡ get_or others i other → drop i others ≡ other ∷ drop (i + 1) others
there others i other inside is = drop_more others i other inside ∙ ap (λ (o : Value). o ∷ drop (i + 1) others) (sym is)

pub loop-other-init : goal.loop-other-init
loop-other-init c = λ values shows. record { rest = values; are = shows; same = refl }

pub returns-in_default : goal.returns-in_default
returns-in_default c =
    let i = c.loop-other.other-index in
    let behind = there c.args.others.now i c.other-item.result c.loop-other-test.true c.other-item.is in
    λ values shows. left_none c.args.more c.args.key.bytes.now c.loop-other.at values c.args.others.now (drop i c.args.others.now) (drop (i + 1) c.args.others.now) c.other-item.result behind (rw c.in_default.is at c.value_at.ensures.none) (c.loop-other.invariant values shows)

pub returns-then-is_ne : goal.returns-then-is_ne
returns-then-is_ne c =
    let i = c.loop-other.other-index in
    let behind = there c.args.others.now i c.other-item.result c.loop-other-test.true c.other-item.is in
    let value = value_of c.in-Some.found.value in
    λ values shows. left_apart c.args.more c.args.key.bytes.now c.loop-other.at c.in-Some.found.end values c.args.others.now (drop i c.args.others.now) (drop (i + 1) c.args.others.now) value c.other-item.result c.value_order-order.result behind
    c.in-Some.ensures.found (c.value_order-order.ensures ∙ ap (value_order value) c.borrowed.ensures) (sym c.is_ne.ensures ∙ c.if-is_ne.true) (c.loop-other.invariant values shows)

pub loop-other-preserved : goal.loop-other-preserved
loop-other-preserved c =
    let i = c.loop-other.other-index in
    let behind = there c.args.others.now i c.other-item.result c.loop-other-test.true c.other-item.is in
    let value = value_of c.in-Some.found.value in
    λ values shows. left_same c.args.more c.args.key.bytes.now c.loop-other.at c.in-Some.found.end values c.args.others.now (drop i c.args.others.now) (drop (i + 1) c.args.others.now) value c.other-item.result c.value_order-order.result behind
    c.in-Some.ensures.found (c.value_order-order.ensures ∙ ap (value_order value) c.borrowed.ensures) (sym c.is_ne.ensures ∙ c.if-is_ne.false) (c.loop-other.invariant values shows)

pub returns-then-at-key : goal.returns-then-at-key
returns-then-at-key c =
    let i = c.loop-other.other-index in
    λ values shows. left_more c.args.more c.args.key.bytes.now c.loop-other.at values c.args.others.now (drop i c.args.others.now) (drop_all i c.args.others.now c.loop-other-test.false) c.if-at-key.true (c.loop-other.invariant values shows)

pub returns-else-at-key : goal.returns-else-at-key
returns-else-at-key c =
    let i = c.loop-other.other-index in
    λ values shows. left_ended c.args.more c.args.key.bytes.now c.loop-other.at values c.args.others.now (drop i c.args.others.now) (drop_all i c.args.others.now c.loop-other-test.false) c.if-at-key.false (c.loop-other.invariant values shows)
