use Rattle.std.proofs.Common.{ap, Some}
use Rattle.record_format.specs.Values.{value_fields, IsValue}
use Rattle.record_format.proofs.Lists.{read_none, read_more, read_all, read_stuck, read_again}
use Rattle.record_format.proofs.Values.{values_code}
use Rattle.record_format.proofs.value.read_values.Goals as goal

pub loop-at-init : goal.loop-at-init
loop-at-init c = read_none value_fields IsValue c.args.bytes.now c.args.from c.new-values.result c.new-values.ensures c.requires

pub loop-at-preserved : goal.loop-at-preserved
loop-at-preserved c =
    rw c.in_ok-push.ensures.ok
    (read_more value_fields IsValue c.args.bytes.now c.args.from c.loop-at.at c.loop-at.values c.in-Some.found.value c.in-Some.found.end c.loop-at.invariant (rw c.in-Some.is at c.in_ok-found.ensures.found))

pub returns-in_default-clause-none : goal.returns-in_default-clause-none
returns-in_default-clause-none c =
    let bytes = c.args.bytes.now in
    read_stuck value_fields IsValue bytes (values_code bytes) c.args.from c.loop-at.at c.loop-at.values c.loop-at.invariant c.loop-at-test.true (rw c.in_default.is at c.in_ok-found.ensures.none)

pub returns-in_default-clause-again : goal.returns-in_default-clause-again
returns-in_default-clause-again c =
    let bytes = c.args.bytes.now in
    λ all is. absurd (read_stuck value_fields IsValue bytes (values_code bytes) c.args.from c.loop-at.at c.loop-at.values c.loop-at.invariant c.loop-at-test.true (rw c.in_default.is at c.in_ok-found.ensures.none) all is)

pub returns-clause-found : goal.returns-clause-found
returns-clause-found c = read_all value_fields IsValue c.args.bytes.now c.args.from c.loop-at.at c.loop-at.values c.loop-at.invariant c.loop-at-test.false

pub returns-clause-again : goal.returns-clause-again
returns-clause-again c =
    let bytes = c.args.bytes.now in
    λ all is. ap Some (read_again value_fields IsValue bytes (values_code bytes) c.args.from c.loop-at.at c.loop-at.values c.loop-at.invariant c.loop-at-test.false all is)
