use Rattle.std.proofs.Common.{[], ◌∷◌, ◌++◌, refl}
use Rattle.record_format.specs.Values.{value_fields, IsValue}
use Rattle.record_format.proofs.Lists.{read_none, read_more, read_all, read_stuck}
use Rattle.record_format.proofs.Values.{values_code}
use Rattle.node_search.specs.Values.{value_of}
use Rattle.node_search.proofs.key.are_values.Goals as goal

pub loop-at-init : goal.loop-at-init
loop-at-init c = ([], read_none value_fields IsValue c.args.bytes.now c.args.from [] refl c.requires)

pub loop-at-preserved : goal.loop-at-preserved
loop-at-preserved c =
    let was = c.loop-at.invariant in
    let found = c.in-Some.found in
    (was.0 ++ value_of found.value ∷ [], read_more value_fields IsValue c.args.bytes.now c.args.from c.loop-at.at was.0 (value_of found.value) found.end was.1 c.in-Some.ensures.found)

pub returns-in_default-clause-no : goal.returns-in_default-clause-no
returns-in_default-clause-no c =
    let bytes = c.args.bytes.now in
    λ is. read_stuck value_fields IsValue bytes (values_code bytes) c.args.from c.loop-at.at c.loop-at.invariant.0 c.loop-at.invariant.1 c.loop-at-test.true (rw c.in_default.is at c.value_at.ensures.none)

pub returns-clause-yes : goal.returns-clause-yes
returns-clause-yes c = λ is. (c.loop-at.invariant.0, read_all value_fields IsValue c.args.bytes.now c.args.from c.loop-at.at c.loop-at.invariant.0 c.loop-at.invariant.1 c.loop-at-test.false)
