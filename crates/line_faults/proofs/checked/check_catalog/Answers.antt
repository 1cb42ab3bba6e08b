use Rattle.std.proofs.Common.{ap, ◌∙◌}
use Rattle.line_view.specs.Held.{ordered}
use Rattle.line_faults.specs.Catalog.{without}
use Rattle.line_faults.proofs.Taken.{one_taken, fewer}
use Rattle.line_faults.proofs.checked.check_catalog.Goals as goal

pub add_unsound-requires : goal.add_unsound-requires
add_unsound-requires c = (c.in_ok-catalog.ensures.whole c.in-Whole.catalog c.in-Whole.is).0

pub returns-in-Whole-clause-checked : goal.returns-in-Whole-clause-checked
returns-in-Whole-clause-checked c = λ all sorted same.
    let has = c.loop-keys.invariant all sorted same in
    record {
      taken = c.loop-keys.keys;
      bad = has.taken;
      left = (c.in_ok-catalog.ensures.whole c.in-Whole.catalog c.in-Whole.is).1 (without c.loop-keys.keys all) has.sorted has.are;
      are = c.in_ok-faults-in-Whole.ensures ∙ ap ordered (c.as_slice.ensures ∙ c.in_ok-add_unsound-in-Whole.ensures);
    }

pub returns-in-Whole-clause-whole : goal.returns-in-Whole-clause-whole
returns-in-Whole-clause-whole c = (c.in_ok-catalog.ensures.whole c.in-Whole.catalog c.in-Whole.is).0

pub loop-keys-smaller : goal.loop-keys-smaller
loop-keys-smaller c =
    let bad = c.in_ok-catalog.ensures.bad c.in-Bad.key c.in-Bad.is in
    rw c.remove-image.ensures.removed (fewer c.in-Bad.key c.loop-keys.lines bad.0)

pub loop-keys-preserved : goal.loop-keys-preserved
loop-keys-preserved c = λ all sorted same.
    let has = c.loop-keys.invariant all sorted same in
    let bad = c.in_ok-catalog.ensures.bad c.in-Bad.key c.in-Bad.is in
    one_taken all c.loop-keys.keys c.push.new.self c.loop-keys.lines c.remove-image.new.self c.in-Bad.key has (bad.1 (without c.loop-keys.keys all) has.sorted has.are) c.remove-image.ensures.removed c.in_ok-push-in-Bad.ensures.ok
