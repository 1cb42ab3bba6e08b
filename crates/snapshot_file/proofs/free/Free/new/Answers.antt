use Rattle.std.proofs.Common.{◌-◌, ◌∙◌, arith, slice_index}
use Rattle.snapshot_file.proofs.Orders.{is_free_at, lt_yes}
use Rattle.snapshot_file.proofs.free.Free.new.Goals as goal

pub returns-clause-free : goal.returns-clause-free
returns-clause-free c = λ slot first last.
    let places = c.in_ok-places.places.items in
    let number = c.in_ok-places.ensures.numbers (slot - 1) (omega (arith, first, last)) in
    is_free_at places 0 slot first ∙ lt_yes 0 (slice_index places (slot - 1)) (omega (arith, number))
