use Rattle.line_store.specs.Seats.{outside}
use Rattle.store_endings.proofs.SlotsGiven.{all-wanted, does-sift, stands-outside}
use Rattle.store_endings.proofs.Tidied.{moved-still}
use Rattle.store_endings.proofs.reading.end_reading.Goals as goal

pub give_unwanted-requires-clause-outside : goal.give_unwanted-requires-clause-outside
give_unwanted-requires-clause-outside g c = c.leave_reading.ensures.outside

pub returns-clause-comes : goal.returns-clause-comes
returns-clause-comes g c =
    let v = g.D.Disk.view c.args.disk.now in
    let s = c.args.s.number in
    let mid = c.leave_reading.new.held in
    let after = c.give_unwanted.new.self in
    let out = c.leave_reading.ensures.outside in
    moved-still s outside v v v c.args.held.now mid after (stands-outside mid.members s out) (does-sift v mid after s out c.give_unwanted.ensures) c.leave_reading.ensures.comes

pub returns-clause-slots : goal.returns-clause-slots
returns-clause-slots g c = all-wanted c.leave_reading.new.held c.give_unwanted.new.self c.args.s.number c.give_unwanted.ensures
