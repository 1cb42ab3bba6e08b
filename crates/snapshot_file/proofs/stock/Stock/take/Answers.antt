use Rattle.std.proofs.Common.{◌≡◌, ◌≤◌, ◌+◌, ◌∙◌, ap, arith}
use Rattle.snapshot_file.specs.Slots.{Store, left_in}
use Rattle.snapshot_file.proofs.Counts.{left_taken, none_left}
use Rattle.snapshot_file.proofs.stock.Stock.take.Goals as goal

pub invariant_of-self : goal.invariant_of-self
invariant_of-self c =
    let i = c.self.inside in
    let less : left_in i.free ≡ left_in c.take.new.self + 1 = left_taken i.free c.take.new.self c.in-Ok.slot c.in-Ok.ensures.taken in
    let was = c.self.invariant.0 in
    let long = c.self.invariant.1 in
    (omega (arith, less, was), c.in-Ok.ensures.taken.limit ∙ long)

pub unreachable-requires : goal.unreachable-requires
unreachable-requires c =
    let i = c.self.inside in
    let none : left_in i.free ≡ 0 = none_left i.free c.in-Err.ensures.full in
    let was = c.self.invariant.0 in
    let some : 1 ≤ c.args.self.now.aside = c.requires in
    let same : i.aside ≡ c.args.self.now.aside = ap (λ (s : Store). s.aside) c.self.view_is in
    omega (arith, none, was, some, same)
