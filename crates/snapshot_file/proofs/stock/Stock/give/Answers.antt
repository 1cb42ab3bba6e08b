use Rattle.std.proofs.Common.{◌≡◌, ◌≤◌, ◌+◌, ◌∙◌, List, Bool, false, length, ap, arith}
use Rattle.snapshot_file.specs.Slots.{Store, is_free, left_in}
use Rattle.snapshot_file.proofs.Counts.{left_given}
use Rattle.snapshot_file.proofs.stock.Stock.give.Goals as goal

pub invariant_of-self : goal.invariant_of-self
invariant_of-self c =
    let i = c.self.inside in
    let same : i.free ≡ c.args.self.now.slots = ap (λ (s : Store). s.slots) c.self.view_is in
    let last = c.requires.last in
    let high : c.args.slot ≤ length i.free = omega (arith, last, ap length same) in
    let used : is_free i.free c.args.slot ≡ false = ap (λ (xs : List Bool). is_free xs c.args.slot) same ∙ c.requires.used in
    let more : left_in c.give.new.self ≡ left_in i.free + 1 = left_given i.free c.give.new.self c.args.slot c.requires.first high used c.give.ensures in
    let was = c.self.invariant.0 in
    let long = c.self.invariant.1 in
    let kept = c.give.ensures.limit in
    (omega (arith, more, was), kept ∙ long)
