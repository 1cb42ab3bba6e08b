use Rattle.std.proofs.Common.{◌≡◌, ◌-◌, ◌∙◌, length, ap, sym, arith}
use Rattle.snapshot_file.specs.Slots.{left_in}
use Rattle.snapshot_file.proofs.Counts.{left_is}
use Rattle.snapshot_file.proofs.free.Free.left.Goals as goal

pub returns : goal.returns
returns c =
    let i = c.self.inside in
    let h : left_in c.args.self.now ≡ length i.order.items - i.used = ap left_in (sym c.self.view_is) ∙ left_is i.order.items i.places.items i.used c.self.invariant in
    omega (arith, h, c.len.ensures)
