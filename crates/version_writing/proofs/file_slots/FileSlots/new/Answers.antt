use Rattle.std.proofs.Common.{◌≡◌, length, rules, arith}
use Rattle.std.proofs.lemmas.Grind.{common_steps}
use Rattle.version_writing.specs.Slots.{IsTable}
use Rattle.version_writing.proofs.Sifted.{taken-none}
use Rattle.version_writing.proofs.file_slots.FileSlots.new.Goals as goal

pub invariant_of-result : goal.invariant_of-result
invariant_of-result c =
    let table : IsTable c.in_ok-stock.stock.slots c.in_ok-pushers.pushers.items = first_of (search rules, grind (arith, common_steps)) in
    let long : length c.in_ok-pushers.pushers.items ≡ c.args.limit = first_of (search rules, grind (arith, common_steps)) in
    let limit = c.in_ok-stock.ensures.limit in (
      table,
      long,
      taken-none c.in_ok-stock.stock.slots c.in_ok-taken.taken.items (omega (arith, c.in_ok-taken.ensures.len, limit)) (λ slot first last. c.in_ok-stock.ensures.free slot first (omega (arith, last, limit))),
    )
