use Rattle.std.proofs.Common.{◌≡◌, ◌≤◌, ⊎_elim, length, arith}
use Rattle.member_memory.proofs.Growing.{grown-kept}
use Rattle.member_memory.proofs.lines.MemberLines.add.Goals as goal

pub invariant_of-self-in_default : goal.invariant_of-self-in_default
invariant_of-self-in_default c = (
  grown-kept c.args.tsn c.args.writes.now (record { lines = c.self.inside.lines; keys = c.self.inside.keys.items }) (record { lines = c.add_keys.new.lines; keys = c.add_keys.new.keys.items }) c.add_keys.ensures.grows c.self.invariant.0,
  ⊎_elim (λ (within : length c.add_keys.new.keys.items ≤ c.args.limit). let few = c.ranges.limit.fits in omega (arith, within, few)) (λ (same : length c.add_keys.new.keys.items ≡ length c.self.inside.keys.items). let few = c.self.invariant.1 in omega (arith, same, few)) c.in_default.ensures.fits,
)
