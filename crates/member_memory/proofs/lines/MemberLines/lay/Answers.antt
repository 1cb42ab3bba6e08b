use Rattle.std.proofs.Common.{sym, subst}
use Rattle.member_memory.specs.Memory.{AreKeysOf}
use Rattle.member_memory.proofs.Rewriting.{rewritten-kept}
use Rattle.member_memory.proofs.lines.MemberLines.lay.Goals as goal

pub invariant_of-self : goal.invariant_of-self
invariant_of-self c = (subst (λ lines. AreKeysOf lines c.self.inside.keys.items) (sym c.rewrite_all.ensures) (rewritten-kept c.args.writes.now c.self.inside.lines c.self.inside.keys.items c.self.invariant.0), c.self.invariant.1)
