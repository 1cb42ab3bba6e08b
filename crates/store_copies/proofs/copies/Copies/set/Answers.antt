use Rattle.std.proofs.Common.{◌∙◌, ap, arith}
use Rattle.disk_store.proofs.Members.{set-long}
use Rattle.store_copies.specs.Memory.{CopiesMemory, copied_behind, copied_by}
use Rattle.store_copies.proofs.SetCopies.{copied-set, ready-set}
use Rattle.store_copies.proofs.copies.Copies.set.Goals as goal

pub invariant_of-self : goal.invariant_of-self
invariant_of-self c =
    let last = c.requires.member.last in
    let long = c.self.invariant.0 in (
      set-long c.self.inside.sessions c.args.s.number c.args.copying ∙ long,
      c.self.invariant.1,
      c.self.invariant.2,
      ready-set c.self.inside.sessions c.args.s.number c.args.copying (omega (arith, last, long)) c.requires.ready c.self.invariant.3,
    )

pub returns-clause-copied : goal.returns-clause-copied
returns-clause-copied c t =
    let last = c.requires.member.last in
    let long = c.self.invariant.0 in
    copied-set c.self.inside.sessions c.args.s.number c.args.copying (omega (arith, last, long)) t ∙ ap (λ (x : CopiesMemory). copied_behind c.args.s.number c.args.copying (copied_by x) t) c.self.view_is
