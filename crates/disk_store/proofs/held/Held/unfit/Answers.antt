use Rattle.std.proofs.Common.{IfNone, List, subst}
use Rattle.disk_store.specs.declared.member.Member.{Member}
use Rattle.disk_store.specs.Memory.{StoreMemory}
use Rattle.disk_store.specs.Changing.{AreFit}
use Rattle.disk_store.proofs.held.Held.unfit.Goals as goal

pub returns-clause-none : goal.returns-clause-none
returns-clause-none c =
    subst (λ (h : StoreMemory). IfNone c.first_unfit.result (AreFit c.args.s.number h.tables h.members c.args.writes.now)) c.self.view_is
    (subst (λ (ms : List Member). IfNone c.first_unfit.result (AreFit c.args.s.number c.self.inside.tables ms c.args.writes.now)) c.as_slice.ensures.value c.first_unfit.ensures.none)
