use Rattle.std.proofs.Common.{refl, sym, ap, ◌∙◌, arith}
use Rattle.std.specs.Prelude.{slice_get}
use Rattle.disk_store.specs.Memory.{StoreMemory}
use Rattle.disk_store.proofs.Members.{lent-there}
use Rattle.disk_store.proofs.held.Held.written.Goals as goal

pub returns : goal.returns
returns c = (
  c.index.result.now,
  ap (λ (k : StoreMemory). slice_get k.members c.args.s.number) (sym c.self.view_is) ∙ lent-there c.self.inside.members.items c.args.s.number c.index.result.now (omega (arith, c.self.invariant.0, c.requires.last)) c.index.ensures,
  refl,
)
