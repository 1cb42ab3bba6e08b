use Rattle.std.proofs.Common.{◌≡◌, ℕ, false, is_some, map, refl, subst}
use Rattle.rdb_account.specs.Events.{event_of}
use Rattle.line_store.specs.Seats.{outside}
use Rattle.line_store.specs.Sights.{bare}
use Rattle.line_cluster.specs.Deaths.{CountsFaults, failures}
use Rattle.line_cluster.specs.Sound.{HasImages, IsLeft}
use Rattle.line_cluster.specs.Turned.{Sessions, HaveEnded}
use Rattle.line_cluster.proofs.Coming.{none-from}
use Rattle.line_cluster.proofs.Resting.{all-outside, left-behind}
use Rattle.line_cluster.proofs.cluster.LineCluster.end.Goals as goal

pub returns-clause-left : goal.returns-clause-left
returns-clause-left g c =
    subst (λ (v : Sessions). g.O.Origin.told → v.halted ≡ false → IsLeft g.S.Statements.stands g.O.Origin.opening (g.L.LineStore.sight c.self.inside.core.common.store) (map event_of v.events)) c.self.view_is
    (λ told going. left-behind g.S.Statements.stands g.O.Origin.opening _ _ _ _ _ (c.self.invariant.sound.kept (none-from c.self.inside.core.halt going) told))

pub returns-clause-images : goal.returns-clause-images
returns-clause-images g c =
    subst (λ (v : Sessions). g.O.Origin.told → HasImages g.S.Statements.stands g.O.Origin.opening (g.L.LineStore.sight c.self.inside.core.common.store) (map event_of v.events)) c.self.view_is
    c.self.invariant.sound.images

pub returns-clause-halt : goal.returns-clause-halt
returns-clause-halt g c = subst (λ (v : Sessions). is_some c.self.inside.core.halt ≡ v.halted) c.self.view_is refl

pub returns-clause-faults : goal.returns-clause-faults
returns-clause-faults g c =
    subst (λ (v : Sessions). g.O.Origin.told → CountsFaults g.O.Origin.faults (failures (map event_of v.events) c.self.inside.core.halt) (g.L.LineStore.sight c.self.inside.core.common.store)) c.self.view_is
    c.self.invariant.sound.causes

pub returns-clause-agrees : goal.returns-clause-agrees
returns-clause-agrees g c = c.self.invariant.sound.agrees

pub returns-clause-outside : goal.returns-clause-outside
returns-clause-outside g c =
    subst (λ (v : Sessions). v.halted ≡ false → HaveEnded (g.O.Origin.opening).stops v.members → (s : ℕ) → bare ((g.L.LineStore.sight c.self.inside.core.common.store).stand s) ≡ outside) c.self.view_is
    (λ going ended. all-outside (g.O.Origin.opening).stops (g.L.LineStore.sight c.self.inside.core.common.store).stand c.self.inside.core.common.tree c.self.inside.core.members.items (c.self.invariant.sound.seated (none-from c.self.inside.core.halt going)) ended)

pub returns-clause-spent : goal.returns-clause-spent
returns-clause-spent g c = c.self.invariant.sound.spent
