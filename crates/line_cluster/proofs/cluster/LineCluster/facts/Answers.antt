use Rattle.std.proofs.Common.{◌≡◌, ◌≤◌, ℕ, false, map, subst}
use Rattle.rdb_account.specs.Events.{event_of}
use Rattle.rdb_account.specs.Places.{place}
use Rattle.line_store.specs.Seats.{Seat}
use Rattle.line_account.specs.session_stands.Sessions.{AreSeated}
use Rattle.line_cluster.specs.Measured.{IsBounded}
use Rattle.line_cluster.specs.Turned.{Sessions, HasNothingLeft, HaveAllEnded, HaveEnded, IsAtEnd}
use Rattle.line_cluster.proofs.Coming.{none-from}
use Rattle.line_cluster.proofs.Resting.{all-whole, over-left-at}
use Rattle.line_cluster.proofs.cluster.LineCluster.facts.Goals as goal

pub returns-clause-seated : goal.returns-clause-seated
returns-clause-seated g c =
    subst (λ (v : Sessions). v.halted ≡ false → (x : ℕ → Seat) × AreSeated x v.locks v.members) c.self.view_is
    (λ going. ((g.L.LineStore.sight c.self.inside.core.common.store).stand, c.self.invariant.sound.seated (none-from c.self.inside.core.halt going)))

pub returns-clause-whole : goal.returns-clause-whole
returns-clause-whole g c =
    subst (λ (v : Sessions). g.O.Origin.told → v.halted ≡ false → HaveEnded (g.O.Origin.opening).stops v.members → HaveAllEnded g.O.Origin.opening g.O.Origin.sessions (map event_of v.events)) c.self.view_is
    (λ told going ended. all-whole g.S.Statements.stands g.O.Origin.opening _ _ _ _ _ (c.self.invariant.sound.kept (none-from c.self.inside.core.halt going) told) g.O.Origin.sessions c.self.invariant.count ended)

pub returns-clause-over : goal.returns-clause-over
returns-clause-over g c =
    subst (λ (v : Sessions). g.O.Origin.told → v.halted ≡ false → (s : ℕ) → 1 ≤ s → IsAtEnd (g.O.Origin.opening).stops s v → HasNothingLeft g.O.Origin.opening (place g.O.Origin.opening (map event_of v.events)) s) c.self.view_is
    (λ told going s first e. over-left-at g.S.Statements.stands g.O.Origin.opening _ _ _ _ _ s e.member (c.self.invariant.sound.kept (none-from c.self.inside.core.halt going) told) first e.found e.over)

pub returns-clause-bounds : goal.returns-clause-bounds
returns-clause-bounds g c = subst (λ (v : Sessions). IsBounded v.measure) c.self.view_is c.count.ensures
