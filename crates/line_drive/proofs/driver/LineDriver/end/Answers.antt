use Rattle.std.proofs.Common.{◌≡◌, ℕ, false, is_some, map, subst}
use Rattle.rdb_account.specs.Events.{event_of}
use Rattle.rdb_drive.specs.Boards.{AllEnded}
use Rattle.line_store.specs.Seats.{outside}
use Rattle.line_store.specs.Sights.{bare}
use Rattle.line_cluster.specs.Deaths.{CountsFaults, failures}
use Rattle.line_cluster.specs.Sound.{HasImages, IsLeft}
use Rattle.line_cluster.specs.Turned.{Sessions}
use Rattle.line_drive.specs.Boards.{board_of}
use Rattle.line_drive.proofs.Dying.{all-ended}
use Rattle.line_drive.proofs.driver.LineDriver.end.Goals as goal

pub returns-clause-left : goal.returns-clause-left
returns-clause-left g c =
    subst (λ (v : Sessions). g.O.Origin.told → v.halted ≡ false → IsLeft g.S.Statements.stands g.O.Origin.opening (g.L.LineStore.sight c.end.result.store) (map event_of v.events)) c.self.view_is c.end.ensures.left

pub returns-clause-images : goal.returns-clause-images
returns-clause-images g c =
    subst (λ (v : Sessions). g.O.Origin.told → HasImages g.S.Statements.stands g.O.Origin.opening (g.L.LineStore.sight c.end.result.store) (map event_of v.events)) c.self.view_is c.end.ensures.images

pub returns-clause-halt : goal.returns-clause-halt
returns-clause-halt g c = subst (λ (v : Sessions). is_some c.end.result.halt ≡ v.halted) c.self.view_is c.end.ensures.halt

pub returns-clause-faults : goal.returns-clause-faults
returns-clause-faults g c =
    subst (λ (v : Sessions). g.O.Origin.told → CountsFaults g.O.Origin.faults (failures (map event_of v.events) c.end.result.halt) (g.L.LineStore.sight c.end.result.store)) c.self.view_is c.end.ensures.faults

pub returns-clause-outside : goal.returns-clause-outside
returns-clause-outside g c =
    subst (λ (v : Sessions). v.halted ≡ false → AllEnded g.O.Origin.sessions (board_of g.O.Origin.told g.O.Origin.opening v) → (s : ℕ) → bare ((g.L.LineStore.sight c.end.result.store).stand s) ≡ outside) c.self.view_is
    (λ going ended. c.end.ensures.outside going (all-ended g.O.Origin.told g.O.Origin.opening c.self.inside.cluster g.O.Origin.sessions c.facts.ensures.count ended))
