use Rattle.std.proofs.Common.{◌≡◌, false, map, subst}
use Rattle.rdb_account.specs.Events.{event_of}
use Rattle.rdb_drive.specs.Boards.{AllEnded}
use Rattle.line_cluster.specs.Turned.{Sessions, HaveAllEnded}
use Rattle.line_drive.specs.Boards.{board_of}
use Rattle.line_drive.proofs.Dying.{all-ended}
use Rattle.line_drive.proofs.driver.LineDriver.facts.Goals as goal

pub returns-clause-whole : goal.returns-clause-whole
returns-clause-whole g c =
    subst (λ (v : Sessions). g.O.Origin.told → v.halted ≡ false → AllEnded g.O.Origin.sessions (board_of g.O.Origin.told g.O.Origin.opening v) → HaveAllEnded g.O.Origin.opening g.O.Origin.sessions (map event_of v.events)) c.self.view_is
    (λ told going ended. c.facts.ensures.whole told going (all-ended g.O.Origin.told g.O.Origin.opening c.self.inside.cluster g.O.Origin.sessions c.facts.ensures.count ended))
