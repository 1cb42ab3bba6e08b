use Rattle.std.proofs.Common.{refl, map}
use Rattle.rdb_account.specs.Events.{event_of}
use Rattle.line_account.specs.stage_steps.Scenes.{scene}
use Rattle.line_cluster.proofs.Stepping.{stops}
use Rattle.line_cluster.proofs.sessions.Core.stop.Goals as goal

pub returns-clause-sound : goal.returns-clause-sound
returns-clause-sound g c =
    stops g.S.Statements.stands g.O.Origin.told g.O.Origin.opening g.O.Origin.faults (scene c.args.self.now.common.word (g.L.LineStore.sight c.args.self.now.common.store) c.args.self.now.common.tree) c.args.self.now.members.items
    (map event_of c.args.self.now.events.items) (map event_of c.args.self.now.events.items) c.args.self.now.halt c.args.halt refl c.requires.cause c.requires.agrees c.requires.slot c.requires.sound
