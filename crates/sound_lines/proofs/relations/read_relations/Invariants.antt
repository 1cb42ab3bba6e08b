use Rattle.std.proofs.Common.{drop}
use Rattle.sound_lines.proofs.RelationsRead.{AreFound}
use Rattle.sound_lines.proofs.relations.read_relations.Given as goal

abbrev pub invariant-loop-name : goal.invariant-loop-name
invariant-loop-name g l = AreFound (g.V.View.knows l.view) l.versions l.name-items (drop l.name-index l.name-items) l.found
