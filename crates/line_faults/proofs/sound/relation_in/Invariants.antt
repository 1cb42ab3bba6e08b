use Rattle.std.proofs.Common.{◌≡◌, drop}
use Rattle.sound_lines.specs.Sound.{relation_in}
use Rattle.line_faults.proofs.sound.relation_in.Given as goal

abbrev pub invariant-loop-relation : goal.invariant-loop-relation
invariant-loop-relation l = relation_in l.area (drop l.relation-index l.relation-items) ≡ relation_in l.area l.tables.relations
