use Rattle.std.proofs.Common.{◌≡◌, ◌≤◌, ◌+◌, ◌*◌, drop}
use Rattle.sound_lines.specs.Sound.{longest_key}
use Rattle.sound_lines.proofs.sizes.longest_key.Given as goal

abbrev pub invariant-loop-position : goal.invariant-loop-position
invariant-loop-position l = record {
  so_far : l.longest + longest_key (drop l.position-index l.positions) l.fields ≡ longest_key l.positions l.fields;
  small : l.longest ≤ 65538 * l.position-index;
}
