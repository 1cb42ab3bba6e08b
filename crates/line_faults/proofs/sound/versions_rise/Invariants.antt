use Rattle.std.proofs.Common.{◌≡◌, drop}
use Rattle.sound_lines.specs.Sound.{versions_rise}
use Rattle.line_faults.proofs.sound.versions_rise.Given as goal

abbrev pub invariant-loop-field : goal.invariant-loop-field
invariant-loop-field l = versions_rise l.low l.version (drop l.field-index l.fields) ≡ versions_rise 1 l.version l.fields
