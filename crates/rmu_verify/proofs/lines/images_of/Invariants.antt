use Rattle.std.proofs.Common.{◌≡◌, drop}
use Rattle.rdb_types.specs.Order.{dbkey_order}
use Rattle.sound_lines.specs.Gathered.{put_all}
use Rattle.rmu_verify.proofs.lines.images_of.Given as goal

abbrev pub invariant-loop-entry : goal.invariant-loop-entry
invariant-loop-entry l = put_all dbkey_order l.images (drop l.entry-index l.entry-items) ≡ l.lines
