use Rattle.std.proofs.Common.{take}
use Rattle.record_format.proofs.Laying.{HasLaid}
use Rattle.catalog_lines.specs.Parts.{positions_fields}
use Rattle.catalog_lines.proofs.parts.put_positions.Given as goal

abbrev pub invariant-loop-position : goal.invariant-loop-position
invariant-loop-position l = HasLaid l.fn.slot l.slot l.at l.end (positions_fields (take l.position-index l.positions))
