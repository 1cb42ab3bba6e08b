use Rattle.std.proofs.Common.{◌≡◌, length}
use Rattle.slot_fields.specs.Fields.{HasPart}
use Rattle.catalog_lines.specs.Parts.{positions_fields}
use Rattle.catalog_lines.proofs.parts.positions_at.Given as goal

abbrev pub invariant-loop-n : goal.invariant-loop-n
invariant-loop-n l = record { count : length l.positions ≡ l.n; stand : HasPart l.at (positions_fields l.positions) l.bytes }
