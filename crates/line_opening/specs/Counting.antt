-- How many entries a transaction has.
use Rattle.std.specs.Prelude.{ℕ, ◌≡◌, List, length}
use Rattle.rdb_types.specs.declared.keys.Tsn.{Tsn}
use Rattle.rdb_outside.specs.Disk.{Image}
use Rattle.line_moves.specs.stable_lines.Slots.{Undo}
use Rattle.line_moves.specs.stable_lines.Opening.{AreEntries}

pub record HasCount (image : Image) (member : ℕ) (tsn : Tsn) (count : ℕ) : Type 0 where
  pub undos : List Undo
  pub long : length undos ≡ count
  pub entries : AreEntries image member tsn undos
