-- What a view over the lines of one area knows.
use Rattle.std.specs.Prelude.{ℕ, ◌==◌, List, Option, Some, None, option_map, if◌then◌else◌}
use Rattle.std.specs.FinMap.Entries.{find}
use Rattle.rdb_types.specs.declared.keys.Dbkey.{Dbkey}
use Rattle.rdb_types.specs.Order.{dbkey_order}
use Rattle.line_view.specs.Knowledge.{Knowledge, Lines, keys_of}
use Rattle.line_view.specs.Held.{ordered}

pub record HeldArea : Type 0 where
  pub area : ℕ
  pub lines : Lines

-- the lines, and the keys of their area
abbrev pub knows : HeldArea → Knowledge
knows h = record {
  line = λ key. option_map Some (find dbkey_order key h.lines);
  area = λ area. if area == h.area then Some (ordered (keys_of h.lines)) else None;
  room = λ room. None;
}
