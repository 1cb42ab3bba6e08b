-- What stands in a slot, computed from its bytes.
use Rattle.std.specs.Prelude.{ℕ, ◌+◌, ◌^◌, ◌==◌, ◌&&◌, ◌||◌, nat_le, nat_lt, Bool, true, false, List, [], ◌∷◌, length, take, drop, replicate, map, Option, Some, None, if◌then◌else◌}
use Rattle.aij_journal.specs.slot_fields.Fields.{Field, number, text, gap, number_at}
use Rattle.aij_journal.specs.rdb_types.declared.keys.LineState.{LineState}
use Rattle.aij_journal.specs.rdb_types.declared.keys.LineState.TheVariants.{Never, Present, Erased}
use Rattle.aij_journal.specs.declared.part.GroupLine.{GroupLine}
use Rattle.aij_journal.specs.declared.part.AijPart.{AijPart}
use Rattle.aij_journal.specs.Part.{part_fields}
use Rattle.journal_scan.specs.declared.group.Group.{Group}
use Rattle.journal_scan.specs.Reading.{groups_of}

abbrev pub are_same : List ℕ → List ℕ → Bool
are_same [] [] = true
are_same [] (y ∷ ys) = false
are_same (x ∷ xs) [] = false
are_same (x ∷ xs) (y ∷ ys) = (x == y) && are_same xs ys

-- whether the slot has these fields from this place on, and ends behind the last
abbrev pub has_from : ℕ → List Field → List ℕ → Bool
has_from at [] slot = length slot == at
has_from at (number n x ∷ fields) slot = (number_at n at slot == x) && has_from (at + n) fields slot
has_from at (text bytes ∷ fields) slot = are_same (take (length bytes) (drop at slot)) bytes && has_from (at + length bytes) fields slot
has_from at (gap n ∷ fields) slot = are_same (take n (drop at slot)) (replicate n 0) && has_from (at + n) fields slot

-- whether a commit leaves such a line
abbrev pub leaves : LineState → List ℕ → Bool
leaves Never image = false
leaves Present image = true
leaves Erased image = length image == 0

abbrev pub is_allowed_what : Option GroupLine → Bool
is_allowed_what None = true
is_allowed_what (Some l) = ((l.class == 208) || (l.class == 440)) && nat_le (length l.image) l.class && leaves l.state l.image

abbrev pub is_part : List ℕ → AijPart → Bool
is_part slot p = has_from 0 (part_fields p) slot && nat_le p.number (2 ^ 62) && nat_lt p.tsn.number (2 ^ 62) && is_allowed_what p.line

-- the state that a byte says
abbrev pub said_state : ℕ → LineState
said_state byte = if byte == 1 then Present else (if byte == 2 then Erased else Never)

abbrev pub said_line : List ℕ → GroupLine
said_line slot = record {
  key = record { area = number_at 4 29 slot; page = number_at 4 33 slot; line = number_at 2 37 slot };
  class = number_at 2 42 slot;
  state = said_state (number_at 1 39 slot);
  image = take (number_at 2 40 slot) (drop 48 slot);
}

-- what the bytes say at the places of a part's fields
abbrev pub said_part : List ℕ → AijPart
said_part slot = record {
  number = number_at 8 4 slot;
  tsn = record { number = number_at 8 12 slot };
  index = number_at 4 20 slot;
  count = number_at 4 24 slot;
  line = if number_at 1 28 slot == 1 then Some (said_line slot) else None;
}

-- the part of a group that stands in a slot, if one does
unfoldable pub what_stands : List ℕ → Option AijPart
what_stands slot = if is_part slot (said_part slot) then Some (said_part slot) else None

-- the whole groups of a journal whose slots behind the header are these, and whose first group has this number
abbrev pub groups_in : ℕ → List (List ℕ) → List Group
groups_in first slots = groups_of first (map what_stands slots)
