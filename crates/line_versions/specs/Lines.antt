-- What a line shows, and the storage area that it lies in.
use Rattle.std.specs.Prelude.{ℕ, ◌%◌, nat_eq, List, Option, Some, None, if◌then◌else◌}
use Rattle.rdb_outside.specs.rdb_types.declared.keys.Line.{Line}
use Rattle.rdb_outside.specs.rdb_types.declared.keys.LineState.{LineState}
use Rattle.rdb_outside.specs.rdb_types.declared.keys.LineState.TheVariants.{Never, Present, Erased}

-- the storage area of a logical area: 1 the catalog, 2 relations, 3 indexes
abbrev pub storage_area : ℕ → ℕ
storage_area area = if nat_eq area 1 then 1 else (if nat_eq (area % 2) 0 then 2 else 3)

abbrev pub shown_as : LineState → List ℕ → Option (List ℕ)
shown_as Never image = None
shown_as Present image = Some image
shown_as Erased image = None

-- the bytes of a present line
abbrev pub shown : Line → Option (List ℕ)
shown line = shown_as line.state line.image
