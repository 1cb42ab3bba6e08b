-- What an answer that lends parts of its arguments says.
use Rattle.std.specs.Prelude.{ℕ, Option, Some, None}
use Rattle.ordered_entries.specs.rdb_types.declared.values.Field.{Field}
use Rattle.rdb_meaning.specs.declared.tables.FieldAt.{FieldAt}

abbrev pub place_and_field : Option FieldAt → Option (ℕ × Field)
place_and_field None = None
place_and_field (Some p) = Some (p.place, p.field.now)
