-- Dbkeys, as they stand in images.
use Rattle.std.specs.Prelude.{List, [], ◌∷◌}
use Rattle.slot_fields.specs.Fields.{Field, number}
use Rattle.rdb_types.specs.declared.keys.Dbkey.{Dbkey}

abbrev pub dbkey_fields : Dbkey → List Field
dbkey_fields key = number 4 key.area ∷ number 4 key.page ∷ number 2 key.line ∷ []
