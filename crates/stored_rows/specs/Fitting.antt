-- Which values can be stored as a row of a relation.
use Rattle.std.specs.Prelude.{◌≡◌, ◌<◌, ℕ, true, List, length}
use Rattle.std.specs.List.{All}
use Rattle.rdb_types.specs.declared.values.Value.{Value}
use Rattle.rdb_types.specs.declared.values.Field.{Field}
use Rattle.record_format.specs.Values.{IsStorable}
use Rattle.record_format.specs.Rows.{IsVersion}
use Rattle.relation_rows.specs.Stored.{are_values_of}

-- The values can be laid out as a row in this version of a relation, and each of its fields may have its value.
pub record IsRowFor (version : ℕ) (fields : List Field) (row : List Value) : Type 0 where
  pub versioned : IsVersion version
  pub few : length row < 256
  pub count : length row ≡ length fields
  pub storable : All IsStorable row
  pub values : are_values_of fields row ≡ true
