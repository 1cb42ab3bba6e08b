-- A small map of lines: a relation T with a WORD K, a unique index X on K, and two rows.
use Rattle.std.specs.Prelude.{ℕ, true, List, [], ◌∷◌, pos}
use Rattle.rdb_types.specs.declared.keys.Dbkey.{Dbkey}
use Rattle.rdb_types.specs.declared.values.Field.{Field}
use Rattle.rdb_types.specs.declared.values.DataType.TheVariants.{Word}
use Rattle.rdb_types.specs.declared.values.Value.TheVariants.{Number}
use Rattle.rdb_meaning.specs.declared.tables.Tables.{Tables}
use Rattle.line_view.specs.Knowledge.{Lines}

abbrev pub at_page : ℕ → ℕ → Dbkey
at_page area page = record { area = area; page = page; line = 0 }

-- the row whose K is this number below 256
abbrev pub row_bytes : ℕ → List ℕ
row_bytes n = 1 ∷ 0 ∷ 1 ∷ 1 ∷ n ∷ 0 ∷ 0 ∷ 0 ∷ 0 ∷ 0 ∷ 0 ∷ 0 ∷ []

-- the pair of that row, which stands on this page, and what follows it
abbrev pub pair_bytes : ℕ → ℕ → List ℕ → List ℕ
pair_bytes n page rest = 9 ∷ 1 ∷ n ∷ 0 ∷ 0 ∷ 0 ∷ 0 ∷ 0 ∷ 0 ∷ 0 ∷ 16 ∷ 0 ∷ 0 ∷ 0 ∷ page ∷ 0 ∷ 0 ∷ 0 ∷ 0 ∷ 0 ∷ rest

abbrev pub relation_bytes : List ℕ
relation_bytes = 1 ∷ 16 ∷ 0 ∷ 0 ∷ 0 ∷ 208 ∷ 0 ∷ 1 ∷ 0 ∷ 1 ∷ 84 ∷ []

abbrev pub field_bytes : List ℕ
field_bytes = 3 ∷ 16 ∷ 0 ∷ 0 ∷ 0 ∷ 0 ∷ 0 ∷ 1 ∷ 0 ∷ 1 ∷ 0 ∷ 0 ∷ 0 ∷ 1 ∷ 75 ∷ []

abbrev pub index_bytes : List ℕ
index_bytes = 4 ∷ 17 ∷ 0 ∷ 0 ∷ 0 ∷ 16 ∷ 0 ∷ 0 ∷ 0 ∷ 1 ∷ 17 ∷ 0 ∷ 0 ∷ 0 ∷ 2 ∷ 0 ∷ 0 ∷ 0 ∷ 0 ∷ 0 ∷ 1 ∷ 0 ∷ 0 ∷ 1 ∷ 88 ∷ []

abbrev pub root_bytes : List ℕ
root_bytes = 0 ∷ 2 ∷ 0 ∷ 0 ∷ pair_bytes 7 2 (pair_bytes 9 3 [])

abbrev pub worked_lines : Lines
worked_lines =
    (at_page 1 2, relation_bytes)
    ∷ (at_page 1 3, field_bytes)
    ∷ (at_page 1 4, index_bytes)
    ∷ (at_page 16 2, row_bytes 7)
    ∷ (at_page 16 3, row_bytes 9)
    ∷ (at_page 17 2, root_bytes)
    ∷ []

abbrev pub worked_field : Field
worked_field = record { name = 75 ∷ []; kind = record { kind = Word; scale = 0; size = 0 }; version = 1 }

abbrev pub worked_tables : Tables
worked_tables =
    record {
      globals = [];
      relations = (
        84 ∷ [],
        record {
          area = 16;
          fields = worked_field ∷ [];
          rows = (at_page 16 2, Number (pos 7) ∷ []) ∷ (at_page 16 3, Number (pos 9) ∷ []) ∷ [];
        },
      )
          ∷ [];
      indexes = (88 ∷ [], record { area = 17; relation = 16; unique = true; fields = 0 ∷ [] }) ∷ [];
    }
