-- Two variables over one relation, the first of which has a row that is too short and the second none.
use Rattle.std.specs.Prelude.{◌≡◌, refl, pos, [], ◌∷◌, Some, None, codes}
use Rattle.rdb_types.specs.declared.values.Value.TheVariants.{Missing, Number}
use Rattle.rdb_types.specs.declared.values.DataType.TheVariants.{Longword}
use Rattle.rdb_types.specs.declared.values.FieldType.{FieldType}
use Rattle.rdb_types.specs.declared.keys.Dbkey.{Dbkey}
use Rattle.rdb_meaning.specs.declared.tables.Tables.{Tables}
use Rattle.rdb_meaning.specs.Evaluation.{Scope}
use Rattle.rdo_values.specs.Rows.{row_of, variables_of}
use Rattle.rdo_values.specs.Places.{located}

abbrev hundredths : FieldType
hundredths = record { kind = Longword; scale = 2; size = 0 }

abbrev whole : FieldType
whole = record { kind = Longword; scale = 0; size = 0 }

abbrev first_line : Dbkey
first_line = record { area = 16; page = 2; line = 0 }

abbrev jobs : Tables
jobs = record {
  globals = [];
  indexes = [];
  relations = (
    codes "JOBS",
    record {
      area = 16;
      fields = record { name = codes "CODE"; kind = whole; version = 1 } ∷ record { name = codes "PAY"; kind = hundredths; version = 2 } ∷ [];
      rows = (first_line, Number (pos 7) ∷ []) ∷ [];
    },
  ) ∷ [];
}

abbrev two : Scope
two = record { variable = codes "X"; relation = codes "JOBS"; key = Some first_line } ∷ record { variable = codes "Y"; relation = codes "JOBS"; key = None } ∷ []

pub two_rows : row_of jobs two ≡ Number (pos 7) ∷ Missing ∷ Missing ∷ Missing ∷ []
two_rows = refl

pub second_pay : located (record { variable = codes "Y"; field = codes "PAY" }) jobs (variables_of two) ≡ Some (record { place = 3; kind = hundredths })
second_pay = refl

pub no_field : located (record { variable = codes "Y"; field = codes "RATE" }) jobs (variables_of two) ≡ None
no_field = refl
