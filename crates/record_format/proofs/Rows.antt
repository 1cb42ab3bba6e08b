-- The images of rows.
use Rattle.std.proofs.Common.{ℕ, ◌<◌, ◌≡◌, List, length, arith}
use Rattle.slot_fields.proofs.Laws.{whole_ends}
use Rattle.record_format.proofs.Images as images
use Rattle.record_format.proofs.Lists.{one_list}
use Rattle.record_format.proofs.Values.{values_code}
use Rattle.rdb_types.specs.declared.values.Value.{Value}
use Rattle.record_format.specs.Values.{value_fields, values_fields, IsValue, AreValues, AreBytes}
use Rattle.record_format.specs.Rows.{IsRowImage, row_fields}

pub not_short : (bytes : List ℕ) (version : ℕ) (row : List Value) → length bytes < 3 → IsRowImage bytes version row → ⊥
not_short bytes version row short is = omega (arith, short, whole_ends (values_fields row) 3 bytes is.fields.1.1)

pub values_of : (bytes : List ℕ) (version : ℕ) (row : List Value) → IsRowImage bytes version row → AreValues bytes 3 row
values_of bytes version row is = record { fields = is.fields.1.1; allowed = is.values }

pub one_row : (bytes : List ℕ) (v w : ℕ) (a b : List Value) → IsRowImage bytes v a → IsRowImage bytes w b → a ≡ b
one_row bytes v w a b x y = one_list value_fields IsValue bytes (values_code bytes) 3 a b (values_of bytes v a x) (values_of bytes w b y)

pub one_image : (a b : List ℕ) (version : ℕ) (row : List Value) → AreBytes a → AreBytes b → IsRowImage a version row → IsRowImage b version row → a ≡ b
one_image a b version row bytes too x y = images.one_image (row_fields version row) 0 a b bytes too x.fields y.fields
