-- The bytes of a line determine it.
use Rattle.std.proofs.Common.{ℕ, zero, suc, ◌+◌, ◌*◌, ◌<◌, ◌≡◌, Bool, true, false, List, ◌++◌, length, refl, sym, ap, ◌∙◌, arith}
use Rattle.slot_fields.specs.Fields.{number_at, size, HasPart, HasFrom}
use Rattle.slot_fields.proofs.Laws.{size_append, part_append, from_first, from_rest, whole_ends, whole_of_part, part_of_whole}
use Rattle.rdb_types.specs.declared.values.DataType.{DataType}
use Rattle.rdb_types.specs.declared.values.DataType.TheVariants.{Word, Longword, Quadword, Text}
use Rattle.rdb_types.specs.declared.values.FieldType.{FieldType}
use Rattle.record_format.proofs.Images as images
use Rattle.record_format.specs.Values.{AreBytes}
use Rattle.catalog_lines.specs.declared.line.RelationLine.{RelationLine}
use Rattle.catalog_lines.specs.declared.line.GlobalLine.{GlobalLine}
use Rattle.catalog_lines.specs.declared.line.FieldLine.{FieldLine}
use Rattle.catalog_lines.specs.declared.line.IndexLine.{IndexLine}
use Rattle.catalog_lines.specs.declared.line.CatalogLine.{CatalogLine}
use Rattle.catalog_lines.specs.declared.line.CatalogLine.TheVariants.{Relation, Global, Field as FieldOf, Index}
use Rattle.catalog_lines.specs.Parts.{kind_byte, flag_byte, name_fields, type_fields, positions_fields, EndsWithName}
use Rattle.catalog_lines.specs.Lines.{relation_fields, global_fields, field_fields, index_fields, line_fields, IsCatalogLine}
use Rattle.catalog_lines.proofs.Positions.{size_positions, one_positions}

one_name : (bytes : List ℕ) (at : ℕ) (a b : List ℕ) → HasFrom at (name_fields a) bytes → HasFrom at (name_fields b) bytes → a ≡ b
one_name bytes at a b p q =
    let same : length a ≡ length b = sym p.0 ∙ q.0 in
    let name : a ≡ b = cc in
    name

abbrev kind_from : ℕ → DataType
kind_from zero = Text
kind_from (suc zero) = Word
kind_from (suc (suc zero)) = Longword
kind_from (suc (suc (suc zero))) = Quadword
kind_from (suc (suc (suc (suc n)))) = Text

kind_back : (k : DataType) → kind_from (kind_byte k) ≡ k
kind_back Word = refl
kind_back Longword = refl
kind_back Quadword = refl
kind_back Text = refl

one_type : (bytes : List ℕ) (at : ℕ) (a b : FieldType) → HasPart at (type_fields a) bytes → HasPart at (type_fields b) bytes → a ≡ b
one_type bytes at a b p q =
    let kind : a.kind ≡ b.kind = sym (kind_back a.kind) ∙ ap kind_from (sym p.0 ∙ q.0) ∙ kind_back b.kind in
    let scale : a.scale ≡ b.scale = sym p.1.0 ∙ q.1.0 in
    let size : a.size ≡ b.size = sym p.1.1.0 ∙ q.1.1.0 in
    λ i. record { kind = kind i; scale = scale i; size = size i }

one_flag : (a b : Bool) → flag_byte a ≡ flag_byte b → a ≡ b
one_flag true true same = refl
one_flag true false same = cc
one_flag false true same = cc
one_flag false false same = refl

one_relation : (bytes : List ℕ) (a b : RelationLine) → HasFrom 0 (relation_fields a) bytes → HasFrom 0 (relation_fields b) bytes → a ≡ b
one_relation bytes a b p q =
    let area : a.area ≡ b.area = sym p.1.0 ∙ q.1.0 in
    let class : a.class ≡ b.class = sym p.1.1.0 ∙ q.1.1.0 in
    let version : a.version ≡ b.version = sym p.1.1.1.0 ∙ q.1.1.1.0 in
    let name : a.name ≡ b.name = one_name bytes 9 a.name b.name p.1.1.1.1 q.1.1.1.1 in
    λ i. record { area = area i; class = class i; version = version i; name = name i }

one_global : (bytes : List ℕ) (a b : GlobalLine) → HasFrom 0 (global_fields a) bytes → HasFrom 0 (global_fields b) bytes → a ≡ b
one_global bytes a b p q =
    let kind : a.kind ≡ b.kind = one_type bytes 1 a.kind b.kind (from_first 1 (type_fields a.kind) (name_fields a.name) bytes p.1) (from_first 1 (type_fields b.kind) (name_fields b.name) bytes q.1) in
    let name : a.name ≡ b.name = one_name bytes 5 a.name b.name p.1.1.1.1 q.1.1.1.1 in
    λ i. record { kind = kind i; name = name i }

one_field : (bytes : List ℕ) (a b : FieldLine) → HasFrom 0 (field_fields a) bytes → HasFrom 0 (field_fields b) bytes → a ≡ b
one_field bytes a b p q =
    let relation : a.relation ≡ b.relation = sym p.1.0 ∙ q.1.0 in
    let position : a.position ≡ b.position = sym p.1.1.0 ∙ q.1.1.0 in
    let version : a.field.version ≡ b.field.version = sym p.1.1.1.0 ∙ q.1.1.1.0 in
    let kind : a.field.kind ≡ b.field.kind =
    one_type bytes 9 a.field.kind b.field.kind (from_first 9 (type_fields a.field.kind) (name_fields a.field.name) bytes p.1.1.1.1) (from_first 9 (type_fields b.field.kind) (name_fields b.field.name) bytes q.1.1.1.1) in
    let name : a.field.name ≡ b.field.name = one_name bytes 13 a.field.name b.field.name p.1.1.1.1.1.1.1 q.1.1.1.1.1.1.1 in
    λ i. record { relation = relation i; position = position i; field = record { name = name i; kind = kind i; version = version i } }

-- ---- indexes

-- what stands behind the count of an index's positions
abbrev HasTail : List ℕ → List ℕ → List ℕ → Type 0
HasTail bytes ps name = HasFrom 21 (positions_fields ps ++ name_fields name) bytes

tail_of : (bytes : List ℕ) (x : IndexLine) → HasFrom 0 (index_fields x) bytes → HasTail bytes x.fields x.name
tail_of bytes x has = has.1.1.1.1.1.1.1.1

count_of : (bytes : List ℕ) (x : IndexLine) → HasFrom 0 (index_fields x) bytes → number_at 1 20 bytes ≡ length x.fields
count_of bytes x has = has.1.1.1.1.1.1.1.0

name_of : (bytes : List ℕ) (at : ℕ) (x : IndexLine) → at ≡ 21 + 2 * length x.fields → HasFrom 0 (index_fields x) bytes → HasFrom at (name_fields x.name) bytes
name_of bytes at x is has = from_rest 21 at (positions_fields x.fields) (name_fields x.name) bytes (omega (arith, is, size_positions x.fields)) (tail_of bytes x has)

one_index : (bytes : List ℕ) (a b : IndexLine) → HasFrom 0 (index_fields a) bytes → HasFrom 0 (index_fields b) bytes → a ≡ b
one_index bytes a b p q =
    let count : length a.fields ≡ length b.fields = sym (count_of bytes a p) ∙ count_of bytes b q in
    let area : a.area ≡ b.area = sym p.1.0 ∙ q.1.0 in
    let relation : a.relation ≡ b.relation = sym p.1.1.0 ∙ q.1.1.0 in
    let unique : a.unique ≡ b.unique = one_flag a.unique b.unique (sym p.1.1.1.0 ∙ q.1.1.1.0) in
    let root_area : a.root.area ≡ b.root.area = sym p.1.1.1.1.0 ∙ q.1.1.1.1.0 in
    let root_page : a.root.page ≡ b.root.page = sym p.1.1.1.1.1.0 ∙ q.1.1.1.1.1.0 in
    let root_line : a.root.line ≡ b.root.line = sym p.1.1.1.1.1.1.0 ∙ q.1.1.1.1.1.1.0 in
    let fields : a.fields ≡ b.fields =
    one_positions 21 a.fields b.fields bytes count (from_first 21 (positions_fields a.fields) (name_fields a.name) bytes (tail_of bytes a p)) (from_first 21 (positions_fields b.fields) (name_fields b.name) bytes (tail_of bytes b q)) in
    let at = 21 + 2 * length a.fields in
    let name : a.name ≡ b.name = one_name bytes at a.name b.name (name_of bytes at a refl p) (name_of bytes at b (omega (arith, count)) q) in
    λ i. record { area = area i; relation = relation i; unique = unique i; root = record { area = root_area i; page = root_page i; line = root_line i }; fields = fields i; name = name i }

pub index_not_short : (bytes : List ℕ) (x : IndexLine) → length bytes < 21 → IsCatalogLine bytes (Index x) → ⊥
index_not_short bytes x short is = omega (arith, short, whole_ends (positions_fields x.fields ++ name_fields x.name) 21 bytes (tail_of bytes x is.fields))

pub index_not_cut : (bytes : List ℕ) (x : IndexLine) (count : ℕ) → count ≡ number_at 1 20 bytes → length bytes < 21 + 2 * count → IsCatalogLine bytes (Index x) → ⊥
index_not_cut bytes x count said short is =
    omega (arith, said, short, count_of bytes x is.fields, size_positions x.fields, size_append (positions_fields x.fields) (name_fields x.name), whole_ends (positions_fields x.fields ++ name_fields x.name) 21 bytes (tail_of bytes x is.fields))

pub index_not_unnamed : (bytes : List ℕ) (x : IndexLine) (count : ℕ) → count ≡ number_at 1 20 bytes → ((name : List ℕ) → EndsWithName bytes (21 + 2 * count) name → ⊥) → IsCatalogLine bytes (Index x) → ⊥
index_not_unnamed bytes x count said none is =
    none x.name (record { fields = name_of bytes (21 + 2 * count) x (omega (arith, said, count_of bytes x is.fields)) is.fields; allowed = is.allowed.name })

pub tail_found : (bytes : List ℕ) (ps name : List ℕ) (at : ℕ) → at ≡ 21 + 2 * length ps → HasPart 21 (positions_fields ps) bytes → HasFrom at (name_fields name) bytes → HasFrom 21 (positions_fields ps ++ name_fields name) bytes
tail_found bytes ps name at is positions named =
    let middle : at ≡ 21 + size (positions_fields ps) = omega (arith, is, size_positions ps) in
    whole_of_part (positions_fields ps ++ name_fields name) 21 bytes (omega (arith, middle, whole_ends (name_fields name) at bytes named, size_append (positions_fields ps) (name_fields name)))
    (part_append 21 at (positions_fields ps) (name_fields name) bytes middle positions (part_of_whole (name_fields name) at bytes named))

-- ---- lines

pub not_empty : (bytes : List ℕ) (line : CatalogLine) → length bytes ≡ 0 → IsCatalogLine bytes line → ⊥
not_empty bytes (Relation r) empty is = omega (arith, empty, whole_ends (relation_fields r) 0 bytes is.fields)
not_empty bytes (Global g) empty is = omega (arith, empty, whole_ends (global_fields g) 0 bytes is.fields)
not_empty bytes (FieldOf f) empty is = omega (arith, empty, whole_ends (field_fields f) 0 bytes is.fields)
not_empty bytes (Index x) empty is = omega (arith, empty, whole_ends (index_fields x) 0 bytes is.fields)

pub one_line : (bytes : List ℕ) (a b : CatalogLine) → IsCatalogLine bytes a → IsCatalogLine bytes b → a ≡ b
one_line bytes (Relation a) (Relation b) x y = ap Relation (one_relation bytes a b x.fields y.fields)
one_line bytes (Relation a) (Global b) x y = absurd (omega (arith, x.fields.0, y.fields.0))
one_line bytes (Relation a) (FieldOf b) x y = absurd (omega (arith, x.fields.0, y.fields.0))
one_line bytes (Relation a) (Index b) x y = absurd (omega (arith, x.fields.0, y.fields.0))
one_line bytes (Global a) (Relation b) x y = absurd (omega (arith, x.fields.0, y.fields.0))
one_line bytes (Global a) (Global b) x y = ap Global (one_global bytes a b x.fields y.fields)
one_line bytes (Global a) (FieldOf b) x y = absurd (omega (arith, x.fields.0, y.fields.0))
one_line bytes (Global a) (Index b) x y = absurd (omega (arith, x.fields.0, y.fields.0))
one_line bytes (FieldOf a) (Relation b) x y = absurd (omega (arith, x.fields.0, y.fields.0))
one_line bytes (FieldOf a) (Global b) x y = absurd (omega (arith, x.fields.0, y.fields.0))
one_line bytes (FieldOf a) (FieldOf b) x y = ap FieldOf (one_field bytes a b x.fields y.fields)
one_line bytes (FieldOf a) (Index b) x y = absurd (omega (arith, x.fields.0, y.fields.0))
one_line bytes (Index a) (Relation b) x y = absurd (omega (arith, x.fields.0, y.fields.0))
one_line bytes (Index a) (Global b) x y = absurd (omega (arith, x.fields.0, y.fields.0))
one_line bytes (Index a) (FieldOf b) x y = absurd (omega (arith, x.fields.0, y.fields.0))
one_line bytes (Index a) (Index b) x y = ap Index (one_index bytes a b x.fields y.fields)

pub one_image : (a b : List ℕ) (line : CatalogLine) → AreBytes a → AreBytes b → IsCatalogLine a line → IsCatalogLine b line → a ≡ b
one_image a b line bytes too x y = images.one_image (line_fields line) 0 a b bytes too x.fields y.fields
