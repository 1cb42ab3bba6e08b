-- Definitions and deletions. Relations, indexes and global fields are three separate sets of names.
use Rattle.std.specs.Prelude.{ℕ, Bool, false, not, ◌&&◌, ◌||◌, if◌then◌else◌, nat_lt, ◌==◌, List, [], ◌∷◌, ◌++◌, map, filter, sum_by, Option, Some, None}
use Rattle.std.specs.List.{list_any, filter_map}
use Rattle.std.specs.FinMap.Entries.{find, put}
use Rattle.ordered_entries.specs.rdb_types.declared.keys.Dbkey.{Dbkey}
use Rattle.ordered_entries.specs.rdb_types.declared.values.Field.{Field}
use Rattle.ordered_entries.specs.rdb_types.declared.values.FieldType.{FieldType}
use Rattle.ordered_entries.specs.rdb_types.declared.values.DataType.TheVariants.{Quadword}
use Rattle.rdo_ast.specs.declared.syntax.FieldDefinition.{FieldDefinition}
use Rattle.rdo_ast.specs.declared.syntax.IndexDefinition.{IndexDefinition}
use Rattle.rdo_ast.specs.declared.syntax.DefinedType.{DefinedType}
use Rattle.rdo_ast.specs.declared.syntax.DefinedType.TheVariants.{Own, BasedOn}
use Rattle.rdo_ast.specs.declared.reply.Reply.TheVariants.{Exists, Duplicate, TooLong}
use Rattle.rdo_ast.specs.Tree.{Name}
use Rattle.rdb_meaning.specs.declared.tables.Tables.{Tables}
use Rattle.rdb_meaning.specs.Contents.{Row, same_name, relation_named, fields_of, rows_of, place_of, new_relation_area, new_index_area, longest_value, has_key}
use Rattle.ordered_entries.specs.rdb_types.Order.{chars_order}
use Rattle.rdb_meaning.specs.Checks.{Refusal, or_else, needs_some, needs_none}
use Rattle.rdb_meaning.specs.Execution.{area_of}

-- ---- DEFINE FIELD

abbrev pub field_names : Name → Tables → Refusal
field_names n t = needs_none n (find chars_order n t.globals)

abbrev pub with_field : Name → FieldType → Tables → Tables
with_field n type t = record t { globals = put chars_order n type t.globals }

-- ---- DEFINE RELATION

abbrev pub type_names : DefinedType → Tables → Refusal
type_names (Own type) t = None
type_names (BasedOn g) t = needs_some g (find chars_order g t.globals)

abbrev pub is_among : Name → List Name → Bool
is_among n ns = list_any (same_name n) ns

-- no field is named twice, and each global field is there; the names before stand in the order of the text
abbrev pub fields_names : List Name → List FieldDefinition → Tables → Refusal
fields_names before [] t = None
fields_names before (f ∷ fs) t =
    or_else (if is_among f.name before then Some (Exists f.name) else None) (or_else (type_names f.kind t) (fields_names (before ++ f.name ∷ []) fs t))

abbrev pub relation_names : Name → List FieldDefinition → Tables → Refusal
relation_names n fs t = or_else (needs_none n (relation_named n t)) (fields_names [] fs t)

abbrev pub copied_type : Option FieldType → FieldType
copied_type (Some type) = type
copied_type None = record { kind = Quadword; scale = 0; size = 0 }

abbrev pub type_of : DefinedType → Tables → FieldType
type_of (Own type) t = type
type_of (BasedOn g) t = copied_type (find chars_order g t.globals)

abbrev pub new_field : Tables → FieldDefinition → Field
new_field t f = record { name = f.name; kind = type_of f.kind t; version = 1 }

abbrev pub with_relation : Name → List FieldDefinition → Tables → Tables
with_relation n fs t =
    record t { relations = put chars_order n (record { area = new_relation_area t; fields = map (new_field t) fs; rows = [] }) t.relations }

-- ---- DEFINE INDEX

-- each field is there, and none is named twice
abbrev pub index_fields_names : List Name → List Name → List Field → Refusal
index_fields_names before [] fields = None
index_fields_names before (n ∷ ns) fields =
    or_else (needs_some n (place_of n fields))
    (or_else (if is_among n before then Some (Exists n) else None) (index_fields_names (n ∷ before) ns fields))

abbrev pub index_names : IndexDefinition → Tables → Refusal
index_names d t =
    or_else (needs_none d.name (find chars_order d.name t.indexes))
    (or_else (needs_some d.relation (relation_named d.relation t)) (index_fields_names [] d.fields (fields_of (relation_named d.relation t))))

abbrev pub place_number : Option (ℕ × Field) → Option ℕ
place_number (Some p) = Some p.0
place_number None = None

abbrev pub positions_of : List Name → List Field → List ℕ
positions_of ns fields = filter_map (λ n. place_number (place_of n fields)) ns

abbrev pub longest_field : Option (ℕ × Field) → ℕ
longest_field (Some p) = longest_value p.1.kind
longest_field None = 0

abbrev pub longest_at : List Field → Name → ℕ
longest_at fields n = longest_field (place_of n fields)

abbrev pub longest_key : List Name → List Field → ℕ
longest_key ns fields = sum_by (longest_at fields) ns

-- two rows have one key
abbrev pub keys_repeat : List ℕ → List (Dbkey × Row) → Bool
keys_repeat positions [] = false
keys_repeat positions (e ∷ es) = has_key positions e.1 es || keys_repeat positions es

-- the longest possible key first, then the rows
abbrev pub index_refusal : IndexDefinition → Tables → Refusal
index_refusal d t =
    if nat_lt 120 (longest_key d.fields (fields_of (relation_named d.relation t))) then Some TooLong
    else (if d.unique && keys_repeat (positions_of d.fields (fields_of (relation_named d.relation t))) (rows_of (relation_named d.relation t))
    then Some (Duplicate d.name) else None)

abbrev pub with_index : IndexDefinition → Tables → Tables
with_index d t =
    record t {
      indexes = put chars_order d.name (record {
        area = new_index_area t;
        relation = area_of (relation_named d.relation t);
        unique = d.unique;
        fields = positions_of d.fields (fields_of (relation_named d.relation t));
      }) t.indexes;
    }

-- ---- deletions

abbrev pub without : {A : Type 0} → Name → List (Name × A) → List (Name × A)
without n es = filter (λ e. not (same_name n e.0)) es

-- a relation goes with its rows, its fields and its indexes
abbrev pub without_relation : Name → Tables → Tables
without_relation n t =
    record t {
      relations = without n t.relations;
      indexes = filter (λ e. not (e.1.relation == area_of (relation_named n t))) t.indexes;
    }

abbrev pub without_index : Name → Tables → Tables
without_index n t = record t { indexes = without n t.indexes }
