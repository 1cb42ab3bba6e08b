-- What is checked by the tables of a catalog is the meaning's refusal in the tables with their rows.
use Rattle.std.proofs.Common.{◌≡◌, ℕ, true, List, [], ◌∷◌, Option, Some, None, refl, sym, ap, ◌∙◌, cond}
use Rattle.std.specs.Prelude.{◌==◌}
use Rattle.std.specs.FinMap.Entries.{find}
use Rattle.rdb_types.specs.Order.{chars_order}
use Rattle.rdo_ast.specs.declared.reply.Reply.{Reply}
use Rattle.rdo_ast.specs.declared.reply.Reply.TheVariants.{Exists}
use Rattle.rdo_ast.specs.declared.reply.Standing.{Standing}
use Rattle.rdo_ast.specs.Tree.{Name, define_field, define_relation, define_index, delete_relation, delete_index}
use Rattle.rdo_ast.specs.declared.syntax.IndexDefinition.{IndexDefinition}
use Rattle.rdo_ast.specs.declared.syntax.FieldDefinition.{FieldDefinition}
use Rattle.rdo_ast.specs.declared.syntax.Reservation.{Reservation}
use Rattle.rdb_types.specs.declared.values.FieldType.{FieldType}
use Rattle.rdb_meaning.specs.declared.tables.Relation.{Relation}
use Rattle.rdb_meaning.specs.declared.tables.Index.{Index}
use Rattle.rdb_meaning.specs.declared.tables.Tables.{Tables}
use Rattle.rdb_meaning.specs.Contents.{relation_named}
use Rattle.rdb_meaning.specs.Checks.{Refusal, or_else, needs_some, needs_none, use_of, reservation_refusal}
use Rattle.rdb_meaning.specs.Defining.{field_names, relation_names, is_among, index_fields_names, index_names, index_refusal}
use Rattle.rdb_meaning.specs.Meaning.{needs_read_write, reservations_of, uses_of_area, index_uses, command_refusal, reserved_names}
use Rattle.line_view.specs.Knowledge.{Lines}
use Rattle.catalog.specs.declared.reading.Catalog.{Catalog}
use Rattle.sound_lines.specs.Contents.{HaveRows, versions_in}
use Rattle.sound_changes.specs.Standing.{IsSoundAs}
use Rattle.deleted_areas.proofs.of_schema_writes.Alike.{Alike, index_alike, relation_alike}
use Rattle.index_writes.specs.Definition.{definition_refusal}
use Rattle.index_writes.proofs.Refusals.{fields_alike}

or_none : (o : Refusal) → or_else o None ≡ o
or_none (Some reply) = refl
or_none None = refl

-- ---- in a read-write transaction

pub writing_field : (word : List ℕ) (n : Name) (type : FieldType) (standing : Standing) (t : Tables) → needs_read_write standing ≡ None → field_names n t ≡ command_refusal word (define_field n type) standing t
writing_field word n type standing t writing = ap (λ o. or_else o (field_names n t)) (sym writing)

pub writing_relation : (word : List ℕ) (n : Name) (fs : List FieldDefinition) (standing : Standing) (t : Tables) → needs_read_write standing ≡ None → relation_names n fs t ≡ command_refusal word (define_relation n fs) standing t
writing_relation word n fs standing t writing = ap (λ o. or_else o (relation_names n fs t)) (sym writing)

-- what is reserved for a deletion is checked before
pub deleting_relation : (word : List ℕ) (n : Name) (standing : Standing) (t : Tables) → needs_read_write standing ≡ None → reservation_refusal (reservations_of standing) (use_of true n ∷ []) ≡ None →
    needs_some n (relation_named n t) ≡ command_refusal word (delete_relation n) standing t
deleting_relation word n standing t writing reserved =
    sym (or_none (needs_some n (relation_named n t))) ∙ ap (λ o. or_else (needs_some n (relation_named n t)) o) (sym reserved)
    ∙ ap (λ o. or_else o (or_else (needs_some n (relation_named n t)) (reservation_refusal (reservations_of standing) (use_of true n ∷ [])))) (sym writing)

pub deleting_index : (word : List ℕ) (n : Name) (standing : Standing) (t : Tables) → needs_read_write standing ≡ None → reservation_refusal (reservations_of standing) (index_uses (find chars_order n t.indexes) t) ≡ None →
    needs_some n (find chars_order n t.indexes) ≡ command_refusal word (delete_index n) standing t
deleting_index word n standing t writing reserved =
    sym (or_none (needs_some n (find chars_order n t.indexes))) ∙ ap (λ o. or_else (needs_some n (find chars_order n t.indexes)) o) (sym reserved)
    ∙ ap (λ o. or_else o (or_else (needs_some n (find chars_order n t.indexes)) (reservation_refusal (reservations_of standing) (index_uses (find chars_order n t.indexes) t)))) (sym writing)

-- ---- the same in both tables

uses_alike : (all : Lines) (versions : List (Name × ℕ)) (area : ℕ) (bs ws : List (Name × Relation)) → HaveRows all versions bs ws → uses_of_area area bs ≡ uses_of_area area ws
uses_alike all versions area [] [] have = refl
uses_alike all versions area [] (w ∷ ws) have = absurd have
uses_alike all versions area (b ∷ bs) [] have = absurd have
uses_alike all versions area (b ∷ bs) (w ∷ ws) have = λ i.
    cond ((have.1.area) i == area) (use_of true ((sym have.0) i) ∷ []) (uses_alike all versions area bs ws have.2 i)

pub index_uses_alike : (c : Catalog) (all : Lines) (t : Tables) (o : Option Index) → IsSoundAs all c t → index_uses o c.tables ≡ index_uses o t
index_uses_alike c all t (Some x) sound = uses_alike all (versions_in c.lines) x.relation c.tables.relations t.relations sound.are.relations
index_uses_alike c all t None sound = refl

pub index_uses_here : (c : Catalog) (all : Lines) (t : Tables) (n : Name) → IsSoundAs all c t → index_uses (find chars_order n c.tables.indexes) c.tables ≡ index_uses (find chars_order n t.indexes) t
index_uses_here c all t n sound =
    ap (λ (es : List (Name × Index)). index_uses (find chars_order n es) c.tables) (sym sound.are.indexes) ∙ index_uses_alike c all t (find chars_order n t.indexes) sound

pub relation_goes_alike : (word : List ℕ) (c : Catalog) (n : Name) (standing : Standing) → Alike c (command_refusal word (delete_relation n) standing)
relation_goes_alike word c n standing all t sound =
    ap (λ o. or_else (needs_read_write standing) (or_else o (reservation_refusal (reservations_of standing) (use_of true n ∷ [])))) (relation_alike c n all t sound)

pub index_goes_alike : (word : List ℕ) (c : Catalog) (n : Name) (standing : Standing) → Alike c (command_refusal word (delete_index n) standing)
index_goes_alike word c n standing all t sound =
    let uses : index_uses (find chars_order n c.tables.indexes) c.tables ≡ index_uses (find chars_order n t.indexes) t =
    ap (λ (es : List (Name × Index)). index_uses (find chars_order n es) c.tables) (sym sound.are.indexes) ∙ index_uses_alike c all t (find chars_order n t.indexes) sound in
    λ i. or_else (needs_read_write standing) (or_else (index_alike c n all t sound i) (reservation_refusal (reservations_of standing) (uses i)))

-- what the catalog refuses of a deletion the meaning does
pub relation_barred : (word : List ℕ) (c : Catalog) (n : Name) (standing : Standing) (reply : Reply) → needs_read_write standing ≡ None → or_else (needs_some n (relation_named n c.tables)) (reservation_refusal (reservations_of standing) (use_of true n ∷ [])) ≡ Some reply →
    (all : Lines) (t : Tables) → IsSoundAs all c t → command_refusal word (delete_relation n) standing t ≡ Some reply
relation_barred word c n standing reply writing refuses all t sound =
    sym (relation_goes_alike word c n standing all t sound)
    ∙ ap (λ o. or_else o (or_else (needs_some n (relation_named n c.tables)) (reservation_refusal (reservations_of standing) (use_of true n ∷ [])))) writing ∙ refuses

pub index_goes_barred : (word : List ℕ) (c : Catalog) (n : Name) (standing : Standing) (reply : Reply) → needs_read_write standing ≡ None →
    or_else (needs_some n (find chars_order n c.tables.indexes)) (reservation_refusal (reservations_of standing) (index_uses (find chars_order n c.tables.indexes) c.tables)) ≡ Some reply →
    (all : Lines) (t : Tables) → IsSoundAs all c t → command_refusal word (delete_index n) standing t ≡ Some reply
index_goes_barred word c n standing reply writing refuses all t sound =
    sym (index_goes_alike word c n standing all t sound)
    ∙ ap (λ o. or_else o (or_else (needs_some n (find chars_order n c.tables.indexes)) (reservation_refusal (reservations_of standing) (index_uses (find chars_order n c.tables.indexes) c.tables)))) writing ∙ refuses

-- ---- DEFINE INDEX, whose reservation is checked before its keys

or_else_grouped : (a b o : Refusal) → or_else a (or_else b o) ≡ or_else (or_else a b) o
or_else_grouped (Some reply) b o = refl
or_else_grouped None b o = refl

or_else_some : (a o : Refusal) (reply : Reply) → a ≡ Some reply → or_else a o ≡ Some reply
or_else_some a o reply is = ap (λ x. or_else x o) is

index_names_alike : (c : Catalog) (d : IndexDefinition) → Alike c (index_names d)
index_names_alike c d all t sound =
    let some = relation_alike c d.relation all t sound in
    let fields = fields_alike all c t d sound in
    λ i. or_else (needs_none d.name (find chars_order d.name (sym sound.are.indexes i))) (or_else (some i) (index_fields_names [] d.fields (fields i)))

-- what is reserved for it
abbrev pub index_reserved : IndexDefinition → Standing → Refusal
index_reserved d standing = reservation_refusal (reservations_of standing) (use_of true d.relation ∷ [])

pub defining_index : (word : List ℕ) (d : IndexDefinition) (standing : Standing) (t : Tables) → needs_read_write standing ≡ None → index_reserved d standing ≡ None → definition_refusal d t ≡ command_refusal word (define_index d) standing t
defining_index word d standing t writing reserved =
    ap (λ o. or_else (index_names d t) (or_else o (index_refusal d t))) (sym reserved)
    ∙ ap (λ o. or_else o (or_else (index_names d t) (or_else (index_reserved d standing) (index_refusal d t)))) (sym writing)

pub index_barred : (word : List ℕ) (c : Catalog) (d : IndexDefinition) (standing : Standing) (reply : Reply) → needs_read_write standing ≡ None → or_else (index_names d c.tables) (index_reserved d standing) ≡ Some reply →
    (all : Lines) (t : Tables) → IsSoundAs all c t → command_refusal word (define_index d) standing t ≡ Some reply
index_barred word c d standing reply writing refuses all t sound =
    ap (λ o. or_else o (or_else (index_names d t) (or_else (index_reserved d standing) (index_refusal d t)))) writing
    ∙ or_else_grouped (index_names d t) (index_reserved d standing) (index_refusal d t)
    ∙ or_else_some (or_else (index_names d t) (index_reserved d standing)) (index_refusal d t) reply
    (ap (λ o. or_else o (index_reserved d standing)) (sym (index_names_alike c d all t sound)) ∙ refuses)

-- ---- reservations

reserved_alike_from : (c : Catalog) (all : Lines) (t : Tables) (before : List Name) (rs : List Reservation) → IsSoundAs all c t → reserved_names before rs c.tables ≡ reserved_names before rs t
reserved_alike_from c all t before [] sound = refl
reserved_alike_from c all t before (x ∷ xs) sound = λ i.
    or_else (relation_alike c x.relation all t sound i) (or_else (cond (is_among x.relation before) (Some (Exists x.relation)) None) (reserved_alike_from c all t (x.relation ∷ before) xs sound i))

pub reserved_alike : (c : Catalog) (rs : List Reservation) → Alike c (reserved_names [] rs)
reserved_alike c rs all t sound = reserved_alike_from c all t [] rs sound
