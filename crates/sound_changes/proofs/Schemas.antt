-- The schema of a map's tables is that of its catalog, and stays where rows change.
use Rattle.std.proofs.Common.{◌≡◌, ℕ, true, false, cond, List, [], ◌∷◌, Option, Some, None, refl, sym, ap, ◌∙◌}
use Rattle.std.specs.Prelude.{option_map}
use Rattle.std.specs.Ordering.{is_eq}
use Rattle.std.specs.FinMap.Entries.{find, find-put}
use Rattle.rdb_types.specs.declared.keys.Dbkey.{Dbkey}
use Rattle.rdo_ast.specs.Tree.{Name}
use Rattle.rdb_meaning.specs.declared.tables.Relation.{Relation as Rows}
use Rattle.rdb_meaning.specs.declared.tables.Tables.{Tables}
use Rattle.rdb_meaning.specs.Contents.{Row, relation_named, rows_changed, with_rows}
use Rattle.line_view.specs.Knowledge.{Lines}
use Rattle.sound_lines.specs.catalog.declared.reading.Catalog.{Catalog}
use Rattle.sound_lines.specs.relation_rows.Relations.{HasRows}
use Rattle.sound_lines.specs.Contents.{versions_in, version_of, stored, HaveRows, AreTablesWith}
use Rattle.schema_alone.specs.Schema.{bare, OneSchema}
use Rattle.rdb_types.specs.Order.{chars_order}
use Rattle.rdb_types.specs.OrderLaws.{chars_total, same_chars}
use Rattle.sound_changes.proofs.Basics.{equal}

same_bare : (all : Lines) (version : ℕ) (b w : Rows) → HasRows all (stored version b) w → bare b ≡ bare w
same_bare all version b w has = λ i. record { area = has.area i; fields = has.fields i; rows = [] }

named_bare : (all : Lines) (versions : List (Name × ℕ)) (n : Name) (bs ws : List (Name × Rows)) → HaveRows all versions bs ws → option_map bare (find chars_order n bs) ≡ option_map bare (find chars_order n ws)
named_bare all versions n [] [] have = refl
named_bare all versions n [] (w ∷ ws) have = absurd have
named_bare all versions n (b ∷ bs) [] have = absurd have
named_bare all versions n (b ∷ bs) (w ∷ ws) have =
    elim (is_eq (chars_order n b.0)) as (λ t. option_map bare (cond t (Some b.1) (find chars_order n bs)) ≡ option_map bare (cond t (Some w.1) (find chars_order n ws))) [
      | true ↦ ap Some (same_bare all (version_of b.0 versions) b.1 w.1 have.1)
      | false ↦ named_bare all versions n bs ws have.2
    ]
    ∙ ap (λ (m : Name). option_map bare (cond (is_eq (chars_order n m)) (Some w.1) (find chars_order n ws))) (sym have.0)

pub catalogs_schema : (all : Lines) (c : Catalog) (t : Tables) → AreTablesWith all c t → OneSchema c.tables t
catalogs_schema all c t are n = named_bare all (versions_in c.lines) n c.tables.relations t.relations are.relations

changed_bare : (n m : Name) (f : List (Dbkey × Row) → List (Dbkey × Row)) (t : Tables) (o : Option Rows) → relation_named n t ≡ o → option_map bare (relation_named m t) ≡ option_map bare (relation_named m (rows_changed n f o t))
changed_bare n m f t None is = refl
changed_bare n m f t (Some rel) is =
    let v : Rows = with_rows (f rel.rows) rel in
    elim (is_eq (chars_order m n)) as (λ b. is_eq (chars_order m n) ≡ b → option_map bare (relation_named m t) ≡ option_map bare (cond b (Some v) (find chars_order m t.relations))) [
      | true ↦ λ tie. ap (λ (k : Name). option_map bare (relation_named k t)) (same_chars m n (equal _ tie)) ∙ ap (option_map bare) is
      | false ↦ λ apart. refl
    ] refl
    ∙ sym (ap (option_map bare) (find-put chars_order chars_total m n v t.relations))

pub schema_stays : (n : Name) (f : List (Dbkey × Row) → List (Dbkey × Row)) (t : Tables) → OneSchema t (rows_changed n f (relation_named n t) t)
schema_stays n f t m = changed_bare n m f t (relation_named n t) refl
