-- DEFINE FIELD.
use Rattle.std.proofs.Common.{ℕ, List, [], ◌∷◌, Option, sym, subst}
use Rattle.rdb_types.specs.declared.values.FieldType.{FieldType}
use Rattle.rdo_ast.specs.Tree.{Name}
use Rattle.rdb_meaning.specs.declared.tables.Tables.{Tables}
use Rattle.rdb_meaning.specs.Defining.{with_field}
use Rattle.line_view.specs.Knowledge.{Knowledge, Lines, Agrees, laid}
use Rattle.line_view.specs.declared.writes.Write.{Write}
use Rattle.line_view.specs.Writes.{laid_all}
use Rattle.catalog.specs.declared.reading.Catalog.{Catalog}
use Rattle.catalog.specs.Reading.{IsCatalogOf}
use Rattle.catalog_definitions.specs.Causes.{catalog_room}
use Rattle.catalog_definitions.specs.Written.{AreWritten, global_line}
use Rattle.catalog_definitions.specs.Leaving.{Leaves}
use Rattle.sound_changes.specs.Standing.{IsSoundAs}
use Rattle.sound_definitions.proofs.NewLine.{global_defined}

pub field_defined : (known : Knowledge) (all : Lines) (c : Catalog) (t : Tables) (n : Name) (type : FieldType) (writes : List Write) → IsSoundAs all c t → Agrees known all → AreWritten known 0 (global_line n type ∷ []) writes →
    (left : Leaves all writes (with_field n type c.tables)) → IsSoundAs (laid_all writes all) left.after (with_field n type t)
field_defined known all c t n type [] sound agrees written left = absurd written
field_defined known all c t n type (w ∷ []) sound agrees written left =
    let line = written.1 in
    subst (λ (o : Option (List ℕ)). IsSoundAs (laid w.key o all) left.after (with_field n type t)) (sym line.present)
    (global_defined all c left.after t w.key line.bytes (record { kind = type; name = n }) sound
    (agrees.within (catalog_room 0) w.key written.0) (agrees.free (catalog_room 0) w.key written.0) line.decodes
    (subst (λ (o : Option (List ℕ)). IsCatalogOf (laid w.key o all) left.after) line.present left.catalog) left.tables)
field_defined known all c t n type (w ∷ x ∷ ws) sound agrees written left = absurd written.2
