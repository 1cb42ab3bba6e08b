-- Why an item is left unworked.
use Rattle.std.specs.Prelude.{◌≡◌, ◌≢◌, ℕ, List, Option, Some}
use Rattle.rdo_ast.specs.declared.reply.Standing.{Standing}
use Rattle.rdo_ast.specs.declared.syntax.IndexDefinition.{IndexDefinition}
use Rattle.rdo_ast.specs.Tree.{Act, Command, Uttered, said, invoke, start_read_only, start_read_write, commit, rollback, finish, back_up, perform, define_field, define_relation, define_index, delete_relation, delete_index}
use Rattle.rdb_meaning.specs.declared.tables.Tables.{Tables}
use Rattle.rdb_meaning.specs.declared.tables.Relation.{Relation}
use Rattle.rdb_meaning.specs.Contents.{relation_named}
use Rattle.line_view.specs.declared.need.Need.{Need}
use Rattle.line_view.specs.declared.need.Need.TheVariants.{Line, Area, Room}
use Rattle.line_view.specs.Knowledge.{Knowledge, Lines, Agrees}
use Rattle.line_view.specs.Held.{Held, knows}
use Rattle.line_view.specs.Stops.{Lacks}
use Rattle.catalog_lines.specs.Parts.{IsName, IsType}
use Rattle.catalog.specs.declared.reading.Catalog.{Catalog}
use Rattle.catalog.specs.Reading.{IsCatalogOf, catalog_area}
use Rattle.catalog_definitions.specs.Causes.{catalog_room}
use Rattle.catalog_definitions.specs.Written.{IsRelationDefinition, IsIndexDefinition}
use Rattle.statement_view.specs.Over.{all_rooms, AreRoomsKnown}
use Rattle.index_writes.specs.Definition.{HasNoRoom, IsFullIn}
use Rattle.sound_maps.specs.Maps.{IsSoundWith}
use Rattle.rdo_acts.specs.Unwritten.{IsUnwrittenOver}
use Rattle.rdo_exec.specs.Ways.{IsDefining, IsUnranged}

-- No script says such a thing: a FOR or a statistic has no range; a name is none, or has no type of a field; a relation has no field or over 50, an index none or over 8.
abbrev pub IsStrange : Command → Type 0
IsStrange (perform a) = IsUnranged (perform a)
IsStrange (define_field n type) = IsName n × IsType type → ⊥
IsStrange (define_relation n fs) = IsRelationDefinition n fs → ⊥
IsStrange (define_index d) = IsIndexDefinition d → ⊥
IsStrange (delete_relation n) = ⊥
IsStrange (delete_index n) = ⊥
IsStrange (invoke words) = ⊥
IsStrange start_read_only = ⊥
IsStrange (start_read_write wait rs) = ⊥
IsStrange commit = ⊥
IsStrange rollback = ⊥
IsStrange finish = ⊥
IsStrange (back_up n) = ⊥

-- a line, or all lines, of another area than that of the relation
abbrev pub IsElsewhere : Option Relation → Need → Type 0
IsElsewhere rel (Line key) = (r : Relation) → rel ≡ Some r → key.area ≢ r.area
IsElsewhere rel (Area area) = (r : Relation) → rel ≡ Some r → area ≢ r.area
IsElsewhere rel (Room room) = ⊥

-- Why an item is left, over one sound map with its tables.
pub data IsLeftOver (word : List ℕ) (standing : Standing) (item : Uttered) (known : Knowledge) (all : Lines) (t : Tables) : Type 0 where
  -- no script has it
  strange : (command : Command) → item ≡ said command → IsStrange command → IsLeftOver word standing item known all t
  -- what it means comes to the writing of a row that can't be written
  unwritten : (a : Act) (c : Catalog) → item ≡ said (perform a) → IsCatalogOf all c → IsUnwrittenOver known all c a t → IsLeftOver word standing item known all t
  -- a definition finds all numbers of rooms of the catalog known
  no_room : (command : Command) → item ≡ said command → IsDefining command → AreRoomsKnown known catalog_area (catalog_room 0).class all_rooms → IsLeftOver word standing item known all t
  -- a new index finds all numbers of rooms known, or can't grow
  no_index_room : (d : IndexDefinition) (c : Catalog) (base : Held) → item ≡ said (define_index d) → IsCatalogOf all c → knows base ≡ known → HasNoRoom base c → IsLeftOver word standing item known all t
  full_index : (d : IndexDefinition) (c : Catalog) (base : Held) → item ≡ said (define_index d) → IsCatalogOf all c → knows base ≡ known → IsFullIn base all c → IsLeftOver word standing item known all t
  -- DEFINE INDEX lacks a line that isn't its relation's: one of the new index, for which nobody may ask
  astray : (d : IndexDefinition) (c : Catalog) (need : Need) → item ≡ said (define_index d) → IsCatalogOf all c → Lacks known need → IsElsewhere (relation_named d.relation c.tables) need → IsLeftOver word standing item known all t

-- the same over each sound map with which what is known agrees
abbrev pub IsLeft : List ℕ → Standing → Uttered → Knowledge → Type 0
IsLeft word standing item known = (all : Lines) (t : Tables) → IsSoundWith all t → Agrees known all → IsLeftOver word standing item known all t
