-- Once all indexes of a relation are done, the map is sound.
use Rattle.std.proofs.Common.{ℕ, cond, List, subst}
use Rattle.std.specs.List.{AllByRecursion}
use Rattle.rdb_meaning.specs.declared.tables.Tables.{Tables}
use Rattle.line_view.specs.Knowledge.{Lines}
use Rattle.catalog_lines.specs.declared.line.CatalogLine.{CatalogLine}
use Rattle.catalog_lines.specs.declared.line.CatalogLine.TheVariants.{Relation, Global, Field as FieldOf, Index}
use Rattle.sound_lines.specs.catalog.declared.directory.PlacedLine.{PlacedLine}
use Rattle.sound_lines.specs.catalog.declared.reading.Catalog.{Catalog}
use Rattle.sound_lines.specs.Sound.{relation_in, IsSoundIndex, IsSoundLine, IsSound}
use Rattle.sound_lines.specs.Contents.{AreTablesOf}
use Rattle.line_view.specs.Knowledge.{IsInOrder}
use Rattle.sound_changes.specs.Standing.{IsSoundFor, IsSoundAs, tables_for, IsDone}
use Rattle.sound_changes.proofs.Basics.{both_of}

line_done : (all : Lines) (area : ℕ) (done : List ℕ) (t after : Tables) (line : CatalogLine) → IsSoundLine all (tables_for area done t after line) line → IsDone area done line → IsSoundLine all after line
line_done all area done t after (Relation r) sound is = sound
line_done all area done t after (Global g) sound is = tt
line_done all area done t after (FieldOf f) sound is = tt
line_done all area done t after (Index x) sound is = subst (λ b. IsSoundIndex all x (relation_in x.relation (cond b t after).relations)) is sound

pub all_done : (all : Lines) (c : Catalog) (area : ℕ) (done : List ℕ) (t after : Tables) → IsSoundFor all c after (tables_for area done t after) → AllByRecursion (λ (p : PlacedLine). IsDone area done p.line) c.lines → IsSoundAs all c after
all_done all c area done t after sound each = record {
  sorted = sound.sorted;
  decodes = sound.decodes;
  are = sound.are;
  things = both_of (λ (p : PlacedLine). IsSoundLine all (tables_for area done t after p.line) p.line) (λ (p : PlacedLine). IsDone area done p.line) (λ (p : PlacedLine). IsSoundLine all after p.line)
      (λ p. line_done all area done t after p.line) c.lines sound.things each;
  owned = sound.owned;
}

-- ---- a sound map

pub of_sound : (all : Lines) → IsInOrder all → (is : IsSound all) → IsSoundAs all is.catalog is.tables
of_sound all sorted is = record { sorted = sorted; decodes = is.decodes; are = is.are; things = is.things; owned = is.owned }

pub is_sound : (all : Lines) (c : Catalog) (t : Tables) → IsSoundAs all c t → IsSound all
is_sound all c t sound = record { catalog = c; decodes = sound.decodes; tables = t; are = sound.are; things = sound.things; owned = sound.owned }

pub are_tables : (all : Lines) (c : Catalog) (t : Tables) → IsSoundAs all c t → AreTablesOf all t
are_tables all c t sound = record { catalog = c; decodes = sound.decodes; tables = sound.are }
