-- The relation that a row is written into, in a catalog and its tables.
use Rattle.std.specs.Prelude.{◌≡◌, ℕ, Bool, false, List, [], ◌∷◌, map, Option}
use Rattle.std.specs.List.{AllByRecursion}
use Rattle.rdo_ast.specs.Tree.{Name}
use Rattle.rdb_meaning.specs.declared.tables.Relation.{Relation as Rows}
use Rattle.rdb_meaning.specs.declared.tables.Index.{Index as IndexOf}
use Rattle.rdb_meaning.specs.Contents.{is_used, first_taken}
use Rattle.catalog_lines.specs.declared.line.IndexLine.{IndexLine}
use Rattle.sound_changes.specs.catalog.declared.directory.PlacedLine.{PlacedLine}
use Rattle.sound_changes.specs.catalog.declared.reading.Catalog.{Catalog}
use Rattle.sound_changes.specs.sound_lines.Contents.{versions_in, version_of}
use Rattle.sound_changes.specs.Standing.{IsDone}
use Rattle.sound_changes.specs.InTurn.{IsIndexOn}
use Rattle.row_writes.specs.declared.target.TargetRelation.{TargetRelation}

-- These are the indexes of the relation of this logical area, each once, but for those in the logical areas that are done.
abbrev pub AreOwn : Catalog → ℕ → List ℕ → List IndexLine → Type 0
AreOwn c area done [] = AllByRecursion (λ (p : PlacedLine). IsDone area done p.line) c.lines
AreOwn c area done (x ∷ xs) = IsIndexOn c area x × (is_used x.area done ≡ false) × AreOwn c area (x.area ∷ done) xs

-- The relation of this name in the tables of the catalog is stored so, and these are its indexes.
pub record IsTarget (c : Catalog) (n : Name) (rel : Rows) (r : TargetRelation) : Type 0 where
  pub area : rel.area ≡ r.stored.area
  pub fields : rel.fields ≡ r.stored.fields.now
  pub version : version_of n (versions_in c.lines) ≡ r.stored.version
  pub indexes : AreOwn c rel.area [] r.indexes.now

-- an index as tables have it
abbrev pub named_index : IndexLine → Name × IndexOf
named_index x = (x.name, record { area = x.area; relation = x.relation; unique = x.unique; fields = x.fields })

-- The first of these indexes that is unique and in which the test finds the key taken
abbrev pub taken_in : (List ℕ → Bool) → List IndexLine → Option Name
taken_in taken xs = first_taken taken (map named_index xs)
