-- The indexes of a relation, changed in turn behind the write of one of its rows.
use Rattle.std.specs.Prelude.{◌≡◌, ℕ, false, ◌&&◌, List, [], ◌∷◌, ◌++◌, Some, slice_get}
use Rattle.std.specs.List.{AllByRecursion}
use Rattle.rdb_types.specs.declared.keys.Dbkey.{Dbkey}
use Rattle.rdb_meaning.specs.declared.tables.Relation.{Relation as Rows}
use Rattle.rdb_meaning.specs.Contents.{Row, key_of}
use Rattle.line_view.specs.Knowledge.{Lines}
use Rattle.line_view.specs.declared.writes.Write.{Write}
use Rattle.line_view.specs.Writes.{laid_all}
use Rattle.catalog_lines.specs.declared.line.IndexLine.{IndexLine}
use Rattle.catalog_lines.specs.declared.line.CatalogLine.TheVariants.{Index}
use Rattle.sound_lines.specs.catalog.declared.directory.PlacedLine.{PlacedLine}
use Rattle.sound_lines.specs.catalog.declared.reading.Catalog.{Catalog}
use Rattle.sorted_index_laws.specs.Tree.{pairs}
use Rattle.sorted_index_laws.specs.Changes.{pair_of, with_pair, without_pair, has_key, Leaves}
use Rattle.sound_lines.specs.Sound.{IsSoundIndex}
use Rattle.sound_changes.specs.Standing.{IsDone}

-- ---- one index

-- The index of the rows before is left with the pair of a new row. Where it is unique, it had no pair of its key.
pub record IsPairPut (rel : Rows) (key : Dbkey) (row : Row) (all : Lines) (x : IndexLine) (writes : List Write) : Type 0 where
  pub old : IsSoundIndex all x (Some rel)
  pub new : Leaves all x.root old.is.level old.is.tree writes (with_pair (pair_of (key_of x.fields row) key) (pairs old.is.level old.is.tree))
  pub free : (x.unique && has_key (key_of x.fields row) (pairs old.is.level old.is.tree)) ≡ false

-- The index of the rows before is left without the pair of the row as it was, and then with the pair of the row as it is. Where it is unique, it had no other pair of its key.
pub record IsPairMoved (rel : Rows) (key : Dbkey) (was row : Row) (all : Lines) (x : IndexLine) (writes : List Write) : Type 0 where
  pub old : IsSoundIndex all x (Some rel)
  pub first : List Write
  pub second : List Write
  pub both : writes ≡ first ++ second
  pub gone : Leaves all x.root old.is.level old.is.tree first (without_pair (pair_of (key_of x.fields was) key) (pairs old.is.level old.is.tree))
  pub back : Leaves (laid_all first all) x.root gone.level gone.tree second (with_pair (pair_of (key_of x.fields row) key) (pairs gone.level gone.tree))
  pub free : (x.unique && has_key (key_of x.fields row) (pairs gone.level gone.tree)) ≡ false

-- The index of the rows before is left without the pair of the row.
pub record IsPairTaken (rel : Rows) (key : Dbkey) (was : Row) (all : Lines) (x : IndexLine) (writes : List Write) : Type 0 where
  pub old : IsSoundIndex all x (Some rel)
  pub gone : Leaves all x.root old.is.level old.is.tree writes (without_pair (pair_of (key_of x.fields was) key) (pairs old.is.level old.is.tree))

-- ---- one index after another

-- an index with what is written of it
abbrev pub Turn : Type 0
Turn = IndexLine × List Write

-- this is done of each, over the map behind those before
abbrev pub InTurn : (Lines → IndexLine → List Write → Type 0) → Lines → List Turn → Type 0
InTurn step all [] = Unit {0}
InTurn step all (s ∷ ss) = step all s.0 s.1 × InTurn step (laid_all s.1 all) ss

abbrev pub laid_in_turn : List Turn → Lines → Lines
laid_in_turn [] all = all
laid_in_turn (s ∷ ss) all = laid_in_turn ss (laid_all s.1 all)

-- ---- all indexes

-- the catalog has this index of the relation of a logical area
pub record IsIndexOn (c : Catalog) (area : ℕ) (x : IndexLine) : Type 0 where
  pub place : ℕ
  pub line : PlacedLine
  pub stands : slice_get c.lines place ≡ Some line
  pub is : line.line ≡ Index x
  pub on : x.relation ≡ area

-- with those done, these are all indexes of the relation
abbrev pub AreIndexesOn : Catalog → ℕ → List ℕ → List Turn → Type 0
AreIndexesOn c area done [] = AllByRecursion (λ p. IsDone area done p.line) c.lines
AreIndexesOn c area done (s ∷ ss) = IsIndexOn c area s.0 × AreIndexesOn c area (s.0.area ∷ done) ss
