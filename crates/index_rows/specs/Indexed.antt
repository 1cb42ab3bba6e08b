-- The indexes of a relation's rows, and by which of them an access comes by rows.
use Rattle.std.specs.Prelude.{ℕ, List, [], ◌∷◌, if◌then◌else◌}
use Rattle.std.specs.Ordering.{is_eq}
use Rattle.std.specs.List.{AllByRecursion}
use Rattle.rdb_types.specs.declared.keys.Dbkey.{Dbkey}
use Rattle.rdb_types.specs.Order.{dbkey_order}
use Rattle.rdb_meaning.specs.Contents.{Row}
use Rattle.line_view.specs.Knowledge.{Lines}
use Rattle.relation_rows.specs.Indexed.{IsIndexOf, HasPositions}
use Rattle.access_paths.specs.declared.choice.IndexPath.{IndexPath}
use Rattle.access_paths.specs.declared.choice.Access.{Access}
use Rattle.access_paths.specs.declared.choice.Access.TheVariants.{Scan, Find, Range}

-- each of these is an index of the rows, which have values at its positions
abbrev pub AreIndexesOf : Lines → List IndexPath → List (Dbkey × Row) → Type 0
AreIndexesOf all indexes rows = AllByRecursion (λ (x : IndexPath). IsIndexOf all x.root x.fields rows × AllByRecursion (λ e. HasPositions x.fields e.1) rows) indexes

-- ---- by which index

-- the fields of the first index of this root
abbrev pub fields_of_root : Dbkey → List IndexPath → List ℕ
fields_of_root root [] = []
fields_of_root root (x ∷ xs) = if is_eq (dbkey_order root x.root) then x.fields else fields_of_root root xs

-- the fields of the index by which an access comes by rows
abbrev pub positions_in : List IndexPath → Access → List ℕ
positions_in indexes Scan = []
positions_in indexes (Find root key) = fields_of_root root indexes
positions_in indexes (Range root bounds) = fields_of_root root indexes
