-- Which rows are come by.
use Rattle.std.specs.Prelude.{◌≡◌, true, List}
use Rattle.rdb_types.specs.declared.keys.Dbkey.{Dbkey}
use Rattle.rdb_types.specs.declared.values.Value.{Value}
use Rattle.rdb_types.specs.declared.values.Value.TheVariants.{Missing, Number, Text}
use Rattle.rdb_meaning.specs.Numbers.{fits_bits}
use Rattle.rdb_meaning.specs.Contents.{Row, key_of}
use Rattle.sorted_index_laws.specs.Keys.{is_within, between}
use Rattle.sorted_index_laws.specs.Nodes.{AnyByRecursion}
use Rattle.access_paths.specs.declared.choice.IndexPath.{IndexPath}
use Rattle.access_paths.specs.declared.choice.Access.{Access}
use Rattle.access_paths.specs.declared.choice.Access.TheVariants.{Scan, Find, Range}

-- a number of 64 bits
abbrev pub IsWide : Value → Type 0
IsWide Missing = Unit {0}
IsWide (Number n) = fits_bits 63 n ≡ true
IsWide (Text t) = Unit {0}

-- The key of a row in one of the indexes is the one that is looked for, or within the bounds.
abbrev pub Reaches : List IndexPath → Row → Access → Type 0
Reaches indexes row Scan = Unit {0}
Reaches indexes row (Find root key) = AnyByRecursion (λ x. (x.root ≡ root) × (key_of x.fields row ≡ key)) indexes
Reaches indexes row (Range root bounds) = AnyByRecursion (λ x. (x.root ≡ root) × (is_within (between bounds) (key_of x.fields row) ≡ true)) indexes

-- the access is a scan, or by the index of this root
abbrev pub IsOfRoot : Dbkey → Access → Type 0
IsOfRoot root Scan = Unit {0}
IsOfRoot root (Find own key) = root ≡ own
IsOfRoot root (Range own bounds) = root ≡ own
