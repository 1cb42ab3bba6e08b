-- The choice of a scan or of an index.
use Rattle.std.specs.Prelude.{ℕ, ◌+◌, List, [], ◌∷◌, length, Option, Some, None, option_map, unwrap_or}
use Rattle.std.specs.Option.{option_or}
use Rattle.rdb_types.specs.declared.keys.Dbkey.{Dbkey}
use Rattle.rdb_meaning.specs.Contents.{Row}
use Rattle.rdo_values.specs.Tree.{Conjunction}
use Rattle.access_paths.specs.declared.limits.Limited.{Limited}
use Rattle.access_paths.specs.declared.limits.Limited.TheVariants as limited
use Rattle.access_paths.specs.declared.equated.EquatedKey.{EquatedKey}
use Rattle.access_paths.specs.declared.equated.EquatedKey.TheVariants as equated
use Rattle.access_paths.specs.declared.choice.IndexPath.{IndexPath}
use Rattle.access_paths.specs.declared.choice.Access.{Access}
use Rattle.access_paths.specs.declared.choice.Access.TheVariants.{Scan, Find, Range}
use Rattle.access_paths.specs.Limits.{nothing, bounds_of, limits_at}
use Rattle.access_paths.specs.Equated.{key_at}

abbrev pub access_by_key : Dbkey → EquatedKey → Access
access_by_key root (equated.To key) = Find root key
access_by_key root equated.Never = Range root (bounds_of nothing)
access_by_key root equated.Lost = Scan

-- the first index of which each field is equated
abbrev pub first_by_key : Row → Conjunction → List IndexPath → Option Access
first_by_key rows tests [] = None
first_by_key rows tests (x ∷ xs) = option_or (option_map (access_by_key x.root) (key_at rows tests x.fields)) (first_by_key rows tests xs)

abbrev pub access_by_limits : Dbkey → Limited → Option Access
access_by_limits root limited.Nothing = None
access_by_limits root (limited.Within limits) = Some (Range root (bounds_of limits))
access_by_limits root limited.Lost = Some Scan

abbrev pub first_limits : Row → Conjunction → List ℕ → Limited
first_limits rows tests [] = limited.Nothing
first_limits rows tests (p ∷ ps) = limits_at rows (length rows + p) tests

-- the first index whose first field is compared
abbrev pub first_by_limits : Row → Conjunction → List IndexPath → Option Access
first_by_limits rows tests [] = None
first_by_limits rows tests (x ∷ xs) = option_or (access_by_limits x.root (first_limits rows tests x.fields)) (first_by_limits rows tests xs)

-- how the rows of a relation are come by that AND-connected tests may choose, where the values before its row are known
abbrev pub choice : List IndexPath → Row → Conjunction → Access
choice indexes rows tests = unwrap_or (option_or (first_by_key rows tests indexes) (first_by_limits rows tests indexes)) Scan
