-- Of one index the choice is a scan or that index.
use Rattle.std.proofs.Common.{List, [], ◌∷◌, Option, Some, None, option_map, unwrap_or, refl}
use Rattle.std.specs.Option.{option_or}
use Rattle.rdb_types.specs.declared.keys.Dbkey.{Dbkey}
use Rattle.rdb_meaning.specs.Contents.{Row}
use Rattle.rdo_values.specs.Tree.{Conjunction}
use Rattle.access_paths.specs.declared.limits.Limited.{Limited}
use Rattle.access_paths.specs.declared.limits.Limited.TheVariants as limited
use Rattle.access_paths.specs.declared.equated.EquatedKey.{EquatedKey}
use Rattle.access_paths.specs.declared.equated.EquatedKey.TheVariants as key
use Rattle.access_paths.specs.declared.choice.IndexPath.{IndexPath}
use Rattle.access_paths.specs.declared.choice.Access.{Access}
use Rattle.access_paths.specs.declared.choice.Access.TheVariants.{Scan}
use Rattle.access_paths.specs.Equated.{key_at}
use Rattle.access_paths.specs.Choice.{access_by_key, access_by_limits, first_limits, choice}
use Rattle.access_paths.specs.Reached.{IsOfRoot}

-- what is chosen where there is one index
abbrev alone : Option Access → Option Access → Access
alone by_key by_limits = unwrap_or (option_or (option_or by_key None) (option_or by_limits None)) Scan

limits_rooted : (root : Dbkey) (l : Limited) → IsOfRoot root (alone None (access_by_limits root l))
limits_rooted root limited.Nothing = tt
limits_rooted root (limited.Within limits) = refl
limits_rooted root limited.Lost = tt

key_rooted : (root : Dbkey) (k : Option EquatedKey) (l : Limited) → IsOfRoot root (alone (option_map (access_by_key root) k) (access_by_limits root l))
key_rooted root (Some (key.To values)) l = refl
key_rooted root (Some key.Never) l = refl
key_rooted root (Some key.Lost) l = tt
key_rooted root None l = limits_rooted root l

pub rooted : (before : Row) (tests : Conjunction) (x : IndexPath) → IsOfRoot x.root (choice (x ∷ []) before tests)
rooted before tests x = key_rooted x.root (key_at before tests x.fields) (first_limits before tests x.fields)
