-- The faults of lines as they are listed.
use Rattle.std.specs.Prelude.{List, ◌++◌, map}
use Rattle.rdb_types.specs.declared.keys.Dbkey.{Dbkey}
use Rattle.rdo_ast.specs.Tree.{Name}
use Rattle.rmu_texts.specs.declared.faults.VerifyFault.{VerifyFault}
use Rattle.rmu_texts.specs.declared.faults.VerifyFault.TheVariants as fault
use Rattle.rmu_verify.specs.declared.listing.LineKind.{LineKind}
use Rattle.rmu_verify.specs.declared.listing.LineKind.TheVariants.{Catalog, Row, Node}

abbrev pub key_fault : LineKind → Dbkey → VerifyFault
key_fault Catalog key = fault.Catalog key
key_fault Row key = fault.Row key
key_fault Node key = fault.Node key

-- those of the catalog, of rows, of nodes and of indexes
abbrev pub all_faults : List Dbkey → List Dbkey → List Dbkey → List Name → List VerifyFault
all_faults catalog lines nodes names = map fault.Catalog catalog ++ (map fault.Row lines ++ (map fault.Node nodes ++ map fault.Index names))
