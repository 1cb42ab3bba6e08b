-- The faults of a verification, as they are written.
use Rattle.std.specs.Prelude.{ℕ, List, length, ◌++◌, codes}
use Rattle.std.specs.List.{flat_map}
use Rattle.rdb_types.specs.declared.keys.Dbkey.{Dbkey}
use Rattle.rmu_texts.specs.Numbers.{numbered, count_line}
use Rattle.rmu_texts.specs.declared.faults.VerifyFault.{VerifyFault}
use Rattle.rmu_texts.specs.declared.faults.VerifyFault.TheVariants.{Page, Owner, Catalog, Row, Node, Index}

abbrev pub place_line : List ℕ → ℕ → ℕ → List ℕ
place_line words area page = numbered words area ++ numbered (codes " page ") page ++ codes "\n"

abbrev pub key_line : List ℕ → Dbkey → List ℕ
key_line words key = numbered words key.area ++ numbered (codes ":") key.page ++ numbered (codes ":") key.line ++ codes "\n"

abbrev pub fault_line : VerifyFault → List ℕ
fault_line (Page area page) = place_line (codes "%RMU-E-PAGE, area ") area page
fault_line (Owner area page) = place_line (codes "%RMU-E-OWNER, area ") area page
fault_line (Catalog key) = key_line (codes "%RMU-E-CATALOG, dbkey ") key
fault_line (Row key) = key_line (codes "%RMU-E-ROW, dbkey ") key
fault_line (Node key) = key_line (codes "%RMU-E-NODE, dbkey ") key
fault_line (Index name) = codes "%RMU-E-INDEX, " ++ name ++ codes "\n"

-- a line for each, and how many there are
abbrev pub faults_text : List VerifyFault → List ℕ
faults_text faults = flat_map fault_line faults ++ count_line (length faults) (codes "faults")
