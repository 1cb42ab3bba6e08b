-- Worked lines.
use Rattle.std.specs.Prelude.{◌≡◌, ℕ, List, [], ◌∷◌, codes, refl}
use Rattle.std.specs.Fmt.{digits}
use Rattle.rdb_types.specs.declared.keys.Dbkey.{Dbkey}
use Rattle.rmu_texts.specs.declared.faults.VerifyFault.TheVariants.{Page, Owner, Catalog, Row, Node, Index}
use Rattle.rmu_texts.specs.declared.dump.Dump.{Dump}
use Rattle.rmu_texts.specs.Numbers.{count_line}
use Rattle.rmu_texts.specs.Page.{bytes_line}
use Rattle.rmu_texts.specs.Faults.{faults_text}
use Rattle.rmu_texts.specs.Dump.{dump_text}

-- a database with two rows in one relation and no index
two_rows : Dump
two_rows = record {
  root = record { format = 1; state = 1; limits = record { pages = 65536; snaps = 65536; entries = 65535; slots = 262144 }; ceiling = 65; applied = 0 };
  relations = record { name = codes "DEPT"; area = 16; lines = 2 } ∷ [];
  indexes = [];
  groups = 1;
}

dumped : dump_text two_rows ≡ codes "database format 1 state 1\nlimits 65536 65536 65535 262144\nceiling 65\nrelation DEPT area 16 lines 2\ngroups 1\n"
unfolding two_rows digits
dumped = refl

no_fault : faults_text [] ≡ codes "0 faults\n"
unfolding digits
no_fault = refl

another_owner : faults_text (Owner 2 2 ∷ []) ≡ codes "%RMU-E-OWNER, area 2 page 2\n1 faults\n"
unfolding digits
another_owner = refl

key : Dbkey
key = record { area = 16; page = 2; line = 1 }

each_kind : faults_text (Page 1 201 ∷ Catalog key ∷ Row key ∷ Node key ∷ Index (codes "TK") ∷ []) ≡ codes "%RMU-E-PAGE, area 1 page 201\n%RMU-E-CATALOG, dbkey 16:2:1\n%RMU-E-ROW, dbkey 16:2:1\n%RMU-E-NODE, dbkey 16:2:1\n%RMU-E-INDEX, TK\n5 faults\n"
unfolding key digits
each_kind = refl

two_groups : count_line 2 (codes "groups") ≡ codes "2 groups\n"
unfolding digits
two_groups = refl

-- the first two lines of a page of relation 16
head_line : bytes_line 0 (80 ∷ 65 ∷ 71 ∷ 69 ∷ 2 ∷ 0 ∷ 0 ∷ 0 ∷ 16 ∷ 0 ∷ 0 ∷ 0 ∷ 208 ∷ 0 ∷ 0 ∷ 0 ∷ []) ≡ codes "0000 50 41 47 45 02 00 00 00 10 00 00 00 d0 00 00 00\n"
head_line = refl

next_line : bytes_line 16 (0 ∷ 0 ∷ 0 ∷ 0 ∷ 0 ∷ 0 ∷ 0 ∷ 0 ∷ 1 ∷ 0 ∷ 19 ∷ 0 ∷ 1 ∷ 0 ∷ 0 ∷ 0 ∷ []) ≡ codes "0010 00 00 00 00 00 00 00 00 01 00 13 00 01 00 00 00\n"
next_line = refl
