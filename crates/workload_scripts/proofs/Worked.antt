-- Worked scripts.
use Rattle.std.specs.Prelude.{◌≡◌, pos, [], ◌∷◌, codes, refl}
use Rattle.std.specs.Fmt.{digits}
use Rattle.workload_scripts.specs.Draws.{drawn, transfer_drawn, behind_transfers}
use Rattle.workload_scripts.specs.Report.{report_text}
use Rattle.workload_scripts.specs.Scripts.{first_script, stores_to, transfers_to, drawn_before}

-- the first numbers behind 2
numbers : drawn 2 ∷ drawn (drawn 2) ∷ drawn (drawn (drawn 2)) ∷ [] ≡ 59559187 ∷ 1495354192 ∷ 671064393 ∷ []
unfolding drawn
numbers = refl

two_accounts : first_script 2 ≡ codes "START_TRANSACTION READ_WRITE\nDEFINE RELATION ACCOUNTS.\nID DATATYPE IS SIGNED LONGWORD.\nBAL DATATYPE IS SIGNED QUADWORD.\nEND ACCOUNTS RELATION.\nDEFINE INDEX AID FOR ACCOUNTS DUPLICATES ARE NOT ALLOWED.\nID.\nEND AID INDEX.\nSTORE A IN ACCOUNTS USING A.ID = 1; A.BAL = 1000; END_STORE\nSTORE A IN ACCOUNTS USING A.ID = 2; A.BAL = 1000; END_STORE\nCOMMIT\n"
unfolding stores_to digits
two_accounts = refl

first : transfers_to 2 2 1 ≡ codes "START_TRANSACTION READ_WRITE\nFOR A IN ACCOUNTS WITH A.ID = 2 FOR B IN ACCOUNTS WITH B.ID = 1\nMODIFY A USING A.BAL = A.BAL - 94; END_MODIFY\nMODIFY B USING B.BAL = B.BAL + 94; END_MODIFY\nEND_FOR END_FOR\nCOMMIT\n"
unfolding transfers_to behind_transfers drawn digits
first = refl

third : transfer_drawn 2 (behind_transfers 2 2) ≡ record { from = 2; to = 1; amount = 80 }
unfolding behind_transfers drawn
third = refl

-- the first transfer of each session
each_first : transfer_drawn 2 (drawn_before 2 1) ∷ transfer_drawn 2 (drawn_before 2 2) ∷ transfer_drawn 2 (drawn_before 2 3) ∷ [] ≡ record { from = 1; to = 2; amount = 65 } ∷ record { from = 2; to = 1; amount = 52 } ∷ record { from = 1; to = 2; amount = 79 } ∷ []
unfolding drawn_before behind_transfers drawn
each_first = refl

report : report_text (record { accounts = pos 2; total = pos 2000; faults = 0 }) ≡ codes "accounts 2\ntotal 2000\nfaults 0\n"
unfolding digits
report = refl
