-- Statements as text.
use Rattle.std.specs.Prelude.{ℕ, List, ◌++◌, codes, decimal}
use Rattle.workload_scripts.specs.declared.draws.Transfer.{Transfer}

-- words and a number behind them
abbrev pub numbered : List ℕ → ℕ → List ℕ
numbered words n = words ++ decimal n

-- an account with its first balance
abbrev pub store_text : ℕ → List ℕ
store_text account = numbered (codes "STORE A IN ACCOUNTS USING A.ID = ") account ++ codes "; A.BAL = 1000; END_STORE\n"

-- the two accounts
abbrev pub find_text : Transfer → List ℕ
find_text t = numbered (codes "FOR A IN ACCOUNTS WITH A.ID = ") t.from ++ numbered (codes " FOR B IN ACCOUNTS WITH B.ID = ") t.to

-- the amount goes from the first to the second, which may be the same one
abbrev pub move_text : Transfer → List ℕ
move_text t = numbered (codes "\nMODIFY A USING A.BAL = A.BAL - ") t.amount ++ numbered (codes "; END_MODIFY\nMODIFY B USING B.BAL = B.BAL + ") t.amount

-- a transaction in which both are changed by one statement
abbrev pub transfer_text : Transfer → List ℕ
transfer_text t = codes "START_TRANSACTION READ_WRITE\n" ++ find_text t ++ move_text t ++ codes "; END_MODIFY\nEND_FOR END_FOR\nCOMMIT\n"
