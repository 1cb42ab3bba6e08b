-- The scripts of the three runs of a workload.
use Rattle.std.specs.Prelude.{ℕ, zero, suc, List, [], ◌∷◌, ◌++◌, codes}
use Rattle.workload_scripts.specs.Draws.{behind_transfers, transfer_drawn}
use Rattle.workload_scripts.specs.Texts.{store_text, transfer_text}

-- ---- the first

-- the accounts from 1 to this one
unfoldable pub stores_to : ℕ → List ℕ
stores_to zero = []
stores_to (suc account) = stores_to account ++ store_text (suc account)

abbrev pub definitions : List ℕ
definitions = codes "START_TRANSACTION READ_WRITE\nDEFINE RELATION ACCOUNTS.\nID DATATYPE IS SIGNED LONGWORD.\nBAL DATATYPE IS SIGNED QUADWORD.\nEND ACCOUNTS RELATION.\nDEFINE INDEX AID FOR ACCOUNTS DUPLICATES ARE NOT ALLOWED.\nID.\nEND AID INDEX.\n"

-- one transaction
abbrev pub first_script : ℕ → List ℕ
first_script accounts = definitions ++ stores_to accounts ++ codes "COMMIT\n"

-- ---- the four of the second

-- the first so many transfers that are drawn behind a number
unfoldable pub transfers_to : ℕ → ℕ → ℕ → List ℕ
transfers_to accounts x zero = []
transfers_to accounts x (suc made) = transfers_to accounts x made ++ transfer_text (transfer_drawn accounts (behind_transfers x made))

-- the number behind which the sessions after so many draw: the first draws behind the count of the accounts, each next one behind the one before
unfoldable pub drawn_before : ℕ → ℕ → ℕ
drawn_before accounts zero = accounts
drawn_before accounts (suc sessions) = behind_transfers (drawn_before accounts sessions) 25

-- the script of the session behind so many others
abbrev pub transfer_script : ℕ → ℕ → List ℕ
transfer_script accounts others = transfers_to accounts (drawn_before accounts others) 25

unfoldable pub transfer_scripts_to : ℕ → ℕ → List (List ℕ)
transfer_scripts_to accounts zero = []
transfer_scripts_to accounts (suc sessions) = transfer_scripts_to accounts sessions ++ transfer_script accounts sessions ∷ []

-- those of four sessions
abbrev pub transfer_scripts : ℕ → List (List ℕ)
transfer_scripts accounts = transfer_scripts_to accounts 4

-- ---- the last

abbrev pub last_script : List ℕ
last_script = codes "START_TRANSACTION READ_ONLY\nPRINT COUNT OF A IN ACCOUNTS, TOTAL A.BAL OF A IN ACCOUNTS\nCOMMIT\n"
