-- Numbers that are drawn, and the transfers that they make.
use Rattle.std.specs.Prelude.{ℕ, zero, suc, ◌+◌, ◌*◌, ◌%◌}
use Rattle.workload_scripts.specs.declared.draws.Transfer.{Transfer}

-- the number that is drawn behind this one
unfoldable pub drawn : ℕ → ℕ
drawn x = (x * 1103515245 + 12345) % 2147483648

-- A transfer takes three numbers: for the account from which it goes, for that to which it goes, and for the amount.
abbrev pub transfer_drawn : ℕ → ℕ → Transfer
transfer_drawn accounts x = record {
  from = 1 + drawn x % accounts;
  to = 1 + drawn (drawn x) % accounts;
  amount = 1 + drawn (drawn (drawn x)) % 100;
}

abbrev pub behind_transfer : ℕ → ℕ
behind_transfer x = drawn (drawn (drawn x))

-- the number that was drawn last for so many transfers
unfoldable pub behind_transfers : ℕ → ℕ → ℕ
behind_transfers x zero = x
behind_transfers x (suc made) = behind_transfer (behind_transfers x made)
