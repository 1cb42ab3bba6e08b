-- Who waits at a bell.
use Rattle.std.specs.Prelude.{◌≡◌, ℕ, Bool, true, false, List, slice_index_or}
use Rattle.rdb_drive.specs.Boards.{IsSession}

-- s is marked as one that waits
abbrev pub Waits : List Bool → ℕ → Type 0
Waits marks s = slice_index_or marks s false ≡ true

-- whoever waits is a session
abbrev pub AreSessions : ℕ → List Bool → Type 0
AreSessions sessions marks = (s : ℕ) → Waits marks s → IsSession sessions s

-- whoever waits is asleep
abbrev pub AreAsleep : (ℕ → Bool) → List Bool → Type 0
AreAsleep asleep marks = (s : ℕ) → Waits marks s → asleep s ≡ true
