-- The backups that sessions copy, as a store has them in memory.
use Rattle.std.specs.Prelude.{ℕ, ◌+◌, ◌<◌, ◌≤◌, ◌≡◌, ◌≢◌, ◌==◌, ◌^◌, if◌then◌else◌, Bool, false, List, Option, Some, None, slice_get}
use Rattle.rdb_types.specs.declared.session.Session.{Session}
use Rattle.backup_steps.specs.backup_making.declared.making.Stage.TheVariants.{Ended}
use Rattle.backup_steps.specs.next_lines.partial_backup.declared.copying.Copying.{Copying}

-- What each session copies, in the place of its number, who began the backup of each number last, and whether that backup has come to its end.
pub record CopiesMemory : Type 0 where
  pub sessions : List (Option Copying)
  pub numbers : List (Option Session)
  pub done : List Bool

abbrev pub told_of : Option (Option Copying) → Option Copying
told_of None = None
told_of (Some copying) = copying

-- what a session copies
abbrev pub copied_by : CopiesMemory → ℕ → Option Copying
copied_by copies s = told_of (slice_get copies.sessions s)

abbrev pub number_of : Option (Option Session) → Option ℕ
number_of None = None
number_of (Some None) = None
number_of (Some (Some s)) = Some s.number

-- who began the backup of this number last
abbrev pub copier_in : CopiesMemory → ℕ → Option ℕ
copier_in copies number = number_of (slice_get copies.numbers number)

abbrev pub is_told : Option Bool → Bool
is_told None = false
is_told (Some done) = done

-- whether the backup of this number that was begun last has come to its end
abbrev pub is_done : CopiesMemory → ℕ → Bool
is_done copies number = is_told (slice_get copies.done number)

-- one session copies otherwise
abbrev pub copied_behind : ℕ → Option Copying → (ℕ → Option Copying) → ℕ → Option Copying
copied_behind s copying copied = λ t. if t == s then copying else copied t

-- the backup of one number has come to its end, or was begun anew
abbrev pub done_behind : ℕ → Bool → (ℕ → Bool) → ℕ → Bool
done_behind number now done = λ n. if n == number then now else done n

-- a step may be made of it
pub record IsReady (c : Copying) : Type 0 where
  pub last : c.backup.number ≤ 9
  pub last_group : c.backup.last_group ≤ 2 ^ 62
  pub few : c.backup.lines + 1 < 2 ^ 32
  pub going : c.backup.stage ≢ Ended

abbrev pub AreReady : List (Option Copying) → Type 0
AreReady sessions = (s : ℕ) (c : Copying) → told_of (slice_get sessions s) ≡ Some c → IsReady c
