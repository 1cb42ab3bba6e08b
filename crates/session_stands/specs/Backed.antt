-- What is true of the online backups of an account, by what the store shows.
use Rattle.std.specs.Prelude.{◌≡◌, ◌≤◌, ◌⊎◌, ℕ, Option, Some}
use Rattle.line_view.specs.Knowledge.{Lines}
use Rattle.rdb_account.specs.Backups.{Backup, Counted}
use Rattle.line_store.specs.Sights.{Sight, copier_behind}
use Rattle.session_jobs.specs.Records.{Model}

-- A backup that counts is whole, of lines that stand for its tables, in each image that a crash since a moment might have left, which isn't behind its own.
pub record IsBacked (M : Model) (sight : Sight) (n : ℕ) (c : Counted) (time : ℕ) : Type 0 where
  pub since : ℕ
  pub by : since ≤ c.moment
  pub past : since ≤ time
  pub lines : Lines
  pub stands : M lines c.tables
  pub backed : sight.backed n since lines

-- The store knows who began the backup of each number last, and each that counts is whole.
pub record AreBacked (M : Model) (backups : ℕ → Backup) (sight : Sight) (time : ℕ) : Type 0 where
  pub copiers : (n : ℕ) → sight.copier n ≡ (backups n).by
  pub each : (n : ℕ) (c : Counted) → (backups n).counted ≡ Some c → IsBacked M sight n c time

-- In a step session s begins the backup of this number, or none. Each that counts behind it counted before and isn't the one that begins, or is whole now.
pub record BackupsGo (M : Model) (s : ℕ) (number : Option ℕ) (before behind : ℕ → Backup) (sight : Sight) (time : ℕ) : Type 0 where
  pub by : (n : ℕ) → (behind n).by ≡ copier_behind s number (λ m. (before m).by) n
  pub counts : (n : ℕ) (c : Counted) → (behind n).counted ≡ Some c → ((number ≡ Some n → ⊥) × ((before n).counted ≡ Some c)) ⊎ IsBacked M sight n c time
