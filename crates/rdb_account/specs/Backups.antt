-- Which online backups count, and of which tables: a machine that reads the events beside that of the places.
use Rattle.std.specs.Prelude.{ℕ, Bool, false, ◌==◌, if◌then◌else◌, List, [], ◌∷◌, Option, Some, None}
use Rattle.rdo_ast.specs.Tree.{Uttered}
use Rattle.rdb_meaning.specs.declared.tables.Tables.{Tables}
use Rattle.rdb_account.specs.Events.{Event, Began, Committed}
use Rattle.rdb_account.specs.Places.{Opening, Place, Transaction, start, after, at, next_item, backup_of}

-- a backup that was answered as done: since which moment, and the tables at its start
pub record Counted : Type 0 where
  pub moment : ℕ
  pub tables : Tables

-- of the backups of one number: who began the last one, and what counts of it
pub record Backup : Type 0 where
  pub by : Option ℕ
  pub counted : Option Counted

abbrev pub no_backup : Backup
no_backup = record { by = None; counted = None }

abbrev pub backup_at : Option Uttered → Option ℕ
backup_at (Some item) = backup_of item
backup_at None = None

abbrev pub is_by : ℕ → Option ℕ → Bool
is_by s (Some t) = t == s
is_by s None = false

-- Where s begins a backup, no other of its number counts any more.
abbrev pub with_begun : ℕ → Option ℕ → (ℕ → Backup) → ℕ → Backup
with_begun s (Some n) backups = at n (record { by = Some s; counted = None }) backups
with_begun s None backups = backups

abbrev pub counting : Counted → Backup → Backup
counting c backup = record backup { counted = Some c }

-- Where s ends one, it counts unless another session began one of its number meanwhile.
abbrev pub with_ended : ℕ → ℕ → Option Transaction → Option ℕ → (ℕ → Backup) → ℕ → Backup
with_ended s moment (Some t) (Some n) backups =
    if is_by s (backups n).by then at n (counting (record { moment = moment; tables = t.base }) (backups n)) backups else backups
with_ended s moment t n backups = backups

-- The commit that ends a backup stands directly before its reply.
abbrev pub backups_behind : Opening → Place → Event → (ℕ → Backup) → ℕ → Backup
backups_behind o p (Began s kind) backups = with_begun s (backup_at (next_item o p s)) backups
backups_behind o p (Committed s moment) backups = with_ended s moment (p.transaction s) (backup_at (next_item o p s)) backups
backups_behind o p _ backups = backups

abbrev pub backups_from : Opening → Place → List Event → (ℕ → Backup) → ℕ → Backup
backups_from o p [] backups = backups
backups_from o p (e ∷ es) backups = backups_from o (after o p e) es (backups_behind o p e backups)

-- the backups of each number
abbrev pub backups : Opening → List Event → ℕ → Backup
backups o events = backups_from o (start o) events (λ n. no_backup)
