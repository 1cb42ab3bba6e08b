-- The backups of a longer account.
use Rattle.std.proofs.Common.{◌≡◌, ℕ, ◌++◌, ◌∷◌, [], List, refl}
use Rattle.rdb_account.specs.Events.{Event}
use Rattle.rdb_account.specs.Places.{Opening, Place, start, after, place, place_from}
use Rattle.rdb_account.specs.Backups.{Backup, no_backup, backups_behind, backups_from, backups}

backups-from-grown : (o : Opening) (p : Place) (es fs : List Event) (b : ℕ → Backup) → backups_from o p (es ++ fs) b ≡ backups_from o (place_from o p es) fs (backups_from o p es b)
backups-from-grown o p [] fs b = refl
backups-from-grown o p (e ∷ es) fs b = backups-from-grown o (after o p e) es fs (backups_behind o p e b)

pub backups-grown : (o : Opening) (events es : List Event) → backups o (events ++ es) ≡ backups_from o (place o events) es (backups o events)
backups-grown o events es = backups-from-grown o (start o) events es (λ n. no_backup)
