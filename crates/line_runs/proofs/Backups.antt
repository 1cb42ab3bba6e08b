-- The backups of an account, and those that stood before, of what the store over the disk had.
use Rattle.std.proofs.Common.{ℕ, List, sym, subst, ◌∙◌}
use Rattle.rdb_outside.specs.Disk.{View}
use Rattle.line_view.specs.Knowledge.{Lines}
use Rattle.line_store.specs.Sights.{Sight}
use Rattle.disk_line_store.specs.Back.{IsBack, HasBackupOf}
use Rattle.rdb_account.specs.Events.{Event}
use Rattle.rdb_account.specs.Places.{Opening}
use Rattle.rdb_account.specs.Backups.{Counted, backups}
use Rattle.session_jobs.specs.Records.{Model}
use Rattle.session_stands.specs.Backed.{IsBacked}
use Rattle.line_drive.specs.line_cluster.Sound.{HasImages}
use Rattle.line_runs.specs.Backups.{HoldsBackup, HoldsBackups, LeavesBackups}

module _ (M : Model) (o : Opening) (former v : View) (events : List Event) (sight : Sight) (back : IsBack former sight v) (has : HasImages M o sight events) where
  holds : (number : ℕ) (c : Counted) → IsBacked M sight number c has.shelf.clock.time → HoldsBackup M v number c
  holds number c it =
      let up : HasBackupOf v number it.since it.lines = back.backed has.shelf has.shown number it.since it.lines it.past it.backed in
      record { backup = up.backup; stands = subst (λ (l : Lines). M l c.tables) (sym up.lines_are) it.stands; since = it.since; by = it.by; has = up.has }

  pub holds-backups : HoldsBackups M o v events
  holds-backups number c is = holds number c (has.backups.each number c is)

  -- nobody began one of its number, so the store had it as it was
  pub leaves-backups : LeavesBackups o former v events
  leaves-backups in_use number since b none was = back.standing has.shelf has.shown in_use number since b was (has.backups.copiers number ∙ none)
