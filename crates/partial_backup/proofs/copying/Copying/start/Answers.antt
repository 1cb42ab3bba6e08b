use Rattle.std.proofs.Common.{None, sym, subst}
use Rattle.backup_making.specs.declared.making.Backup.{Backup}
use Rattle.partial_backup.specs.Partial.{IsCopying}
use Rattle.partial_backup.proofs.Copies.{begins}
use Rattle.partial_backup.proofs.copying.Copying.start.Goals as goal

pub returns-clause-begun : goal.returns-clause-begun
returns-clause-begun g c = λ former classes lines might. subst (λ (b : Backup). IsCopying former classes lines (g.D.Disk.view c.args.disk.now) (record { from = None; backup = b })) (sym c.start.ensures)
    (begins former classes lines (g.D.Disk.view c.args.disk.now) c.args.number c.args.limits c.args.last_group might)
