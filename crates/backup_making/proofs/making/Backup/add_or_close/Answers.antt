use Rattle.backup_making.specs.declared.making.Stage.TheVariants.{Open, Closed}
use Rattle.backup_making.proofs.Moves.{stays, moves}
use Rattle.backup_making.proofs.making.Backup.add_or_close.Goals as goal

pub returns-then-not-close-clause-not_done : goal.returns-then-not-close-clause-not_done
returns-then-not-close-clause-not_done g c = λ failed tells former lines at. stays former (g.D.Disk.view c.args.disk.now) (g.D.Disk.view c.close.new.disk) c.args.self.now lines Open c.requires.open (λ was. c.close.ensures.not_done tells lines was) at

pub returns-else-not-close-clause-done : goal.returns-else-not-close-clause-done
returns-else-not-close-clause-done g c = λ done tells former lines at.
    moves former (g.D.Disk.view c.args.disk.now) (g.D.Disk.view c.close.new.disk) c.args.self.now lines c.args.line Open Closed c.requires.open c.in-None.is (λ was. c.close.ensures.done (search) tells lines _ was) at
