use Rattle.std.proofs.Common.{Some, ap, subst}
use Rattle.backup_making.specs.declared.making.Backup.{Backup}
use Rattle.backup_making.specs.Making.{IsAt}
use Rattle.partial_backup.specs.declared.copying.Copying.{Copying}
use Rattle.partial_backup.proofs.Copies.{puts, stays}
use Rattle.partial_backup.proofs.Turns.{done_steps, with_one}
use Rattle.partial_backup.proofs.copying.Copying.put.Goals as goal

pub returns-in-Failed-clause-not_copied : goal.returns-in-Failed-clause-not_copied
returns-in-Failed-clause-not_copied g c = let v = g.D.Disk.view in λ t former classes lines was.
    stays former classes lines (v c.args.disk.now) (v c.step.new.disk) c.args.self.now was
    (subst (λ (b : Backup). IsAt former (v c.step.new.disk) b was.copies) (c.step.ensures.stays c.in-Failed.is) (c.step.ensures.not_done c.in-Failed.is t former was.copies was.at))

pub returns-in_default : goal.returns-in_default
returns-in_default g c = let v = g.D.Disk.view in record {
  moved = ap (λ (b : Backup). record { from = Some c.args.line.key; backup = b }) (with_one c.args.self.now.backup c.step.new.self c.args.line c.requires.is_open (c.step.ensures.moved c.in_default.not-Failed));
  stays = tt;
  steps = done_steps c.args.self.now.backup.number (v c.args.disk.now) (v c.step.new.disk) c.step.result c.in_default.not-Failed c.step.ensures.steps;
  copied = λ t former classes lines next present class was. puts former classes lines (v c.args.disk.now) (v c.step.new.disk) c.args.self.now c.step.new.self c.args.line c.requires.is_open (c.step.ensures.moved c.in_default.not-Failed) next present class was
      (c.step.ensures.done c.in_default.not-Failed t former was.copies was.at);
  not_copied = tt;
}
