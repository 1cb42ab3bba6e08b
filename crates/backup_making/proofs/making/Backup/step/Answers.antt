use Rattle.std.proofs.Common.{◌≡◌, ◌≢◌, sym, ◌∙◌, ap, subst}
use Rattle.backup_file.specs.declared.header.BackupHead.{BackupHead}
use Rattle.backup_making.specs.declared.making.Stage.{Stage}
use Rattle.backup_making.specs.declared.making.Stage.TheVariants.{Begun, Blanked, Open, Closed, Headed, Ended}
use Rattle.backup_making.specs.Making.{file_of, head_of, IsClosed, IsHeaded, IsOpen}
use Rattle.backup_making.proofs.Moves.{stays, moves}
use Rattle.backup_making.proofs.making.Backup.step.Goals as goal

not_open : (s t : Stage) → s ≡ t → (t ≡ Open → ⊥) → s ≢ Open
not_open s t is apart same = apart (sym is ∙ same)

pub returns-then-not-blank-clause-not_done : goal.returns-then-not-blank-clause-not_done
returns-then-not-blank-clause-not_done g c = λ failed tells former lines at. stays former (g.D.Disk.view c.args.disk.now) (g.D.Disk.view c.blank.new.disk) c.args.self.now lines Begun c.in-Begun.is (λ was. (c.blank.ensures.not_done tells former was.0, was.1)) at

pub returns-then-not-open-clause-not_done : goal.returns-then-not-open-clause-not_done
returns-then-not-open-clause-not_done g c = λ failed tells former lines at. stays former (g.D.Disk.view c.args.disk.now) (g.D.Disk.view c.open.new.disk) c.args.self.now lines Blanked c.in-Blanked.is (λ was. (c.open.ensures.not_done tells former was.0, was.1)) at

pub returns-then-not-put_first-clause-not_done : goal.returns-then-not-put_first-clause-not_done
returns-then-not-put_first-clause-not_done g c = λ failed tells former lines at. stays former (g.D.Disk.view c.args.disk.now) (g.D.Disk.view c.put_first.new.disk) c.args.self.now lines Closed c.in-Closed.is
    (λ was.
    let same : c.head-head.result ≡ head_of c.args.self.now lines = c.head-head.ensures ∙ ap (λ n. record { format = 1; limits = c.args.self.now.limits; last_group = c.args.self.now.last_group; lines = n }) at.count in
    subst (λ (h : BackupHead). IsClosed (g.D.Disk.view c.put_first.new.disk) (file_of c.args.self.now.number) h lines) same
    (c.put_first.ensures.not_done tells lines (subst (λ (h : BackupHead). IsClosed (g.D.Disk.view c.args.disk.now) (file_of c.args.self.now.number) h lines) (sym same) was))) at

pub returns-then-not-end-clause-not_done : goal.returns-then-not-end-clause-not_done
returns-then-not-end-clause-not_done g c = λ failed tells former lines at. stays former (g.D.Disk.view c.args.disk.now) (g.D.Disk.view c.end.new.disk) c.args.self.now lines Headed c.in-Headed.is (λ was. c.end.ensures.not_done tells lines _ was) at

pub returns-else-not-open-clause-done : goal.returns-else-not-open-clause-done
returns-else-not-open-clause-done g c = λ done tells former lines at.
    let none = c.requires.open (not_open _ Blanked c.in-Blanked.is (λ bad. let no : ⊥ = cc in no)) in
    moves former (g.D.Disk.view c.args.disk.now) (g.D.Disk.view c.open.new.disk) c.args.self.now lines c.args.line Blanked Open c.in-Blanked.is none (λ was. subst (λ ls. IsOpen (g.D.Disk.view c.open.new.disk) (file_of c.args.self.now.number) ls) (sym was.1) (c.open.ensures.done (search) tells former was.0)) at

pub returns-else-not-put_first-clause-done : goal.returns-else-not-put_first-clause-done
returns-else-not-put_first-clause-done g c = λ done tells former lines at.
    let none = c.requires.open (not_open _ Closed c.in-Closed.is (λ bad. let no : ⊥ = cc in no)) in
    let same : c.head-head.result ≡ head_of c.args.self.now lines = c.head-head.ensures ∙ ap (λ n. record { format = 1; limits = c.args.self.now.limits; last_group = c.args.self.now.last_group; lines = n }) at.count in
    moves former (g.D.Disk.view c.args.disk.now) (g.D.Disk.view c.put_first.new.disk) c.args.self.now lines c.args.line Closed Headed c.in-Closed.is none
    (λ was.
    subst (λ (h : BackupHead). IsHeaded (g.D.Disk.view c.put_first.new.disk) (file_of c.args.self.now.number) h lines) same
    (c.put_first.ensures.done (search) tells lines (subst (λ (h : BackupHead). IsClosed (g.D.Disk.view c.args.disk.now) (file_of c.args.self.now.number) h lines) (sym same) was))) at

pub returns-else-not-end-clause-done : goal.returns-else-not-end-clause-done
returns-else-not-end-clause-done g c = λ done tells former lines at.
    let none = c.requires.open (not_open _ Headed c.in-Headed.is (λ bad. let no : ⊥ = cc in no)) in
    moves former (g.D.Disk.view c.args.disk.now) (g.D.Disk.view c.end.new.disk) c.args.self.now lines c.args.line Headed Ended c.in-Headed.is none (λ was. c.end.ensures.done (search) tells lines _ was) at
