use Rattle.std.proofs.Common.{arith}
use Rattle.disk_seats.proofs.of_line_moves.PageClasses.{classes_read, classes_beside}
use Rattle.member_steps.proofs.ClassesHad.{classes_had}
use Rattle.member_steps.proofs.laws.pages_have_classes.Goals as goal

pub returns-clause-gathers : goal.returns-clause-gathers
returns-clause-gathers g c = let v = g.D.Disk.view c.args.before.now in λ ledger plan was turn had.
    let stands = was.commit _ turn in
    classes_had v ledger.base plan.flight plan.place plan.lines plan.classes (g.met.D.Disk.content_left c.args.before.now v.moment c.requires (omega arith)) stands.facts.facts stands.is.group stands.facts.done.0 had

pub returns-clause-reads : goal.returns-clause-reads
returns-clause-reads g c = let v = g.D.Disk.view in λ classes reads had. classes_read classes (v c.args.before.now) (v c.args.after.now) reads c.requires had

pub returns-clause-writes : goal.returns-clause-writes
returns-clause-writes g c = let v = g.D.Disk.view in λ classes file slot other writes had. classes_beside classes (v c.args.before.now) (v c.args.after.now) file slot c.requires other writes had
