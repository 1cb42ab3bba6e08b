use Rattle.disk_versions.proofs.Given.{gives, gives_undone}
use Rattle.disk_versions.proofs.calls.slots_are_given_back.Goals as goal

pub returns-clause-unwanted : goal.returns-clause-unwanted
returns-clause-unwanted g c = λ now limit course given may was. gives (g.D.Disk.view c.args.disk.now) now limit course given was may

pub returns-clause-undone : goal.returns-clause-undone
returns-clause-undone g c = λ now limit course given tsn goes nowhere its was. gives_undone (g.D.Disk.view c.args.disk.now) now limit course given was tsn goes nowhere its
