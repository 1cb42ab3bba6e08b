use Rattle.disk_versions.proofs.Given.{gives, gives_undone}
use Rattle.version_writing.specs.Slots.{chains_of}
use Rattle.version_writing.specs.Wanting.{free_in}
use Rattle.version_writing.proofs.Freed.{holds_given, its_entry, none_left, past_entry, holds_unwanted, holds_beside_given}
use Rattle.version_writing.proofs.laws.slots_come_free.Goals as goal

pub returns-clause-undone : goal.returns-clause-undone
returns-clause-undone g c = let v = g.D.Disk.view c.args.disk.now in λ now course file limit tsn old new given goes nowhere held was. (
  gives_undone v now limit course (chains_of file old tsn) was tsn goes nowhere (its_entry v.content course.followed file limit tsn old held),
  holds_given v.content course.followed file limit tsn old new given held,
  none_left v.content course.followed file limit tsn old held,
)

pub returns-clause-past : goal.returns-clause-past
returns-clause-past g c = let v = g.D.Disk.view c.args.disk.now in λ now course file limit old new given held was. (
  gives v now limit course (free_in file new) was (past_entry v.content course file limit old new given held),
  holds_unwanted v.content course file limit old new given held,
)

pub returns-clause-beside : goal.returns-clause-beside
returns-clause-beside g c = let v = g.D.Disk.view c.args.disk.now in λ course file other limit tsn table theirs apart held. holds_beside_given v.content course.followed file other limit tsn table theirs held
