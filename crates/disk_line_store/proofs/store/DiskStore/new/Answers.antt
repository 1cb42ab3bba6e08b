use Rattle.std.proofs.Common.{Option, ◌∙◌, ap}
use Rattle.backup_steps.specs.next_lines.partial_backup.declared.copying.Copying.{Copying}
use Rattle.change_steps.specs.disk_store.Seats.{stand_at}
use Rattle.store_copies.specs.Shown.{seated}
use Rattle.store_copies.proofs.Sighted.{plain-shown, shown-plain}
use Rattle.disk_line_store.proofs.store.DiskStore.new.Goals as goal

pub returns-clause-outside : goal.returns-clause-outside
returns-clause-outside g c s = ap (λ (x : Option Copying). seated x (stand_at c.args.held.members s)) (c.new-copies.ensures.nothing s) ∙ c.requires s

pub returns-clause-shows : goal.returns-clause-shows
returns-clause-shows g c h shown stand = plain-shown (g.D.Disk.view c.args.disk) c.args.held c.new-copies.result c.new-copies.ensures.nothing c.new-copies.ensures.none_done h shown stand

pub returns-clause-plain : goal.returns-clause-plain
returns-clause-plain g c h shown = shown-plain (g.D.Disk.view c.args.disk) c.args.held c.new-copies.result c.new-copies.ensures.nothing h shown
