use Rattle.std.proofs.Common.{◌∙◌, [], Err, map, refl, ap}
use Rattle.line_view.specs.Held.{entry_of}
use Rattle.line_store.specs.Shelves.{seen_by}
use Rattle.disk_store.proofs.Reading.{reads-done, reads-no-memory, reads-stop}
use Rattle.disk_store.proofs.learning.learn_area.Goals as goal

pub returns-in-Err-clause-not_yet : goal.returns-in-Err-clause-not_yet
returns-in-Err-clause-not_yet g c = λ not. record { lines = []; learnt = (0, refl); seen = λ h shown. refl }

pub returns-in-Err-clause-read : goal.returns-in-Err-clause-read
returns-in-Err-clause-read g c = reads-stop (g.D.Disk.view c.args.disk.now) (g.D.Disk.view c.area_seen.new.disk) c.args.held.now c.args.s.number c.in-Err.ensures.reads c.requires.seat c.in-Err.stop (λ is. c.in-Err.ensures.failed (ap Err is)) (λ h shown file slot is. c.in-Err.ensures.bad file slot (ap Err is) h shown)

pub returns-in_default-clause-read : goal.returns-in_default-clause-read
returns-in_default-clause-read g c = reads-no-memory (g.D.Disk.view c.args.disk.now) (g.D.Disk.view c.area_seen.new.disk) c.args.held.now c.args.s.number c.in-Ok.ensures.reads

pub returns-in-Ok-learn_area-clause-knows : goal.returns-in-Ok-learn_area-clause-knows
returns-in-Ok-learn_area-clause-knows g c = λ h shown order agrees. c.learn_area.ensures.agrees (seen_by c.args.s.number h) order agrees (ap (λ ls. map entry_of ls) c.deref.ensures.value ∙ (c.in-Ok-present_lines.ensures ∙ c.in-Ok.ensures.seen h shown))

pub returns-in-Ok-learn_area-clause-read : goal.returns-in-Ok-learn_area-clause-read
returns-in-Ok-learn_area-clause-read g c = reads-done (g.D.Disk.view c.args.disk.now) (g.D.Disk.view c.area_seen.new.disk) c.args.held.now c.args.s.number c.in-Ok.ensures.reads

pub returns-clause-knows : goal.returns-clause-knows
returns-clause-knows g c = λ h shown order agrees. c.learn_area.ensures.agrees (seen_by c.args.s.number h) order agrees (ap (λ ls. map entry_of ls) c.deref.ensures.value ∙ (c.in-Ok-present_lines.ensures ∙ c.in-Ok.ensures.seen h shown))

pub returns-clause-read : goal.returns-clause-read
returns-clause-read g c = reads-no-memory (g.D.Disk.view c.args.disk.now) (g.D.Disk.view c.area_seen.new.disk) c.args.held.now c.args.s.number c.in-Ok.ensures.reads
