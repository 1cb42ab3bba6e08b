use Rattle.std.proofs.Common.{◌≡◌, ◌∙◌, ◌-◌, ℕ, List, ap}
use Rattle.stable_lines.specs.Slots.{area_file, line_on}
use Rattle.line_moves.proofs.Runs.{reads_once}
use Rattle.line_moves.proofs.KeyPlaces.{place_content}
use Rattle.line_moves.proofs.lines.line_at.Goals as goal

pub returns-in_err-read-clause-reads : goal.returns-in_err-read-clause-reads
returns-in_err-read-clause-reads g c = let v = g.D.Disk.view in let old = v c.args.disk.now in let mid = v c.read.new.self in reads_once old mid c.read.result c.read.ensures.counts c.read.ensures.kept

pub returns-in-Ok-clause-reads : goal.returns-in-Ok-clause-reads
returns-in-Ok-clause-reads g c = let v = g.D.Disk.view in let old = v c.args.disk.now in let mid = v c.read.new.self in reads_once old mid c.read.result c.read.ensures.counts c.read.ensures.kept

pub returns-in-Err-clause-reads : goal.returns-in-Err-clause-reads
returns-in-Err-clause-reads g c = let v = g.D.Disk.view in let old = v c.args.disk.now in let mid = v c.read.new.self in reads_once old mid c.read.result c.read.ensures.counts c.read.ensures.kept

pub returns-in-Ok-clause-line : goal.returns-in-Ok-clause-line
returns-in-Ok-clause-line g c = let v = g.D.Disk.view in let old = v c.args.disk.now in let mid = v c.read.new.self in λ t.
    let page : c.read.new.into ≡ old.content (area_file c.args.place.file) (c.args.place.page - 1) = c.in_ok-read.ensures.bytes t ∙ (λ i. old.content (c.area_file-file.ensures i) (c.slot_of-slot.ensures i)) in
    c.in-Ok.ensures.line ∙ ap (λ (b : List ℕ). line_on c.args.key b) (page ∙ place_content old.content c.args.key c.args.place c.requires)
