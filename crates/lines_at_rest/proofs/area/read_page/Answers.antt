use Rattle.std.proofs.Common.{◌≡◌, ◌-◌, ◌∙◌}
use Rattle.stable_lines.specs.Slots.{area_file}
use Rattle.line_moves.proofs.Runs.{reads_once}
use Rattle.lines_at_rest.proofs.area.read_page.Goals as goal

pub returns-in-Ok-true-clause-lines : goal.returns-in-Ok-true-clause-lines
returns-in-Ok-true-clause-lines g c = let old = g.D.Disk.view c.args.disk.now in λ t left so groups lays owner was.
    let there : c.read.new.into ≡ old.content (area_file c.args.file) (c.args.number - 1) = c.in_ok-read.ensures.bytes t ∙ (λ i. old.content (c.area_file.ensures i) (c.slot_of.ensures i)) in
    c.in-Ok-true.ensures.lines c.in-Ok-true.field-0-test old.content left there so groups lays owner was

pub returns-in-Ok-false-clause-reads : goal.returns-in-Ok-false-clause-reads
returns-in-Ok-false-clause-reads g c = let v = g.D.Disk.view in reads_once (v c.args.disk.now) (v c.read.new.self) c.read.result c.read.ensures.counts c.read.ensures.kept
