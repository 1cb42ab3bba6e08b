use Rattle.std.proofs.Common.{◌≡◌, ◌-◌, ◌∙◌, List, ℕ, sym, subst}
use Rattle.space_pages.specs.Space.{IsSpace}
use Rattle.line_opening.specs.stable_lines.Slots.{area_file}
use Rattle.line_opening.proofs.of_line_moves.Runs.{reads_once}
use Rattle.database_opening.proofs.owners.read_space.Goals as goal

pub returns-in_err-read-clause-reads : goal.returns-in_err-read-clause-reads
returns-in_err-read-clause-reads g c = let v = g.D.Disk.view in reads_once (v c.args.disk.now) (v c.read.new.self) c.read.result c.read.ensures.counts c.read.ensures.kept

pub returns-in-Ok-clause-reads : goal.returns-in-Ok-clause-reads
returns-in-Ok-clause-reads g c = let v = g.D.Disk.view in reads_once (v c.args.disk.now) (v c.read.new.self) c.read.result c.read.ensures.counts c.read.ensures.kept

pub returns-in-Err-clause-reads : goal.returns-in-Err-clause-reads
returns-in-Err-clause-reads g c = let v = g.D.Disk.view in reads_once (v c.args.disk.now) (v c.read.new.self) c.read.result c.read.ensures.counts c.read.ensures.kept

pub returns-in-Ok-clause-read : goal.returns-in-Ok-clause-read
returns-in-Ok-clause-read g c = let old = g.D.Disk.view c.args.disk.now in λ t. c.in_ok-read.ensures.bytes t ∙ (λ i. old.content (c.area_file-area.ensures i) (c.slot_of-slot.ensures i))

pub returns-in-Err-clause-bad : goal.returns-in-Err-clause-bad
returns-in-Err-clause-bad g c = let old = g.D.Disk.view c.args.disk.now in λ f slot is t space.
    let here : c.read.new.into ≡ old.content (area_file c.args.file) (c.args.page - 1) = c.in_ok-read.ensures.bytes t ∙ (λ i. old.content (c.area_file-area.ensures i) (c.slot_of-slot.ensures i)) in
    c.in-Err.ensures.none (subst (λ (b : List ℕ). IsSpace b c.args.page) (sym here) space)
