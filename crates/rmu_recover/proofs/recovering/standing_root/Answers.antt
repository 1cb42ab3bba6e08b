use Rattle.std.proofs.Common.{◌≡◌, ◌∙◌, List, ℕ, sym, subst}
use Rattle.new_database.specs.Maker.{root_file}
use Rattle.root_file.specs.Root.{IsRoot}
use Rattle.line_moves.proofs.Runs.{reads_once}
use Rattle.rmu_recover.proofs.recovering.standing_root.Goals as goal

pub returns-in_err-read-clause-reads : goal.returns-in_err-read-clause-reads
returns-in_err-read-clause-reads g c = let v = g.D.Disk.view in reads_once (v c.args.disk.now) (v c.read.new.self) c.read.result c.read.ensures.counts c.read.ensures.kept

pub returns-in-Ok-clause-reads : goal.returns-in-Ok-clause-reads
returns-in-Ok-clause-reads g c = let v = g.D.Disk.view in reads_once (v c.args.disk.now) (v c.read.new.self) c.read.result c.read.ensures.counts c.read.ensures.kept

pub returns-in-Err-clause-reads : goal.returns-in-Err-clause-reads
returns-in-Err-clause-reads g c = let v = g.D.Disk.view in reads_once (v c.args.disk.now) (v c.read.new.self) c.read.result c.read.ensures.counts c.read.ensures.kept

pub returns-in-Ok-clause-allowed : goal.returns-in-Ok-clause-allowed
returns-in-Ok-clause-allowed g c = c.in-Ok.ensures.found.allowed

pub returns-in-Ok-clause-stands : goal.returns-in-Ok-clause-stands
returns-in-Ok-clause-stands g c = let old = g.D.Disk.view c.args.disk.now in λ t.
    let here : c.read.new.into ≡ old.content root_file 0 = c.in_ok-read.ensures.bytes t ∙ (λ i. old.content (c.root_file.ensures i) 0) in
    subst (λ (b : List ℕ). IsRoot b c.in-Ok.root) here c.in-Ok.ensures.found

pub returns-in-Err-clause-bad : goal.returns-in-Err-clause-bad
returns-in-Err-clause-bad g c = let old = g.D.Disk.view c.args.disk.now in λ file slot bad t root is.
    let here : c.read.new.into ≡ old.content root_file 0 = c.in_ok-read.ensures.bytes t ∙ (λ i. old.content (c.root_file.ensures i) 0) in
    absurd (c.in-Err.ensures.none root (subst (λ (b : List ℕ). IsRoot b root) (sym here) is))
