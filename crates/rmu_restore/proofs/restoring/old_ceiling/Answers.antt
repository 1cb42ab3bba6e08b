use Rattle.std.proofs.Common.{◌≡◌, ◌∙◌, List, ℕ, ap, sym, subst, arith}
use Rattle.new_database.specs.Maker.{root_file}
use Rattle.root_file.specs.declared.Root.{Root}
use Rattle.root_file.specs.Root.{IsRoot}
use Rattle.root_file.proofs.Readings.{one_root}
use Rattle.line_moves.proofs.Runs.{reads_once}
use Rattle.rmu_restore.proofs.restoring.old_ceiling.Goals as goal

pub returns-in_err-read-clause-reads : goal.returns-in_err-read-clause-reads
returns-in_err-read-clause-reads g c = let v = g.D.Disk.view in reads_once (v c.args.disk.now) (v c.read.new.self) c.read.result c.read.ensures.counts c.read.ensures.kept

pub returns-in-Ok-clause-reads : goal.returns-in-Ok-clause-reads
returns-in-Ok-clause-reads g c = let v = g.D.Disk.view in reads_once (v c.args.disk.now) (v c.read.new.self) c.read.result c.read.ensures.counts c.read.ensures.kept

pub returns-in-Err-clause-reads : goal.returns-in-Err-clause-reads
returns-in-Err-clause-reads g c = let v = g.D.Disk.view in reads_once (v c.args.disk.now) (v c.read.new.self) c.read.result c.read.ensures.counts c.read.ensures.kept

pub returns-in-Ok-clause-few : goal.returns-in-Ok-clause-few
returns-in-Ok-clause-few g c = c.in-Ok.ensures.found.allowed.ceiling.1

pub returns-in-Ok-clause-ceiling : goal.returns-in-Ok-clause-ceiling
returns-in-Ok-clause-ceiling g c = let old = g.D.Disk.view c.args.disk.now in λ t root is.
    let here : c.read.new.into ≡ old.content root_file 0 = c.in_ok-read.ensures.bytes t ∙ (λ i. old.content (c.root_file.ensures i) 0) in
    let same : root ≡ c.in-Ok.root = one_root (old.content root_file 0) root c.in-Ok.root is (subst (λ (b : List ℕ). IsRoot b c.in-Ok.root) here c.in-Ok.ensures.found) in
    let ceiling : root.ceiling ≡ c.in-Ok.root.ceiling = ap (λ (r : Root). r.ceiling) same in
    omega (arith, ceiling)

pub returns-in-Err-clause-ceiling : goal.returns-in-Err-clause-ceiling
returns-in-Err-clause-ceiling g c = let old = g.D.Disk.view c.args.disk.now in λ t root is.
    let here : c.read.new.into ≡ old.content root_file 0 = c.in_ok-read.ensures.bytes t ∙ (λ i. old.content (c.root_file.ensures i) 0) in
    absurd (c.in-Err.ensures.none root (subst (λ (b : List ℕ). IsRoot b root) (sym here) is))
