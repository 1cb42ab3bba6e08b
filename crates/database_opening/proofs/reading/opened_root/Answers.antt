use Rattle.std.proofs.Common.{List, ℕ, ◌≡◌, ◌∙◌, sym, subst}
use Rattle.line_opening.proofs.of_line_moves.Runs.{reads_once}
use Rattle.new_database.specs.Maker.{root_file}
use Rattle.database_opening.specs.Reading.{IsOpenedRoot}
use Rattle.database_opening.proofs.reading.opened_root.Goals as goal

pub returns-in_err-read-clause-reads : goal.returns-in_err-read-clause-reads
returns-in_err-read-clause-reads g c = let v = g.D.Disk.view in reads_once (v c.args.disk.now) (v c.read.new.self) c.read.result c.read.ensures.counts c.read.ensures.kept

pub returns-in-Some-clause-reads : goal.returns-in-Some-clause-reads
returns-in-Some-clause-reads g c = let v = g.D.Disk.view in reads_once (v c.args.disk.now) (v c.read.new.self) c.read.result c.read.ensures.counts c.read.ensures.kept

pub returns-in-None-clause-reads : goal.returns-in-None-clause-reads
returns-in-None-clause-reads g c = let v = g.D.Disk.view in reads_once (v c.args.disk.now) (v c.read.new.self) c.read.result c.read.ensures.counts c.read.ensures.kept

pub returns-in-Some-clause-found : goal.returns-in-Some-clause-found
returns-in-Some-clause-found g c = let old = g.D.Disk.view c.args.disk.now in λ t.
    let here : c.read.new.into ≡ old.content root_file 0 = c.in_ok-read.ensures.bytes t ∙ (λ i. old.content (c.root_file-file.ensures i) 0) in
    subst (λ (b : List ℕ). IsOpenedRoot b c.in-Some.root) here c.in-Some.ensures.found

pub returns-in-None-clause-bad : goal.returns-in-None-clause-bad
returns-in-None-clause-bad g c = let old = g.D.Disk.view c.args.disk.now in λ file slot is t root may.
    let here : c.read.new.into ≡ old.content root_file 0 = c.in_ok-read.ensures.bytes t ∙ (λ i. old.content (c.root_file-file.ensures i) 0) in
    c.in-None.ensures.none root (subst (λ (b : List ℕ). IsOpenedRoot b root) (sym here) may)
