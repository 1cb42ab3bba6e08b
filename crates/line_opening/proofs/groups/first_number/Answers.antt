use Rattle.std.proofs.Common.{List, ℕ, ◌≡◌, ◌∙◌, sym, subst}
use Rattle.journal_passing.specs.aij_journal.Header.{IsHeader}
use Rattle.line_moves.specs.new_database.Maker.{aij_file}
use Rattle.line_moves.proofs.Runs.{reads_once}
use Rattle.line_opening.proofs.groups.first_number.Goals as goal

pub returns-in_err-read-clause-reads : goal.returns-in_err-read-clause-reads
returns-in_err-read-clause-reads g c = let v = g.D.Disk.view in reads_once (v c.args.disk.now) (v c.read.new.self) c.read.result c.read.ensures.counts c.read.ensures.kept

pub returns-in-Some-clause-reads : goal.returns-in-Some-clause-reads
returns-in-Some-clause-reads g c = let v = g.D.Disk.view in reads_once (v c.args.disk.now) (v c.read.new.self) c.read.result c.read.ensures.counts c.read.ensures.kept

pub returns-in-None-clause-reads : goal.returns-in-None-clause-reads
returns-in-None-clause-reads g c = let v = g.D.Disk.view in reads_once (v c.args.disk.now) (v c.read.new.self) c.read.result c.read.ensures.counts c.read.ensures.kept

pub returns-in-Some-clause-header : goal.returns-in-Some-clause-header
returns-in-Some-clause-header g c = let old = g.D.Disk.view c.args.disk.now in λ t.
    let here : c.read.new.into ≡ old.content aij_file 0 = c.in_ok-read.ensures.bytes t ∙ (λ i. old.content (c.aij_file-journal.ensures i) 0) in
    subst (λ (b : List ℕ). IsHeader b c.in-Some.first) here c.in-Some.ensures.found

pub returns-in-Some-clause-few : goal.returns-in-Some-clause-few
returns-in-Some-clause-few g c = c.in-Some.ensures.found.allowed

pub returns-in-None-clause-bad : goal.returns-in-None-clause-bad
returns-in-None-clause-bad g c = let old = g.D.Disk.view c.args.disk.now in λ file slot is t first header.
    let here : c.read.new.into ≡ old.content aij_file 0 = c.in_ok-read.ensures.bytes t ∙ (λ i. old.content (c.aij_file-journal.ensures i) 0) in
    c.in-None.ensures.none first (subst (λ (b : List ℕ). IsHeader b first) (sym here) header)
