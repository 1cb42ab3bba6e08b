use Rattle.std.proofs.Common.{refl}
use Rattle.line_moves.proofs.Runs.{facts_read}
use Rattle.line_seat.specs.Stages.{progress_at}
use Rattle.line_seat.proofs.StageStays.{stage_stays, beside_reads, beside_entry, beside_header}
use Rattle.line_seat.proofs.laws.a_stage_stays.Goals as goal

pub returns-clause-reads : goal.returns-clause-reads
returns-clause-reads g c = let v = g.D.Disk.view c.args.before.now in let w = g.D.Disk.view c.args.after.now in
    λ stage now member o group lines f is bear reads stands. stage_stays v w now member o is (beside_reads v w now member c.requires.tells reads) stage group lines f bear (facts_read v w reads c.requires.tells (progress_at stage now f) stands.facts) stands

pub returns-clause-beside : goal.returns-clause-beside
returns-clause-beside g c = let v = g.D.Disk.view c.args.before.now in let w = g.D.Disk.view c.args.after.now in
    λ stage now member o group lines f is bear other slot apart le rest facts stands. stage_stays v w now member o is (beside_entry v w now member other slot c.requires.tells apart rest le) stage group lines f bear facts stands

pub returns-clause-headed : goal.returns-clause-headed
returns-clause-headed g c = let v = g.D.Disk.view c.args.before.now in let w = g.D.Disk.view c.args.after.now in
    λ stage now member o group lines f is bear other theirs apart open_there rest headers facts stands.
    stage_stays v w now member o is (beside_header v w now member other 0 c.requires.tells apart rest refl theirs.tsn.number headers (λ tsn closed le. closed other theirs open_there)) stage group lines f bear facts stands
