use Rattle.std.specs.Prelude.{is_ok}
use Rattle.line_moves.proofs.Runs.{on_ok}
use Rattle.database_opening.proofs.Others.{file_unused}
use Rattle.copied_lines.proofs.Growing.{grown_none}
use Rattle.copied_lines.proofs.Lines.{not_shown, is_shown, line_passed, line_copied}
use Rattle.copied_lines.proofs.Oks.{on_fail}
use Rattle.copied_lines.proofs.Others.{file_step}
use Rattle.copied_lines.proofs.Runs.{stopped_put, stopped_still}
use Rattle.copied_lines.proofs.copying.copy_line.Goals as goal

pub returns-in-Present-clause-copied : goal.returns-in-Present-clause-copied
returns-in-Present-clause-copied g c = let v = g.D.Disk.view in
    on_ok _ _ c.put_line.result (λ done t former image now left file at behind was.
    line_copied former image now left file c.args.head c.args.line c.args.stood at behind (v c.args.disk.now) (v c.put_line.new.disk) c.args.backup.now c.put_line.new.backup (is_ok c.put_line.result)
    (is_shown c.args.stood c.in-Present.is) c.put_line.ensures.steps t was (done t former was.lines was.at)) c.put_line.ensures.done

pub returns-in-Present-clause-stopped : goal.returns-in-Present-clause-stopped
returns-in-Present-clause-stopped g c = let v = g.D.Disk.view in λ t former image now left was.
    stopped_put former now (v c.args.disk.now) (v c.put_line.new.disk) c.args.backup.now c.put_line.new.backup _ c.put_line.result c.put_line.ensures.steps t was.lines c.requires.is_open c.put_line.ensures.one_more was.at
    (on_ok _ _ c.put_line.result (λ done. done t former was.lines was.at) c.put_line.ensures.done) (on_fail _ _ c.put_line.result (λ failed. failed t former was.lines was.at) c.put_line.ensures.not_done) was.facts

pub returns-in_default-clause-grown : goal.returns-in_default-clause-grown
returns-in_default-clause-grown g c = grown_none c.args.backup.now 1

pub returns-in_default-clause-copied : goal.returns-in_default-clause-copied
returns-in_default-clause-copied g c = λ t former image now left file at behind was.
    line_passed former image now left file c.args.head c.args.line c.args.stood at behind (g.D.Disk.view c.args.disk.now) c.args.backup.now (not_shown c.args.stood c.in_default.not-Present) was

pub returns-in_default-clause-stopped : goal.returns-in_default-clause-stopped
returns-in_default-clause-stopped g c = λ t former image now left was. stopped_still former image now left (g.D.Disk.view c.args.disk.now) c.args.backup.now c.requires.is_open was

pub returns-in-Present-clause-others : goal.returns-in-Present-clause-others
returns-in-Present-clause-others g c = let v = g.D.Disk.view in
    file_step c.args.backup.now.number (v c.args.disk.now) (v c.put_line.new.disk) (is_ok c.put_line.result) c.put_line.ensures.steps

pub returns-in_default-clause-others : goal.returns-in_default-clause-others
returns-in_default-clause-others g c = λ t file apart. file_unused (g.D.Disk.view c.args.disk.now) t file
