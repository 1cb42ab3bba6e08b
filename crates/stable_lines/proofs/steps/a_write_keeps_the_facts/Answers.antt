use Rattle.journal_reading.specs.rdb_outside.Disk.{Pending}
use Rattle.stable_lines.proofs.Headers as headers
use Rattle.stable_lines.proofs.SpaceWrite.{space_written}
use Rattle.stable_lines.proofs.JournalWrite.{part_written, commit_written}
use Rattle.stable_lines.proofs.Anew.{journal_begun}
use Rattle.stable_lines.proofs.steps.a_write_keeps_the_facts.Goals as goal

pub returns-clause-other : goal.returns-clause-other
returns-clause-other g c = λ now file slot bytes more ruj area aij root was. headers.other_written (Pending (g.D.Disk.view c.args.before.now)) (Pending (g.D.Disk.view c.args.after.now)) now file slot bytes more ruj area aij root was

pub returns-clause-root : goal.returns-clause-root
returns-clause-root g c = λ now bytes more stands was. headers.root_written (Pending (g.D.Disk.view c.args.before.now)) (Pending (g.D.Disk.view c.args.after.now)) now bytes more stands was

pub returns-clause-space : goal.returns-clause-space
returns-clause-space g c = λ now file number bytes more file_is new was. space_written (Pending (g.D.Disk.view c.args.before.now)) (Pending (g.D.Disk.view c.args.after.now)) now file number bytes more file_is new was

pub returns-clause-named_header : goal.returns-clause-named_header
returns-clause-named_header g c = λ now member transaction bytes more is header names former whole was. headers.header_named (Pending (g.D.Disk.view c.args.before.now)) (Pending (g.D.Disk.view c.args.after.now)) now member transaction bytes more is header names former whole was

pub returns-clause-closed_header : goal.returns-clause-closed_header
returns-clause-closed_header g c = λ now member bytes more idle header none some was. headers.header_closed (Pending (g.D.Disk.view c.args.before.now)) (Pending (g.D.Disk.view c.args.after.now)) now member bytes more idle header none some was

pub returns-clause-entry : goal.returns-clause-entry
returns-clause-entry g c = λ now member slot transaction e bytes more is entry tsn none behind was. headers.entry_written (Pending (g.D.Disk.view c.args.before.now)) (Pending (g.D.Disk.view c.args.after.now)) now member slot transaction e bytes more is entry tsn none behind was

pub returns-clause-part : goal.returns-clause-part
returns-clause-part g c = λ now slot bytes more behind low former flight was. part_written (Pending (g.D.Disk.view c.args.before.now)) (Pending (g.D.Disk.view c.args.after.now)) now slot bytes more was behind low former flight

pub returns-clause-commit : goal.returns-clause-commit
returns-clause-commit g c = λ now slot bytes flight more is place stands was. commit_written (Pending (g.D.Disk.view c.args.before.now)) (Pending (g.D.Disk.view c.args.after.now)) now slot bytes more was flight is place stands

pub returns-clause-journal : goal.returns-clause-journal
returns-clause-journal g c = λ now bytes more new was. journal_begun (Pending (g.D.Disk.view c.args.before.now)) (Pending (g.D.Disk.view c.args.after.now)) now bytes more new was
