use Rattle.std.proofs.Common.{rules, arith, ◌+◌, ◌≤◌, ◌∙◌, length, Some, slice_get, ap, sym}
use Rattle.rdb_outside.specs.Runs.{no_calls}
use Rattle.line_moves.specs.new_database.Maker.{aij_file}
use Rattle.line_moves.proofs.Runs.{writes_none}
use Rattle.aij_journal.specs.declared.part.AijPart.{AijPart}
use Rattle.journal_scan.specs.declared.group.Group.{Group}
use Rattle.journal_scan.specs.Whole.{slots_of}
use Rattle.line_seat.proofs.GroupSlots.{got_at, got_read, slot_is}
use Rattle.line_seat.proofs.CommitSteps.{put_still, imaged_all, imaged_more}
use Rattle.line_seat.proofs.commit.journal_image.Goals as goal

pub returns-then-at-lines-clause-goes_on : goal.returns-then-at-lines-clause-goes_on
returns-then-at-lines-clause-goes_on g c = let old = g.D.Disk.view c.args.disk.now in λ t now member o flight is stands.
    let past : length c.args.lines.now ≤ c.args.at = search rules in
    record { facts = stands.facts; done = (stands.done.0, imaged_all old.content now flight c.args.at (length c.args.lines.now) past stands.done.1) }

pub returns-then-at-lines-clause-keeps : goal.returns-then-at-lines-clause-keeps
returns-then-at-lines-clause-keeps g c = λ t now member o flight is stands. stands.facts

pub returns-in-Ok-clause-goes_on : goal.returns-in-Ok-clause-goes_on
returns-in-Ok-clause-goes_on g c = let v = g.D.Disk.view in λ t now member o flight is stands.
    let old = v c.args.disk.now in let new = v c.write_after_image.new.disk in
    let first = is.in_slot in let at = c.args.group.slot + c.args.at in
    let line = got_read c.args.lines.now c.args.at c.index-lines-at.result (search rules) c.index-lines-at.is in
    let class = got_at c.args.classes.now c.args.at 0 (search rules) in
    let slot = ap (λ (f : Group). slice_get (slots_of f) c.args.at) is.group ∙ slot_is c.args.group c.args.lines.now c.args.classes.now c.args.at _ _ c.requires.classes line class ∙ ap (λ (p : AijPart). Some (Some p)) (sym c.part_of-part.ensures) in
    record {
      facts = c.write_after_image.ensures.keeps t now stands.facts (omega (arith, first)) is.no_former is.no_flight;
      done = (
        put_still old new at t c.write_after_image.ensures.writes c.args.lines.now (length c.args.lines.now) stands.done.0,
        imaged_more old.content new.content now flight at c.args.at c.part_of-part.result (omega (arith, first)) slot (c.in-Ok.ensures.stands t) (c.write_after_image.ensures.writes.content t) stands.done.1,
      );
    }

pub returns-in-Ok-clause-keeps : goal.returns-in-Ok-clause-keeps
returns-in-Ok-clause-keeps g c = λ t now member o flight is stands.
    let first = is.in_slot in c.write_after_image.ensures.keeps t now stands.facts (omega (arith, first)) is.no_former is.no_flight

pub returns-in-Err-clause-keeps : goal.returns-in-Err-clause-keeps
returns-in-Err-clause-keeps g c = λ t now member o flight is stands.
    let first = is.in_slot in c.write_after_image.ensures.keeps t now stands.facts (omega (arith, first)) is.no_former is.no_flight

pub returns-then-at-lines-clause-writes : goal.returns-then-at-lines-clause-writes
returns-then-at-lines-clause-writes g c = let old = g.D.Disk.view c.args.disk.now in (0, writes_none aij_file 0 old old (no_calls old))

pub returns-in-Ok-clause-writes : goal.returns-in-Ok-clause-writes
returns-in-Ok-clause-writes g c = (c.args.group.slot + c.args.at, c.write_after_image.ensures.writes)

pub returns-in-Err-clause-writes : goal.returns-in-Err-clause-writes
returns-in-Err-clause-writes g c = (c.args.group.slot + c.args.at, c.write_after_image.ensures.writes)
