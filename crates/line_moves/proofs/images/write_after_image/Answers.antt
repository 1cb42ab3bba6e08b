use Rattle.std.proofs.Common.{◌∙◌, ap, refl}
use Rattle.line_store.specs.rdb_outside.Disk.{Pending}
use Rattle.line_store.specs.rdb_outside.Runs.{no_calls}
use Rattle.stable_lines.specs.journal_scan.Standing.{what_stands}
use Rattle.stable_lines.specs.new_database.Maker.{aij_file}
use Rattle.stable_lines.proofs.Codecs.{part_stands}
use Rattle.line_moves.proofs.Runs.{writes_now, more_behind, here_at, on_ok}
use Rattle.line_moves.proofs.Journalled.{journals}
use Rattle.line_moves.proofs.images.write_after_image.Goals as goal

pub returns-clause-writes : goal.returns-clause-writes
returns-clause-writes g c = let v = g.D.Disk.view in
    writes_now (v c.args.disk.now) (v c.write.new.self) c.aij_file.result aij_file c.args.slot c.args.slot c.put_slot.new.slot c.write.result c.aij_file.ensures refl c.write.ensures.counts c.write.ensures.pending c.write.ensures.written c.write.ensures.failed

pub returns-clause-stands : goal.returns-clause-stands
returns-clause-stands g c = let new = g.D.Disk.view c.write.new.self in
    on_ok _ _ c.write.result (λ put t.
    ap what_stands (here_at new c.aij_file.result aij_file c.args.slot c.args.slot c.put_slot.new.slot c.aij_file.ensures refl (put t).here) ∙ part_stands c.put_slot.new.slot c.args.part.now c.put_slot.ensures) c.write.ensures.written

pub returns-clause-keeps : goal.returns-clause-keeps
returns-clause-keeps g c = let v = g.D.Disk.view in λ t now was behind former flight.
    let old = v c.args.disk.now in let new = v c.write.new.self in
    let more = more_behind old old new c.aij_file.result aij_file c.args.slot c.args.slot c.put_slot.new.slot c.aij_file.ensures refl t (no_calls old) (c.write.ensures.pending t) in
    journals (Pending old) (Pending new) now c.args.slot c.put_slot.new.slot c.args.part.now more was c.put_slot.ensures c.requires.line behind former flight
