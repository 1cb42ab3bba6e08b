use Rattle.rdb_outside.specs.rdb_types.declared.file.FileId.{FileId}
use Rattle.new_database.proofs.Stages.{no_calls, zeros_written}
use Rattle.new_database.proofs.Zeros.{zero_slot}
use Rattle.new_database.proofs.maker.make_numbered.Goals as goal

pub loop-number-init : goal.loop-number-init
loop-number-init g c = no_calls _

pub returns-in_err-write-clause-none : goal.returns-in_err-write-clause-none
returns-in_err-write-clause-none g c =
    let v = g.D.Disk.view in
    let file : FileId = record { kind = c.args.kind; number = c.loop-number.number } in
    zeros_written file 0 _ (v c.args.disk.now) (v c.loop-number.disk) (v c.write.new.self) c.write.result (zero_slot file c.slot_bytes.result c.slot_bytes.ensures) c.loop-number.invariant c.write.ensures.counts c.write.ensures.pending

pub loop-number-preserved : goal.loop-number-preserved
loop-number-preserved g c =
    let v = g.D.Disk.view in
    let file : FileId = record { kind = c.args.kind; number = c.loop-number.number } in
    zeros_written file 0 _ (v c.args.disk.now) (v c.loop-number.disk) (v c.write.new.self) c.write.result (zero_slot file c.slot_bytes.result c.slot_bytes.ensures) c.loop-number.invariant c.write.ensures.counts c.write.ensures.pending

pub returns-in_ok-write-clause-none : goal.returns-in_ok-write-clause-none
returns-in_ok-write-clause-none g c =
    let v = g.D.Disk.view in
    let file : FileId = record { kind = c.args.kind; number = c.loop-number.number } in
    zeros_written file 0 _ (v c.args.disk.now) (v c.loop-number.disk) (v c.write.new.self) c.write.result (zero_slot file c.slot_bytes.result c.slot_bytes.ensures) c.loop-number.invariant c.write.ensures.counts c.write.ensures.pending
