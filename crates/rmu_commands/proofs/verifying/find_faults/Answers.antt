use Rattle.std.proofs.Common.{ℕ, sym, subst}
use Rattle.rdb_outside.specs.Disk.{Image, OnlyReads}
use Rattle.rdb_outside.specs.Runs.{then_reads}
use Rattle.line_moves.proofs.Runs.{still_tells}
use Rattle.line_opening.proofs.Passed.{image_same}
use Rattle.line_opening.proofs.Counted.{if_ok}
use Rattle.stable_lines.specs.Slots.{IsMember, ruj_file}
use Rattle.stable_lines.specs.Kept.{IsRujHeader}
use Rattle.stable_lines.specs.Journal.{IsJournalOf}
use Rattle.rmu_verify.specs.Verified.{AreFaults}
use Rattle.rmu_commands.proofs.verifying.find_faults.Goals as goal

pub returns-clause-faults : goal.returns-clause-faults
returns-clause-faults g c =
    let v = g.D.Disk.view in
    let v0 = v c.args.disk.now in
    let v1 = v c.find_root.new.disk in
    let r1 : OnlyReads v0 v1 = c.find_root.ensures.reads in
    if_ok _ _ c.verify.result (λ faults are t journal is.
    let same = image_same v0 v1 r1 t in
    subst (λ (m : Image). AreFaults m journal.groups faults) same (are (still_tells v0 v1 r1.told t) journal (subst (λ (m : Image). IsJournalOf m journal) (sym same) is))) c.verify.ensures.faults

pub returns-clause-refused : goal.returns-clause-refused
returns-clause-refused g c = λ file slot is t usable.
    let v = g.D.Disk.view in
    let v0 = v c.args.disk.now in
    let v1 = v c.find_root.new.disk in
    let r1 : OnlyReads v0 v1 = c.find_root.ensures.reads in
    let same = image_same v0 v1 r1 t in
    c.verify.ensures.refused file slot is (still_tells v0 v1 r1.told t) (subst (λ (m : Image). (member : ℕ) → IsMember member → IsRujHeader (m (ruj_file member) 0)) (sym same) usable.headers)
    usable.journal (subst (λ (m : Image). IsJournalOf m usable.journal) (sym same) usable.has_journal)

pub returns-clause-reads : goal.returns-clause-reads
returns-clause-reads g c =
    let v = g.D.Disk.view in
    then_reads (v c.args.disk.now) (v c.find_root.new.disk) (v c.verify.new.disk) c.find_root.ensures.reads c.verify.ensures.reads
