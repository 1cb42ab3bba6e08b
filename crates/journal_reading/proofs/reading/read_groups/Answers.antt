use Rattle.std.proofs.Common.{◌≡◌, ◌+◌, ◌-◌, ◌∙◌, sym, ap, subst, inr, IsTrue, arith}
use Rattle.journal_scan.specs.Reading.{begins_at, read_all}
use Rattle.journal_reading.specs.Journal.{standing}
use Rattle.rdb_outside.specs.Runs.{one_call}
use Rattle.journal_reading.proofs.Standing.{read_next, stage_ended}
use Rattle.journal_reading.proofs.reading.read_groups.Goals as goal

pub returns-in_err-read-clause-reads : goal.returns-in_err-read-clause-reads
returns-in_err-read-clause-reads g c =
    let view = g.D.Disk.view in
    one_call (view c.args.disk.now) (view c.loop-number.disk) (view c.read.new.self) c.read.result c.loop-number.invariant.reads c.read.ensures.counts c.read.ensures.kept

pub returns-in_err-take-clause-reads : goal.returns-in_err-take-clause-reads
returns-in_err-take-clause-reads g c =
    let view = g.D.Disk.view in
    one_call (view c.args.disk.now) (view c.loop-number.disk) (view c.read.new.self) c.read.result c.loop-number.invariant.reads c.read.ensures.counts c.read.ensures.kept

pub returns-in-Ended-clause-reads : goal.returns-in-Ended-clause-reads
returns-in-Ended-clause-reads g c =
    let view = g.D.Disk.view in
    one_call (view c.args.disk.now) (view c.loop-number.disk) (view c.read.new.self) c.read.result c.loop-number.invariant.reads c.read.ensures.counts c.read.ensures.kept

pub returns-in-Ended-clause-read : goal.returns-in-Ended-clause-read
returns-in-Ended-clause-read g c = λ tells.
    let before = g.D.Disk.view c.args.disk.now in
    let so_far = c.loop-number.invariant in
    let now : IsTrue (g.D.Disk.view c.loop-number.disk).tells = subst (λ b. IsTrue b) (sym so_far.reads.told) tells in
    record {
      count = c.loop-number.number;
      read = read_next before.content c.args.file c.args.first c.loop-number.number c.read.new.into c.loop-number.scan c.take.new.self c.loop-number.auto.number (so_far.read tells)
          (c.in_ok-read.ensures.bytes now ∙ (so_far.reads.keeps tells).content c.args.file c.loop-number.number) c.in_ok-take.ensures.taken;
      all = inr (stage_ended c.take.new.self.stage (sym c.in_ok-take.ensures.turn ∙ c.in-Ended.is));
    }

pub loop-number-preserved : goal.loop-number-preserved
loop-number-preserved g c =
    let view = g.D.Disk.view in
    let before = view c.args.disk.now in
    let so_far = c.loop-number.invariant in
    let same : c.loop-number.number + 1 - 1 ≡ c.loop-number.number = omega arith in
    record {
      reads = one_call before (view c.loop-number.disk) (view c.read.new.self) c.read.result so_far.reads c.read.ensures.counts c.read.ensures.kept;
      read = λ tells.
          let now : IsTrue (view c.loop-number.disk).tells = subst (λ b. IsTrue b) (sym so_far.reads.told) tells in
          let next = read_next before.content c.args.file c.args.first c.loop-number.number c.read.new.into c.loop-number.scan c.take.new.self c.loop-number.auto.number (so_far.read tells)
          (c.in_ok-read.ensures.bytes now ∙ (so_far.reads.keeps tells).content c.args.file c.loop-number.number) c.in_ok-take.ensures.taken in
          subst (λ n. c.take.new.self ≡ read_all (begins_at 1 c.args.first) (standing before.content c.args.file 1 n)) (sym same) next;
      place = c.in_ok-take.ensures.next c.in-More.is ∙ ap (λ n. n + 1) so_far.place;
    }
