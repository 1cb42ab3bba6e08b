use Rattle.std.proofs.Common.{◌≤◌, ◌∙◌, length, IsTrue, sym, subst, arith}
use Rattle.rdb_outside.specs.Runs.{then_reads}
use Rattle.line_versions.specs.Versions.{snap_of}
use Rattle.line_versions.specs.Files.{entries_in}
use Rattle.version_reading.proofs.Ways.{ends_seen, ends_bare, ends_lost, ends_past, steps, still}
use Rattle.version_reading.proofs.walk.seen_from.Goals as goal
use Rattle.version_reading.proofs.walk.seen_from.Goals.{then-version-eq0-via-then-version-eq0, then-version-eq0-via-else-version-eq0+then-version-limit}

pub returns-then-sees-clause-line : goal.returns-then-sees-clause-line
returns-then-sees-clause-line g c = λ tells followed most over answer short walk.
    ends_seen (entries_in (g.D.Disk.view c.args.disk.now).content) followed c.args.reader.now c.args.key (length over) answer c.loop-turn._turn c.loop-turn.version
    (sym c.sees.ensures ∙ c.if-sees.true) (c.loop-turn.invariant.goes tells followed over answer walk)

pub returns-then-version-eq0-clause-line : goal.returns-then-version-eq0-clause-line
returns-then-version-eq0-clause-line g c = λ tells followed most over answer short walk.
    let E = entries_in (g.D.Disk.view c.args.disk.now).content in
    let unseen = sym c.sees.ensures ∙ c.if-sees.false in
    let goes = c.loop-turn.invariant.goes tells followed over answer walk in
    elim c.then-version-eq0.branch [
      | then-version-eq0-via-then-version-eq0 w ↦ ends_bare E followed c.args.reader.now c.args.key (length over) answer c.loop-turn._turn c.loop-turn.version unseen w.if-version-eq0.true goes
      | then-version-eq0-via-else-version-eq0+then-version-limit w ↦ ends_past E followed c.args.reader.now c.args.key (length over) answer c.loop-turn._turn c.args.limit c.loop-turn.version most unseen w.if-version-limit.true goes
    ]

pub returns-in_err-before-clause-reads : goal.returns-in_err-before-clause-reads
returns-in_err-before-clause-reads g c =
    let view = g.D.Disk.view in
    then_reads (view c.args.disk.now) (view c.loop-turn.disk) (view c.version_before.new.disk) c.loop-turn.invariant.reads c.version_before.ensures.reads

pub returns-in-None-clause-reads : goal.returns-in-None-clause-reads
returns-in-None-clause-reads g c =
    let view = g.D.Disk.view in
    then_reads (view c.args.disk.now) (view c.loop-turn.disk) (view c.version_before.new.disk) c.loop-turn.invariant.reads c.version_before.ensures.reads

pub returns-in-None-clause-line : goal.returns-in-None-clause-line
returns-in-None-clause-line g c = λ tells followed most over answer short walk.
    let view = g.D.Disk.view in
    let so_far = c.loop-turn.invariant in
    let now : IsTrue (view c.loop-turn.disk).tells = subst (λ b. IsTrue b) (sym so_far.reads.told) tells in
    let some : 1 ≤ c.loop-turn.version.chain = omega arith in
    ends_lost (entries_in (view c.args.disk.now).content) followed c.args.reader.now c.args.key (length over) answer c.loop-turn._turn c.loop-turn.version
    (sym c.sees.ensures ∙ c.if-sees.false) some
    (λ entry stands same. sym c.in-None.is ∙ c.in_ok-before.ensures.version now entry (still (view c.args.disk.now) (view c.loop-turn.disk) so_far.reads tells (snap_of c.args.key) c.loop-turn.version.chain entry stands) same)
    (so_far.goes tells followed over answer walk)

pub loop-turn-preserved : goal.loop-turn-preserved
loop-turn-preserved g c =
    let view = g.D.Disk.view in
    let so_far = c.loop-turn.invariant in
    let some : 1 ≤ c.loop-turn.version.chain = omega arith in
    record {
      reads = then_reads (view c.args.disk.now) (view c.loop-turn.disk) (view c.version_before.new.disk) so_far.reads c.version_before.ensures.reads;
      goes = λ tells followed over answer walk.
          let now : IsTrue (view c.loop-turn.disk).tells = subst (λ b. IsTrue b) (sym so_far.reads.told) tells in
          steps (entries_in (view c.args.disk.now).content) followed c.args.reader.now c.args.key (length over) answer c.loop-turn._turn c.loop-turn.version c.in-Some.before
          (sym c.sees.ensures ∙ c.if-sees.false) some
          (λ entry stands same. sym c.in-Some.is ∙ c.in_ok-before.ensures.version now entry (still (view c.args.disk.now) (view c.loop-turn.disk) so_far.reads tells (snap_of c.args.key) c.loop-turn.version.chain entry stands) same)
          (so_far.goes tells followed over answer walk);
    }
