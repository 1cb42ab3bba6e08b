use Rattle.std.proofs.Common.{rules, ◌≡◌, ◌≤◌, ◌∙◌, List, ℕ, subst, sym}
use Rattle.rdb_types.specs.declared.keys.Dbkey.{Dbkey}
use Rattle.rdb_types.specs.declared.keys.Line.{Line}
use Rattle.ruj_journal.specs.Entry.{IsEntry}
use Rattle.rdb_outside.specs.Runs.{no_calls, one_call}
use Rattle.stable_lines.specs.Slots.{ruj_file}
use Rattle.line_moves.proofs.Runs.{still_tells}
use Rattle.before_images.proofs.Reading.{HeldTo, none_held, entry_more, entries_end, entries_end_in_zeros}
use Rattle.before_images.proofs.entries.read_to.Goals as goal

pub loop-index-init : goal.loop-index-init
loop-index-init g c = let before = g.D.Disk.view c.args.disk.now in
    record {
      reads = no_calls before;
      held = λ t. subst (λ (l : List (Dbkey × Line)). HeldTo before.content c.args.member c.args.tsn 1 l) (sym c.new-held.ensures) (none_held before.content c.args.member c.args.tsn);
    }

pub returns-in_err-read-clause-reads : goal.returns-in_err-read-clause-reads
returns-in_err-read-clause-reads g c = let v = g.D.Disk.view in
    one_call (v c.args.disk.now) (v c.loop-index.disk) (v c.read.new.self) c.read.result c.loop-index.invariant.reads c.read.ensures.counts c.read.ensures.kept

pub returns-in_err-hold-in-Some-clause-reads : goal.returns-in_err-hold-in-Some-clause-reads
returns-in_err-hold-in-Some-clause-reads g c = let v = g.D.Disk.view in
    one_call (v c.args.disk.now) (v c.loop-index.disk) (v c.read.new.self) c.read.result c.loop-index.invariant.reads c.read.ensures.counts c.read.ensures.kept

pub returns-in-None-clause-reads : goal.returns-in-None-clause-reads
returns-in-None-clause-reads g c = let v = g.D.Disk.view in
    one_call (v c.args.disk.now) (v c.loop-index.disk) (v c.read.new.self) c.read.result c.loop-index.invariant.reads c.read.ensures.counts c.read.ensures.kept

pub returns-in-None-clause-before : goal.returns-in-None-clause-before
returns-in-None-clause-before g c = let v = g.D.Disk.view in λ t ends.
    let before = v c.args.disk.now in let so_far = c.loop-index.invariant in
    let mid = still_tells before (v c.loop-index.disk) so_far.reads.told t in
    let bytes : c.read.new.into ≡ before.content (ruj_file c.args.member) c.loop-index.index = c.in_ok-read.ensures.bytes mid ∙ (so_far.reads.keeps t).content c.ruj_file-journal.result c.loop-index.index ∙ (λ i. before.content (c.ruj_file-journal.ensures i) c.loop-index.index) in
    entries_end before.content c.args.member c.args.tsn c.loop-index.index c.loop-index.held (so_far.held t)
    (λ e is same at. c.in-None.ensures.none e (subst (λ (b : List ℕ). IsEntry b e) (sym bytes) is) same at)

pub loop-index-preserved : goal.loop-index-preserved
loop-index-preserved g c = let v = g.D.Disk.view in
    let before = v c.args.disk.now in let so_far = c.loop-index.invariant in
    record {
      reads = one_call before (v c.loop-index.disk) (v c.read.new.self) c.read.result so_far.reads c.read.ensures.counts c.read.ensures.kept;
      held = λ t.
          let mid = still_tells before (v c.loop-index.disk) so_far.reads.told t in
          let bytes : c.read.new.into ≡ before.content (ruj_file c.args.member) c.loop-index.index = c.in_ok-read.ensures.bytes mid ∙ (so_far.reads.keeps t).content c.ruj_file-journal.result c.loop-index.index ∙ (λ i. before.content (c.ruj_file-journal.ensures i) c.loop-index.index) in
          entry_more before.content c.args.member c.args.tsn c.loop-index.index c.loop-index.held c.hold.new.held c.read.new.into c.in-Some.entry bytes c.in-Some.ensures.some (so_far.held t) c.in_ok-hold-in-Some.ensures.ok;
    }

pub returns-clause-before : goal.returns-clause-before
returns-clause-before g c = let v = g.D.Disk.view in λ t ends.
    let before = v c.args.disk.now in
    let past : c.args.end ≤ c.loop-index.index = search rules in
    entries_end_in_zeros before.content c.args.member c.args.tsn c.loop-index.index c.args.end c.loop-index.held ends past (c.loop-index.invariant.held t)
