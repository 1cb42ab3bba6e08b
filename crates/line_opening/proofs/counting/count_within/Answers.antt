use Rattle.std.proofs.Common.{rules, ◌≡◌, ◌+◌, ◌≤◌, ◌∙◌, ℕ, List, sym, subst, refl, arith}
use Rattle.line_moves.specs.ruj_journal.Entry.{IsEntry}
use Rattle.rdb_outside.specs.Runs.{no_calls, one_call}
use Rattle.line_moves.specs.stable_lines.Slots.{ruj_file, entry_at}
use Rattle.line_moves.proofs.Runs.{still_tells}
use Rattle.line_opening.proofs.Counted.{StandTo, none_yet, one_more, ends_there, ends_in_zeros}
use Rattle.line_opening.proofs.counting.count_within.Goals as goal

pub loop-index-init : goal.loop-index-init
loop-index-init g c = let before = g.D.Disk.view c.args.disk.now in
    record { reads = no_calls before; stand = λ t. none_yet before.content c.args.member c.args.tsn; next = refl }

pub returns-in_err-read-clause-reads : goal.returns-in_err-read-clause-reads
returns-in_err-read-clause-reads g c = let v = g.D.Disk.view in
    one_call (v c.args.disk.now) (v c.loop-index.disk) (v c.read.new.self) c.read.result c.loop-index.invariant.reads c.read.ensures.counts c.read.ensures.kept

pub returns-then-not-is_entry_of-clause-reads : goal.returns-then-not-is_entry_of-clause-reads
returns-then-not-is_entry_of-clause-reads g c = let v = g.D.Disk.view in
    one_call (v c.args.disk.now) (v c.loop-index.disk) (v c.read.new.self) c.read.result c.loop-index.invariant.reads c.read.ensures.counts c.read.ensures.kept

pub returns-then-not-is_entry_of-clause-entries : goal.returns-then-not-is_entry_of-clause-entries
returns-then-not-is_entry_of-clause-entries g c = let v = g.D.Disk.view in λ t ends.
    let before = v c.args.disk.now in let so_far = c.loop-index.invariant in
    let mid = still_tells before (v c.loop-index.disk) so_far.reads.told t in
    let bytes : c.read.new.into ≡ before.content (ruj_file c.args.member) (c.loop-index.count + 1) = c.in_ok-read.ensures.bytes mid ∙ (so_far.reads.keeps t).content c.ruj_file-journal.result c.loop-index.index ∙ (λ i. before.content (c.ruj_file-journal.ensures i) (sym so_far.next i)) in
    ends_there before.content c.args.member c.args.tsn c.loop-index.count (so_far.stand t)
    (λ e is same at. c.is_entry_of.ensures.no (search rules) e (subst (λ (b : List ℕ). IsEntry b e) (sym bytes) is) same (at ∙ so_far.next))

pub loop-index-preserved : goal.loop-index-preserved
loop-index-preserved g c = let v = g.D.Disk.view in
    let before = v c.args.disk.now in let so_far = c.loop-index.invariant in
    record {
      reads = one_call before (v c.loop-index.disk) (v c.read.new.self) c.read.result so_far.reads c.read.ensures.counts c.read.ensures.kept;
      stand = λ t.
          let mid = still_tells before (v c.loop-index.disk) so_far.reads.told t in
          let bytes : c.read.new.into ≡ before.content (ruj_file c.args.member) c.loop-index.index = c.in_ok-read.ensures.bytes mid ∙ (so_far.reads.keeps t).content c.ruj_file-journal.result c.loop-index.index ∙ (λ i. before.content (c.ruj_file-journal.ensures i) c.loop-index.index) in
          let it = c.is_entry_of.ensures.yes (search rules) in
          let here : IsEntry (before.content (ruj_file c.args.member) c.loop-index.index) (entry_at c.args.tsn c.loop-index.index it.0) = subst (λ (b : List ℕ). IsEntry b (entry_at c.args.tsn c.loop-index.index it.0)) bytes it.1 in
          subst (λ (n : ℕ). StandTo before.content c.args.member c.args.tsn n) so_far.next
          (one_more before.content c.args.member c.args.tsn c.loop-index.count it.0 (subst (λ (n : ℕ). IsEntry (before.content (ruj_file c.args.member) n) (entry_at c.args.tsn n it.0)) (sym so_far.next) here) (so_far.stand t));
      next = refl;
    }

pub returns-clause-entries : goal.returns-clause-entries
returns-clause-entries g c = let v = g.D.Disk.view in λ t ends.
    let before = v c.args.disk.now in let so_far = c.loop-index.invariant in let next = so_far.next in
    let past : c.args.length ≤ c.loop-index.index = search rules in
    ends_in_zeros before.content c.args.member c.args.tsn c.loop-index.count c.args.length ends (omega (arith, past, next)) (so_far.stand t)
