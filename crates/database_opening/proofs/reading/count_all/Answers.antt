use Rattle.std.proofs.Common.{rules, ◌≤◌, ◌+◌, ◌∙◌, get_or, refl, arith}
use Rattle.std.proofs.lemmas.List.{length-set}
use Rattle.rdb_outside.specs.Runs.{no_calls, then_reads}
use Rattle.line_opening.specs.stable_lines.Slots.{ruj_file}
use Rattle.line_opening.proofs.of_line_moves.Runs.{still_tells}
use Rattle.line_opening.proofs.Counted.{count_same}
use Rattle.database_opening.proofs.Counts.{counted_more, all_counted}
use Rattle.database_opening.proofs.reading.count_all.Goals as goal

pub loop-place-init : goal.loop-place-init
loop-place-init g c = record { reads = no_calls (g.D.Disk.view c.args.disk.now); long = refl; counted = λ t k less. absurd (omega (arith, less)) }

pub returns-in_err-counts-clause-reads : goal.returns-in_err-counts-clause-reads
returns-in_err-counts-clause-reads g c = let v = g.D.Disk.view in then_reads (v c.args.disk.now) (v c.loop-place.disk) (v c.count_of.new.disk) c.loop-place.invariant.reads c.count_of.ensures.reads

pub loop-place-preserved : goal.loop-place-preserved
loop-place-preserved g c = let v = g.D.Disk.view in let old = v c.args.disk.now in let mid = v c.loop-place.disk in let so_far = c.loop-place.invariant in
    let less = c.loop-place-test.true in let long = so_far.long in
    record {
      reads = then_reads old mid (v c.count_of.new.disk) so_far.reads c.count_of.ensures.reads;
      long = length-set c.loop-place.counts c.loop-place.place _ ∙ so_far.long;
      counted = λ t. counted_more old.content c.args.numbers.now c.loop-place.counts c.loop-place.place _ (omega (arith, less, long))
          (record {
            has = λ some. count_same mid.content old.content (c.loop-place.place + 1) (record { number = get_or c.args.numbers.now c.loop-place.place 0 }) _ (λ i. (so_far.reads.keeps t).content (ruj_file (c.loop-place.place + 1)) i)
                (c.in_ok-counts.ensures.count (still_tells old mid so_far.reads.told t) some);
            none = λ zero_is. c.in_ok-counts.ensures.none zero_is;
          })
          (so_far.counted t);
    }

pub returns-clause-counts : goal.returns-clause-counts
returns-clause-counts g c = let old = g.D.Disk.view c.args.disk.now in λ t.
    let past : 16 ≤ c.loop-place.place = search rules in
    all_counted old.content c.args.numbers.now c.loop-place.counts c.loop-place.place c.loop-place.invariant.long past (c.loop-place.invariant.counted t)
