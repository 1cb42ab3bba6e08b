use Rattle.std.proofs.Common.{rules, ◌+◌, ◌≤◌, ◌∙◌, List, ℕ, sym, ap, subst, arith}
use Rattle.std.proofs.lemmas.List.{length-set}
use Rattle.rdb_outside.specs.Runs.{then_reads}
use Rattle.line_moves.specs.stable_lines.Slots.{ruj_file, named}
use Rattle.line_moves.specs.stable_lines.Kept.{IsRujHeader}
use Rattle.line_moves.proofs.Runs.{still_tells}
use Rattle.line_opening.proofs.Reading.{named_more, all_are_named}
use Rattle.line_opening.proofs.headers.all_named.Goals as goal

pub returns-in_err-numbers-clause-reads : goal.returns-in_err-numbers-clause-reads
returns-in_err-numbers-clause-reads g c = let v = g.D.Disk.view in then_reads (v c.args.disk.now) (v c.loop-place.disk) (v c.named_by.new.disk) c.loop-place.invariant.reads c.named_by.ensures.reads

pub returns-in_err-numbers-clause-bad : goal.returns-in_err-numbers-clause-bad
returns-in_err-numbers-clause-bad g c = let v = g.D.Disk.view in let old = v c.args.disk.now in let mid = v c.loop-place.disk in let reads = c.loop-place.invariant.reads in
    λ file slot bad t all. let less = c.loop-place-test.true in
    c.named_by.ensures.bad file slot (search rules) (still_tells old mid reads.told t)
    (subst (λ (b : List ℕ). IsRujHeader b) (sym ((reads.keeps t).content (ruj_file (c.loop-place.place + 1)) 0)) (all (c.loop-place.place + 1) (record { first = omega arith; last = omega (arith, less) })))

pub loop-place-preserved : goal.loop-place-preserved
loop-place-preserved g c = let v = g.D.Disk.view in let old = v c.args.disk.now in let mid = v c.loop-place.disk in let so_far = c.loop-place.invariant in
    let less = c.loop-place-test.true in let long = so_far.long in
    record {
      reads = then_reads old mid (v c.named_by.new.disk) so_far.reads c.named_by.ensures.reads;
      long = length-set c.loop-place.numbers c.loop-place.place _ ∙ so_far.long;
      names = λ t. named_more old.content c.loop-place.numbers c.loop-place.place _ (omega (arith, less, long))
          (c.in_ok-numbers.ensures.names (still_tells old mid so_far.reads.told t) ∙ ap named ((so_far.reads.keeps t).content (ruj_file (c.loop-place.place + 1)) 0)) (so_far.names t);
    }

pub returns-clause-names : goal.returns-clause-names
returns-clause-names g c = let old = g.D.Disk.view c.args.disk.now in λ t.
    let past : 16 ≤ c.loop-place.place = search rules in
    all_are_named old.content c.loop-place.numbers c.loop-place.place c.loop-place.invariant.long past (c.loop-place.invariant.names t)
