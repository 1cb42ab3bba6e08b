use Rattle.std.proofs.Common.{rules, ◌+◌, ◌≤◌, List, subst, sym, refl, get_or, arith}
use Rattle.rdb_outside.specs.Disk.{Image}
use Rattle.rdb_outside.specs.Runs.{then_reads}
use Rattle.line_moves.proofs.Runs.{still_tells}
use Rattle.line_opening.proofs.Passed.{image_same}
use Rattle.before_images.specs.declared.lines.OpenTransaction.{OpenTransaction}
use Rattle.before_images.specs.Open.{HoldsMore}
use Rattle.before_images.proofs.Elsewhere.{are_held, are_open}
use Rattle.before_images.proofs.Laid.{AreHeld, none_held, next_held, all_laid}
use Rattle.before_images.proofs.lines.read_before_images.Goals as goal

pub loop-place-init : goal.loop-place-init
loop-place-init g c = let v = g.D.Disk.view in let before = v c.args.disk.now in
    record {
      reads = c.read_open.ensures.reads;
      held = λ t. subst (λ (l : List OpenTransaction). AreHeld before.content c.in_ok-numbers.numbers 1 l) (sym c.new-held.ensures) (none_held before.content c.in_ok-numbers.numbers);
    }

pub returns-in_err-add_open-clause-reads : goal.returns-in_err-add_open-clause-reads
returns-in_err-add_open-clause-reads g c = let v = g.D.Disk.view in then_reads (v c.args.disk.now) (v c.loop-place.disk) (v c.add_open.new.disk) c.loop-place.invariant.reads c.add_open.ensures.reads

pub loop-place-preserved : goal.loop-place-preserved
loop-place-preserved g c = let v = g.D.Disk.view in
    let before = v c.args.disk.now in let mid = v c.loop-place.disk in let so_far = c.loop-place.invariant in
    record {
      reads = then_reads before mid (v c.add_open.new.disk) so_far.reads c.add_open.ensures.reads;
      held = λ t.
          next_held before.content c.in_ok-numbers.numbers c.loop-place.place (get_or c.in_ok-numbers.numbers c.loop-place.place 0) c.loop-place.held c.add_open.new.held (c.loop-place-test.true) refl c.in_ok-add_open.ensures.none
          (λ some. subst (λ (image : Image). HoldsMore image (c.loop-place.place + 1) (record { number = get_or c.in_ok-numbers.numbers c.loop-place.place 0 }) c.loop-place.held c.add_open.new.held) (image_same before mid so_far.reads t) (c.in_ok-add_open.ensures.more some (still_tells before mid so_far.reads.told t)))
          (so_far.held t);
    }

pub returns-clause-lays : goal.returns-clause-lays
returns-clause-lays g c = let before = g.D.Disk.view c.args.disk.now in λ t journal is image same.
    let past : 16 ≤ c.loop-place.place = search rules in
    let numbers = c.in_ok-numbers.numbers in
    all_laid image journal.groups numbers (c.loop-place.place + 1) c.loop-place.held (are_open before.content image same journal.groups numbers (c.in_ok-numbers.ensures.open t journal is)) (omega (arith, past))
    (are_held before.content image same numbers (c.loop-place.place + 1) c.loop-place.held (c.loop-place.invariant.held t))
