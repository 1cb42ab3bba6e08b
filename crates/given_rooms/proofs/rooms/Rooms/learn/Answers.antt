use Rattle.line_view.specs.Held.{without_rooms}
use Rattle.given_rooms.proofs.Learning.{no-entry, no-other-at, before-at, sorted-at, given-at}
use Rattle.given_rooms.proofs.rooms.Rooms.learn.Goals as goal

pub learn_one-requires : goal.learn_one-requires
learn_one-requires c = record { apart = no-other-at c.as_slice-given.result.now c.loop-entry.entry-index no-entry c.loop-entry.known c.loop-entry-test.true c.loop-entry.invariant.apart }

pub loop-entry-preserved : goal.loop-entry-preserved
loop-entry-preserved c = record {
  apart = before-at c.as_slice-given.result.now c.loop-entry.entry-index no-entry c.loop-entry.known c.loop-entry-test.true c.learn_one.new.known c.loop-entry.invariant.sorted c.loop-entry.invariant.apart c.in_ok-learn_one.ensures.ok;
  sorted = sorted-at c.as_slice-given.result.now c.loop-entry.entry-index no-entry c.loop-entry.known c.loop-entry-test.true c.loop-entry.invariant.sorted;
  is = given-at c.as_slice-given.result.now c.loop-entry.entry-index no-entry (without_rooms c.args.known.now) c.loop-entry-test.true c.loop-entry.known c.learn_one.new.known c.in_ok-learn_one.ensures.ok c.loop-entry.invariant.is;
  agrees = λ all agrees. c.learn_one.ensures.agrees all (c.loop-entry.invariant.agrees all agrees);
  guarded = λ got guarded. c.learn_one.ensures.guarded got (c.loop-entry.invariant.guarded got guarded);
}
