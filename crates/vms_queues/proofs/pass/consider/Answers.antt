use Rattle.std.proofs.Common.{◌≡◌, ◌∙◌, ap, sym}
use Rattle.vms_queues.specs.Queues.{Queues, considered, passed, queue_length}
use Rattle.vms_queues.proofs.Settled.{considered-passed, passed-last, settled-at}
use Rattle.vms_queues.proofs.pass.consider.Goals as goal

pub passes-preserved : goal.passes-preserved
passes-preserved c =
    let now : Queues = record { granted = c.passes.granted.items; converting = c.passes.converting.items; waiting = c.passes.waiting.items } in
    record {
      room = c.pass.ensures.room;
      same = ap considered c.pass.ensures.after ∙ (considered-passed now ∙ c.passes.invariant.same);
    }

pub returns-then-not-pass : goal.returns-then-not-pass
returns-then-not-pass c =
    let now : Queues = record { granted = c.passes.granted.items; converting = c.passes.converting.items; waiting = c.passes.waiting.items } in
    let later : Queues = record { granted = c.pass.new.granted.items; converting = c.pass.new.converting.items; waiting = c.pass.new.waiting.items } in
    let same : queue_length (passed now) ≡ queue_length now = ap queue_length (sym c.pass.ensures.after) ∙ c.pass.ensures.settled c.if-not-pass.true in
    let last : later ≡ considered now = c.pass.ensures.after ∙ passed-last now same in
    record {
      after = last ∙ c.passes.invariant.same;
      settled = settled-at now later last;
      room = c.pass.ensures.room;
    }
