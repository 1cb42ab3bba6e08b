use Rattle.std.proofs.Common.{◌≡◌, ◌+◌, arith}
use Rattle.line_view.specs.declared.need.Need.{Need}
use Rattle.line_view.specs.declared.need.Need.TheVariants.{Room}
use Rattle.rdo_acts.specs.Looking.{IsRoomWithin}
use Rattle.index_ahead.proofs.Added.{kept, then_added, added_as}
use Rattle.rdo_acts.proofs.Named.{room_within}
use Rattle.rdo_acts.proofs.ahead.Batch.add_rooms.Goals as goal

pub loop-step-init : goal.loop-step-init
loop-step-init c = record {
  ahead = λ first to. to;
  only = kept (IsRoomWithin c.args.room c.args.more) c.args.self.now.needs;
}

pub loop-step-preserved : goal.loop-step-preserved
loop-step-preserved c =
    let own = IsRoomWithin c.args.room c.args.more in
    let nth : c.in-Some.nth ≡ c.args.room.nth + c.loop-step.step = omega arith in
    record {
      ahead = λ first to. c.in_ok-add.ensures.ahead first (c.loop-step.invariant.ahead first to);
      only = then_added own c.args.self.now.needs c.loop-step.self.needs c.add.new.self.needs c.loop-step.invariant.only
          (added_as (λ (n : Need). n ≡ Room (record { area = c.args.room.area; class = c.args.room.class; nth = c.in-Some.nth })) own (λ n is. room_within c.args.room c.args.more c.loop-step.step c.in-Some.nth n c.loop-step-test.true nth is) c.loop-step.self.needs c.add.new.self.needs c.in_ok-add.ensures.only);
    }
