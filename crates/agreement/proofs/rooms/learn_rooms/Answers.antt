use Rattle.std.proofs.Common.{ap, ◌∙◌, arith}
use Rattle.line_view.specs.Held.{Held}
use Rattle.agreement.proofs.RoomPages.{none_yet, one_more, no_other}
use Rattle.agreement.proofs.rooms.learn_rooms.Goals as goal

pub loop-it-init : goal.loop-it-init
loop-it-init c = record {
  pages = none_yet c.args.known.now c.forget_rooms.new.self c.forget_rooms.ensures.rooms;
  lines = ap (λ (h : Held). h.lines) c.forget_rooms.ensures.rooms;
  areas = ap (λ (h : Held). h.areas) c.forget_rooms.ensures.rooms;
}

pub loop-it-preserved : goal.loop-it-preserved
loop-it-preserved c = record {
  pages = one_more c.loop-it.known c.learn_room.new.self _ _ c.loop-it.page c.loop-it.invariant.pages (omega (arith, c.if-it-page.false)) c.in_ok-learn_room.ensures.ok;
  lines = ap (λ (h : Held). h.lines) c.in_ok-learn_room.ensures.ok ∙ c.loop-it.invariant.lines;
  areas = ap (λ (h : Held). h.areas) c.in_ok-learn_room.ensures.ok ∙ c.loop-it.invariant.areas;
}
