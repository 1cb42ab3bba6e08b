use Rattle.std.proofs.Common.{rules, Some, map, take, sym, ap, subst, ◌∙◌}
use Rattle.line_view.specs.Knowledge.{Agrees}
use Rattle.line_view.specs.Held.{Held, AreRooms, knows, with_line, entry_of}
use Rattle.line_view.proofs.Agreements.{area_known, same_rooms, found_in_area, found_at}
use Rattle.line_view.proofs.Steps.{one_line_more, all_lines, area_learnt}
use Rattle.line_view.proofs.known.Known.learn_area.Goals as goal

pub loop-line-preserved : goal.loop-line-preserved
loop-line-preserved c = (
  c.in_ok-learn_line.ensures.ok
      ∙ (ap (λ image. with_line c.line-item.result.key (Some image) c.loop-line.self) (c.from_bytes.ensures ∙ c.bytes.ensures.value)
      ∙ (ap (λ (h : Held). with_line c.line-item.result.key (Some c.line-item.result.image) h) c.loop-line.invariant.0
      ∙ sym (one_line_more c.args.lines.now c.loop-line.line-index c.line-item.result c.args.self.now c.loop-line-test.true c.line-item.is))),
  λ all sorted agrees is.
      c.in_ok-learn_line.ensures.agrees all (c.loop-line.invariant.1 all sorted agrees is)
      (ap Some (c.from_bytes.ensures ∙ c.bytes.ensures.value) ∙ found_at all c.args.lines.now c.loop-line.line-index c.line-item.result c.loop-line-test.true c.line-item.is (found_in_area all c.args.area (map entry_of c.args.lines.now) sorted is)),
)

pub returns-in_err-learn_line-clause-agrees : goal.returns-in_err-learn_line-clause-agrees
returns-in_err-learn_line-clause-agrees c = λ all sorted agrees is. subst (λ h. Agrees (knows h) all) (sym c.in_err-learn_line.ensures.err) (c.loop-line.invariant.1 all sorted agrees is)

pub returns-in_err-_before-clause-agrees : goal.returns-in_err-_before-clause-agrees
returns-in_err-_before-clause-agrees c = λ all sorted agrees is. subst (λ h. Agrees (knows h) all) (search rules) (c.loop-line.invariant.1 all sorted agrees is)

pub returns-clause-ok : goal.returns-clause-ok
returns-clause-ok c =
    area_learnt _ c.self.inside.areas.entries c.insert.new.self.entries _ c.args.self.now c.loop-line.self c.args.area c.in_ok-keys.keys (map entry_of c.args.lines.now)
    c.self.view_is (c.loop-line.invariant.0 ∙ all_lines c.args.lines.now c.loop-line.line-index c.args.self.now c.loop-line-test.false) c.in_ok-_before.ensures.entries c.in_ok-keys.ensures

pub returns-clause-agrees : goal.returns-clause-agrees
returns-clause-agrees c = λ all sorted agrees is.
    let are = subst (λ h. AreRooms h.rooms) (c.self.view_is ∙ c.loop-line.invariant.0) c.self.invariant in
    subst (λ h. Agrees (knows h) all) (sym (returns-clause-ok c))
    (area_known c.args.self.now c.args.area (map entry_of c.args.lines.now) (subst AreRooms (same_rooms (take c.loop-line.line-index (map entry_of c.args.lines.now)) c.args.self.now) are) all sorted agrees is)
