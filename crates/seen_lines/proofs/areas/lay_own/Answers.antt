use Rattle.std.proofs.Common.{rules, ◌≤◌, ◌∙◌, ap, length}
use Rattle.line_view.specs.Knowledge.{lines_in}
use Rattle.line_view.specs.Writes.{laid_all}
use Rattle.member_memory.specs.Memory.{writes_in}
use Rattle.seen_lines.proofs.Gathered.{area_laid, front_more, front_all}
use Rattle.seen_lines.proofs.areas.lay_own.Goals as goal

pub loop-key-preserved : goal.loop-key-preserved
loop-key-preserved c = let e = c.loop-key-item.result in let so_far = c.loop-key.invariant in record {
  area = λ was. area_laid c.args.area e.0 _ c.loop-key.found c.lay_line.new.found c.in_ok-lay_line.ensures (so_far.area was);
  laid = λ committed sorted was. front_more c.args.area c.lines-key-items.result.now c.loop-key.key-index e committed c.loop-key.found c.lay_line.new.found c.loop-key-test.true c.loop-key-item.is sorted (so_far.laid committed sorted was) c.in_ok-lay_line.ensures;
}

pub returns-clause-laid : goal.returns-clause-laid
returns-clause-laid c = λ committed sorted was.
    let past : length c.lines-key-items.result.now ≤ c.loop-key.key-index = search rules in
    c.loop-key.invariant.laid committed sorted was
    ∙ ap (λ l. lines_in c.args.area l) (front_all c.lines-key-items.result.now c.loop-key.key-index committed past ∙ ap (λ l. laid_all (writes_in l) committed) c.lines-key-items.ensures.value)
