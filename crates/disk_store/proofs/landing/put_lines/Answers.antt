use Rattle.std.proofs.Common.{refl, take}
use Rattle.disk_store.specs.Landing.{none}
use Rattle.disk_store.proofs.Members.{lent-there}
use Rattle.disk_store.proofs.LinesPut.{all-same, line-of-same, put-more}
use Rattle.disk_store.proofs.landing.put_lines.Goals as goal

pub loop-line-init : goal.loop-line-init
loop-line-init c = none (take 0 c.args.lines.now) c.args.tables.now refl refl

pub put_line-requires : goal.put_line-requires
put_line-requires c =
    let i = c.loop-line.line-index in
    let there = c.requires i c.line-item.result (lent-there c.args.lines.now i c.line-item.result c.loop-line-test.true c.line-item.is) in
    (there.0, there.1, line-of-same c.args.tables.now c.loop-line.tables (all-same c.args.tables.now (take i c.args.lines.now) c.loop-line.tables c.loop-line.invariant) there.0.file c.line-item.result.0 there.2)

pub loop-line-preserved : goal.loop-line-preserved
loop-line-preserved c =
    let i = c.loop-line.line-index in
    put-more c.args.tables.now c.loop-line.tables c.put_line.new.tables c.args.lines.now i c.line-item.result c.loop-line-test.true (lent-there c.args.lines.now i c.line-item.result c.loop-line-test.true c.line-item.is) c.loop-line.invariant c.put_line.ensures
