use Rattle.std.proofs.Common.{◌≡◌, None, subst}
use Rattle.line_view.specs.declared.need.Need.{Need}
use Rattle.line_view.specs.Knowledge.{lines_in}
use Rattle.line_view.specs.Stops.{Lacks}
use Rattle.line_view.specs.Held.{Held, knows}
use Rattle.stepped_jobs.specs.Needs.{IsLocked}
use Rattle.stepped_jobs.proofs.Guarding.{line-read, area-read}
use Rattle.stepped_jobs.proofs.Following.{line-learnt, area-learnt}
use Rattle.stepped_jobs.proofs.Growing.{line-grows, area-grows}
use Rattle.stepped_jobs.proofs.fetching.fetch.Goals as goal

pub returns-in-Line-clause-learnt : goal.returns-in-Line-clause-learnt
returns-in-Line-clause-learnt g c done lacks =
    let lacking = subst (λ (n : Need). Lacks (knows c.learn_line.new.known) n) c.in-Line.is lacks in
    let line = c.learn_line.ensures.done done in
    line-learnt c.in-Line.key line.image c.args.known.now (subst (λ (h : Held). (knows h).line c.in-Line.key ≡ None) line.learnt lacking)

pub returns-in-Area-clause-learnt : goal.returns-in-Area-clause-learnt
returns-in-Area-clause-learnt g c done lacks =
    let lacking = subst (λ (n : Need). Lacks (knows c.learn_area.new.known) n) c.in-Area.is lacks in
    let all = c.learn_area.ensures.done done in
    area-learnt c.in-Area.area (lines_in c.in-Area.area all.lines) c.args.known.now (subst (λ (h : Held). (knows h).area c.in-Area.area ≡ None) all.learnt lacking)

pub returns-in-Line-clause-guarded : goal.returns-in-Line-clause-guarded
returns-in-Line-clause-guarded g c got locked guarded =
    line-read got (g.L.LineStore.sight c.args.store.now) c.args.s.number c.learn_line.result c.in-Line.key c.args.known.now c.learn_line.new.known c.learn_line.ensures.done c.learn_line.ensures.not_yet
    (subst (IsLocked got) c.in-Line.is locked) guarded

pub returns-in-Area-clause-guarded : goal.returns-in-Area-clause-guarded
returns-in-Area-clause-guarded g c got locked guarded =
    area-read got (g.L.LineStore.sight c.args.store.now) c.args.s.number c.learn_area.result c.in-Area.area c.args.known.now c.learn_area.new.known c.learn_area.ensures.done c.learn_area.ensures.not_yet
    (subst (IsLocked got) c.in-Area.is locked) guarded

pub returns-in-Line-clause-more : goal.returns-in-Line-clause-more
returns-in-Line-clause-more g c = line-grows (g.L.LineStore.sight c.args.store.now) c.args.s.number c.learn_line.result c.args.known.now c.learn_line.new.known c.in-Line.key c.learn_line.ensures.done c.learn_line.ensures.not_yet

pub returns-in-Area-clause-more : goal.returns-in-Area-clause-more
returns-in-Area-clause-more g c = area-grows (g.L.LineStore.sight c.args.store.now) c.args.s.number c.learn_area.result c.args.known.now c.learn_area.new.known c.in-Area.area c.learn_area.ensures.done c.learn_area.ensures.not_yet
