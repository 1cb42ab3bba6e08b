use Rattle.std.proofs.Common.{arith}
use Rattle.line_moves.proofs.Runs.{on_ok}
use Rattle.guarded_lines.specs.Laying.{IsArea}
use Rattle.guarded_root.proofs.Sweeping.{no_run}
use Rattle.laid_groups.proofs.Running.{none_ready}
use Rattle.laid_groups.proofs.Once.{never_bad, laid_once, keeps_one}
use Rattle.laid_groups.proofs.lines.lay_one.Goals as goal

pub returns-in_default-clause-bad : goal.returns-in_default-clause-bad
returns-in_default-clause-bad g c = λ named at is t forward ready fits few. c.in_default.ensures.none fits.place fits.names fits.allowed.class

pub returns-in_default-clause-runs : goal.returns-in_default-clause-runs
returns-in_default-clause-runs g c = no_run IsArea (g.D.Disk.view c.args.disk.now)

pub returns-in_default-clause-ready : goal.returns-in_default-clause-ready
returns-in_default-clause-ready g c = λ t forward fits few. none_ready forward (g.D.Disk.view c.args.disk.now)

pub lay_line-requires : goal.lay_line-requires
lay_line-requires g c = record { place = c.in-Some.ensures.found; class = c.in-Some.ensures.class }

pub returns-clause-bad : goal.returns-clause-bad
returns-clause-bad g c = let old = g.D.Disk.view c.args.disk.now in
    λ named at is t forward ready fits few.
    let left = g.met.D.Disk.content_left c.args.disk.now old.moment t (omega arith) in
    never_bad forward old left c.args.tsn c.args.line.now c.in-Some.place c.in-Some.ensures.found c.line_of-value.result c.line_of-value.ensures fits ready few (c.lay_line.ensures.bad named at is t)

pub returns-clause-laid : goal.returns-clause-laid
returns-clause-laid g c = let v = g.D.Disk.view in let old = v c.args.disk.now in
    on_ok _ _ c.lay_line.result (λ slots t forward ready fits.
    let left = g.met.D.Disk.content_left c.args.disk.now old.moment t (omega arith) in
    laid_once forward old left c.args.tsn c.args.line.now c.in-Some.place c.in-Some.ensures.found c.line_of-value.result c.line_of-value.ensures fits ready (v c.lay_line.new.disk).content (slots t)) c.lay_line.ensures.slots

pub returns-clause-ready : goal.returns-clause-ready
returns-clause-ready g c = let v = g.D.Disk.view in let old = v c.args.disk.now in
    λ t forward fits few.
    let left = g.met.D.Disk.content_left c.args.disk.now old.moment t (omega arith) in
    keeps_one forward old left c.args.tsn c.args.line.now c.in-Some.place c.in-Some.ensures.found c.line_of-value.result c.line_of-value.ensures fits (v c.lay_line.new.disk) few (c.lay_line.ensures.adds t)
