use Rattle.std.proofs.Common.{rules, ◌∷◌, [], List, map, take, subst, arith}
use Rattle.line_view.specs.declared.writes.Write.{Write}
use Rattle.line_moves.proofs.Runs.{still_tells}
use Rattle.stable_lines.specs.Journal.{write_of}
use Rattle.guarded_lines.specs.Laying.{IsArea}
use Rattle.guarded_root.proofs.Sweeping.{no_run, run_on}
use Rattle.laid_groups.specs.Laid.{LaidOver}
use Rattle.laid_groups.proofs.Running.{still_ready, none_ready, ready_on, none_laid, laid_on}
use Rattle.laid_groups.proofs.Stepping.{lent, next_of, all_of}
use Rattle.laid_groups.proofs.groups.lay_lines.Goals as goal

pub loop-line-init : goal.loop-line-init
loop-line-init g c = let old = g.D.Disk.view c.args.disk.now in
    record { runs = no_run IsArea old; ready = λ t forward fits few. none_ready forward old; laid = λ t forward ready fits few. none_laid forward old.content }

pub returns-in_err-lay_one-clause-bad : goal.returns-in_err-lay_one-clause-bad
returns-in_err-lay_one-clause-bad g c = let v = g.D.Disk.view in let old = v c.args.disk.now in let mid = v c.loop-line.disk in let so_far = c.loop-line.invariant in
    λ named at is t forward ready fits few top.
    let got = lent c.args.lines.now c.loop-line.line-index c.line-item.result c.loop-line-test.true c.line-item.is in
    c.lay_one.ensures.bad named at (search rules) (still_tells old mid so_far.runs.told t) forward (still_ready forward old mid (so_far.ready t forward fits few ready) ready) (fits c.loop-line.line-index c.line-item.result got) (omega (arith, few, top))

pub returns-in_err-lay_one-clause-runs : goal.returns-in_err-lay_one-clause-runs
returns-in_err-lay_one-clause-runs g c = let v = g.D.Disk.view in run_on IsArea (v c.args.disk.now) (v c.loop-line.disk) (v c.lay_one.new.disk) c.loop-line.invariant.runs c.lay_one.ensures.runs

pub returns-in_err-lay_one-clause-ready : goal.returns-in_err-lay_one-clause-ready
returns-in_err-lay_one-clause-ready g c = let v = g.D.Disk.view in let old = v c.args.disk.now in let mid = v c.loop-line.disk in let so_far = c.loop-line.invariant in
    λ t forward fits few.
    let got = lent c.args.lines.now c.loop-line.line-index c.line-item.result c.loop-line-test.true c.line-item.is in
    ready_on forward old mid (v c.lay_one.new.disk) (so_far.ready t forward fits few) (c.lay_one.ensures.ready (still_tells old mid so_far.runs.told t) forward (fits c.loop-line.line-index c.line-item.result got) few)

pub loop-line-preserved : goal.loop-line-preserved
loop-line-preserved g c = let v = g.D.Disk.view in let old = v c.args.disk.now in let mid = v c.loop-line.disk in let new = v c.lay_one.new.disk in let so_far = c.loop-line.invariant in
    let i = c.loop-line.line-index in let line = c.line-item.result in
    let got = lent c.args.lines.now c.loop-line.line-index c.line-item.result c.loop-line-test.true c.line-item.is in
    record {
      runs = run_on IsArea old mid new so_far.runs c.lay_one.ensures.runs;
      ready = λ t forward fits few. ready_on forward old mid new (so_far.ready t forward fits few) (c.lay_one.ensures.ready (still_tells old mid so_far.runs.told t) forward (fits i line got) few);
      laid = λ t forward ready fits few.
          subst (λ (ws : List Write). LaidOver forward ws old.content new.content) (next_of write_of c.args.lines.now i line got)
          (laid_on forward (map write_of (take i c.args.lines.now)) (write_of line ∷ []) old.content mid.content new.content (so_far.laid t forward ready fits few)
          (c.in_ok-lay_one.ensures.laid (still_tells old mid so_far.runs.told t) forward (still_ready forward old mid (so_far.ready t forward fits few ready) ready) (fits i line got)));
    }

pub returns-clause-laid : goal.returns-clause-laid
returns-clause-laid g c = let v = g.D.Disk.view in let old = v c.args.disk.now in let mid = v c.loop-line.disk in
    λ t forward ready fits few.
    subst (λ (ws : List Write). LaidOver forward ws old.content mid.content) (all_of write_of c.args.lines.now c.loop-line.line-index c.loop-line-test.false) (c.loop-line.invariant.laid t forward ready fits few)
