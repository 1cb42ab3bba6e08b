use Rattle.std.proofs.Common.{rules, ◌≡◌, ◌∙◌, ◌+◌, ◌∷◌, [], ℕ, max, Some, None, Err, ap, sym, subst, arith}
use Rattle.std.proofs.lemmas.Result.{err_from_is_err_and}
use Rattle.journal_reading.specs.declared.reading.AijFault.{AijFault}
use Rattle.stable_lines.specs.Rolling.{groups_above}
use Rattle.rolled_lines.specs.HalfLaid.{writes_of}
use Rattle.rdb_outside.specs.Disk.{Image}
use Rattle.line_moves.proofs.Runs.{still_tells}
use Rattle.line_opening.proofs.Passed.{image_same}
use Rattle.guarded_lines.specs.Laying.{IsArea}
use Rattle.guarded_root.proofs.Sweeping.{no_run, read_run, run_on}
use Rattle.laid_groups.specs.Forward.{KeepsReady}
use Rattle.laid_groups.proofs.Faults.{err_same, only_header}
use Rattle.laid_groups.proofs.Running.{still_ready, none_ready, read_ready, ready_on, laid_from}
use Rattle.laid_groups.proofs.Walking.{seen, AtGroup, begins, LaidUpTo, none_yet, fits_here, one_more, at_next, all_laid, last_is, stood_in, none_in, plain_file}
use Rattle.laid_groups.proofs.journals.lay_groups.Goals as goal

pub loop-group-init : goal.loop-group-init
loop-group-init g c = let before = g.D.Disk.view c.args.disk.now in
    record {
      runs = no_run IsArea before;
      few = omega arith;
      at = λ t journal is same. subst (λ (n : ℕ). AtGroup journal 1 n) (sym same) (begins journal);
      ready = λ t forward journal is same fits. none_ready forward before;
      laid = λ t forward journal ready is same fits. subst (λ (n : ℕ). LaidUpTo forward journal c.args.last 1 n before.content before.content) (sym same) (none_yet forward journal c.args.last before.content);
    }

pub returns-in_err-group-clause-bad : goal.returns-in_err-group-clause-bad
returns-in_err-group-clause-bad g c = λ named at is t forward journal ready has same fits.
    let p = err_from_is_err_and c.from_residual.result c.from_residual.ensures.1 in
    c.group_at.ensures.no_header (c.in_err-group.was ∙ ap (λ (f : AijFault). Err f) (only_header c.in_err-group.field-0.0 named at (sym p.2 ∙ err_same _ _ (sym p.1 ∙ is))))

pub returns-in_err-group-clause-runs : goal.returns-in_err-group-clause-runs
returns-in_err-group-clause-runs g c = let v = g.D.Disk.view in
    run_on IsArea (v c.args.disk.now) (v c.loop-group.disk) (v c.group_at.new.disk) c.loop-group.invariant.runs (read_run IsArea (v c.loop-group.disk) (v c.group_at.new.disk) c.group_at.ensures.reads)

pub returns-in_err-group-clause-ready : goal.returns-in_err-group-clause-ready
returns-in_err-group-clause-ready g c = let v = g.D.Disk.view in let old = v c.args.disk.now in let mid = v c.loop-group.disk in let read = v c.group_at.new.disk in let so_far = c.loop-group.invariant in
    λ t forward journal is same fits. ready_on forward old mid read (so_far.ready t forward journal is same fits) (read_ready forward mid read (still_tells old mid so_far.runs.told t) c.group_at.ensures.reads)

pub returns-in_default-clause-runs : goal.returns-in_default-clause-runs
returns-in_default-clause-runs g c = let v = g.D.Disk.view in
    run_on IsArea (v c.args.disk.now) (v c.loop-group.disk) (v c.group_at.new.disk) c.loop-group.invariant.runs (read_run IsArea (v c.loop-group.disk) (v c.group_at.new.disk) c.group_at.ensures.reads)

pub returns-in_default-clause-ready : goal.returns-in_default-clause-ready
returns-in_default-clause-ready g c = let v = g.D.Disk.view in let old = v c.args.disk.now in let mid = v c.loop-group.disk in let read = v c.group_at.new.disk in let so_far = c.loop-group.invariant in
    λ t forward journal is same fits. ready_on forward old mid read (so_far.ready t forward journal is same fits) (read_ready forward mid read (still_tells old mid so_far.runs.told t) c.group_at.ensures.reads)

pub returns-in_default-clause-reached : goal.returns-in_default-clause-reached
returns-in_default-clause-reached g c = let v = g.D.Disk.view in let old = v c.args.disk.now in let mid = v c.loop-group.disk in let so_far = c.loop-group.invariant in
    λ t journal is same ends. let told = still_tells old mid so_far.runs.told t in
    let none : c.in_ok-group.field-0 ≡ None = search rules in
    c.greater.ensures ∙ ap (λ (n : ℕ). max c.args.last n) c.saturating_sub.ensures
    ∙ last_is journal (seen old.content c.args.file) is c.args.last c.loop-group.slot c.loop-group.number
    (none_in old.content mid.content c.args.file c.args.end c.loop-group.slot c.loop-group.number (λ s. (so_far.runs.others t c.args.file (plain_file c.args.file c.requires.size)).content s) ends (λ e. c.in_ok-group.ensures.none told e none))
    (so_far.at t journal is same)

pub returns-in_default-clause-laid : goal.returns-in_default-clause-laid
returns-in_default-clause-laid g c = let v = g.D.Disk.view in let old = v c.args.disk.now in let mid = v c.loop-group.disk in let read = v c.group_at.new.disk in let so_far = c.loop-group.invariant in
    λ t forward journal ready is same ends fits. let told = still_tells old mid so_far.runs.told t in
    let none : c.in_ok-group.field-0 ≡ None = search rules in
    all_laid forward journal (seen old.content c.args.file) is c.args.last c.loop-group.slot c.loop-group.number
    (none_in old.content mid.content c.args.file c.args.end c.loop-group.slot c.loop-group.number (λ s. (so_far.runs.others t c.args.file (plain_file c.args.file c.requires.size)).content s) ends (λ e. c.in_ok-group.ensures.none told e none))
    old.content read.content
    (subst (λ (m : Image). LaidUpTo forward journal c.args.last c.loop-group.slot c.loop-group.number old.content m) (sym (image_same mid read c.group_at.ensures.reads told)) (so_far.laid t forward journal ready is same fits))

pub returns-in_err-lay_above-clause-bad : goal.returns-in_err-lay_above-clause-bad
returns-in_err-lay_above-clause-bad g c = let v = g.D.Disk.view in let old = v c.args.disk.now in let mid = v c.loop-group.disk in let read = v c.group_at.new.disk in let new = v c.lay_above.new.disk in let so_far = c.loop-group.invariant in
    λ named at bad t forward journal ready is same fits. let told = still_tells old mid so_far.runs.told t in
    let found : c.in_ok-group.field-0 ≡ Some c.in-Some.group = search rules in
    let whole = c.in_ok-group.ensures.whole c.in-Some.group found in
    let still = λ (s : ℕ). (so_far.runs.others t c.args.file (plain_file c.args.file c.requires.size)).content s in
    let stands = stood_in old.content mid.content c.args.file c.loop-group.slot c.in-Some.group still (c.in_ok-group.ensures.stands told c.in-Some.group found) in
    let here = fits_here forward journal (seen old.content c.args.file) is c.args.last c.loop-group.slot c.loop-group.number c.in-Some.group whole stands (so_far.at t journal is same) fits in
    let before : KeepsReady forward old read = ready_on forward old mid read (so_far.ready t forward journal is same fits) (read_ready forward mid read told c.group_at.ensures.reads) in
    c.lay_above.ensures.bad named at (search rules) (still_tells mid read c.group_at.ensures.reads.told told) forward (still_ready forward old read (before ready) ready) here

pub returns-in_err-lay_above-clause-runs : goal.returns-in_err-lay_above-clause-runs
returns-in_err-lay_above-clause-runs g c = let v = g.D.Disk.view in let old = v c.args.disk.now in let mid = v c.loop-group.disk in let read = v c.group_at.new.disk in let new = v c.lay_above.new.disk in let so_far = c.loop-group.invariant in
    run_on IsArea old read new (run_on IsArea old mid read so_far.runs (read_run IsArea mid read c.group_at.ensures.reads)) c.lay_above.ensures.runs

pub returns-in_err-lay_above-clause-ready : goal.returns-in_err-lay_above-clause-ready
returns-in_err-lay_above-clause-ready g c = let v = g.D.Disk.view in let old = v c.args.disk.now in let mid = v c.loop-group.disk in let read = v c.group_at.new.disk in let new = v c.lay_above.new.disk in let so_far = c.loop-group.invariant in
    λ t forward journal is same fits. let told = still_tells old mid so_far.runs.told t in
    let found : c.in_ok-group.field-0 ≡ Some c.in-Some.group = search rules in
    let whole = c.in_ok-group.ensures.whole c.in-Some.group found in
    let still = λ (s : ℕ). (so_far.runs.others t c.args.file (plain_file c.args.file c.requires.size)).content s in
    let stands = stood_in old.content mid.content c.args.file c.loop-group.slot c.in-Some.group still (c.in_ok-group.ensures.stands told c.in-Some.group found) in
    let here = fits_here forward journal (seen old.content c.args.file) is c.args.last c.loop-group.slot c.loop-group.number c.in-Some.group whole stands (so_far.at t journal is same) fits in
    ready_on forward old read new (ready_on forward old mid read (so_far.ready t forward journal is same fits) (read_ready forward mid read told c.group_at.ensures.reads)) (c.lay_above.ensures.ready (still_tells mid read c.group_at.ensures.reads.told told) forward here)

pub loop-group-preserved : goal.loop-group-preserved
loop-group-preserved g c = let v = g.D.Disk.view in let old = v c.args.disk.now in let mid = v c.loop-group.disk in let read = v c.group_at.new.disk in let new = v c.lay_above.new.disk in let so_far = c.loop-group.invariant in
    let few = so_far.few in
    record {
      runs = run_on IsArea old read new (run_on IsArea old mid read so_far.runs (read_run IsArea mid read c.group_at.ensures.reads)) c.lay_above.ensures.runs;
      few = omega (arith, few);
      at = λ t journal is same. let told = still_tells old mid so_far.runs.told t in
          let found : c.in_ok-group.field-0 ≡ Some c.in-Some.group = search rules in
          let whole = c.in_ok-group.ensures.whole c.in-Some.group found in
          let still = λ (s : ℕ). (so_far.runs.others t c.args.file (plain_file c.args.file c.requires.size)).content s in
          let stands = stood_in old.content mid.content c.args.file c.loop-group.slot c.in-Some.group still (c.in_ok-group.ensures.stands told c.in-Some.group found) in
          subst (λ (n : ℕ). AtGroup journal (c.loop-group.slot + (n + 1)) (c.loop-group.number + 1)) (sym c.len-lines.ensures)
          (at_next journal (seen old.content c.args.file) is c.loop-group.slot c.loop-group.number c.in-Some.group whole stands (so_far.at t journal is same));
      ready = λ t forward journal is same fits. let told = still_tells old mid so_far.runs.told t in
          let found : c.in_ok-group.field-0 ≡ Some c.in-Some.group = search rules in
          let whole = c.in_ok-group.ensures.whole c.in-Some.group found in
          let still = λ (s : ℕ). (so_far.runs.others t c.args.file (plain_file c.args.file c.requires.size)).content s in
          let stands = stood_in old.content mid.content c.args.file c.loop-group.slot c.in-Some.group still (c.in_ok-group.ensures.stands told c.in-Some.group found) in
          let here = fits_here forward journal (seen old.content c.args.file) is c.args.last c.loop-group.slot c.loop-group.number c.in-Some.group whole stands (so_far.at t journal is same) fits in
          ready_on forward old read new (ready_on forward old mid read (so_far.ready t forward journal is same fits) (read_ready forward mid read told c.group_at.ensures.reads)) (c.lay_above.ensures.ready (still_tells mid read c.group_at.ensures.reads.told told) forward here);
      laid = λ t forward journal ready is same fits. let told = still_tells old mid so_far.runs.told t in
          let found : c.in_ok-group.field-0 ≡ Some c.in-Some.group = search rules in
          let whole = c.in_ok-group.ensures.whole c.in-Some.group found in
          let still = λ (s : ℕ). (so_far.runs.others t c.args.file (plain_file c.args.file c.requires.size)).content s in
          let stands = stood_in old.content mid.content c.args.file c.loop-group.slot c.in-Some.group still (c.in_ok-group.ensures.stands told c.in-Some.group found) in
          let here = fits_here forward journal (seen old.content c.args.file) is c.args.last c.loop-group.slot c.loop-group.number c.in-Some.group whole stands (so_far.at t journal is same) fits in
          let before : KeepsReady forward old read = ready_on forward old mid read (so_far.ready t forward journal is same fits) (read_ready forward mid read told c.group_at.ensures.reads) in
          let laid = c.in_ok-lay_above.ensures.laid (still_tells mid read c.group_at.ensures.reads.told told) forward (still_ready forward old read (before ready) ready) here in
          subst (λ (n : ℕ). LaidUpTo forward journal c.args.last (c.loop-group.slot + (n + 1)) (c.loop-group.number + 1) old.content new.content) (sym c.len-lines.ensures)
          (one_more forward journal (seen old.content c.args.file) is c.args.last c.loop-group.slot c.loop-group.number c.in-Some.group whole stands old.content mid.content new.content (so_far.laid t forward journal ready is same fits)
          (laid_from forward (writes_of (groups_above c.args.last (c.in-Some.group ∷ []))) mid.content read.content new.content (image_same mid read c.group_at.ensures.reads told) laid));
    }
