use Rattle.std.proofs.Common.{rules, ◌≡◌, ◌∙◌, ◌+◌, ◌++◌, ℕ, max, Some, None, Err, ap, sym, subst, arith}
use Rattle.std.proofs.lemmas.Result.{err_from_is_err_and}
use Rattle.rdb_outside.specs.Runs.{then_reads}
use Rattle.journal_reading.specs.declared.reading.AijFault.{AijFault}
use Rattle.stable_lines.specs.Rolling.{groups_above}
use Rattle.line_moves.proofs.Runs.{reads_once, still_tells}
use Rattle.laid_groups.proofs.Faults.{err_same, only_header}
use Rattle.laid_groups.proofs.Walking.{seen, AtGroup, begins, at_next, last_is, stood_in, none_in}
use Rattle.fitted_groups.specs.Meeting.{lines_among}
use Rattle.fitted_groups.proofs.Looking.{FittedUpTo, none_yet, one_more, rest_fits, all_looked, allowed_in, same_behind}
use Rattle.fitted_groups.proofs.journals.fit_groups.Goals as goal

pub returns-in_err-end-clause-reads : goal.returns-in_err-end-clause-reads
returns-in_err-end-clause-reads g c = let v = g.D.Disk.view in reads_once (v c.args.disk.now) (v c.length.new.self) c.length.result c.length.ensures.counts c.length.ensures.kept

pub loop-group-init : goal.loop-group-init
loop-group-init g c = let v = g.D.Disk.view in let old = v c.args.disk.now in let mid = v c.length.new.self in
    record {
      reads = reads_once old mid c.length.result c.length.ensures.counts c.length.ensures.kept;
      few = omega arith;
      at = λ t journal is same. subst (λ (n : ℕ). AtGroup journal 1 n) (sym same) (begins journal);
      fitted = λ t journal is same image pages lines are. subst (λ (n : ℕ). FittedUpTo image pages lines c.args.claims.now journal c.args.last 1 n) (sym same) (none_yet image pages lines c.args.claims.now journal c.args.last are);
    }

pub returns-in_err-group-clause-reads : goal.returns-in_err-group-clause-reads
returns-in_err-group-clause-reads g c = let v = g.D.Disk.view in then_reads (v c.args.disk.now) (v c.loop-group.disk) (v c.group_at.new.disk) c.loop-group.invariant.reads c.group_at.ensures.reads

pub returns-in_err-group-clause-bad : goal.returns-in_err-group-clause-bad
returns-in_err-group-clause-bad g c = λ named at is.
    let p = err_from_is_err_and c.from_residual-in_err-group.result c.from_residual-in_err-group.ensures.1 in
    c.group_at.ensures.no_header (c.in_err-group.was ∙ ap (λ (f : AijFault). Err f) (only_header c.in_err-group.field-0.0 named at (sym p.2 ∙ err_same _ _ (sym p.1 ∙ is))))

pub returns-in_default-clause-reads : goal.returns-in_default-clause-reads
returns-in_default-clause-reads g c = let v = g.D.Disk.view in then_reads (v c.args.disk.now) (v c.loop-group.disk) (v c.group_at.new.disk) c.loop-group.invariant.reads c.group_at.ensures.reads

pub returns-in_default-clause-behind : goal.returns-in_default-clause-behind
returns-in_default-clause-behind g c = let v = g.D.Disk.view in let old = v c.args.disk.now in let mid = v c.loop-group.disk in let so_far = c.loop-group.invariant in
    λ reached is t journal has same. let told = still_tells old mid so_far.reads.told t in
    let none : c.in_ok-group.field-0 ≡ None = search rules in
    sym (same_behind _ _ is) ∙ c.greater.ensures ∙ ap (λ (n : ℕ). max c.args.last n) c.saturating_sub.ensures
    ∙ last_is journal (seen old.content c.args.file) has c.args.last c.loop-group.slot c.loop-group.number
    (none_in old.content mid.content c.args.file c.in_ok-end.end c.loop-group.slot c.loop-group.number (λ s. (so_far.reads.keeps t).content c.args.file s) (c.in_ok-end.ensures.zeros t) (λ e. c.in_ok-group.ensures.none told e none))
    (so_far.at t journal has same)

pub returns-in_default-clause-fitted : goal.returns-in_default-clause-fitted
returns-in_default-clause-fitted g c = let v = g.D.Disk.view in let old = v c.args.disk.now in let mid = v c.loop-group.disk in let so_far = c.loop-group.invariant in
    λ reached is t journal has same image pages before are. let told = still_tells old mid so_far.reads.told t in
    let none : c.in_ok-group.field-0 ≡ None = search rules in
    all_looked image pages before journal (seen old.content c.args.file) has c.args.last c.loop-group.slot c.loop-group.number c.loop-group.claims
    (none_in old.content mid.content c.args.file c.in_ok-end.end c.loop-group.slot c.loop-group.number (λ s. (so_far.reads.keeps t).content c.args.file s) (c.in_ok-end.ensures.zeros t) (λ e. c.in_ok-group.ensures.none told e none))
    (so_far.fitted t journal has same image pages before are)

pub returns-in-Some-fit_above-clause-reads : goal.returns-in-Some-fit_above-clause-reads
returns-in-Some-fit_above-clause-reads g c = let v = g.D.Disk.view in then_reads (v c.args.disk.now) (v c.loop-group.disk) (v c.group_at.new.disk) c.loop-group.invariant.reads c.group_at.ensures.reads

pub returns-in-Some-fit_above-clause-unfit : goal.returns-in-Some-fit_above-clause-unfit
returns-in-Some-fit_above-clause-unfit g c = let v = g.D.Disk.view in let old = v c.args.disk.now in let mid = v c.loop-group.disk in let so_far = c.loop-group.invariant in
    λ key is t journal has same image pages before behind are fit. let told = still_tells old mid so_far.reads.told t in
    let found : c.in_ok-group.field-0 ≡ Some c.in-Some.group = search rules in
    let whole = c.in_ok-group.ensures.whole c.in-Some.group found in
    let stands = stood_in old.content mid.content c.args.file c.loop-group.slot c.in-Some.group (λ s. (so_far.reads.keeps t).content c.args.file s) (c.in_ok-group.ensures.stands told c.in-Some.group found) in
    let was = so_far.fitted t journal has same image pages before are in
    let rest = rest_fits image pages before journal (seen old.content c.args.file) has c.args.last c.loop-group.slot c.loop-group.number c.in-Some.group whole stands behind was.at fit in
    c.fit_above.ensures.unfit c.in-Some-fit_above.key c.in-Some-fit_above.is image pages (before ++ lines_among (groups_above c.args.last was.at.passed)) rest.0
    (allowed_in (seen old.content c.args.file) c.loop-group.slot c.in-Some.group stands) was.are rest.1

pub loop-group-preserved : goal.loop-group-preserved
loop-group-preserved g c = let v = g.D.Disk.view in let old = v c.args.disk.now in let mid = v c.loop-group.disk in let so_far = c.loop-group.invariant in
    let few = so_far.few in
    let found : c.in_ok-group.field-0 ≡ Some c.in-Some.group = search rules in
    let whole = c.in_ok-group.ensures.whole c.in-Some.group found in
    record {
      reads = then_reads old mid (v c.group_at.new.disk) so_far.reads c.group_at.ensures.reads;
      few = omega (arith, few);
      at = λ t journal has same. let told = still_tells old mid so_far.reads.told t in
          let stands = stood_in old.content mid.content c.args.file c.loop-group.slot c.in-Some.group (λ s. (so_far.reads.keeps t).content c.args.file s) (c.in_ok-group.ensures.stands told c.in-Some.group found) in
          subst (λ (n : ℕ). AtGroup journal (c.loop-group.slot + (n + 1)) (c.loop-group.number + 1)) (sym c.len-lines.ensures)
          (at_next journal (seen old.content c.args.file) has c.loop-group.slot c.loop-group.number c.in-Some.group whole stands (so_far.at t journal has same));
      fitted = λ t journal has same image pages before are. let told = still_tells old mid so_far.reads.told t in
          let stands = stood_in old.content mid.content c.args.file c.loop-group.slot c.in-Some.group (λ s. (so_far.reads.keeps t).content c.args.file s) (c.in_ok-group.ensures.stands told c.in-Some.group found) in
          let was = so_far.fitted t journal has same image pages before are in
          let none : c.fit_above.result ≡ None = search rules in
          subst (λ (n : ℕ). FittedUpTo image pages before c.fit_above.new.claims journal c.args.last (c.loop-group.slot + (n + 1)) (c.loop-group.number + 1)) (sym c.len-lines.ensures)
          (one_more image pages before journal (seen old.content c.args.file) has c.args.last c.loop-group.slot c.loop-group.number c.in-Some.group whole stands c.loop-group.claims c.fit_above.new.claims was
          (c.fit_above.ensures.fitted none image pages (before ++ lines_among (groups_above c.args.last was.at.passed)) (allowed_in (seen old.content c.args.file) c.loop-group.slot c.in-Some.group stands) was.are));
    }
