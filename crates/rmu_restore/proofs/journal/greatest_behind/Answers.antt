use Rattle.std.proofs.Common.{rules, ◌≡◌, ◌+◌, ◌≤◌, ℕ, Some, None, IsTrue, sym, subst, arith}
use Rattle.rdb_outside.specs.Runs.{no_calls, then_reads}
use Rattle.rdb_types.specs.declared.keys.Tsn.{Tsn}
use Rattle.line_moves.proofs.Runs.{still_tells}
use Rattle.line_opening.proofs.Passed.{image_same, none_stood, stood}
use Rattle.rmu_restore.proofs.Greatest.{PassedUpTo, none_passed, one_more, all_passed, tsn_few}
use Rattle.rmu_restore.proofs.journal.greatest_behind.Goals as goal

pub loop-group-init : goal.loop-group-init
loop-group-init g c = let before = g.D.Disk.view c.args.disk.now in
    record { reads = no_calls before; passed = none_passed before.content (IsTrue before.tells) c.args.first; few = omega arith; below = omega arith }

pub returns-in_err-group-clause-reads : goal.returns-in_err-group-clause-reads
returns-in_err-group-clause-reads g c = let v = g.D.Disk.view in then_reads (v c.args.disk.now) (v c.loop-group.disk) (v c.pass_group.new.disk) c.loop-group.invariant.reads c.pass_group.ensures.reads

pub returns-in_default-clause-reads : goal.returns-in_default-clause-reads
returns-in_default-clause-reads g c = let v = g.D.Disk.view in then_reads (v c.args.disk.now) (v c.loop-group.disk) (v c.pass_group.new.disk) c.loop-group.invariant.reads c.pass_group.ensures.reads

pub returns-in_default-clause-greatest : goal.returns-in_default-clause-greatest
returns-in_default-clause-greatest g c = let v = g.D.Disk.view in let old = v c.args.disk.now in let mid = v c.loop-group.disk in let so_far = c.loop-group.invariant in
    λ t ends header journal is. let told = still_tells old mid so_far.reads.told t in
    let none : c.in_ok-group.field-0 ≡ None = search rules in
    all_passed old.content (IsTrue old.tells) c.args.first c.loop-group.slot c.loop-group.number c.loop-group.greatest so_far.passed t header
    (none_stood old.content mid.content c.aij_file.result c.args.end c.loop-group.slot c.loop-group.number (image_same old mid so_far.reads t) c.aij_file.ensures ends (λ e. c.in_ok-group.ensures.none told e none)) journal is

pub loop-group-preserved : goal.loop-group-preserved
loop-group-preserved g c = let v = g.D.Disk.view in let old = v c.args.disk.now in let mid = v c.loop-group.disk in let so_far = c.loop-group.invariant in
    let found : c.in_ok-group.field-0 ≡ Some c.in-Some.group = search rules in
    let few = so_far.few in
    let is = c.in_ok-group.ensures.whole c.in-Some.group found in
    let second = c.greater-greatest.ensures.second in
    let of_group : is.group.tsn.number ≤ c.greater-greatest.result = subst (λ (tsn : Tsn). tsn.number ≤ c.greater-greatest.result) (sym is.tsn) second in
    record {
      reads = then_reads old mid (v c.pass_group.new.disk) so_far.reads c.pass_group.ensures.reads;
      passed = subst (λ (n : ℕ). PassedUpTo old.content (IsTrue old.tells) c.args.first (c.loop-group.slot + (n + 1)) (c.loop-group.number + 1) c.greater-greatest.result) is.lines
          (one_more old.content (IsTrue old.tells) c.args.first c.loop-group.slot c.loop-group.number c.loop-group.greatest c.greater-greatest.result is.group is.whole
          (λ t. stood old.content mid.content c.aij_file.result c.loop-group.slot is.group (image_same old mid so_far.reads t) c.aij_file.ensures (is.stands (still_tells old mid so_far.reads.told t)))
          c.greater-greatest.ensures.first of_group so_far.passed);
      few = omega (arith, few);
      below = c.greater-greatest.ensures.bound _ so_far.below (omega arith);
    }

pub returns-then-tsn-clause-reads : goal.returns-then-tsn-clause-reads
returns-then-tsn-clause-reads g c = let v = g.D.Disk.view in then_reads (v c.args.disk.now) (v c.loop-group.disk) (v c.pass_group.new.disk) c.loop-group.invariant.reads c.pass_group.ensures.reads

pub returns-then-tsn-clause-bad : goal.returns-then-tsn-clause-bad
returns-then-tsn-clause-bad g c = let v = g.D.Disk.view in let old = v c.args.disk.now in let mid = v c.loop-group.disk in let so_far = c.loop-group.invariant in
    λ file at bad t.
    let found : c.in_ok-group.field-0 ≡ Some c.in-Some.group = search rules in
    let is = c.in_ok-group.ensures.whole c.in-Some.group found in
    let few = tsn_few old.content c.loop-group.slot is.group c.in-Some.group.tsn is.tsn
    (stood old.content mid.content c.aij_file.result c.loop-group.slot is.group (image_same old mid so_far.reads t) c.aij_file.ensures (is.stands (still_tells old mid so_far.reads.told t))) in
    omega (arith, few)
