use Rattle.std.proofs.Common.{rules, ◌≡◌, ◌+◌, ℕ, Some, None, map, IsTrue, sym, subst, arith}
use Rattle.rdb_outside.specs.Runs.{no_calls, then_reads}
use Rattle.line_moves.proofs.Runs.{still_tells}
use Rattle.rdb_types.specs.declared.keys.Tsn.{Tsn}
use Rattle.line_opening.specs.Passing.{without}
use Rattle.line_opening.proofs.Passed.{PassedTo, none_passed, one_more_passed, all_passed, image_same, none_stood, stood}
use Rattle.line_opening.proofs.groups.pass_groups.Goals as goal

pub loop-group-init : goal.loop-group-init
loop-group-init g c = let before = g.D.Disk.view c.args.disk.now in
    record { reads = no_calls before; passed = none_passed before.content (IsTrue before.tells) c.args.first c.args.numbers.now; few = omega arith }

pub returns-in_err-group-clause-reads : goal.returns-in_err-group-clause-reads
returns-in_err-group-clause-reads g c = let v = g.D.Disk.view in then_reads (v c.args.disk.now) (v c.loop-group.disk) (v c.pass_group.new.disk) c.loop-group.invariant.reads c.pass_group.ensures.reads

pub returns-in_default-clause-reads : goal.returns-in_default-clause-reads
returns-in_default-clause-reads g c = let v = g.D.Disk.view in then_reads (v c.args.disk.now) (v c.loop-group.disk) (v c.pass_group.new.disk) c.loop-group.invariant.reads c.pass_group.ensures.reads

pub returns-in_default-clause-open : goal.returns-in_default-clause-open
returns-in_default-clause-open g c = let v = g.D.Disk.view in let old = v c.args.disk.now in let mid = v c.loop-group.disk in let so_far = c.loop-group.invariant in
    λ t ends header journal is. let told = still_tells old mid so_far.reads.told t in
    let none : c.in_ok-group.field-0 ≡ None = search rules in
    (all_passed old.content (IsTrue old.tells) c.args.first c.loop-group.next c.args.numbers.now c.loop-group.numbers so_far.passed t header
    (none_stood old.content mid.content c.aij_file.result c.args.end c.loop-group.next.slot c.loop-group.next.number (image_same old mid so_far.reads t) c.aij_file.ensures ends (λ e. c.in_ok-group.ensures.none told e none)) journal is).left

pub returns-in_default-clause-next : goal.returns-in_default-clause-next
returns-in_default-clause-next g c = let v = g.D.Disk.view in let old = v c.args.disk.now in let mid = v c.loop-group.disk in let so_far = c.loop-group.invariant in
    λ t ends header journal is. let told = still_tells old mid so_far.reads.told t in
    let none : c.in_ok-group.field-0 ≡ None = search rules in
    (all_passed old.content (IsTrue old.tells) c.args.first c.loop-group.next c.args.numbers.now c.loop-group.numbers so_far.passed t header
    (none_stood old.content mid.content c.aij_file.result c.args.end c.loop-group.next.slot c.loop-group.next.number (image_same old mid so_far.reads t) c.aij_file.ensures ends (λ e. c.in_ok-group.ensures.none told e none)) journal is).next_one

pub loop-group-preserved : goal.loop-group-preserved
loop-group-preserved g c = let v = g.D.Disk.view in let old = v c.args.disk.now in let mid = v c.loop-group.disk in let so_far = c.loop-group.invariant in
    let found : c.in_ok-group.field-0 ≡ Some c.in-Some.group = search rules in
    let few = so_far.few in
    let is = c.in_ok-group.ensures.whole c.in-Some.group found in
    record {
      reads = then_reads old mid (v c.pass_group.new.disk) so_far.reads c.pass_group.ensures.reads;
      passed = subst (λ (n : ℕ). PassedTo old.content (IsTrue old.tells) c.args.first (c.loop-group.next.slot + (n + 1)) (c.loop-group.next.number + 1) c.args.numbers.now c.forget.new.numbers) is.lines
          (one_more_passed old.content (IsTrue old.tells) c.args.first c.args.numbers.now c.loop-group.next.slot c.loop-group.next.number c.loop-group.numbers c.forget.new.numbers is.group is.whole
          (λ t. stood old.content mid.content c.aij_file.result c.loop-group.next.slot is.group (image_same old mid so_far.reads t) c.aij_file.ensures (is.stands (still_tells old mid so_far.reads.told t)))
          (subst (λ (tsn : Tsn). c.forget.new.numbers ≡ map (without tsn.number) c.loop-group.numbers) (sym is.tsn) c.forget.ensures) so_far.passed);
      few = omega (arith, few);
    }
