use Rattle.std.proofs.Common.{rules, ◌≡◌, ◌∙◌, ◌+◌, ℕ, max, Some, None, ap, sym, subst, refl, arith}
use Rattle.rdb_types.specs.declared.keys.Tsn.{Tsn}
use Rattle.rdb_outside.specs.Runs.{no_calls, then_reads}
use Rattle.line_moves.proofs.Runs.{still_tells}
use Rattle.laid_groups.proofs.Walking.{seen, ReachedUpTo, nothing_yet, reached_more, reached_all, stood_in, none_in, tsn_few}
use Rattle.laid_groups.proofs.passing.pass_groups.Goals as goal

pub loop-group-init : goal.loop-group-init
loop-group-init g c = let before = g.D.Disk.view c.args.disk.now in
    record {
      reads = no_calls before;
      few = omega arith;
      grows = omega arith;
      below = c.requires.ceiling;
      reached = λ t journal is same. subst (λ (n : ℕ). ReachedUpTo journal c.args.at 1 n c.args.at.ceiling) (sym same) (nothing_yet journal c.args.at);
    }

pub returns-in_err-group-clause-reads : goal.returns-in_err-group-clause-reads
returns-in_err-group-clause-reads g c = let v = g.D.Disk.view in then_reads (v c.args.disk.now) (v c.loop-group.disk) (v c.pass_group.new.disk) c.loop-group.invariant.reads c.pass_group.ensures.reads

pub returns-in_default-clause-reads : goal.returns-in_default-clause-reads
returns-in_default-clause-reads g c = let v = g.D.Disk.view in then_reads (v c.args.disk.now) (v c.loop-group.disk) (v c.pass_group.new.disk) c.loop-group.invariant.reads c.pass_group.ensures.reads

pub returns-in_default-clause-reached : goal.returns-in_default-clause-reached
returns-in_default-clause-reached g c = let v = g.D.Disk.view in let old = v c.args.disk.now in let mid = v c.loop-group.disk in let so_far = c.loop-group.invariant in
    λ t journal is same ends. let told = still_tells old mid so_far.reads.told t in
    let none : c.in_ok-group.field-0 ≡ None = search rules in
    reached_all journal c.args.at (seen old.content c.args.file) is c.loop-group.slot c.loop-group.number c.loop-group.ceiling
    (none_in old.content mid.content c.args.file c.args.end c.loop-group.slot c.loop-group.number (λ s. (so_far.reads.keeps t).content c.args.file s) ends (λ e. c.in_ok-group.ensures.none told e none))
    (so_far.reached t journal is same) _ (c.greater.ensures ∙ ap (λ (n : ℕ). max c.args.at.last n) c.saturating_sub.ensures) refl

pub returns-then-group-clause-reads : goal.returns-then-group-clause-reads
returns-then-group-clause-reads g c = let v = g.D.Disk.view in then_reads (v c.args.disk.now) (v c.loop-group.disk) (v c.pass_group.new.disk) c.loop-group.invariant.reads c.pass_group.ensures.reads

pub returns-then-group-clause-bad : goal.returns-then-group-clause-bad
returns-then-group-clause-bad g c = let v = g.D.Disk.view in let old = v c.args.disk.now in let mid = v c.loop-group.disk in let so_far = c.loop-group.invariant in
    λ named at bad t.
    let found : c.in_ok-group.field-0 ≡ Some c.in-Some.group = search rules in
    let is = c.in_ok-group.ensures.whole c.in-Some.group found in
    let few = tsn_few (seen old.content c.args.file) c.loop-group.slot is.group c.in-Some.group.tsn.number (ap (λ (n : Tsn). n.number) is.tsn)
    (stood_in old.content mid.content c.args.file c.loop-group.slot is.group (λ s. (so_far.reads.keeps t).content c.args.file s) (is.stands (still_tells old mid so_far.reads.told t))) in
    omega (arith, few)

pub loop-group-preserved : goal.loop-group-preserved
loop-group-preserved g c = let v = g.D.Disk.view in let old = v c.args.disk.now in let mid = v c.loop-group.disk in let so_far = c.loop-group.invariant in
    let found : c.in_ok-group.field-0 ≡ Some c.in-Some.group = search rules in
    let few = so_far.few in
    let is = c.in_ok-group.ensures.whole c.in-Some.group found in
    record {
      reads = then_reads old mid (v c.pass_group.new.disk) so_far.reads c.pass_group.ensures.reads;
      few = omega (arith, few);
      grows = let grows = so_far.grows in let above = c.ceiling_with-ceiling.ensures.above in omega (arith, grows, above);
      below = c.ceiling_with-ceiling.ensures.below so_far.below;
      reached = λ t journal is_it same.
          subst (λ (n : ℕ). ReachedUpTo journal c.args.at (c.loop-group.slot + (n + 1)) (c.loop-group.number + 1) c.ceiling_with-ceiling.result) is.lines
          (reached_more journal c.args.at (seen old.content c.args.file) is_it c.loop-group.slot c.loop-group.number c.loop-group.ceiling c.ceiling_with-ceiling.result c.in-Some.group.tsn.number is.group is.whole (ap (λ (n : Tsn). n.number) is.tsn)
          (stood_in old.content mid.content c.args.file c.loop-group.slot is.group (λ s. (so_far.reads.keeps t).content c.args.file s) (is.stands (still_tells old mid so_far.reads.told t)))
          c.ceiling_with-ceiling.ensures.value (so_far.reached t journal is_it same));
    }
