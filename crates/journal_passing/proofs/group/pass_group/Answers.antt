use Rattle.std.proofs.Common.{◌≡◌, ◌+◌, ◌≤◌, ℕ, List, Some, IsTrue, sym, ◌∙◌, subst, arith}
use Rattle.rdb_types.specs.declared.file.FileId.{FileId}
use Rattle.rdb_outside.specs.Disk.{View, OnlyReads}
use Rattle.rdb_outside.specs.Runs.{no_calls, one_call}
use Rattle.journal_passing.specs.declared.passing.PassedGroup.{PassedGroup}
use Rattle.journal_passing.specs.Groups.{IsPassed}
use Rattle.journal_passing.proofs.PassedSlots.{nothing_passed, one_more_passed, one_passed, one_within, none_where_broken, none_before_end}
use Rattle.journal_passing.proofs.group.pass_group.Goals as goal

-- what stood in the slot at first
read_there : (old mid : View) (bytes : List ℕ) (file : FileId) (slot : ℕ) → OnlyReads old mid → (IsTrue mid.tells → bytes ≡ mid.content file slot) → IsTrue old.tells → bytes ≡ old.content file slot
read_there old mid bytes file slot so_far gives tells = gives (subst (λ b. IsTrue b) (sym so_far.told) tells) ∙ (so_far.keeps tells).content file slot

same_group : (a b : PassedGroup) → Some a ≡ Some b → a ≡ b
same_group a b same = cc

pub loop-at-init : goal.loop-at-init
loop-at-init g c = let old = g.D.Disk.view c.args.disk.now in
    record { reads = no_calls old; passed = nothing_passed old.content c.args.file (IsTrue old.tells) c.args.slot c.args.number }

pub returns-in_err-read-clause-reads : goal.returns-in_err-read-clause-reads
returns-in_err-read-clause-reads g c = let view = g.D.Disk.view in
    one_call (view c.args.disk.now) (view c.loop-at.disk) (view c.read.new.self) c.read.result c.loop-at.invariant.reads c.read.ensures.counts c.read.ensures.kept

pub returns-in-Whole-clause-reads : goal.returns-in-Whole-clause-reads
returns-in-Whole-clause-reads g c = let view = g.D.Disk.view in
    one_call (view c.args.disk.now) (view c.loop-at.disk) (view c.read.new.self) c.read.result c.loop-at.invariant.reads c.read.ensures.counts c.read.ensures.kept

pub returns-in-Broken-clause-reads : goal.returns-in-Broken-clause-reads
returns-in-Broken-clause-reads g c = let view = g.D.Disk.view in
    one_call (view c.args.disk.now) (view c.loop-at.disk) (view c.read.new.self) c.read.result c.loop-at.invariant.reads c.read.ensures.counts c.read.ensures.kept

pub returns-in-Whole-clause-whole : goal.returns-in-Whole-clause-whole
returns-in-Whole-clause-whole g c = let old = g.D.Disk.view c.args.disk.now in let so_far = c.loop-at.invariant in λ group is.
    subst (λ (found : PassedGroup). IsPassed old.content c.args.file (IsTrue old.tells) c.args.slot c.args.number found) (same_group c.in-Whole.group group is)
    (one_passed old.content c.args.file (IsTrue old.tells) c.args.slot c.args.number c.loop-at.at c.loop-at.passing c.read.new.into c.pass_slot.result so_far.passed
    (read_there old (g.D.Disk.view c.loop-at.disk) c.read.new.into c.args.file c.loop-at.at so_far.reads c.in_ok-read.ensures.bytes) c.pass_slot.ensures c.in-Whole.group c.in-Whole.is)

pub returns-in-Whole-clause-within : goal.returns-in-Whole-clause-within
returns-in-Whole-clause-within g c = let old = g.D.Disk.view c.args.disk.now in let so_far = c.loop-at.invariant in λ group is.
    let low : c.args.slot + (c.in-Whole.group.lines + 1) ≤ c.loop-at.at + 1 = one_within old.content c.args.file (IsTrue old.tells) c.args.slot c.args.number c.loop-at.at c.loop-at.passing c.read.new.into c.pass_slot.result so_far.passed
    (read_there old (g.D.Disk.view c.loop-at.disk) c.read.new.into c.args.file c.loop-at.at so_far.reads c.in_ok-read.ensures.bytes) c.pass_slot.ensures c.in-Whole.group c.in-Whole.is in
    subst (λ (found : PassedGroup). c.args.slot + (found.lines + 1) ≤ c.args.end) (same_group c.in-Whole.group group is) (omega (arith, low, c.loop-at-test.true))

pub returns-in-Broken-clause-none : goal.returns-in-Broken-clause-none
returns-in-Broken-clause-none g c = let old = g.D.Disk.view c.args.disk.now in let so_far = c.loop-at.invariant in λ tells ends is.
    none_where_broken old.content c.args.file (IsTrue old.tells) c.args.slot c.args.number c.loop-at.at c.loop-at.passing c.read.new.into c.pass_slot.result so_far.passed
    (read_there old (g.D.Disk.view c.loop-at.disk) c.read.new.into c.args.file c.loop-at.at so_far.reads c.in_ok-read.ensures.bytes) c.pass_slot.ensures c.requires tells c.in-Broken.is

pub loop-at-preserved : goal.loop-at-preserved
loop-at-preserved g c = let view = g.D.Disk.view in let old = view c.args.disk.now in let so_far = c.loop-at.invariant in
    record {
      reads = one_call old (view c.loop-at.disk) (view c.read.new.self) c.read.result so_far.reads c.read.ensures.counts c.read.ensures.kept;
      passed = one_more_passed old.content c.args.file (IsTrue old.tells) c.args.slot c.args.number c.loop-at.at c.loop-at.passing c.read.new.into c.pass_slot.result so_far.passed
          (read_there old (view c.loop-at.disk) c.read.new.into c.args.file c.loop-at.at so_far.reads c.in_ok-read.ensures.bytes) c.pass_slot.ensures c.in-More.next c.in-More.is;
    }

pub returns-clause-none : goal.returns-clause-none
returns-clause-none g c = let old = g.D.Disk.view c.args.disk.now in let so_far = c.loop-at.invariant in λ tells ends is.
    none_before_end old.content c.args.file (IsTrue old.tells) c.args.slot c.args.number c.loop-at.at c.loop-at.passing so_far.passed c.requires tells
    (λ slot le. ends slot (omega (arith, le, c.loop-at-test.false)))
