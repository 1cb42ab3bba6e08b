use Rattle.std.proofs.Common.{rules, ℕ, ◌≡◌, ◌+◌, ◌≤◌, ◌++◌, ◌∷◌, [], List, Option, Some, MatchOption, IsTrue, sym, ◌∙◌, ap, subst, arith}
use Rattle.rdb_outside.specs.rdb_types.declared.file.FileId.{FileId}
use Rattle.rdb_outside.specs.Disk.{View, OnlyReads}
use Rattle.rdb_outside.specs.Runs.{one_call}
use Rattle.journal_scan.specs.declared.group.Group.{Group}
use Rattle.journal_scan.specs.Whole.{count_of}
use Rattle.journal_reading.proofs.Standing.{stage_ended}
use Rattle.journal_reading.proofs.OneGroup.{one_more, only_one, still_none, one_found, none_where_ended, none_at_end}
use Rattle.journal_reading.proofs.one_group.group_at.Goals as goal

-- what stood in the slot at first
read_there : (old mid : View) (bytes : List ℕ) (file : FileId) (slot : ℕ) → OnlyReads old mid → (IsTrue mid.tells → bytes ≡ mid.content file slot) → IsTrue old.tells → bytes ≡ old.content file slot
read_there old mid bytes file slot so_far gives tells = gives (subst (λ b. IsTrue b) (sym so_far.told) tells) ∙ (so_far.keeps tells).content file slot

-- the group that was taken off
taken_off : (before after : List Group) (result : Option Group) (g : Group) → MatchOption result ((before ≡ []) × (after ≡ [])) (λ last. before ≡ after ++ last ∷ []) → result ≡ Some g → before ≡ after ++ g ∷ []
taken_off before after result g off is = subst (λ (r : Option Group). MatchOption r ((before ≡ []) × (after ≡ [])) (λ last. before ≡ after ++ last ∷ [])) is off

pub returns-in_err-read-clause-reads : goal.returns-in_err-read-clause-reads
returns-in_err-read-clause-reads g c =
    let view = g.D.Disk.view in
    one_call (view c.args.disk.now) (view c.loop-at.disk) (view c.read.new.self) c.read.result c.loop-at.invariant.reads c.read.ensures.counts c.read.ensures.kept

pub returns-in_err-take-clause-reads : goal.returns-in_err-take-clause-reads
returns-in_err-take-clause-reads g c =
    let view = g.D.Disk.view in
    one_call (view c.args.disk.now) (view c.loop-at.disk) (view c.read.new.self) c.read.result c.loop-at.invariant.reads c.read.ensures.counts c.read.ensures.kept

pub returns-in-Ended-clause-reads : goal.returns-in-Ended-clause-reads
returns-in-Ended-clause-reads g c =
    let view = g.D.Disk.view in
    one_call (view c.args.disk.now) (view c.loop-at.disk) (view c.read.new.self) c.read.result c.loop-at.invariant.reads c.read.ensures.counts c.read.ensures.kept

pub returns-then-not-is_empty-clause-reads : goal.returns-then-not-is_empty-clause-reads
returns-then-not-is_empty-clause-reads g c =
    let view = g.D.Disk.view in
    one_call (view c.args.disk.now) (view c.loop-at.disk) (view c.read.new.self) c.read.result c.loop-at.invariant.reads c.read.ensures.counts c.read.ensures.kept

pub returns-in-Ended-clause-none : goal.returns-in-Ended-clause-none
returns-in-Ended-clause-none g c = λ tells ends is.
    let old = g.D.Disk.view c.args.disk.now in
    let so_far = c.loop-at.invariant in
    let end = stage_ended c.take.new.self.stage (sym c.in_ok-take.ensures.turn ∙ c.in-Ended.is) in
    let read = one_more old.content c.args.file (IsTrue old.tells) c.args.slot c.args.number c.loop-at.at c.loop-at.scan c.take.new.self c.read.new.into
    (read_there old (g.D.Disk.view c.loop-at.disk) c.read.new.into c.args.file c.loop-at.at so_far.reads c.in_ok-read.ensures.bytes) c.in_ok-take.ensures.taken so_far.read in
    none_where_ended old.content c.args.file (IsTrue old.tells) c.args.slot c.args.number c.requires (c.loop-at.at + 1) c.take.new.self read
    (still_none c.loop-at.scan c.take.new.self _ so_far.none c.in_ok-take.ensures.taken end) tells end

pub returns-then-not-is_empty-clause-whole : goal.returns-then-not-is_empty-clause-whole
returns-then-not-is_empty-clause-whole g c = λ group is.
    let old = g.D.Disk.view c.args.disk.now in
    let so_far = c.loop-at.invariant in
    let read = one_more old.content c.args.file (IsTrue old.tells) c.args.slot c.args.number c.loop-at.at c.loop-at.scan c.take.new.self c.read.new.into
    (read_there old (g.D.Disk.view c.loop-at.disk) c.read.new.into c.args.file c.loop-at.at so_far.reads c.in_ok-read.ensures.bytes) c.in_ok-take.ensures.taken so_far.read in
    let has = only_one c.loop-at.scan c.take.new.self _ c.pop.new.self group so_far.none c.in_ok-take.ensures.taken (taken_off c.take.new.self.groups c.pop.new.self c.pop.result group c.pop.ensures is) in
    (one_found old.content c.args.file (IsTrue old.tells) c.args.slot c.args.number (c.loop-at.at + 1) c.take.new.self group read has).whole

pub returns-then-not-is_empty-clause-within : goal.returns-then-not-is_empty-clause-within
returns-then-not-is_empty-clause-within g c = λ group is.
    let old = g.D.Disk.view c.args.disk.now in
    let so_far = c.loop-at.invariant in
    let read = one_more old.content c.args.file (IsTrue old.tells) c.args.slot c.args.number c.loop-at.at c.loop-at.scan c.take.new.self c.read.new.into
    (read_there old (g.D.Disk.view c.loop-at.disk) c.read.new.into c.args.file c.loop-at.at so_far.reads c.in_ok-read.ensures.bytes) c.in_ok-take.ensures.taken so_far.read in
    let has = only_one c.loop-at.scan c.take.new.self _ c.pop.new.self group so_far.none c.in_ok-take.ensures.taken (taken_off c.take.new.self.groups c.pop.new.self c.pop.result group c.pop.ensures is) in
    let low : c.args.slot + count_of group ≤ c.loop-at.at + 1 = (one_found old.content c.args.file (IsTrue old.tells) c.args.slot c.args.number (c.loop-at.at + 1) c.take.new.self group read has).within in
    omega (arith, low, c.loop-at-test.true)

pub returns-then-not-is_empty-clause-stands : goal.returns-then-not-is_empty-clause-stands
returns-then-not-is_empty-clause-stands g c = λ tells group is.
    let old = g.D.Disk.view c.args.disk.now in
    let so_far = c.loop-at.invariant in
    let read = one_more old.content c.args.file (IsTrue old.tells) c.args.slot c.args.number c.loop-at.at c.loop-at.scan c.take.new.self c.read.new.into
    (read_there old (g.D.Disk.view c.loop-at.disk) c.read.new.into c.args.file c.loop-at.at so_far.reads c.in_ok-read.ensures.bytes) c.in_ok-take.ensures.taken so_far.read in
    let has = only_one c.loop-at.scan c.take.new.self _ c.pop.new.self group so_far.none c.in_ok-take.ensures.taken (taken_off c.take.new.self.groups c.pop.new.self c.pop.result group c.pop.ensures is) in
    (one_found old.content c.args.file (IsTrue old.tells) c.args.slot c.args.number (c.loop-at.at + 1) c.take.new.self group read has).stands tells

pub loop-at-preserved : goal.loop-at-preserved
loop-at-preserved g c =
    let view = g.D.Disk.view in
    let old = view c.args.disk.now in
    let so_far = c.loop-at.invariant in
    record {
      reads = one_call old (view c.loop-at.disk) (view c.read.new.self) c.read.result so_far.reads c.read.ensures.counts c.read.ensures.kept;
      read = one_more old.content c.args.file (IsTrue old.tells) c.args.slot c.args.number c.loop-at.at c.loop-at.scan c.take.new.self c.read.new.into
          (read_there old (view c.loop-at.disk) c.read.new.into c.args.file c.loop-at.at so_far.reads c.in_ok-read.ensures.bytes) c.in_ok-take.ensures.taken so_far.read;
      none = search rules;
      place = c.in_ok-take.ensures.next c.in-More.is ∙ ap (λ n. n + 1) so_far.place;
    }

pub returns-clause-none : goal.returns-clause-none
returns-clause-none g c = λ tells ends is.
    let old = g.D.Disk.view c.args.disk.now in
    let so_far = c.loop-at.invariant in
    none_at_end old.content c.args.file (IsTrue old.tells) c.args.slot c.args.number c.requires c.loop-at.at c.loop-at.scan so_far.read so_far.none tells
    (λ slot le. ends slot (omega (arith, le, c.loop-at-test.false)))
