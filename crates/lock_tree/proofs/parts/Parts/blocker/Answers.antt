use Rattle.std.proofs.Common.{sym, ◌∙◌}
use Rattle.lock_tree_laws.specs.Forest.{State}
use Rattle.lock_tree_laws.proofs.AskedByNeeds.{waiter-needed}
use Rattle.lock_tree_laws.proofs.Sleepers.{queued-blocker, sleeping-queued}
use Rattle.lock_tree.specs.States.{state_of}
use Rattle.lock_tree.proofs.parts.Parts.blocker.Goals as goal

pub unreachable-requires : goal.unreachable-requires
unreachable-requires c =
    let b = queued-blocker c.args.self.now.locks c.args.self.now.parties.entries (c.is_asleep.ensures.live c.if-not-is_asleep.false) c.requires.whole.kept c.args.owner c.in-Some.want.here
    (sleeping-queued c.args.self.now.locks c.args.owner _ c.in-Some.want (c.requires.whole.kept c.args.owner) (sym c.opened_of.ensures ∙ c.in-Some.is) (sym c.is_asleep.ensures.value ∙ c.if-not-is_asleep.false)) in
    c.in_default-find_blocker.ensures.none b.0 b.1 b.2

pub returns-clause-waits : goal.returns-clause-waits
returns-clause-waits c =
    let s : State = state_of c.args.self.now in
    record {
      want = c.in-Some.want;
      is_open = sym c.opened_of.ensures ∙ c.in-Some.is;
      sleeps = record {
        sleeps = sym c.is_asleep.ensures.value ∙ c.if-not-is_asleep.false;
        waits = c.in-Some-find_blocker.ensures.waits;
        by_needs = waiter-needed s c.requires.whole c.args.owner c.in-Some-find_blocker.other c.in-Some-find_blocker.ensures.waits;
      };
    }
