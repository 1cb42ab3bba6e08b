use Rattle.std.proofs.Common.{refl, ap, sym, ◌∙◌, inr}
use Rattle.std.specs.Prelude.{Option, is_some}
use Rattle.lock_needs.specs.declared.party.OpenWant.{OpenWant}
use Rattle.lock_tree_laws.specs.Forest.{State, party_of}
use Rattle.lock_tree.specs.States.{state_of}
use Rattle.lock_tree_laws.specs.Wanted.{needs_of}
use Rattle.lock_tree_laws.specs.LockTable.{granted_at}
use Rattle.lock_tree.proofs.RoomKept.{roomy-on}
use Rattle.lock_tree_laws.proofs.Sleepers.{queued-blocker, sleeping-queued}
use Rattle.lock_tree_laws.proofs.Opened.{as-open, awake-granted}
use Rattle.lock_tree_laws.proofs.AskedByNeeds.{waiter-needed}
use Rattle.lock_needs.specs.Party.{Party}
use Rattle.lock_tree_laws.proofs.MeasureFalls.{stays-never, ended-falls}
use Rattle.lock_tree.proofs.Looked.{finishes-still}
use Rattle.lock_tree.proofs.parts.Parts.stand.Goals as goal

pub go_on-requires-clause-granted : goal.go_on-requires-clause-granted
go_on-requires-clause-granted c = awake-granted (granted_at c.args.self.now.locks c.args.owner) c.args.want c.requires.asked (sym c.is_asleep.ensures.value ∙ c.if-not-is_asleep.true)

pub returns-then-not-is_asleep-clause-step : goal.returns-then-not-is_asleep-clause-step
returns-then-not-is_asleep-clause-step c = c.go_on.ensures.step c.args.wait

pub unreachable-requires : goal.unreachable-requires
unreachable-requires c =
    let b = queued-blocker c.args.self.now.locks c.args.self.now.parties.entries (c.is_asleep.ensures.live c.if-not-is_asleep.false) c.requires.whole.kept c.args.owner c.args.want.here
    (sleeping-queued c.args.self.now.locks c.args.owner _ c.args.want (c.requires.whole.kept c.args.owner) c.requires.opened (sym c.is_asleep.ensures.value ∙ c.if-not-is_asleep.false)) in
    c.in_default.ensures.none b.0 b.1 b.2

pub returns-then-wait-clause-step : goal.returns-then-wait-clause-step
returns-then-wait-clause-step c =
    let s : State = state_of c.args.self.now in (
      c.if-wait.true,
      (
        c.args.want,
        as-open (party_of s.parties c.args.owner) c.args.want c.requires.opened,
        refl,
        record {
          sleeps = sym c.is_asleep.ensures.value ∙ c.if-not-is_asleep.false;
          waits = c.in-Some.ensures.waits;
          by_needs = waiter-needed s c.requires.whole c.args.owner c.in-Some.other c.in-Some.ensures.waits;
        },
      ),
    )

pub returns-clause-step : goal.returns-clause-step
returns-clause-step c =
    let s : State = state_of c.args.self.now in (
      c.if-wait.false,
      record {
        before = s;
        whole = c.requires.whole;
        others = c.close_want.ensures.others;
        want = c.args.want;
        stood = as-open (party_of s.parties c.args.owner) c.args.want c.requires.opened;
        same = refl;
        why = inr (
          record {
            sleeps = sym c.is_asleep.ensures.value ∙ c.if-not-is_asleep.false;
            waits = c.in-Some.ensures.waits;
            by_needs = waiter-needed s c.requires.whole c.args.owner c.in-Some.other c.in-Some.ensures.waits;
          },
          ap (λ v. v.items) c.close_want.ensures.trail,
        );
        rests = c.close_want.ensures.ended;
      },
    )

pub returns-then-not-is_asleep-clause-room : goal.returns-then-not-is_asleep-clause-room
returns-then-not-is_asleep-clause-room c =
    roomy-on c.args.owner (needs_of (state_of c.args.self.now) c.args.owner) c.args.want c.args.wait c.args.self.now c.go_on.new.self refl (ap (λ (o : Option OpenWant). is_some o) c.requires.opened) c.go_on.ensures.others c.go_on.ensures.table c.go_on.ensures.trail c.go_on.result (c.go_on.ensures.step c.args.wait)

pub returns-then-wait-clause-progress : goal.returns-then-wait-clause-progress
returns-then-wait-clause-progress c = stays-never (state_of c.args.self.now) c.args.owner

pub returns-clause-progress : goal.returns-clause-progress
returns-clause-progress c =
    ended-falls (state_of c.args.self.now) (state_of c.close_want.new.self) c.args.owner c.args.want c.close_want.ensures.others c.close_want.ensures.locks
    c.requires.opened (ap (λ (p : Party). p.opened) c.close_want.ensures.ended)

pub returns-then-not-is_asleep-clause-finish : goal.returns-then-not-is_asleep-clause-finish
returns-then-not-is_asleep-clause-finish c = finishes-still c.args.owner c.args.self.now.locks c.go_on.new.self.locks c.go_on.ensures.table c.go_on.result

pub returns-clause-finish : goal.returns-clause-finish
returns-clause-finish c = c.close_want.ensures.way
