use Rattle.std.proofs.Common.{◌≡◌, refl, ◌∙◌, ap, subst, sym, inl, List, true, length, ◌+◌, ◌≤◌, arith}
use Rattle.std.specs.Prelude.{Option, is_some, unwrap_or}
use Rattle.std.proofs.lemmas.Bool.{or_parts}
use Rattle.vms_queues.specs.Modes.{at_most}
use Rattle.lock_needs.specs.Needs.{covered_above}
use Rattle.vms_locks.specs.declared.answer.Enq.TheVariants.{Granted, Asleep, NotQueued, Deadlock}
use Rattle.lock_needs.specs.declared.need.Need.{Need}
use Rattle.lock_needs.specs.declared.party.OpenWant.{OpenWant}
use Rattle.lock_needs.specs.Party.{Party}
use Rattle.lock_needs.specs.Wants.{mode_for}
use Rattle.lock_tree_laws.specs.LockTable.{granted_at}
use Rattle.lock_tree_laws.specs.Parties.{IsKept, unasked}
use Rattle.lock_tree_laws.specs.Inner.Answering.{ComesDown}
use Rattle.lock_tree.proofs.RoomKept.{roomy-on, leaves-used, kept-looked}
use Rattle.lock_tree_laws.specs.Forest.{State, idle, party_of}
use Rattle.lock_tree.specs.States.{state_of}
use Rattle.lock_tree_laws.specs.Wanted.{needs_of}
use Rattle.lock_tree.specs.Inner.Stepping.{Steps}
use Rattle.lock_tree_laws.proofs.Answered.{cause-of}
use Rattle.lock_tree_laws.proofs.Opened.{as-open, whole-looked, whole-asked}
use Rattle.lock_tree.proofs.Looked.{look-due, look-asked, refused-down, deadlock-down, steps-asked, never-steps, finishes-still}
use Rattle.lock_tree_laws.proofs.AskedByNeeds.{need-used, asked-by_needs, blocker-needed, cycle-needed}
use Rattle.lock_tree_laws.specs.Progress.{IsServedAt}
use Rattle.lock_tree.specs.Inner.Looking.{LooksOn}
use Rattle.lock_tree_laws.proofs.OthersLeft.{leaves-then}
use Rattle.lock_tree_laws.proofs.MeasureFalls.{served-never, asked-never, ended-falls}
use Rattle.lock_tree_laws.proofs.Added.{way-on}
use Rattle.lock_tree_laws.proofs.ByRule.{goes-none, goes-one, asked-rule}
use Rattle.lock_tree.proofs.parts.Parts.ask_node.Goals as goal

pub returns-in-NoticeTo-clause-whole : goal.returns-in-NoticeTo-clause-whole
returns-in-NoticeTo-clause-whole c =
    let s : State = state_of c.args.self.now in
    let is : c.in-Some.party.now ≡ party_of s.parties c.args.owner = ap (λ x. unwrap_or x idle) c.in-Some.ensures.value in
    let r : State = record { table = c.look_here.new.locks; parties = c.args.self.now.parties.entries; trail = c.args.self.now.trail.items } in
    whole-looked s r c.args.owner c.args.want c.requires.whole c.requires.opened
    (subst (λ (p : Party). ComesDown c.args.owner p s.table c.look_here.new.locks) (sym (as-open (party_of s.parties c.args.owner) (unasked c.args.want) c.requires.opened))
    (look-due s c.look_here.new.locks c.args.owner c.args.want c.args.wait c.look_here.result c.in-Some.party.now is c.look_here.ensures.look c.in-NoticeTo.other c.in-NoticeTo.mode c.in-NoticeTo.is).0) refl refl
    (kept-looked c.args.owner c.args.self.now c.look_here.new.locks c.requires.room c.in-Some.party.now is c.look_here.ensures.spare)

pub returns-in-NoticeTo-clause-step : goal.returns-in-NoticeTo-clause-step
returns-in-NoticeTo-clause-step c =
    let s : State = state_of c.args.self.now in
    let is : c.in-Some.party.now ≡ party_of s.parties c.args.owner = ap (λ x. unwrap_or x idle) c.in-Some.ensures.value in
    (unasked c.args.want, as-open (party_of s.parties c.args.owner) (unasked c.args.want) c.requires.opened, refl, refl, refl, (look-due s c.look_here.new.locks c.args.owner c.args.want c.args.wait c.look_here.result c.in-Some.party.now is c.look_here.ensures.look c.in-NoticeTo.other c.in-NoticeTo.mode c.in-NoticeTo.is).1)

pub go_on-requires-clause-whole : goal.go_on-requires-clause-whole
go_on-requires-clause-whole c =
    let s : State = state_of c.args.self.now in
    let is : c.in-Some.party.now ≡ party_of s.parties c.args.owner = ap (λ x. unwrap_or x idle) c.in-Some.ensures.value in
    let r : State = record { table = c.look_here.new.locks; parties = c.mark_asked-asked.new.parties.entries; trail = c.mark_asked-asked.new.trail.items } in
    let asked = look-asked s c.look_here.new.locks c.args.owner c.args.want c.args.wait c.look_here.result c.in-Some.party.now is c.look_here.ensures.look c.in-Asked-Granted.field-0 Granted c.in-Asked-Granted.is c.in-Asked-Granted.field-0-is in
    whole-asked s r c.args.owner c.args.want c.requires.whole c.requires.opened c.look_here.ensures.intents c.look_here.ensures.others
    asked.0.0 c.mark_asked-asked.ensures.own c.mark_asked-asked.ensures.others
    (c.mark_asked-asked.ensures.trail)
    asked.1.live
    (asked-by_needs s c.args.owner c.args.want c.requires.whole c.requires.opened (need-used (granted_at s.table c.args.owner) c.args.want.need c.requires.uncovered) c.args.wait c.look_here.new.locks Granted asked.1
    (party_of r.parties) c.mark_asked-asked.ensures.own c.mark_asked-asked.ensures.others)
    (kept-looked c.args.owner c.args.self.now c.look_here.new.locks c.requires.room c.in-Some.party.now is c.look_here.ensures.spare)

pub go_on-requires-clause-granted : goal.go_on-requires-clause-granted
go_on-requires-clause-granted c =
    let s : State = state_of c.args.self.now in
    let is : c.in-Some.party.now ≡ party_of s.parties c.args.owner = ap (λ x. unwrap_or x idle) c.in-Some.ensures.value in
    subst (λ (v : OpenWant). at_most (mode_for v.need v.here) (granted_at c.look_here.new.locks c.args.owner v.here) ≡ true) (sym c.mark_asked-asked.ensures.want)
    (look-asked s c.look_here.new.locks c.args.owner c.args.want c.args.wait c.look_here.result c.in-Some.party.now is c.look_here.ensures.look c.in-Asked-Granted.field-0 Granted c.in-Asked-Granted.is c.in-Asked-Granted.field-0-is).0.1

pub returns-in-Asked-Granted-clause-step : goal.returns-in-Asked-Granted-clause-step
returns-in-Asked-Granted-clause-step c =
    let s : State = state_of c.args.self.now in
    steps-asked (needs_of s c.args.owner) _ (state_of c.go_on.new.self) c.args.owner c.args.want c.mark_asked-asked.result c.args.wait (ap (λ (p : Party). p.needs) c.mark_asked-asked.ensures.own) c.mark_asked-asked.ensures.want c.go_on.result (c.go_on.ensures.step c.args.wait)

pub stand-requires-clause-whole : goal.stand-requires-clause-whole
stand-requires-clause-whole c =
    let s : State = state_of c.args.self.now in
    let is : c.in-Some.party.now ≡ party_of s.parties c.args.owner = ap (λ x. unwrap_or x idle) c.in-Some.ensures.value in
    let r : State = record { table = c.look_here.new.locks; parties = c.mark_asked-asked-in-Asked-Asleep.new.parties.entries; trail = c.mark_asked-asked-in-Asked-Asleep.new.trail.items } in
    let asked = look-asked s c.look_here.new.locks c.args.owner c.args.want c.args.wait c.look_here.result c.in-Some.party.now is c.look_here.ensures.look c.in-Asked-Asleep.field-0 Asleep c.in-Asked-Asleep.is c.in-Asked-Asleep.field-0-is in
    whole-asked s r c.args.owner c.args.want c.requires.whole c.requires.opened c.look_here.ensures.intents c.look_here.ensures.others
    asked.0.0 c.mark_asked-asked-in-Asked-Asleep.ensures.own c.mark_asked-asked-in-Asked-Asleep.ensures.others
    (c.mark_asked-asked-in-Asked-Asleep.ensures.trail)
    asked.1.live
    (asked-by_needs s c.args.owner c.args.want c.requires.whole c.requires.opened (need-used (granted_at s.table c.args.owner) c.args.want.need c.requires.uncovered) c.args.wait c.look_here.new.locks Asleep asked.1
    (party_of r.parties) c.mark_asked-asked-in-Asked-Asleep.ensures.own c.mark_asked-asked-in-Asked-Asleep.ensures.others).0
    (kept-looked c.args.owner c.args.self.now c.look_here.new.locks c.requires.room c.in-Some.party.now is c.look_here.ensures.spare)

pub returns-in-Asked-Asleep-clause-step : goal.returns-in-Asked-Asleep-clause-step
returns-in-Asked-Asleep-clause-step c =
    let s : State = state_of c.args.self.now in
    steps-asked (needs_of s c.args.owner) _ (state_of c.stand.new.self) c.args.owner c.args.want c.mark_asked-asked-in-Asked-Asleep.result c.args.wait (ap (λ (p : Party). p.needs) c.mark_asked-asked-in-Asked-Asleep.ensures.own) c.mark_asked-asked-in-Asked-Asleep.ensures.want c.stand.result c.stand.ensures.step

pub refuse-requires-clause-whole : goal.refuse-requires-clause-whole
refuse-requires-clause-whole c =
    let s : State = state_of c.args.self.now in
    let is : c.in-Some.party.now ≡ party_of s.parties c.args.owner = ap (λ x. unwrap_or x idle) c.in-Some.ensures.value in
    let r : State = record { table = c.look_here.new.locks; parties = c.args.self.now.parties.entries; trail = c.args.self.now.trail.items } in
    whole-looked s r c.args.owner c.args.want c.requires.whole c.requires.opened
    (refused-down s c.look_here.new.locks c.args.owner c.args.want c.args.wait c.in-Asked-NotQueued.other
    (look-asked s c.look_here.new.locks c.args.owner c.args.want c.args.wait c.look_here.result c.in-Some.party.now is c.look_here.ensures.look c.in-Asked-NotQueued.field-0 (NotQueued c.in-Asked-NotQueued.other) c.in-Asked-NotQueued.is c.in-Asked-NotQueued.field-0-is).1) refl refl
    (kept-looked c.args.owner c.args.self.now c.look_here.new.locks c.requires.room c.in-Some.party.now is c.look_here.ensures.spare)

pub refuse-requires-in-Asked-Deadlock-clause-whole : goal.refuse-requires-in-Asked-Deadlock-clause-whole
refuse-requires-in-Asked-Deadlock-clause-whole c =
    let s : State = state_of c.args.self.now in
    let is : c.in-Some.party.now ≡ party_of s.parties c.args.owner = ap (λ x. unwrap_or x idle) c.in-Some.ensures.value in
    let r : State = record { table = c.look_here.new.locks; parties = c.args.self.now.parties.entries; trail = c.args.self.now.trail.items } in
    whole-looked s r c.args.owner c.args.want c.requires.whole c.requires.opened
    (deadlock-down s c.look_here.new.locks c.args.owner c.args.want c.args.wait c.in-Asked-Deadlock.cycle
    (look-asked s c.look_here.new.locks c.args.owner c.args.want c.args.wait c.look_here.result c.in-Some.party.now is c.look_here.ensures.look c.in-Asked-Deadlock.field-0 (Deadlock c.in-Asked-Deadlock.cycle) c.in-Asked-Deadlock.is c.in-Asked-Deadlock.field-0-is).1) refl refl
    (kept-looked c.args.owner c.args.self.now c.look_here.new.locks c.requires.room c.in-Some.party.now is c.look_here.ensures.spare)

pub returns-in-Asked-NotQueued-clause-step : goal.returns-in-Asked-NotQueued-clause-step
returns-in-Asked-NotQueued-clause-step c =
    let s : State = state_of c.args.self.now in
    let is : c.in-Some.party.now ≡ party_of s.parties c.args.owner = ap (λ x. unwrap_or x idle) c.in-Some.ensures.value in
    let r : State = record { table = c.look_here.new.locks; parties = c.args.self.now.parties.entries; trail = c.args.self.now.trail.items } in
    let asked = look-asked s c.look_here.new.locks c.args.owner c.args.want c.args.wait c.look_here.result c.in-Some.party.now is c.look_here.ensures.look c.in-Asked-NotQueued.field-0 (NotQueued c.in-Asked-NotQueued.other) c.in-Asked-NotQueued.is c.in-Asked-NotQueued.field-0-is in (
      asked.0.1,
      record {
        before = r;
        whole = whole-looked s r c.args.owner c.args.want c.requires.whole c.requires.opened (refused-down s c.look_here.new.locks c.args.owner c.args.want c.args.wait c.in-Asked-NotQueued.other asked.1) refl refl
            (kept-looked c.args.owner c.args.self.now c.look_here.new.locks c.requires.room c.in-Some.party.now is c.look_here.ensures.spare);
        others = c.refuse.ensures.others;
        want = unasked c.args.want;
        stood = as-open (party_of s.parties c.args.owner) (unasked c.args.want) c.requires.opened;
        same = refl;
        why = inl (
          cause-of s.parties c.args.owner c.args.want c.args.wait s.table c.look_here.new.locks (NotQueued c.in-Asked-NotQueued.other) asked.1,
          blocker-needed s c.args.owner c.args.want c.requires.whole c.requires.opened (need-used (granted_at s.table c.args.owner) c.args.want.need c.requires.uncovered) c.args.wait c.look_here.new.locks
              c.args.self.now.trail.items refl c.in-Asked-NotQueued.other asked.1,
          c.refuse.ensures.asked,
        );
        rests = c.refuse.ensures.ended;
      },
    )

pub returns-in-Asked-Deadlock-clause-step : goal.returns-in-Asked-Deadlock-clause-step
returns-in-Asked-Deadlock-clause-step c =
    let s : State = state_of c.args.self.now in
    let is : c.in-Some.party.now ≡ party_of s.parties c.args.owner = ap (λ x. unwrap_or x idle) c.in-Some.ensures.value in
    let r : State = record { table = c.look_here.new.locks; parties = c.args.self.now.parties.entries; trail = c.args.self.now.trail.items } in
    let asked = look-asked s c.look_here.new.locks c.args.owner c.args.want c.args.wait c.look_here.result c.in-Some.party.now is c.look_here.ensures.look c.in-Asked-Deadlock.field-0 (Deadlock c.in-Asked-Deadlock.cycle) c.in-Asked-Deadlock.is c.in-Asked-Deadlock.field-0-is in (
      asked.0.1,
      record {
        before = r;
        whole = whole-looked s r c.args.owner c.args.want c.requires.whole c.requires.opened (deadlock-down s c.look_here.new.locks c.args.owner c.args.want c.args.wait c.in-Asked-Deadlock.cycle asked.1) refl refl
            (kept-looked c.args.owner c.args.self.now c.look_here.new.locks c.requires.room c.in-Some.party.now is c.look_here.ensures.spare);
        others = c.refuse-in-Asked-Deadlock.ensures.others;
        want = unasked c.args.want;
        stood = as-open (party_of s.parties c.args.owner) (unasked c.args.want) c.requires.opened;
        same = refl;
        why = (
          cause-of s.parties c.args.owner c.args.want c.args.wait s.table c.look_here.new.locks (Deadlock c.in-Asked-Deadlock.cycle) asked.1,
          cycle-needed s c.args.owner c.args.want c.requires.whole c.requires.opened (need-used (granted_at s.table c.args.owner) c.args.want.need c.requires.uncovered) c.args.wait c.look_here.new.locks
              c.args.self.now.trail.items refl c.in-Asked-Deadlock.cycle asked.1,
          c.refuse-in-Asked-Deadlock.ensures.asked,
        );
        rests = c.refuse-in-Asked-Deadlock.ensures.ended;
      },
    )

pub look_here-requires-clause-uncovered : goal.look_here-requires-clause-uncovered
look_here-requires-clause-uncovered c =
    (or_parts (at_most c.args.want.need.mode (granted_at c.args.self.now.locks c.args.owner c.args.want.need.node)) (covered_above (granted_at c.args.self.now.locks c.args.owner) c.args.want.need) c.requires.uncovered).1

pub look_here-requires-clause-room : goal.look_here-requires-clause-room
look_here-requires-clause-room c =
    subst (λ (p : Party). length p.needs + 1 ≤ c.args.self.now.locks.spare) (sym (ap (λ x. unwrap_or x idle) c.in-Some.ensures.value)) (omega (arith, c.requires.room.table))

pub mark_asked-asked-requires-clause-room : goal.mark_asked-asked-requires-clause-room
mark_asked-asked-requires-clause-room c = omega (arith, c.requires.room.trail)

pub mark_asked-asked-requires-in-Asked-Asleep-clause-room : goal.mark_asked-asked-requires-in-Asked-Asleep-clause-room
mark_asked-asked-requires-in-Asked-Asleep-clause-room c = omega (arith, c.requires.room.trail)

pub refuse-requires-clause-room : goal.refuse-requires-clause-room
refuse-requires-clause-room c = omega (arith, c.requires.room.trail)

pub refuse-requires-in-Asked-Deadlock-clause-room : goal.refuse-requires-in-Asked-Deadlock-clause-room
refuse-requires-in-Asked-Deadlock-clause-room c = omega (arith, c.requires.room.trail)

pub returns-in-Asked-Granted-clause-room : goal.returns-in-Asked-Granted-clause-room
returns-in-Asked-Granted-clause-room c =
    let s : State = state_of c.args.self.now in
    let is : c.in-Some.party.now ≡ party_of s.parties c.args.owner = ap (λ x. unwrap_or x idle) c.in-Some.ensures.value in
    leaves-used c.args.owner c.args.self.now (record { locks = c.look_here.new.locks; parties = c.mark_asked-asked.new.parties; trail = c.mark_asked-asked.new.trail }) c.go_on.new.self
    (ap (λ (p : Party). p.needs) c.mark_asked-asked.ensures.own) (ap (λ (o : Option OpenWant). is_some o) c.requires.opened) c.mark_asked-asked.ensures.others (subst (λ (p : Party). c.args.self.now.locks.spare ≤ c.look_here.new.locks.spare + (length p.needs + 1)) is c.look_here.ensures.spare)
    c.mark_asked-asked.ensures.length c.mark_asked-asked.ensures.capacity c.go_on.result
    (roomy-on c.args.owner (needs_of s c.args.owner) c.mark_asked-asked.result c.args.wait (record { locks = c.look_here.new.locks; parties = c.mark_asked-asked.new.parties; trail = c.mark_asked-asked.new.trail }) c.go_on.new.self (ap (λ (p : Party). p.needs) c.mark_asked-asked.ensures.own) (ap (λ (p : Party). is_some p.opened) c.mark_asked-asked.ensures.own) c.go_on.ensures.others c.go_on.ensures.table c.go_on.ensures.trail c.go_on.result
    (subst (λ (ws : List Need). Steps ws (state_of c.go_on.new.self) c.args.owner c.mark_asked-asked.result c.args.wait c.go_on.result) (ap (λ (p : Party). p.needs) c.mark_asked-asked.ensures.own) (c.go_on.ensures.step c.args.wait)))

pub returns-in-Asked-Asleep-clause-room : goal.returns-in-Asked-Asleep-clause-room
returns-in-Asked-Asleep-clause-room c =
    let s : State = state_of c.args.self.now in
    let is : c.in-Some.party.now ≡ party_of s.parties c.args.owner = ap (λ x. unwrap_or x idle) c.in-Some.ensures.value in
    leaves-used c.args.owner c.args.self.now (record { locks = c.look_here.new.locks; parties = c.mark_asked-asked-in-Asked-Asleep.new.parties; trail = c.mark_asked-asked-in-Asked-Asleep.new.trail }) c.stand.new.self
    (ap (λ (p : Party). p.needs) c.mark_asked-asked-in-Asked-Asleep.ensures.own) (ap (λ (o : Option OpenWant). is_some o) c.requires.opened) c.mark_asked-asked-in-Asked-Asleep.ensures.others (subst (λ (p : Party). c.args.self.now.locks.spare ≤ c.look_here.new.locks.spare + (length p.needs + 1)) is c.look_here.ensures.spare)
    c.mark_asked-asked-in-Asked-Asleep.ensures.length c.mark_asked-asked-in-Asked-Asleep.ensures.capacity c.stand.result
    c.stand.ensures.room

pub returns-in-NoticeTo-clause-progress : goal.returns-in-NoticeTo-clause-progress
returns-in-NoticeTo-clause-progress c =
    let s : State = state_of c.args.self.now in
    let is : c.in-Some.party.now ≡ party_of s.parties c.args.owner = ap (λ x. unwrap_or x idle) c.in-Some.ensures.value in
    let r : State = record { table = c.look_here.new.locks; parties = c.args.self.now.parties.entries; trail = c.args.self.now.trail.items } in
    let after = whole-looked s r c.args.owner c.args.want c.requires.whole c.requires.opened
    (subst (λ (p : Party). ComesDown c.args.owner p s.table c.look_here.new.locks) (sym (as-open (party_of s.parties c.args.owner) (unasked c.args.want) c.requires.opened))
    (look-due s c.look_here.new.locks c.args.owner c.args.want c.args.wait c.look_here.result c.in-Some.party.now is c.look_here.ensures.look c.in-NoticeTo.other c.in-NoticeTo.mode c.in-NoticeTo.is).0) refl refl
    (kept-looked c.args.owner c.args.self.now c.look_here.new.locks c.requires.room c.in-Some.party.now is c.look_here.ensures.spare) in
    served-never s r c.args.owner c.args.want.here c.requires.whole after (λ u. refl)
    (subst (λ (p : Party). IsServedAt c.args.owner p c.args.want.here s.table r.table) is
    (subst (LooksOn c.args.owner c.in-Some.party.now c.args.want s.table r.table) c.in-NoticeTo.is c.look_here.ensures.progress))

pub returns-in-Asked-Granted-clause-progress : goal.returns-in-Asked-Granted-clause-progress
returns-in-Asked-Granted-clause-progress c =
    let s : State = state_of c.args.self.now in
    let m : State = record { table = c.look_here.new.locks; parties = c.mark_asked-asked.new.parties.entries; trail = c.mark_asked-asked.new.trail.items } in
    never-steps s m (state_of c.go_on.new.self) c.args.owner
    (asked-never s m c.args.owner c.args.want
    (record { parties = c.mark_asked-asked.ensures.others; locks = subst (LooksOn c.args.owner c.in-Some.party.now c.args.want s.table m.table) c.in-Asked-Granted.is c.look_here.ensures.progress })
    c.requires.opened (ap (λ (p : Party). p.opened) c.mark_asked-asked.ensures.own))
    c.go_on.result c.go_on.ensures.progress

pub returns-in-Asked-Asleep-clause-progress : goal.returns-in-Asked-Asleep-clause-progress
returns-in-Asked-Asleep-clause-progress c =
    let s : State = state_of c.args.self.now in
    let m : State = record { table = c.look_here.new.locks; parties = c.mark_asked-asked-in-Asked-Asleep.new.parties.entries; trail = c.mark_asked-asked-in-Asked-Asleep.new.trail.items } in
    never-steps s m (state_of c.stand.new.self) c.args.owner
    (asked-never s m c.args.owner c.args.want
    (record { parties = c.mark_asked-asked-in-Asked-Asleep.ensures.others; locks = subst (LooksOn c.args.owner c.in-Some.party.now c.args.want s.table m.table) c.in-Asked-Asleep.is c.look_here.ensures.progress })
    c.requires.opened (ap (λ (p : Party). p.opened) c.mark_asked-asked-in-Asked-Asleep.ensures.own))
    c.stand.result c.stand.ensures.progress

pub returns-in-Asked-NotQueued-clause-progress : goal.returns-in-Asked-NotQueued-clause-progress
returns-in-Asked-NotQueued-clause-progress c =
    let s : State = state_of c.args.self.now in
    ended-falls s (state_of c.refuse.new.self) c.args.owner (unasked c.args.want) c.refuse.ensures.others
    (leaves-then s.table c.look_here.new.locks c.refuse.new.self.locks c.args.owner
    (subst (LooksOn c.args.owner c.in-Some.party.now c.args.want s.table c.look_here.new.locks) c.in-Asked-NotQueued.is c.look_here.ensures.progress) c.refuse.ensures.locks)
    c.requires.opened (ap (λ (p : Party). p.opened) c.refuse.ensures.ended)

pub returns-in-Asked-Deadlock-clause-progress : goal.returns-in-Asked-Deadlock-clause-progress
returns-in-Asked-Deadlock-clause-progress c =
    let s : State = state_of c.args.self.now in
    ended-falls s (state_of c.refuse-in-Asked-Deadlock.new.self) c.args.owner (unasked c.args.want) c.refuse-in-Asked-Deadlock.ensures.others
    (leaves-then s.table c.look_here.new.locks c.refuse-in-Asked-Deadlock.new.self.locks c.args.owner
    (subst (LooksOn c.args.owner c.in-Some.party.now c.args.want s.table c.look_here.new.locks) c.in-Asked-Deadlock.is c.look_here.ensures.progress) c.refuse-in-Asked-Deadlock.ensures.locks)
    c.requires.opened (ap (λ (p : Party). p.opened) c.refuse-in-Asked-Deadlock.ensures.ended)

pub returns-in-Asked-Granted-clause-others : goal.returns-in-Asked-Granted-clause-others
returns-in-Asked-Granted-clause-others c = λ u d. c.go_on.ensures.others u d ∙ c.mark_asked-asked.ensures.others u d

pub returns-in-Asked-Asleep-clause-others : goal.returns-in-Asked-Asleep-clause-others
returns-in-Asked-Asleep-clause-others c = λ u d. c.stand.ensures.others u d ∙ c.mark_asked-asked-in-Asked-Asleep.ensures.others u d

pub look_here-requires-clause-kept : goal.look_here-requires-clause-kept
look_here-requires-clause-kept c = subst (IsKept c.args.self.now.locks c.args.owner) (sym (ap (λ x. unwrap_or x idle) c.in-Some.ensures.value)) (c.requires.whole.kept c.args.owner)

pub returns-in-NoticeTo-clause-went : goal.returns-in-NoticeTo-clause-went
returns-in-NoticeTo-clause-went c =
    let s : State = state_of c.args.self.now in
    let is : c.in-Some.party.now ≡ party_of s.parties c.args.owner = ap (λ x. unwrap_or x idle) c.in-Some.ensures.value in
    goes-none c.args.owner c.args.want.need c.args.wait _ s (record { table = c.look_here.new.locks; parties = s.parties; trail = s.trail }) refl
    (look-due s c.look_here.new.locks c.args.owner c.args.want c.args.wait c.look_here.result c.in-Some.party.now is c.look_here.ensures.look c.in-NoticeTo.other c.in-NoticeTo.mode c.in-NoticeTo.is).0.way

pub returns-in-Asked-Granted-clause-went : goal.returns-in-Asked-Granted-clause-went
returns-in-Asked-Granted-clause-went c =
    let s : State = state_of c.args.self.now in
    let is : c.in-Some.party.now ≡ party_of s.parties c.args.owner = ap (λ x. unwrap_or x idle) c.in-Some.ensures.value in
    let asked = look-asked s c.look_here.new.locks c.args.owner c.args.want c.args.wait c.look_here.result c.in-Some.party.now is c.look_here.ensures.look c.in-Asked-Granted.field-0 Granted c.in-Asked-Granted.is c.in-Asked-Granted.field-0-is in
    goes-one c.args.owner c.args.want.need c.args.wait _ s (state_of c.go_on.new.self) c.args.want.here c.look_here.new.locks
    (way-on s c.args.owner c.args.want c.requires.whole c.requires.opened)
    (ap (λ v. v.items) c.go_on.ensures.trail ∙ c.mark_asked-asked.ensures.trail)
    (asked-rule s c.args.owner c.args.want c.args.wait c.look_here.new.locks Granted c.requires.opened c.requires.uncovered c.requires.not_whole asked.1)
    (finishes-still c.args.owner c.look_here.new.locks c.go_on.new.self.locks c.go_on.ensures.table c.go_on.result)

pub returns-in-Asked-Asleep-clause-went : goal.returns-in-Asked-Asleep-clause-went
returns-in-Asked-Asleep-clause-went c =
    let s : State = state_of c.args.self.now in
    let is : c.in-Some.party.now ≡ party_of s.parties c.args.owner = ap (λ x. unwrap_or x idle) c.in-Some.ensures.value in
    let asked = look-asked s c.look_here.new.locks c.args.owner c.args.want c.args.wait c.look_here.result c.in-Some.party.now is c.look_here.ensures.look c.in-Asked-Asleep.field-0 Asleep c.in-Asked-Asleep.is c.in-Asked-Asleep.field-0-is in
    goes-one c.args.owner c.args.want.need c.args.wait _ s (state_of c.stand.new.self) c.args.want.here c.look_here.new.locks
    (way-on s c.args.owner c.args.want c.requires.whole c.requires.opened)
    (ap (λ v. v.items) c.stand.ensures.trail ∙ c.mark_asked-asked-in-Asked-Asleep.ensures.trail)
    (asked-rule s c.args.owner c.args.want c.args.wait c.look_here.new.locks Asleep c.requires.opened c.requires.uncovered c.requires.not_whole asked.1)
    (c.stand.ensures.finish)

pub returns-in-Asked-NotQueued-clause-went : goal.returns-in-Asked-NotQueued-clause-went
returns-in-Asked-NotQueued-clause-went c =
    let s : State = state_of c.args.self.now in
    let is : c.in-Some.party.now ≡ party_of s.parties c.args.owner = ap (λ x. unwrap_or x idle) c.in-Some.ensures.value in
    let asked = look-asked s c.look_here.new.locks c.args.owner c.args.want c.args.wait c.look_here.result c.in-Some.party.now is c.look_here.ensures.look c.in-Asked-NotQueued.field-0 (NotQueued c.in-Asked-NotQueued.other) c.in-Asked-NotQueued.is c.in-Asked-NotQueued.field-0-is in
    goes-one c.args.owner c.args.want.need c.args.wait _ s (state_of c.refuse.new.self) c.args.want.here c.look_here.new.locks
    (way-on s c.args.owner c.args.want c.requires.whole c.requires.opened)
    (c.refuse.ensures.asked)
    (asked-rule s c.args.owner c.args.want c.args.wait c.look_here.new.locks (NotQueued c.in-Asked-NotQueued.other) c.requires.opened c.requires.uncovered c.requires.not_whole asked.1)
    (c.refuse.ensures.way)

pub returns-in-Asked-Deadlock-clause-went : goal.returns-in-Asked-Deadlock-clause-went
returns-in-Asked-Deadlock-clause-went c =
    let s : State = state_of c.args.self.now in
    let is : c.in-Some.party.now ≡ party_of s.parties c.args.owner = ap (λ x. unwrap_or x idle) c.in-Some.ensures.value in
    let asked = look-asked s c.look_here.new.locks c.args.owner c.args.want c.args.wait c.look_here.result c.in-Some.party.now is c.look_here.ensures.look c.in-Asked-Deadlock.field-0 (Deadlock c.in-Asked-Deadlock.cycle) c.in-Asked-Deadlock.is c.in-Asked-Deadlock.field-0-is in
    goes-one c.args.owner c.args.want.need c.args.wait _ s (state_of c.refuse-in-Asked-Deadlock.new.self) c.args.want.here c.look_here.new.locks
    (way-on s c.args.owner c.args.want c.requires.whole c.requires.opened)
    (c.refuse-in-Asked-Deadlock.ensures.asked)
    (asked-rule s c.args.owner c.args.want c.args.wait c.look_here.new.locks (Deadlock c.in-Asked-Deadlock.cycle) c.requires.opened c.requires.uncovered c.requires.not_whole asked.1)
    (c.refuse-in-Asked-Deadlock.ensures.way)
