use Rattle.std.proofs.Common.{◌≡◌, refl, sym, ◌∙◌, ap, subst, false}
use Rattle.vms_locks.specs.Table.{Table}
use Rattle.lock_needs.specs.Needs.{is_covered}
use Rattle.lock_tree_laws.specs.LockTable.{granted_at}
use Rattle.lock_tree_laws.specs.Parties.{IsKept, unasked}
use Rattle.lock_tree.specs.States.{state_of}
use Rattle.lock_tree_laws.specs.Wanted.{needs_of}
use Rattle.lock_needs.specs.Party.{Party}
use Rattle.lock_tree_laws.proofs.KeptPlaces.{places-same}
use Rattle.lock_tree.proofs.RoomKept.{room-same, leaves-after, one-more}
use Rattle.lock_tree_laws.proofs.Opened.{still-open, unasked-quiet, got-covered_need}
use Rattle.vms_locks.specs.declared.answer.Enq.TheVariants.{Granted}
use Rattle.lock_tree_laws.proofs.OthersLeft.{same-leaves, answer-leaves}
use Rattle.lock_tree_laws.proofs.MeasureFalls.{left-never, ended-falls}
use Rattle.lock_tree.proofs.Looked.{never-steps}
use Rattle.lock_tree_laws.proofs.Added.{way-on}
use Rattle.lock_tree_laws.proofs.ByRule.{goes-none, goes-one, goes-then, took-rule}
use Rattle.lock_tree_laws.specs.Wanted.{MayTakeWhole}
use Rattle.std.proofs.lemmas.Bool.{false≢true}
use Rattle.lock_tree_laws.specs.Forest.{State}
use Rattle.lock_tree.proofs.parts.Parts.step.Goals as goal

pub get_need-requires-clause-open : goal.get_need-requires-clause-open
get_need-requires-clause-open c = still-open (state_of c.args.self.now) (state_of c.args.self.now) c.args.owner (unasked c.args.want) c.args.want.need c.requires.opened refl refl

pub get_need-requires-clause-quiet : goal.get_need-requires-clause-quiet
get_need-requires-clause-quiet c = unasked-quiet (state_of c.args.self.now) c.args.owner c.args.want c.requires.whole c.requires.opened

pub returns-then-get_whole-clause-step : goal.returns-then-get_whole-clause-step
returns-then-get_whole-clause-step c =
    let got = c.get_whole.ensures.got c.if-get_whole.true in (
      got,
      got-covered_need c.get_whole.new.self.locks c.args.owner (needs_of (state_of c.args.self.now) c.args.owner) c.args.want.need
          (subst (IsKept c.get_whole.new.self.locks c.args.owner) got (c.get_whole.ensures.whole.kept c.args.owner)),
    )

pub get_whole-requires-clause-uncovered : goal.get_whole-requires-clause-uncovered
get_whole-requires-clause-uncovered c = sym c.is_covered.ensures ∙ c.if-is_covered.false

pub ask_node-requires-clause-uncovered : goal.ask_node-requires-clause-uncovered
ask_node-requires-clause-uncovered c =
    let left = c.get_whole.ensures.left c.if-get_whole.false in
    subst (λ (t : Table). is_covered (granted_at t c.args.owner) c.args.want.need ≡ false) (sym left.1) (sym c.is_covered.ensures ∙ c.if-is_covered.false)

pub ask_node-requires-clause-room : goal.ask_node-requires-clause-room
ask_node-requires-clause-room c =
    let left = c.get_whole.ensures.left c.if-get_whole.false in
    room-same c.args.owner c.args.self.now c.get_whole.new.self (ap (λ (p : Party). p.needs) left.0)
    (places-same c.args.owner c.args.self.now.parties.entries c.get_whole.new.self.parties.entries c.get_whole.ensures.others left.0) left.1 left.2 1 c.requires.room

pub returns-clause-room : goal.returns-clause-room
returns-clause-room c =
    let left = c.get_whole.ensures.left c.if-get_whole.false in
    leaves-after c.args.owner c.args.self.now c.get_whole.new.self c.ask_node.new.self left.0 c.get_whole.ensures.others left.1 left.2 c.ask_node.result c.ask_node.ensures.room

pub returns-then-is_covered-clause-progress : goal.returns-then-is_covered-clause-progress
returns-then-is_covered-clause-progress c =
    ended-falls (state_of c.args.self.now) (state_of c.get_need.new.self) c.args.owner (unasked c.args.want) c.get_need.ensures.others
    (same-leaves c.args.self.now.locks c.get_need.new.self.locks c.args.owner c.get_need.ensures.table) c.requires.opened (ap (λ (p : Party). p.opened) c.get_need.ensures.got)

pub returns-then-get_whole-clause-progress : goal.returns-then-get_whole-clause-progress
returns-then-get_whole-clause-progress c =
    let taken = c.get_whole.ensures.taken c.if-get_whole.true in
    ended-falls (state_of c.args.self.now) (state_of c.get_whole.new.self) c.args.owner (unasked c.args.want) c.get_whole.ensures.others
    (answer-leaves c.args.self.now.locks c.get_whole.new.self.locks c.args.owner c.args.want.here _ false Granted taken.raised) c.requires.opened
    (ap (λ (p : Party). p.opened) (c.get_whole.ensures.got c.if-get_whole.true))

pub returns-clause-progress : goal.returns-clause-progress
returns-clause-progress c =
    let left = c.get_whole.ensures.left c.if-get_whole.false in
    never-steps (state_of c.args.self.now) (state_of c.get_whole.new.self) (state_of c.ask_node.new.self) c.args.owner
    (left-never (state_of c.args.self.now) (state_of c.get_whole.new.self) c.args.owner left.1 left.0 c.get_whole.ensures.others)
    c.ask_node.result c.ask_node.ensures.progress

pub returns-clause-others : goal.returns-clause-others
returns-clause-others c = λ u d. c.ask_node.ensures.others u d ∙ c.get_whole.ensures.others u d

pub returns-then-is_covered-clause-went : goal.returns-then-is_covered-clause-went
returns-then-is_covered-clause-went c =
    goes-none c.args.owner c.args.want.need c.args.wait _ (state_of c.args.self.now) (state_of c.get_need.new.self) (ap (λ v. v.items) c.get_need.ensures.trail) (ap (λ (t : Table). t.entries) c.get_need.ensures.table)

pub returns-then-get_whole-clause-went : goal.returns-then-get_whole-clause-went
returns-then-get_whole-clause-went c =
    let s : State = state_of c.args.self.now in
    goes-one c.args.owner c.args.want.need c.args.wait _ s (state_of c.get_whole.new.self) c.args.want.here c.get_whole.new.self.locks
    (way-on s c.args.owner c.args.want c.requires.whole c.requires.opened) (c.get_whole.ensures.asked c.if-get_whole.true)
    (took-rule s c.args.owner c.args.want c.args.wait c.get_whole.new.self.locks (sym c.is_covered.ensures ∙ c.if-is_covered.false) (c.get_whole.ensures.may c.if-get_whole.true)
    (c.get_whole.ensures.taken c.if-get_whole.true).raised)
    refl

pub ask_node-requires-clause-not_whole : goal.ask_node-requires-clause-not_whole
ask_node-requires-clause-not_whole c = λ may.
    let left = c.get_whole.ensures.left c.if-get_whole.false in
    false≢true (sym c.if-get_whole.false ∙ c.get_whole.ensures.strong (subst (λ (t : Table). MayTakeWhole t c.args.owner c.args.want) left.1 may))

pub returns-clause-went : goal.returns-clause-went
returns-clause-went c =
    let s : State = state_of c.args.self.now in
    let left = c.get_whole.ensures.left c.if-get_whole.false in
    goes-then c.args.owner c.args.want.need c.args.wait _ s (state_of c.get_whole.new.self) (state_of c.ask_node.new.self) (ap (λ (p : Party). p.needs) left.0)
    (goes-none c.args.owner c.args.want.need c.args.wait _ s (state_of c.get_whole.new.self) (ap (λ v. v.items) left.2) (ap (λ (t : Table). t.entries) left.1))
    c.ask_node.ensures.went

pub returns-then-get_whole-clause-few : goal.returns-then-get_whole-clause-few
returns-then-get_whole-clause-few c = one-more c.args.self.now.trail.items c.get_whole.new.self.trail.items _ (c.get_whole.ensures.asked c.if-get_whole.true)
