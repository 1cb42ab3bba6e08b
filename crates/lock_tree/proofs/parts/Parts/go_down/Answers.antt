use Rattle.std.proofs.Common.{arith, ◌≡◌, ◌∙◌, refl, sym, ap, subst, inl, inr, true, false, List}
use Rattle.lock_needs.specs.declared.need.Need.{Need}
use Rattle.lock_needs.specs.declared.party.OpenWant.{OpenWant}
use Rattle.lock_needs.specs.Needs.{is_covered}
use Rattle.lock_needs.specs.Party.{Party}
use Rattle.lock_tree_laws.specs.LockTable.{granted_at}
use Rattle.lock_tree_laws.specs.Wanted.{MayTakeWhole, Answered, needs_of}
use Rattle.lock_tree_laws.proofs.ByRule.{goes-none, goes-then}
use Rattle.lock_tree_laws.specs.Rule.{GoesDown}
use Rattle.lock_tree.specs.Inner.Stepping.{StepFinishes}
use Rattle.lock_tree.specs.declared.steps.Step.TheVariants.{Down, Ends}
use Rattle.lock_tree.specs.declared.parts.Parts.{Parts}
use Rattle.lock_tree_laws.specs.declared.answer.Want.TheVariants.{Got}
use Rattle.lock_tree.proofs.AtOnce.{EndsHere, GotHere, no-step_down, same-answer, still}
use Rattle.lock_tree.proofs.RoomKept.{room-one, room-lower, lower-left, shallow}
use Rattle.lock_tree.specs.States.{state_of}
use Rattle.lock_tree_laws.proofs.MeasureFalls.{never-then, never-moves, stays-never}
use Rattle.lock_tree.proofs.parts.Parts.go_down.Goals as goal

pub step-requires-clause-room : goal.step-requires-clause-room
step-requires-clause-room c = room-one c.args.owner c.loop-next.self c.loop-next.want.here.level c.loop-next.invariant.5

pub loop-next-init : goal.loop-next-init
loop-next-init c = (
  c.requires.whole,
  c.requires.opened,
  refl,
  refl,
  λ u d. refl,
  c.requires.room,
  stays-never (state_of c.args.self.now) c.args.owner,
  λ h. (refl, refl),
  omega arith,
  goes-none c.args.owner c.args.want.need c.args.wait _ (state_of c.args.self.now) (state_of c.args.self.now) refl refl,
)

pub loop-next-preserved : goal.loop-next-preserved
loop-next-preserved c =
    let step = c.in-Down.ensures.step in (
      c.step.ensures.whole,
      ap (λ (p : Party). p.opened) step.0,
      step.2 ∙ c.loop-next.invariant.2,
      ap (λ (p : Party). p.needs) step.0 ∙ c.loop-next.invariant.3,
      λ u d. c.step.ensures.others u d ∙ c.loop-next.invariant.4 u d,
      room-lower c.args.owner c.loop-next.self c.step.new.self c.in-Down.next.here c.loop-next.want.here step.3 c.in-Down.ensures.room c.loop-next.invariant.5,
      never-then (state_of c.args.self.now) (state_of c.loop-next.self) (state_of c.step.new.self) c.args.owner c.loop-next.invariant.6 c.in-Down.ensures.progress,
      λ h. absurd (no-step_down c.args.owner c.loop-next.self c.loop-next.want c.in-Down.next
          (still (EndsHere c.args.owner) c.args.self.now c.loop-next.self c.args.want c.loop-next.want (c.loop-next.invariant.7 h) h)
          (λ covered. (c.in-Down.ensures.covered covered).0) (λ bare may. (c.in-Down.ensures.strong bare may).0)),
      omega (arith, c.in-Down.ensures.few, lower-left c.in-Down.next.here c.loop-next.want.here step.3, c.loop-next.invariant.8),
      goes-then c.args.owner c.args.want.need c.args.wait _ (state_of c.args.self.now) (state_of c.loop-next.self) (state_of c.step.new.self) c.loop-next.invariant.3 c.loop-next.invariant.9
          (subst (λ (n : Need). GoesDown c.args.owner n c.args.wait (StepFinishes c.args.owner (Down c.in-Down.next)) (state_of c.loop-next.self) (state_of c.step.new.self)) c.loop-next.invariant.2 c.in-Down.ensures.went),
    )

pub returns-in-Ends-clause-progress : goal.returns-in-Ends-clause-progress
returns-in-Ends-clause-progress c =
    never-moves (state_of c.args.self.now) (state_of c.loop-next.self) (state_of c.step.new.self) c.args.owner c.loop-next.invariant.6 c.in-Ends.answer c.in-Ends.ensures.progress

pub returns-in-Ends-clause-covered : goal.returns-in-Ends-clause-covered
returns-in-Ends-clause-covered c = λ h.
    let e = c.loop-next.invariant.7 (inl h) in
    let got = c.in-Ends.ensures.covered (still (λ p w. is_covered (granted_at p.locks c.args.owner) w.need ≡ true) c.args.self.now c.loop-next.self c.args.want c.loop-next.want e h) in
    (same-answer c.in-Ends.answer Got got.0, got.1 ∙ ap (λ (p : Parts). p.locks) e.0, got.2 ∙ ap (λ (p : Parts). p.trail) e.0)

pub returns-in-Ends-clause-others : goal.returns-in-Ends-clause-others
returns-in-Ends-clause-others c = λ u d. c.step.ensures.others u d ∙ c.loop-next.invariant.4 u d

pub returns-in-Ends-clause-strong : goal.returns-in-Ends-clause-strong
returns-in-Ends-clause-strong c = λ bare may.
    let now : Parts = c.args.self.now in
    let w : OpenWant = c.args.want in
    let e = c.loop-next.invariant.7 (inr may) in
    let got = c.in-Ends.ensures.strong (still (λ p v. is_covered (granted_at p.locks c.args.owner) v.need ≡ false) now c.loop-next.self w c.loop-next.want e bare) (still (λ p v. MayTakeWhole p.locks c.args.owner v) now c.loop-next.self w c.loop-next.want e may) in
    let here = still (GotHere c.args.owner c.step.new.self) c.loop-next.self now c.loop-next.want w (sym e.0, sym e.1) (got.1, got.2) in
    (same-answer c.in-Ends.answer Got got.0, here.0, here.1)

pub returns-in-Ends-clause-answer : goal.returns-in-Ends-clause-answer
returns-in-Ends-clause-answer c =
    subst (λ (ws : List Need). Answered ws (state_of c.step.new.self) c.args.owner c.args.want.need c.args.wait c.in-Ends.answer) c.loop-next.invariant.3
    (subst (λ (n : Need). Answered (needs_of (state_of c.loop-next.self) c.args.owner) (state_of c.step.new.self) c.args.owner n c.args.wait c.in-Ends.answer) c.loop-next.invariant.2 c.in-Ends.ensures.step)

pub returns-in-Ends-clause-went : goal.returns-in-Ends-clause-went
returns-in-Ends-clause-went c =
    goes-then c.args.owner c.args.want.need c.args.wait _ (state_of c.args.self.now) (state_of c.loop-next.self) (state_of c.step.new.self) c.loop-next.invariant.3 c.loop-next.invariant.9
    (subst (λ (n : Need). GoesDown c.args.owner n c.args.wait (StepFinishes c.args.owner (Ends c.in-Ends.answer)) (state_of c.loop-next.self) (state_of c.step.new.self)) c.loop-next.invariant.2 c.in-Ends.ensures.went)

pub returns-in-Ends-clause-few : goal.returns-in-Ends-clause-few
returns-in-Ends-clause-few c = omega (arith, c.in-Ends.ensures.few, c.loop-next.invariant.8, shallow c.loop-next.want.here.level)
