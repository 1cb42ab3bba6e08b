-- What a look at the want's node tells of the tree, and what a step adds.
use Rattle.std.proofs.Common.{◌≡◌, ℕ, Bool, List, sym, subst, ap}
use Rattle.vms_queues.specs.declared.lock_mode.Mode.{Mode}
use Rattle.vms_locks.specs.Table.{Table}
use Rattle.vms_locks.specs.declared.answer.Enq.{Enq}
use Rattle.vms_locks.specs.declared.answer.Enq.TheVariants.{NotQueued, Deadlock}
use Rattle.lock_needs.specs.declared.need.Need.{Need}
use Rattle.lock_needs.specs.declared.party.OpenWant.{OpenWant}
use Rattle.lock_needs.specs.Party.{Party}
use Rattle.lock_tree.specs.declared.looking.Look.{Look}
use Rattle.lock_tree.specs.declared.looking.Look.TheVariants.{NoticeTo, Asked}
use Rattle.lock_tree.specs.declared.steps.Step.{Step}
use Rattle.lock_tree.specs.declared.steps.Step.TheVariants.{Down, Ends}
use Rattle.lock_tree_laws.specs.Parties.{wanting, unasked, asked_at}
use Rattle.lock_tree_laws.specs.Inner.Answering.{ComesDown, TakesAnswer, AsksAt}
use Rattle.lock_tree_laws.specs.Forest.{State, party_of}
use Rattle.lock_tree.specs.Inner.Looking.{TakesLook}
use Rattle.lock_tree_laws.specs.Asking.{IsDue}
use Rattle.lock_tree_laws.specs.Wanted.{needs_of}
use Rattle.lock_tree.specs.Inner.Stepping.{Steps, StepsOn, StepFinishes}
use Rattle.lock_tree_laws.proofs.ByRule.{finishes-same}
use Rattle.lock_tree_laws.specs.Progress.{NeverRises}
use Rattle.lock_tree_laws.proofs.MeasureFalls.{never-then, never-moves}

module _ (s : State) (t : Table) (owner : ℕ) (w : OpenWant) (wait : Bool) (look : Look) (p : Party) (is : p ≡ party_of s.parties owner) (h : TakesLook s.table t s.parties owner p.needs w wait look) where
  taken : TakesLook s.table t s.parties owner (needs_of s owner) w wait look
  taken = subst (λ (q : Party). TakesLook s.table t s.parties owner q.needs w wait look) is h

  pub look-due : (other : ℕ) (mode : Mode) → look ≡ NoticeTo other mode → ComesDown owner (wanting (needs_of s owner) (unasked w)) s.table t × IsDue t s.parties owner (unasked w) other mode
  look-due other mode e =
      let d : ComesDown owner (wanting (needs_of s owner) (unasked w)) s.table t × IsDue t s.parties owner w other mode = subst (TakesLook s.table t s.parties owner (needs_of s owner) w wait) e taken in
      (d.0, record { asks = d.1.asks; other = d.1.other; in_way = d.1.in_way; excess = d.1.excess; first = d.1.first })

  pub look-asked : (a b : Enq) → look ≡ Asked a → a ≡ b → TakesAnswer t owner (needs_of s owner) w wait b × AsksAt s.parties owner w wait s.table t b
  look-asked a b e f = subst (λ (x : Enq). TakesLook s.table t s.parties owner (needs_of s owner) w wait (Asked x)) f (subst (TakesLook s.table t s.parties owner (needs_of s owner) w wait) e taken)

-- a refusal leaves the table as it was when its owner had come down
pub refused-down : (s : State) (t : Table) (owner : ℕ) (w : OpenWant) (wait : Bool) (b : ℕ) → AsksAt s.parties owner w wait s.table t (NotQueued b) → ComesDown owner (party_of s.parties owner) s.table t
refused-down s t owner w wait b a = subst (ComesDown owner (party_of s.parties owner) s.table) (sym a.exact.3) a.down

pub deadlock-down : (s : State) (t : Table) (owner : ℕ) (w : OpenWant) (wait : Bool) (cycle : List ℕ) → AsksAt s.parties owner w wait s.table t (Deadlock cycle) → ComesDown owner (party_of s.parties owner) s.table t
deadlock-down s t owner w wait cycle a = subst (ComesDown owner (party_of s.parties owner) s.table) (sym a.exact.3) a.down

steps-alike : (ws : List Need) (s : State) (owner : ℕ) (w : OpenWant) (wait : Bool) (step : Step) → Steps ws s owner (asked_at w w.here) wait step → Steps ws s owner w wait step
steps-alike ws s owner w wait (Down v) h = h
steps-alike ws s owner w wait (Ends answer) h = h

-- a step of the want, once it was asked at its node
pub steps-asked : (ws vs : List Need) (s : State) (owner : ℕ) (w v : OpenWant) (wait : Bool) → vs ≡ ws → v ≡ asked_at w w.here → (step : Step) → Steps vs s owner v wait step → Steps ws s owner w wait step
steps-asked ws vs s owner w v wait e f step h =
    steps-alike ws s owner w wait step (subst (λ (u : OpenWant). Steps ws s owner u wait step) f (subst (λ (us : List Need). Steps us s owner v wait step) e h))

-- what never raises the measure, and then a step that doesn't
pub never-steps : (s m r : State) (owner : ℕ) → NeverRises owner s m → (step : Step) → StepsOn owner m r step → StepsOn owner s r step
never-steps s m r owner f (Down w) g = never-then s m r owner f g
never-steps s m r owner f (Ends answer) g = never-moves s m r owner f answer g

-- a step that leaves the table as it was
pub finishes-still : (owner : ℕ) (last new : Table) → new ≡ last → (step : Step) → StepFinishes owner step last new
finishes-still owner last new e (Down w) = ap (λ (t : Table). t.entries) e
finishes-still owner last new e (Ends answer) = finishes-same owner last new e answer
