-- A want that is got by its first step.
use Rattle.std.proofs.Common.{◌≡◌, ◌∙◌, ℕ, Bool, true, false, List, sym, ap, subst, ◌⊎◌, inl, inr, Result, Ok, Err}
use Rattle.std.specs.Prelude.{if◌then◌else◌, is_some, Option, None, IfOk}
use Rattle.std.proofs.lemmas.Bool.{false≢true, cases_Bool}
use Rattle.rdb_types.specs.declared.node.Node.{Node}
use Rattle.vms_locks.specs.Table.{Table}
use Rattle.lock_needs.specs.declared.need.Need.{Need}
use Rattle.lock_needs.specs.declared.party.OpenWant.{OpenWant}
use Rattle.lock_needs.specs.declared.party.Asked.{Asked}
use Rattle.lock_needs.specs.Needs.{is_covered}
use Rattle.lock_needs.specs.Party.{Party}
use Rattle.lock_tree.specs.declared.parts.Parts.{Parts}
use Rattle.lock_tree_laws.specs.declared.answer.Want.{Want}
use Rattle.lock_tree_laws.specs.declared.answer.Want.TheVariants.{Got}
use Rattle.lock_tree.specs.declared.steps.Step.{Step}
use Rattle.lock_tree.specs.declared.steps.Step.TheVariants.{Down, Ends}
use Rattle.lock_tree_laws.specs.LockTable.{granted_at, RaisedAt}
use Rattle.lock_tree_laws.specs.Parties.{was_asked}
use Rattle.lock_tree_laws.specs.Order.{asked_last, asks_cut, without_asks}
use Rattle.lock_tree_laws.specs.Asking.{whole_mode}
use Rattle.lock_tree_laws.specs.Forest.{State, opened_of}
use Rattle.lock_tree_laws.specs.Wanted.{MayTakeWhole, trail_of_want, want_of, GotAtOnce, GotWhole}
use Rattle.lock_tree_laws.specs.Room.{IsAsBefore}
use Rattle.lock_tree_laws.specs.LockTable.{KeepsLocks}
use Rattle.lock_tree_laws.specs.Progress.{LeavesLocks}
use Rattle.lock_tree_laws.specs.Forest.{IsWhole}
use Rattle.lock_tree_laws.specs.Wanted.{AddsAsks}
use Rattle.lock_tree_laws.specs.Rule.{Finishes, GoesDown, entered}
use Rattle.lock_tree_laws.proofs.ByRule.{goes-none, goes-then, goes-adds, goes-keeps, keeps-leaves}
use Rattle.lock_tree_laws.proofs.OpenAsks.{cut-fresh}
use Rattle.lock_tree_laws.proofs.Respared.{with_spare, same-entries}

abbrev goes_down : Step → Bool
goes_down (Down w) = true
goes_down (Ends answer) = false

abbrev answer_of : Step → Want
answer_of (Down w) = Got
answer_of (Ends answer) = answer

-- a step down ends nothing
down-ends : (w : OpenWant) (answer : Want) → Down w ≡ Ends answer → ⊥
down-ends w answer e = false≢true (ap (λ (s : Step). elim (goes_down s) [ true ↦ false | false ↦ true ]) e)

pub same-answer : (answer other : Want) → Ends answer ≡ Ends other → answer ≡ other
same-answer answer other e = ap answer_of e

-- a lock covers the want's need, or the whole need may be taken at its node
abbrev pub EndsHere : ℕ → Parts → OpenWant → Type 0
EndsHere owner p w = (is_covered (granted_at p.locks owner) w.need ≡ true) ⊎ MayTakeWhole p.locks owner w

-- the want took its whole need at its node
abbrev pub GotHere : ℕ → Parts → Parts → OpenWant → Type 0
GotHere owner new old w = RaisedAt old.locks new.locks owner w.here (whole_mode old.locks owner w) × (new.trail.items ≡ asked_last old.trail.items owner w.here)

-- where it may end no step goes down
pub no-step_down : (owner : ℕ) (p : Parts) (w v : OpenWant) → EndsHere owner p w → (is_covered (granted_at p.locks owner) w.need ≡ true → Down v ≡ Ends Got)
    → (is_covered (granted_at p.locks owner) w.need ≡ false → MayTakeWhole p.locks owner w → Down v ≡ Ends Got) → ⊥
no-step_down owner p w v (inl h) f g = down-ends v Got (f h)
no-step_down owner p w v (inr may) f g = elim (cases_Bool (is_covered (granted_at p.locks owner) w.need)) [
  | inl h ↦ down-ends v Got (f h)
  | inr bare ↦ down-ends v Got (g bare may)
]

-- what is true where the want opened is true still, where nothing has changed
pub still : (P : Parts → OpenWant → Type 0) (p q : Parts) (w v : OpenWant) → (q ≡ p) × (v ≡ w) → P p w → P q v
still P p q w v e h = subst (λ (x : Parts). P x v) (sym e.0) (subst (P p) (sym e.1) h)

-- ---- a need that is covered

-- the trail of a want that opens
pub opened-trail : (s : State) (owner : ℕ) (w : OpenWant) (cut : List Asked) → opened_of s owner ≡ None → cut ≡ asks_cut owner w s.trail → ((n : Node) → was_asked w n ≡ false) → cut ≡ trail_of_want s owner
opened-trail s owner w cut rests is never =
    is ∙ (cut-fresh owner w never s.trail ∙ sym (ap (λ (o : Option OpenWant). if is_some o then s.trail else without_asks owner s.trail) rests))

trail-same : (s m : State) (owner : ℕ) → IsAsBefore s m → trail_of_want m owner ≡ trail_of_want s owner
trail-same s m owner b =
    ap (λ (p : Party). if is_some p.opened then m.trail else without_asks owner m.trail) (b.parties owner)
    ∙ ap (λ (trail : List Asked). if is_some (opened_of s owner) then trail else without_asks owner trail) b.trail

-- room was made before
pub got-roomy : {E : Type 0} (s m r : State) (owner : ℕ) → IsAsBefore s m → (result : Result Want E) → IfOk result (GotAtOnce owner m r) → IfOk result (GotAtOnce owner s r)
got-roomy s m r owner b (Ok answer) g = record { got = g.got; table = g.table ∙ b.table; asks = g.asks ∙ trail-same s m owner b }
got-roomy s m r owner b (Err e) g = g

-- ---- a need that is taken whole

may-roomy : (old mid : Table) (owner : ℕ) (w : OpenWant) → mid.entries ≡ old.entries → MayTakeWhole old owner w → MayTakeWhole mid owner w
may-roomy old mid owner w e may = subst (λ (t : Table). MayTakeWhole t owner w) (sym (same-entries old mid e)) (record { clear = may.clear; free = may.free })

raised-roomy : (old mid new : Table) (owner : ℕ) (w : OpenWant) → mid.entries ≡ old.entries → RaisedAt mid new owner w.here (whole_mode mid owner w) → RaisedAt old new owner w.here (whole_mode old owner w)
raised-roomy old mid new owner w e raised =
    let h : RaisedAt (with_spare old mid.spare) new owner w.here (whole_mode old owner w) = subst (λ (t : Table). RaisedAt t new owner w.here (whole_mode t owner w)) (same-entries old mid e) raised in
    record { granted = h.granted; sought = h.sought }

took-roomy : {E : Type 0} (s m r : State) (owner : ℕ) (w : OpenWant) → IsAsBefore s m → (result : Result Want E) → IfOk result (GotWhole owner w m r) → IfOk result (GotWhole owner w s r)
took-roomy s m r owner w b (Ok answer) g = record {
  got = g.got;
  raised = raised-roomy s.table m.table r.table owner w b.table g.raised;
  asks = g.asks ∙ ap (λ (trail : List Asked). asked_last trail owner w.here) (trail-same s m owner b);
}
took-roomy s m r owner w b (Err e) g = g

-- room was made before
pub whole-roomy : {E : Type 0} (s m r : State) (owner : ℕ) (need : Need) → IsAsBefore s m → (result : Result Want E)
    → (MayTakeWhole m.table owner (want_of (opened_of m owner) need) → IfOk result (GotWhole owner (want_of (opened_of m owner) need) m r))
    → MayTakeWhole s.table owner (want_of (opened_of s owner) need) → IfOk result (GotWhole owner (want_of (opened_of s owner) need) s r)
whole-roomy s m r owner need b result f may =
    let w : OpenWant = want_of (opened_of s owner) need in
    took-roomy s m r owner w b result
    (subst (λ (p : Party). MayTakeWhole m.table owner (want_of p.opened need) → IfOk result (GotWhole owner (want_of p.opened need) m r)) (b.parties owner) f
    (may-roomy s.table m.table owner w b.table may))

-- ---- how a want went down

pub went-roomy : {E : Type 0} (s m r : State) (owner : ℕ) (need : Need) (wait : Bool) → IsAsBefore s m → (result : Result Want E) → IfOk result (λ a. GoesDown owner need wait (Finishes owner a) (entered m owner) r)
    → IfOk result (λ a. GoesDown owner need wait (Finishes owner a) (entered s owner) r)
went-roomy s m r owner need wait b (Ok answer) g =
    goes-then owner need wait (Finishes owner answer) (entered s owner) (entered m owner) r (ap (λ (p : Party). p.needs) (b.parties owner))
    (goes-none owner need wait _ (entered s owner) (entered m owner) (trail-same s m owner b) b.table) g
went-roomy s m r owner need wait b (Err e) g = g

pub went-adds : {E : Type 0} (s r : State) (owner : ℕ) (need : Need) (wait : Bool) → (result : Result Want E) → IfOk result (λ a. GoesDown owner need wait (Finishes owner a) (entered s owner) r)
    → IfOk result (λ a. AddsAsks owner need (trail_of_want s owner) r.trail)
went-adds s r owner need wait (Ok answer) g = goes-adds owner need wait (Finishes owner answer) (entered s owner) r g
went-adds s r owner need wait (Err e) g = g

pub went-keeps : {E : Type 0} (s r : State) (owner : ℕ) (need : Need) (wait : Bool) → (result : Result Want E) → IfOk result (λ a. GoesDown owner need wait (Finishes owner a) (entered s owner) r)
    → IfOk result (λ a. KeepsLocks owner s.table r.table)
went-keeps s r owner need wait (Ok answer) g = goes-keeps owner need wait answer (entered s owner) r g
went-keeps s r owner need wait (Err e) g = g

pub went-leaves : {E : Type 0} (s r : State) (owner : ℕ) → IsWhole s → (result : Result Want E) → IfOk result (λ a. KeepsLocks owner s.table r.table) → IfOk result (λ a. LeavesLocks owner s.table r.table)
went-leaves s r owner whole (Ok answer) k = keeps-leaves owner s.table r.table whole.intents k
went-leaves s r owner whole (Err e) k = k
