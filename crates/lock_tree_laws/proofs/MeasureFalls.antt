-- The measure falls where a stronger lock than needed comes down, and where an open want comes further or ends.
use Rattle.std.proofs.Common.{◌≡◌, ℕ, ◌+◌, ◌*◌, ◌-◌, ◌<◌, ◌≤◌, Bool, true, false, sym, ap, subst, inl, inr, refl, List, [], ◌∷◌, ◌∙◌, arith, Result, Ok, Err}
use Rattle.std.specs.Prelude.{IfOk, is_some, ◌==◌, if◌then◌else◌, Option, Some, None}
use Rattle.std.specs.List.{sum_by, count_by}
use Rattle.std.proofs.Math.Nat.{le_of_eq, le_of_lt}
use Rattle.std.proofs.lemmas.Bool.{false≢true, cases_Bool, eqb-true}
use Rattle.std.proofs.lemmas.List.Sums.{sum_by-le-sum_by}
use Rattle.rdb_types.specs.declared.node.Level.{Level}
use Rattle.rdb_types.specs.declared.node.Level.TheVariants.{Area, Range, Page, Line, Journal}
use Rattle.rdb_types.specs.declared.node.Node.{Node}
use Rattle.vms_queues.specs.Modes.{at_most}
use Rattle.vms_queues.specs.Queues.{Queues}
use Rattle.vms_locks.specs.Table.{Table}
use Rattle.lock_needs.specs.declared.party.OpenWant.{OpenWant}
use Rattle.lock_needs.specs.Party.{Party}
use Rattle.lock_needs.specs.Nodes.{is_on, above_of}
use Rattle.lock_needs.specs.declared.need.Need.{Need}
use Rattle.lock_needs.specs.Needs.{Holding}
use Rattle.lock_needs.proofs.ModeTables.{at_most-refl}
use Rattle.lock_tree_laws.specs.LockTable.{granted_at, sought_at, HasIntents}
use Rattle.lock_tree_laws.specs.Parties.{IsKept, unasked, asked_at}
use Rattle.lock_tree_laws.specs.Order.{MakesWay}
use Rattle.lock_tree_laws.specs.declared.answer.Want.{Want}
use Rattle.lock_tree_laws.specs.declared.answer.Want.TheVariants.{Got, NoticeTo, Asleep, Conflict, Deadlock}
use Rattle.lock_tree_laws.specs.Forest.{State, IsWhole, KeepsParties, opened_of, party_of}
use Rattle.lock_tree_laws.specs.Room.{depth}
use Rattle.lock_tree_laws.specs.Progress.{has_mode, steps_here, steps_left, steps_for, steps_of, spares_of, is_spare, is_spare_over, measure, Falls, NeverRises, IsServedAt, LeavesLocks, LeavesOthers, MovesOn}
use Rattle.lock_tree_laws.proofs.Falling.{sum-less, less-by_level, less-most, most-trans, counted_at}
use Rattle.lock_tree_laws.proofs.Measured.{steps-less, one-under, on-depth, served-spare, spares-most, down-steps, down-most, down-less}

-- whoever it is, it is the owner or another
each-owner : (owner : ℕ) (P : ℕ → Type 0) → P owner → ((u : ℕ) → (u == owner) ≡ false → P u) → (u : ℕ) → P u
each-owner owner P own other u = elim (cases_Bool (u == owner)) [
  | inl e ↦ subst P (sym (eqb-true u owner e)) own
  | inr d ↦ other u d
]

-- who makes way leaves the others what they held, or grants them what they asked
pub way-leaves : (old new : Table) (owner : ℕ) → HasIntents old → MakesWay owner old new → LeavesLocks owner old new
way-leaves old new owner intents way u x d = elim (way.granted u x d) [
  | inl e ↦ subst (λ y. at_most (granted_at old u x) y ≡ true) (sym e) (at_most-refl (granted_at old u x))
  | inr e ↦ subst (λ y. at_most (granted_at old u x) y ≡ true) (sym e) (intents.ascends u x)
]

other-steps : (s r : State) (owner : ℕ) → LeavesOthers owner s r → (u : ℕ) → (u == owner) ≡ false → steps_of r u ≤ steps_of s u
other-steps s r owner l u d =
    subst (λ (p : Party). steps_for (granted_at r.table u) p.opened ≤ steps_of s u) (sym (l.parties u d))
    (steps-less (granted_at s.table u) (granted_at r.table u) (λ x. l.locks u x d) (opened_of s u))

-- ---- a lock comes down

module _ (s r : State) (owner : ℕ) (n : Node) (before : IsWhole s) (after : IsWhole r) (same : (u : ℕ) → party_of r.parties u ≡ party_of s.parties u) (served : IsServedAt owner (party_of s.parties owner) n s.table r.table)
    (excess : is_spare (granted_at s.table owner) (party_of s.parties owner) n ≡ true) where
  leaves : LeavesOthers owner s r
  leaves = record { parties = λ u d. same u; locks = way-leaves s.table r.table owner before.intents served.way }

  -- the new state's parties are the old ones
  by-party : (u : ℕ) (P : Party → Type 0) → P (party_of s.parties u) → P (party_of r.parties u)
  by-party u P h = subst P (sym (same u)) h

  kept-after : (u : ℕ) → IsKept r.table u (party_of s.parties u)
  kept-after u = subst (IsKept r.table u) (same u) (after.kept u)

  all-steps : (u : ℕ) → steps_of r u ≤ steps_of s u
  all-steps =
      each-owner owner (λ u. steps_of r u ≤ steps_of s u)
      (by-party owner (λ p. steps_for (granted_at r.table owner) p.opened ≤ steps_of s owner)
      (le_of_eq (down-steps (granted_at s.table owner) (granted_at r.table owner) (sought_at s.table owner) (party_of s.parties owner) n (before.kept owner) excess (served.least excess) served.elsewhere)))
      (other-steps s r owner leaves)

  all-spares : (level : Level) → depth level ≤ depth n.level → (u : ℕ) → spares_of r level u ≤ spares_of s level u
  all-spares level d =
      each-owner owner (λ u. spares_of r level u ≤ spares_of s level u)
      (by-party owner (λ p. count_by (is_spare_over (granted_at r.table owner) p level) p.needs ≤ spares_of s level owner)
      (down-most (granted_at s.table owner) (granted_at r.table owner) (sought_at s.table owner) (party_of s.parties owner) n (before.kept owner) excess (served.least excess) served.elsewhere level d))
      (λ u o. by-party u (λ p. count_by (is_spare_over (granted_at r.table u) p level) p.needs ≤ spares_of s level u)
      (spares-most (granted_at s.table u) (granted_at r.table u) (party_of s.parties u) level
      (λ x e. served-spare (granted_at s.table u) (granted_at r.table u) (sought_at s.table u) (sought_at r.table u) (party_of s.parties u) (λ y. served.way.granted u y o) (before.kept u) (kept-after u) x)))

  own-spares : spares_of r (counted_at n.level) owner < spares_of s (counted_at n.level) owner
  own-spares =
      by-party owner (λ p. count_by (is_spare_over (granted_at r.table owner) p (counted_at n.level)) p.needs < spares_of s (counted_at n.level) owner)
      (down-less (granted_at s.table owner) (granted_at r.table owner) (sought_at s.table owner) (party_of s.parties owner) n (before.kept owner) excess (served.least excess) served.elsewhere)

  -- A lock that was stronger than it had to be has come down.
  pub served-falls : Falls owner s r
  served-falls us has =
      less-by_level (λ l. sum_by (spares_of r l) us) (λ l. sum_by (spares_of s l) us) n.level (sum_by (steps_of r) us) (sum_by (steps_of s) us)
      (sum_by-le-sum_by (steps_of r) (steps_of s) us all-steps)
      (λ l d. sum_by-le-sum_by (spares_of r l) (spares_of s l) us (all-spares l d))
      (sum-less (spares_of r (counted_at n.level)) (spares_of s (counted_at n.level)) (all-spares (counted_at n.level) (counted-depth n.level)) (λ u. u == owner)
      (λ u e. subst (λ v. spares_of r (counted_at n.level) v < spares_of s (counted_at n.level) v) (sym (eqb-true u owner e)) own-spares) us has)
    where
      counted-depth : (l : Level) → depth (counted_at l) ≤ depth l
      counted-depth Area = omega arith
      counted-depth Range = omega arith
      counted-depth Page = omega arith
      counted-depth Line = omega arith
      counted-depth Journal = omega arith

-- nothing changed that is counted
pub same-never : (s r : State) (owner : ℕ) → r.table.entries ≡ s.table.entries → ((u : ℕ) → party_of r.parties u ≡ party_of s.parties u) → NeverRises owner s r
same-never s r owner table same us has =
    let parties : party_of r.parties ≡ party_of s.parties = λ i u. same u i in
    inl (ap (λ (es : List (Node × Queues)). counts (record { entries = es; spare = r.table.spare }) (party_of r.parties)) table ∙ ap (counts s.table) parties)
  where
    spares : Table → (ℕ → Party) → Level → ℕ
    spares t party level = sum_by (λ u. count_by (is_spare_over (granted_at t u) (party u) level) (party u).needs) us

    counts : Table → (ℕ → Party) → List ℕ
    counts t party =
        sum_by (λ u. steps_for (granted_at t u) (party u).opened) us ∷ spares t party Area ∷ spares t party Range ∷ spares t party Page ∷ spares t party Line ∷ []

-- A notice was served, or there was nothing to do.
pub served-never : (s r : State) (owner : ℕ) (n : Node) → IsWhole s → IsWhole r → ((u : ℕ) → party_of r.parties u ≡ party_of s.parties u) → IsServedAt owner (party_of s.parties owner) n s.table r.table → NeverRises owner s r
served-never s r owner n before after same served us has = elim (cases_Bool (is_spare (granted_at s.table owner) (party_of s.parties owner) n)) [
  | inl t ↦ inr (served-falls s r owner n before after same served t us has)
  | inr f ↦ same-never s r owner (ap (λ (t : Table). t.entries) (served.unchanged f)) same us has
]

-- ---- one call after another

pub stays-never : (s : State) (owner : ℕ) → NeverRises owner s s
stays-never s owner us has = inl refl

pub never-then : (s m r : State) (owner : ℕ) → NeverRises owner s m → NeverRises owner m r → NeverRises owner s r
never-then s m r owner f g us has = most-trans (measure us r) (measure us m) (measure us s) (g us has) (f us has)

pub falls-never : (s r : State) (owner : ℕ) → Falls owner s r → NeverRises owner s r
falls-never s r owner f us has = inr (f us has)

pub never-falls : (s m r : State) (owner : ℕ) → NeverRises owner s m → Falls owner m r → Falls owner s r
never-falls s m r owner f g us has = less-most (measure us r) (measure us m) (measure us s) (g us has) (f us has)

pub never-moves : (s m r : State) (owner : ℕ) → NeverRises owner s m → (answer : Want) → MovesOn owner m r answer → MovesOn owner s r answer
never-moves s m r owner f (NoticeTo t n mode) g = never-then s m r owner f g
never-moves s m r owner f (Asleep t) g = never-then s m r owner f g
never-moves s m r owner f Got g = never-falls s m r owner f g
never-moves s m r owner f (Conflict t) g = never-falls s m r owner f g
never-moves s m r owner f (Deadlock cycle) g = never-falls s m r owner f g

-- the same of a call that may have wanted memory
pub never-calls : {E : Type 0} (s m r : State) (owner : ℕ) → NeverRises owner s m → (result : Result Want E) → IfOk result (MovesOn owner m r) → IfOk result (MovesOn owner s r)
never-calls s m r owner f (Ok answer) g = never-moves s m r owner f answer g
never-calls s m r owner f (Err e) g = g

-- ---- an open want comes further

-- its owner has fewer steps to go, and the others no more
pub fewer-falls : (s r : State) (owner : ℕ) → LeavesOthers owner s r → steps_of r owner < steps_of s owner → Falls owner s r
fewer-falls s r owner l f us has =
    inl (sum-less (steps_of r) (steps_of s)
    (each-owner owner (λ u. steps_of r u ≤ steps_of s u) (le_of_lt f) (other-steps s r owner l))
    (λ u. u == owner) (λ u e. subst (λ v. steps_of r v < steps_of s v) (sym (eqb-true u owner e)) f) us has)

-- something is left to do at each node
some-step : (asked has : Bool) → 0 < (if asked then (if has then 1 else 2) else 3)
some-step true true = omega arith
some-step true false = omega arith
some-step false has = omega arith

-- the want was asked at its node
pub asked-fewer : (s r : State) (owner : ℕ) (w : OpenWant) → opened_of s owner ≡ Some (unasked w) → opened_of r owner ≡ Some (asked_at w w.here) → steps_of r owner < steps_of s owner
asked-fewer s r owner w o q =
    subst (λ (a : Option OpenWant). steps_for (granted_at r.table owner) a < steps_of s owner) (sym q)
    (subst (λ (a : Option OpenWant). steps_left (granted_at r.table owner) (asked_at w w.here) < steps_for (granted_at s.table owner) a) (sym o)
    (under (3 * (depth w.need.node.level - depth w.here.level)) (has_mode (granted_at r.table owner) w)))
  where
    under : (x : ℕ) (b : Bool) → x + (if b then 1 else 2) < x + 3
    under x true = omega arith
    under x false = omega arith

-- granted its mode at a node, the want has come to the next one on its way
pub next-fewer : (s r : State) (owner : ℕ) (w v : OpenWant) → opened_of s owner ≡ Some w → opened_of r owner ≡ Some v → v ≡ unasked v → v.need ≡ w.need → above_of v.here ≡ Some w.here → is_on v.here v.need.node ≡ true → steps_of r owner < steps_of s owner
next-fewer s r owner w v o q fresh same above on =
    let held : Holding = granted_at s.table owner in
    let more : Holding = granted_at r.table owner in
    subst (λ (a : Option OpenWant). steps_for more a < steps_of s owner) (sym q)
    (subst (λ (a : Option OpenWant). steps_left more v < steps_for held a) (sym o)
    (subst (λ (b : Bool). 3 * (depth v.need.node.level - depth v.here.level) + (if b then (if has_mode more v then 1 else 2) else 3) < steps_left held w) (sym (ap (λ (u : OpenWant). u.is_asked) fresh))
    (subst (λ (m : Need). 3 * (depth m.node.level - depth v.here.level) + 3 < steps_left held w) (sym same)
    (further (depth w.need.node.level) (depth w.here.level) (depth v.here.level) (steps_here held w) (one-under v.here w.here above)
    (subst (λ (m : Need). depth v.here.level ≤ depth m.node.level) same (on-depth v.here v.need.node on)) (some-step w.is_asked (has_mode held w))))))
  where
    further : (d up here h : ℕ) → here ≡ up + 1 → here ≤ d → 0 < h → 3 * (d - here) + 3 < 3 * (d - up) + h
    further d up here h e f g = omega arith

-- the want has ended
pub ended-fewer : (s r : State) (owner : ℕ) (w : OpenWant) → opened_of s owner ≡ Some w → opened_of r owner ≡ None → steps_of r owner < steps_of s owner
ended-fewer s r owner w o q =
    subst (λ (a : Option OpenWant). steps_for (granted_at r.table owner) a < steps_of s owner) (sym q)
    (subst (λ (a : Option OpenWant). 0 < steps_for (granted_at s.table owner) a) (sym o)
    (any (3 * (depth w.need.node.level - depth w.here.level)) (steps_here (granted_at s.table owner) w) (some-step w.is_asked (has_mode (granted_at s.table owner) w))))
  where
    any : (x h : ℕ) → 0 < h → 0 < x + h
    any x h f = omega arith

-- ---- as the steps of a want do it

-- the want has ended, and no lock of another is weaker
pub ended-falls : (s r : State) (owner : ℕ) (w : OpenWant) → KeepsParties owner s.parties r.parties → LeavesLocks owner s.table r.table → opened_of s owner ≡ Some w → opened_of r owner ≡ None → Falls owner s r
ended-falls s r owner w same locks o q = fewer-falls s r owner (record { parties = same; locks = locks }) (ended-fewer s r owner w o q)

-- the owner had a want open and has none, and no lock of another is weaker
pub closed-falls : (s r : State) (owner : ℕ) → LeavesOthers owner s r → is_some (opened_of s owner) ≡ true → opened_of r owner ≡ None → Falls owner s r
closed-falls s r owner l open_ q =
    let o = some-want (opened_of s owner) open_ in
    fewer-falls s r owner l (ended-fewer s r owner o.0 o.1 q)
  where
    some-want : (o : Option OpenWant) → is_some o ≡ true → (w : OpenWant) × (o ≡ Some w)
    some-want (Some w) h = (w, refl)
    some-want None h = absurd (false≢true h)

-- the want was asked at its node, and was granted there or is queued
pub asked-never : (s r : State) (owner : ℕ) (w : OpenWant) → LeavesOthers owner s r → opened_of s owner ≡ Some (unasked w) → opened_of r owner ≡ Some (asked_at w w.here) → NeverRises owner s r
asked-never s r owner w l o q = falls-never s r owner (fewer-falls s r owner l (asked-fewer s r owner w o q))

-- the want goes one node down, and no lock changed
pub next-never : (s r : State) (owner : ℕ) (w v : OpenWant) → r.table ≡ s.table → KeepsParties owner s.parties r.parties → opened_of s owner ≡ Some w → opened_of r owner ≡ Some v → v.need ≡ w.need → v ≡ unasked v → above_of v.here ≡ Some w.here → is_on v.here v.need.node ≡ true → NeverRises owner s r
next-never s r owner w v table same o q need fresh above on =
    falls-never s r owner
    (fewer-falls s r owner
    (record { parties = same; locks = λ u x d. subst (λ (t : Table). at_most (granted_at s.table u x) (granted_at t u x) ≡ true) (sym table) (at_most-refl (granted_at s.table u x)) })
    (next-fewer s r owner w v o q fresh need above on))

-- nothing changed that is counted of the owner, nor of the others
pub left-never : (s r : State) (owner : ℕ) → r.table ≡ s.table → party_of r.parties owner ≡ party_of s.parties owner → KeepsParties owner s.parties r.parties → NeverRises owner s r
left-never s r owner table own same = same-never s r owner (ap (λ (t : Table). t.entries) table) (each-owner owner (λ u. party_of r.parties u ≡ party_of s.parties u) own same)
