-- What is true of every owner stays while one owner's lock comes down.
use Rattle.std.proofs.Common.{◌≡◌, ℕ, Bool, true, false, refl, sym, ◌∙◌, ap, subst, ◌⊎◌, inl, inr, List, [], ◌∷◌}
use Rattle.std.specs.Prelude.{◌&&◌, ◌||◌, ◌==◌, not, if◌then◌else◌, Option, Some, None}
use Rattle.std.proofs.lemmas.Bool.{false≢true, and_parts, and_from, or_right, or_parts, cases_Bool, and_left, and_right}
use Rattle.rdb_types.specs.declared.node.Node.{Node}
use Rattle.vms_queues.specs.declared.lock_mode.Mode.{Mode}
use Rattle.vms_queues.specs.declared.lock_mode.Mode.TheVariants.{NL}
use Rattle.vms_queues.specs.Modes.{at_most, least_above, intent}
use Rattle.vms_locks.specs.Table.{Table}
use Rattle.lock_needs.specs.declared.need.Need.{Need}
use Rattle.lock_needs.specs.declared.party.OpenWant.{OpenWant}
use Rattle.lock_needs.specs.Party.{Party}
use Rattle.lock_needs.specs.Nodes.{same_node, contains, is_on}
use Rattle.lock_needs.specs.Needs.{Holding}
use Rattle.lock_needs.specs.Keeping.{below, needed_on, is_excess, is_enough}
use Rattle.lock_needs.specs.Wants.{mode_for, opened_at, kept_at, intents_on, earned_at, sleeps_at}
use Rattle.lock_needs.proofs.ModeTables.{at_most-trans, join-left, join-right, intent-join, intent-twice}
use Rattle.lock_needs.proofs.NodeLaws.{same_node-true}
use Rattle.lock_needs.proofs.Enough.{earned-kept, excess-parts, enough-must_keep}
use Rattle.lock_needs.proofs.Joins.{join-none_right}
use Rattle.lock_tree_laws.specs.LockTable.{granted_at, sought_at, HasIntents, LoweredAt}
use Rattle.lock_tree_laws.specs.Parties.{IsKeptBut, IsKept, HasReason, was_asked, is_needed, nowhere}
use Rattle.lock_tree_laws.specs.Inner.Lowering.{MayComeDown, HasTaken, BroughtDown}
use Rattle.lock_tree_laws.proofs.OwnLocks.{own-taken, own-lowered, asked-under, opened-same}
use Rattle.lock_tree_laws.proofs.Waking.{woken-kept}
use Rattle.lock_tree_laws.proofs.Weakening.{own-mode, lowered-covered, lowered-intents}

-- ---- others

-- what is true everywhere is true but at some nodes
pub but-more : (but : Node → Bool) (held sought : Holding) (p : Party) → IsKeptBut nowhere held sought p → IsKeptBut but held sought p
but-more but held sought p k = record {
  covered = k.covered;
  plain = k.plain;
  way = k.way;
  granted = k.granted;
  awake = k.awake;
  asleep = k.asleep;
  exact = k.exact;
  earned = λ x b. k.earned x refl;
  no_stray = λ x b. k.no_stray x refl;
}

-- what is true of an owner, told by what it holds and asks at each node
pub kept-alike : (but : Node → Bool) (held more sought seeks : Holding) (p : Party) → ((x : Node) → more x ≡ held x) → ((x : Node) → seeks x ≡ sought x) → IsKeptBut but held sought p → IsKeptBut but more seeks p
kept-alike but held more sought seeks p e f k =
    let same : held ≡ more = λ i x. sym (e x) i in
    let asks : sought ≡ seeks = λ i x. sym (f x) i in
    subst (λ (h : Holding). IsKeptBut but h seeks p) same (subst (λ (s : Holding). IsKeptBut but held s p) asks k)

pub taken-others : (old new : Table) (owner : ℕ) (n : Node) (ws : List Need) → HasTaken owner n ws old new → (u : ℕ) (q : Party) → (u == owner) ≡ false → IsKept old u q → IsKept new u q
taken-others old new owner n ws f u q d k =
    kept-alike nowhere (granted_at old u) (granted_at new u) (sought_at old u) (sought_at new u) q (λ x. f.others u x d) (λ x. f.sought_others u x d) k

pub lowered-others : (old new : Table) (owner : ℕ) (n : Node) (keep : Mode) → LoweredAt old new owner n keep → HasIntents old → (u : ℕ) (q : Party) → (u == owner) ≡ false → IsKept old u q → IsKept new u q
lowered-others old new owner n keep low intents u q d k =
    kept-alike nowhere (granted_at new u) (granted_at new u) (sought_at old u) (sought_at new u) q (λ x. refl) (λ x. low.sought_others u x (and_left (u == owner) (same_node x n) d))
    (woken-kept (granted_at old u) (granted_at new u) (sought_at old u) q either (intents.ascends u) k)
  where
    either : (x : Node) → (granted_at new u x ≡ granted_at old u x) ⊎ (granted_at new u x ≡ sought_at old u x)
    either x = elim (cases_Bool (same_node x n)) [
      | inr e ↦ inl (low.elsewhere u x e)
      | inl s ↦ subst (λ (z : Node). (granted_at new u z ≡ granted_at old u z) ⊎ (granted_at new u z ≡ sought_at old u z)) (sym (same_node-true x n s)) (low.others u d)
    ]

-- ---- the owner

module _ (old new : Table) (owner : ℕ) (n : Node) (p : Party) (unasked : (w : OpenWant) → p.opened ≡ Some w → was_asked w n ≡ false) where
  -- a node where the want was asked isn't under this one
  outside : (w : OpenWant) (x : Node) → p.opened ≡ Some w → was_asked w x ≡ true → contains n x ≡ false
  outside w x e asked =
      elim (cases_Bool (contains n x)) [
        | inr f ↦ f
        | inl c ↦ absurd (false≢true (sym (asked-under w n x (unasked w e) c) ∙ asked))
      ]

  pub taken-kept : (but : Node → Bool) → HasTaken owner n p.needs old new → IsKeptBut but (granted_at old owner) (sought_at old owner) p → IsKeptBut but (granted_at new owner) (sought_at new owner) p
  taken-kept but f k =
      own-taken but (granted_at old owner) (granted_at new owner) (sought_at old owner) (sought_at new owner) p f.more
      (λ w x e asked. f.elsewhere x (outside w x e asked)) (λ w x e asked. f.sought_elsewhere x (outside w x e asked))
      f.sought f.reason f.earned k

-- the lock was stronger than it has to be at no node where the open want was asked
pub excess-unasked : (held sought : Holding) (p : Party) (n : Node) → IsKeptBut nowhere held sought p → is_excess (held n) (kept_at held p n) ≡ true → (w : OpenWant) → p.opened ≡ Some w → was_asked w n ≡ false
excess-unasked held sought p n k x w e =
    elim (cases_Bool (was_asked w n)) [
      | inr f ↦ f
      | inl t ↦ absurd (false≢true (sym (excess-parts (at_most (kept_at held p n) (held n)) (at_most (held n) (kept_at held p n)) x).1 ∙ k.exact n w e t))
    ]

-- who hasn't asked at a node has nothing queued there or below
pub unasked-awake : (but : Node → Bool) (held sought : Holding) (p : Party) (n : Node) → IsKeptBut but held sought p → ((w : OpenWant) → p.opened ≡ Some w → was_asked w n ≡ false) → sought n ≡ held n
unasked-awake but held sought p n k unasked = k.awake n (go p.opened refl)
  where
    go : (q : Option OpenWant) → p.opened ≡ q → sleeps_at held q n ≡ false
    go None e = refl
    go (Some w) e =
        elim (cases_Bool (sleeps_at held (Some w) n)) [
          | inr f ↦ f
          | inl t ↦
              let a = and_parts (same_node n w.here) (w.is_asked && not (at_most (mode_for w.need n) (held n))) t in
              let b = and_parts w.is_asked (not (at_most (mode_for w.need n) (held n))) a.1 in
              absurd (false≢true (sym (unasked w e) ∙ or_right (contains n w.here) (same_node n w.here && w.is_asked) (and_from (same_node n w.here) w.is_asked a.0 b.0)))
        ]

-- The lock at the node, where the open want wasn't asked, may come down to what is enough below it.
pub may-come-down : (t : Table) (owner : ℕ) (p : Party) (n : Node) (keep : Mode) → HasIntents t → IsKeptBut (λ x. same_node x n) (granted_at t owner) (sought_at t owner) p → ((w : OpenWant) → p.opened ≡ Some w → was_asked w n ≡ false)
    → ((c : Node) → contains n c ≡ true → at_most (intent (granted_at t owner c)) keep ≡ true) → at_most keep (granted_at t owner n) ≡ true → MayComeDown t owner n keep
may-come-down t owner p n keep intents k unasked earned weaker = record {
  intents = intents;
  earned = earned;
  awake = λ c h. unasked-awake (λ x. same_node x n) (granted_at t owner) (sought_at t owner) p c k (λ w e. asked-under w n c (unasked w e) h);
  awake_here = unasked-awake (λ x. same_node x n) (granted_at t owner) (sought_at t owner) p n k unasked;
  weaker = weaker;
}

module _ (old new : Table) (owner : ℕ) (n : Node) (keep : Mode) (needs : List Need) (b : BroughtDown owner n keep needs old new) where
  pub brought-others : (u : ℕ) (q : Party) → (u == owner) ≡ false → IsKept old u q → IsKept new u q
  brought-others u q d k = lowered-others b.between new owner n keep b.lowered b.ready.intents u q d (taken-others old b.between owner n needs b.taken u q d k)

  pub brought-intents : HasIntents new
  brought-intents = lowered-intents b.between new owner n keep b.ready b.lowered

module _ (old new : Table) (owner : ℕ) (n : Node) (keep : Mode) (p : Party) (unasked : (w : OpenWant) → p.opened ≡ Some w → was_asked w n ≡ false) (b : BroughtDown owner n keep p.needs old new) where
  same-opened : (x : Node) → opened_at (granted_at b.between owner) p.opened x ≡ opened_at (granted_at old owner) p.opened x
  same-opened x = opened-same (granted_at old owner) (granted_at b.between owner) p.opened (λ w y e asked. b.taken.elsewhere y (outside old b.between owner n p unasked w y e asked)) x

  pub brought-kept : IsKeptBut (λ x. same_node x n) (granted_at old owner) (sought_at old owner) p → at_most (intent keep) (earned_at (granted_at old owner) p n) ≡ true → HasReason (granted_at old owner) p n keep → IsKept new owner p
  brought-kept k owed reason =
      own-lowered (granted_at b.between owner) (granted_at new owner) (sought_at b.between owner) (sought_at new owner) p n keep
      (own-mode b.between new owner n keep b.ready b.lowered) b.lowered.sought_own
      (λ x d. b.lowered.sought_others owner x (and_right (owner == owner) (same_node x n) d))
      unasked (lowered-covered b.between new owner n keep b.ready b.lowered p.needs b.covered)
      (subst (λ (y : Mode). at_most (intent keep) (least_above (intent y) (intents_on p.needs n)) ≡ true) (sym (same-opened n)) owed)
      (subst (λ (y : Mode). (keep ≡ NL) ⊎ ((at_most y NL ≡ false) ⊎ (is_needed p.needs n ≡ true))) (sym (same-opened n)) reason)
      (taken-kept old b.between owner n p unasked (λ x. same_node x n) b.taken k)

-- ---- what is kept is earned

pub below-owed : (ws : List Need) (n : Node) → at_most (intent (below ws n)) (intents_on ws n) ≡ true
below-owed [] n = refl
below-owed (w ∷ ws) n =
    let rest : Mode = intents_on ws n in
    elim (cases_Bool (contains n w.node)) [
      | inl c ↦
          subst (λ (b : Bool). at_most (intent (if b then least_above (intent w.mode) (below ws n) else below ws n)) (if is_on n w.node then least_above (intent w.mode) rest else rest) ≡ true) (sym c)
          (subst (λ (b : Bool). at_most (intent (least_above (intent w.mode) (below ws n))) (if b then least_above (intent w.mode) rest else rest) ≡ true) (sym (or_right (same_node n w.node) (contains n w.node) c))
          (intent-join (intent w.mode) (below ws n) (least_above (intent w.mode) rest)
          (subst (λ (y : Mode). at_most y (least_above (intent w.mode) rest) ≡ true) (sym (intent-twice w.mode)) (join-left (intent w.mode) rest))
          (at_most-trans (intent (below ws n)) rest (least_above (intent w.mode) rest) (below-owed ws n) (join-right (intent w.mode) rest))))
      | inr c ↦
          subst (λ (b : Bool). at_most (intent (if b then least_above (intent w.mode) (below ws n) else below ws n)) (if is_on n w.node then least_above (intent w.mode) rest else rest) ≡ true) (sym c)
          (grows (is_on n w.node) (intent w.mode) rest (intent (below ws n)) (below-owed ws n))
    ]
  where
    grows : (b : Bool) (i r m : Mode) → at_most m r ≡ true → at_most m (if b then least_above i r else r) ≡ true
    grows true i r m h = at_most-trans m r (least_above i r) h (join-right i r)
    grows false i r m h = h

pub needed-owed : (ws : List Need) (n : Node) → at_most (intent (needed_on ws n)) (intents_on ws n) ≡ true
needed-owed [] n = refl
needed-owed (w ∷ ws) n =
    let rest : Mode = intents_on ws n in
    elim (cases_Bool (same_node n w.node)) [
      | inl c ↦
          subst (λ (b : Bool). at_most (intent (if b then least_above w.mode (needed_on ws n) else needed_on ws n)) (if b || contains n w.node then least_above (intent w.mode) rest else rest) ≡ true) (sym c)
          (intent-join w.mode (needed_on ws n) (least_above (intent w.mode) rest) (join-left (intent w.mode) rest)
          (at_most-trans (intent (needed_on ws n)) rest (least_above (intent w.mode) rest) (needed-owed ws n) (join-right (intent w.mode) rest)))
      | inr c ↦
          subst (λ (b : Bool). at_most (intent (if b then least_above w.mode (needed_on ws n) else needed_on ws n)) (if b || contains n w.node then least_above (intent w.mode) rest else rest) ≡ true) (sym c)
          (grows (contains n w.node) (intent w.mode) rest (intent (needed_on ws n)) (needed-owed ws n))
    ]
  where
    grows : (b : Bool) (i r m : Mode) → at_most m r ≡ true → at_most m (if b then least_above i r else r) ≡ true
    grows true i r m h = at_most-trans m r (least_above i r) h (join-right i r)
    grows false i r m h = h

-- what a notice leaves is earned
pub kept-owed : (held : Holding) (p : Party) (n : Node) → at_most (intent (kept_at held p n)) (earned_at held p n) ≡ true
kept-owed held p n =
    let o : Mode = opened_at held p.opened n in
    let b : Mode = earned_at held p n in
    intent-join o (least_above (below p.needs n) (needed_on p.needs n)) b (join-left (intent o) (intents_on p.needs n))
    (intent-join (below p.needs n) (needed_on p.needs n) b
    (at_most-trans (intent (below p.needs n)) (intents_on p.needs n) b (below-owed p.needs n) (join-right (intent o) (intents_on p.needs n)))
    (at_most-trans (intent (needed_on p.needs n)) (intents_on p.needs n) b (needed-owed p.needs n) (join-right (intent o) (intents_on p.needs n))))

-- where nothing is needed on a node or below it, nothing is kept for needs
pub unneeded : (ws : List Need) (n : Node) → is_needed ws n ≡ false → (below ws n ≡ NL) × (needed_on ws n ≡ NL)
unneeded [] n h = (refl, refl)
unneeded (w ∷ ws) n h =
    let p = or_parts (is_on n w.node) (is_needed ws n) h in
    let q = or_parts (same_node n w.node) (contains n w.node) p.0 in
    let r = unneeded ws n p.1 in (
      ap (λ (b : Bool). if b then least_above (intent w.mode) (below ws n) else below ws n) q.1 ∙ r.0,
      ap (λ (b : Bool). if b then least_above w.mode (needed_on ws n) else needed_on ws n) q.0 ∙ r.1,
    )

-- what a notice leaves has a reason
pub kept-reason : (held : Holding) (p : Party) (n : Node) → HasReason held p n (kept_at held p n)
kept-reason held p n =
    let o : Mode = opened_at held p.opened n in
    elim (cases_Bool (is_needed p.needs n)) [
      | inl y ↦ inr (inr y)
      | inr f ↦
          let u = unneeded p.needs n f in
          let all : kept_at held p n ≡ o = ap (λ (y : Mode). least_above o (least_above y (needed_on p.needs n))) u.0 ∙ (ap (λ (y : Mode). least_above o (least_above NL y)) u.1 ∙ join-none_right o) in
          elim (cases_Bool (at_most o NL)) [
            | inr y ↦ inr (inl y)
            | inl z ↦ inl (all ∙ none-most o z)
          ]
    ]
  where
    none-most : (m : Mode) → at_most m NL ≡ true → m ≡ NL
    none-most NL h = refl
    none-most m h = absurd (false≢true h)

-- a stronger lock may come down to what must be kept
pub may-serve : (t : Table) (owner : ℕ) (p : Party) (n : Node) → HasIntents t → IsKept t owner p → is_excess (granted_at t owner n) (kept_at (granted_at t owner) p n) ≡ true → MayComeDown t owner n (kept_at (granted_at t owner) p n)
may-serve t owner p n intents k x =
    may-come-down t owner p n (kept_at (granted_at t owner) p n) intents (but-more (λ x. same_node x n) (granted_at t owner) (sought_at t owner) p k) (excess-unasked (granted_at t owner) (sought_at t owner) p n k x)
    (λ c h. earned-kept (granted_at t owner) p n c (k.earned c refl) h)
    (excess-parts (at_most (kept_at (granted_at t owner) p n) (granted_at t owner n)) (at_most (granted_at t owner n) (kept_at (granted_at t owner) p n)) x).0

-- ---- as the code serves a notice

pub excess-of : (held keep h k : Mode) (b : Bool) → held ≡ h → keep ≡ k → b ≡ is_excess held keep → b ≡ true → is_excess h k ≡ true
excess-of held keep h k b eh ek eb t = ap (λ (m : Mode). is_excess h m) (sym ek) ∙ (ap (λ (m : Mode). is_excess m keep) (sym eh) ∙ (sym eb ∙ t))

module _ (old new : Table) (owner : ℕ) (p : Party) (n : Node) (keep : Mode) (needs : List Need) (is : keep ≡ kept_at (granted_at old owner) p n) (all : needs ≡ p.needs)
    (intents : HasIntents old) (k : IsKept old owner p) (x : is_excess (granted_at old owner n) (kept_at (granted_at old owner) p n) ≡ true) where
  pub serving-ready : MayComeDown old owner n keep
  serving-ready = subst (λ (m : Mode). MayComeDown old owner n m) (sym is) (may-serve old owner p n intents k x)

  pub serving-enough : is_enough (granted_at old owner) needs n keep ≡ true
  serving-enough =
      subst (λ (m : Mode). is_enough (granted_at old owner) needs n m ≡ true) (sym is)
      (subst (λ (ws : List Need). is_enough (granted_at old owner) ws n (kept_at (granted_at old owner) p n) ≡ true) (sym all)
      (enough-must_keep (granted_at old owner) n (opened_at (granted_at old owner) p.opened n) p.needs))

  unasked : (w : OpenWant) → p.opened ≡ Some w → was_asked w n ≡ false
  unasked = excess-unasked (granted_at old owner) (sought_at old owner) p n k x

  pub served-down : BroughtDown owner n keep needs old new → IsKept new owner p
  served-down b =
      brought-kept old new owner n keep p unasked (subst (λ (ws : List Need). BroughtDown owner n keep ws old new) all b)
      (but-more (λ x. same_node x n) (granted_at old owner) (sought_at old owner) p k)
      (subst (λ (m : Mode). at_most (intent m) (earned_at (granted_at old owner) p n) ≡ true) (sym is) (kept-owed (granted_at old owner) p n))
      (subst (λ (m : Mode). HasReason (granted_at old owner) p n m) (sym is) (kept-reason (granted_at old owner) p n))
