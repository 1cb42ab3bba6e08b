-- What each request leaves of the modes that owners hold and ask: the laws of a lock that is raised, lowered, queued.
use Rattle.std.proofs.Common.{◌≡◌, ℕ, ◌++◌, ◌∷◌, [], ◌⊎◌, inl, inr, Bool, true, false, refl, ◌∙◌, sym, ap, subst}
use Rattle.std.specs.Prelude.{◌==◌, not, ◌&&◌, if◌then◌else◌, Some, Option, unwrap_or}
use Rattle.std.proofs.lemmas.Bool.{false≢true, cases_Bool, eq-eqb, eqb-true, and_parts, and_from, or_parts, not-true}
use Rattle.rdb_types.specs.declared.node.Node.{Node}
use Rattle.vms_queues.specs.declared.lock_mode.Mode.{Mode}
use Rattle.vms_queues.specs.declared.lock_mode.Mode.TheVariants.{NL, CR, CW, PR, PW, EX}
use Rattle.vms_queues.specs.contracts.lock_mode.ModePartialEq.TheImpl as mode_eq
use Rattle.vms_queues.specs.Modes.{at_most}
use Rattle.vms_queues.specs.Queues.{Queues, IsSound, has_owner, mode_in, is_absent, is_queued, covers, without, with_mode, entry, with_lock, with_request, with_conversion, considered, after_weaken, after_release, after_cancel}
use Rattle.vms_queues.proofs.Entries.{fits-from_covers}
use Rattle.vms_queues.proofs.Settled.{considered-settled}
use Rattle.vms_queues.proofs.Soundness.{sound-with_mode, sound-gone, sound-unqueued}
use Rattle.vms_locks.specs.Table.{Table, queues_at, ChangesAt, IsLive}
use Rattle.vms_locks.proofs.Awake.{changed-here, changed-elsewhere}
use Rattle.lock_needs.specs.Nodes.{same_node}
use Rattle.lock_needs.proofs.NodeLaws.{same_node-true, same_node-sym}
use Rattle.lock_needs.proofs.Cover.{by_test}
use Rattle.lock_tree_laws.specs.LockTable.{granted_in, sought_in, granted_at, sought_at, AllShare, RaisedAt, LoweredAt, QueuedAt}
use Rattle.lock_tree_laws.proofs.QueueModes.{IsServed, considered-served, mode-absent, mode-with_own, mode-with_other, mode-in_middle, mode-push_other}
use Rattle.lock_tree_laws.proofs.HeldModes.{shares-in, unqueued, mode-without_own, mode-without_other, mode-has_owner, covers-less}

-- the mode that `==` says is NL
pub nothing-mode : (m : Mode) → (mode_eq.ghosts).eq m NL ≡ true → m ≡ NL
nothing-mode NL e = refl
nothing-mode CR e = absurd (false≢true e)
nothing-mode CW e = absurd (false≢true e)
nothing-mode PR e = absurd (false≢true e)
nothing-mode PW e = absurd (false≢true e)
nothing-mode EX e = absurd (false≢true e)

-- ---- modes from the three lists

granted-from : (o : ℕ) (q r : Queues) → mode_in o r.granted ≡ mode_in o q.granted → granted_in o r ≡ granted_in o q
granted-from o q r g = ap (λ (x : Option Mode). unwrap_or x NL) g

sought-from : (o : ℕ) (q r : Queues) → mode_in o r.granted ≡ mode_in o q.granted → mode_in o r.converting ≡ mode_in o q.converting → mode_in o r.waiting ≡ mode_in o q.waiting → sought_in o r ≡ sought_in o q
sought-from o q r g k w =
    ap (λ (x : Option Mode). unwrap_or x (unwrap_or (mode_in o r.waiting) (granted_in o r))) k
    ∙ (ap (λ (x : Option Mode). unwrap_or (mode_in o q.converting) (unwrap_or x (granted_in o r))) w
    ∙ ap (λ (y : Mode). unwrap_or (mode_in o q.converting) (unwrap_or (mode_in o q.waiting) y)) (granted-from o q r g))

-- who has nothing queued asks what it holds
pub sought-unqueued : (o : ℕ) (q : Queues) → is_queued o q ≡ false → sought_in o q ≡ granted_in o q
sought-unqueued o q n =
    let p = or_parts (has_owner o q.converting) (has_owner o q.waiting) n in
    ap (λ (x : Option Mode). unwrap_or x (unwrap_or (mode_in o q.waiting) (granted_in o q))) (mode-absent o q.converting p.0)
    ∙ ap (λ (x : Option Mode). unwrap_or x (granted_in o q)) (mode-absent o q.waiting p.1)

other-way : (o owner : ℕ) → (o == owner) ≡ false → (owner == o) ≡ false
other-way o owner d = elim (cases_Bool (owner == o)) [ inr n ↦ n | inl y ↦ absurd (false≢true (sym d ∙ eq-eqb o owner (sym (eqb-true owner o y)))) ]

-- what a change at one node's queues leaves of everybody's modes there
pub record Changed (owner : ℕ) (granted sought : Mode) (q r : Queues) : Type 0 where
  pub own : granted_in owner r ≡ granted
  pub own_sought : sought_in owner r ≡ sought
  pub others : (o : ℕ) → (o == owner) ≡ false → granted_in o r ≡ granted_in o q
  pub others_sought : (o : ℕ) → (o == owner) ≡ false → sought_in o r ≡ sought_in o q

pub changed-lock : (q : Queues) (owner : ℕ) (mode : Mode) → is_absent owner q ≡ true → Changed owner mode mode q (with_lock q owner mode)
changed-lock q owner mode absent =
    let p = and_parts (not (has_owner owner q.granted)) (not (has_owner owner q.converting) && not (has_owner owner q.waiting)) absent in
    let w = and_parts (not (has_owner owner q.converting)) (not (has_owner owner q.waiting)) p.1 in
    let held : granted_in owner (with_lock q owner mode) ≡ mode =
    ap (λ (x : Option Mode). unwrap_or x NL) (mode-in_middle owner q.granted (entry owner mode) [] (not-true (has_owner owner q.granted) p.0) (eq-eqb owner owner refl)) in
    record {
      own = held;
      own_sought = ap (λ (x : Option Mode). unwrap_or x (unwrap_or (mode_in owner q.waiting) (granted_in owner (with_lock q owner mode)))) (mode-absent owner q.converting (not-true (has_owner owner q.converting) w.0))
          ∙ (ap (λ (x : Option Mode). unwrap_or x (granted_in owner (with_lock q owner mode))) (mode-absent owner q.waiting (not-true (has_owner owner q.waiting) w.1)) ∙ held);
      others = λ o d. granted-from o q (with_lock q owner mode) (mode-push_other o q.granted (entry owner mode) (other-way o owner d));
      others_sought = λ o d. sought-from o q (with_lock q owner mode) (mode-push_other o q.granted (entry owner mode) (other-way o owner d)) refl refl;
    }

pub changed-mode : (q : Queues) (owner : ℕ) (mode : Mode) → has_owner owner q.granted ≡ true → is_queued owner q ≡ false → Changed owner mode mode q (record q { granted = with_mode owner mode q.granted })
changed-mode q owner mode has quiet =
    let r : Queues = record q { granted = with_mode owner mode q.granted } in
    let held : granted_in owner r ≡ mode = ap (λ (x : Option Mode). unwrap_or x NL) (mode-with_own owner mode q.granted has) in
    record {
      own = held;
      own_sought = sought-unqueued owner r quiet ∙ held;
      others = λ o d. granted-from o q r (mode-with_other o owner mode q.granted (other-way o owner d));
      others_sought = λ o d. sought-from o q r (mode-with_other o owner mode q.granted (other-way o owner d)) refl refl;
    }

pub changed-gone : (q : Queues) (owner : ℕ) → Changed owner NL NL q (record { granted = without owner q.granted; converting = without owner q.converting; waiting = without owner q.waiting })
changed-gone q owner =
    let r : Queues = record { granted = without owner q.granted; converting = without owner q.converting; waiting = without owner q.waiting } in
    let held : granted_in owner r ≡ NL = ap (λ (x : Option Mode). unwrap_or x NL) (mode-without_own owner q.granted) in
    record {
      own = held;
      own_sought = ap (λ (x : Option Mode). unwrap_or x (unwrap_or (mode_in owner r.waiting) (granted_in owner r))) (mode-without_own owner q.converting)
          ∙ (ap (λ (x : Option Mode). unwrap_or x (granted_in owner r)) (mode-without_own owner q.waiting) ∙ held);
      others = λ o d. granted-from o q r (mode-without_other o owner q.granted d);
      others_sought = λ o d. sought-from o q r (mode-without_other o owner q.granted d) (mode-without_other o owner q.converting d) (mode-without_other o owner q.waiting d);
    }

pub changed-unqueued : (q : Queues) (owner : ℕ) → Changed owner (granted_in owner q) (granted_in owner q) q (record q { converting = without owner q.converting; waiting = without owner q.waiting })
changed-unqueued q owner =
    let r : Queues = record q { converting = without owner q.converting; waiting = without owner q.waiting } in
    record {
      own = refl;
      own_sought = ap (λ (x : Option Mode). unwrap_or x (unwrap_or (mode_in owner r.waiting) (granted_in owner r))) (mode-without_own owner q.converting)
          ∙ ap (λ (x : Option Mode). unwrap_or x (granted_in owner r)) (mode-without_own owner q.waiting);
      others = λ o d. refl;
      others_sought = λ o d. sought-from o q r refl (mode-without_other o owner q.converting d) (mode-without_other o owner q.waiting d);
    }

pub changed-request : (q : Queues) (owner : ℕ) (mode : Mode) → is_absent owner q ≡ true → Changed owner (granted_in owner q) mode q (with_request q owner mode)
changed-request q owner mode absent =
    let p = and_parts (not (has_owner owner q.granted)) (not (has_owner owner q.converting) && not (has_owner owner q.waiting)) absent in
    let w = and_parts (not (has_owner owner q.converting)) (not (has_owner owner q.waiting)) p.1 in
    record {
      own = refl;
      own_sought = ap (λ (x : Option Mode). unwrap_or x (unwrap_or (mode_in owner (q.waiting ++ entry owner mode ∷ [])) (granted_in owner q))) (mode-absent owner q.converting (not-true (has_owner owner q.converting) w.0))
          ∙ ap (λ (x : Option Mode). unwrap_or x (granted_in owner q)) (mode-in_middle owner q.waiting (entry owner mode) [] (not-true (has_owner owner q.waiting) w.1) (eq-eqb owner owner refl));
      others = λ o d. refl;
      others_sought = λ o d. sought-from o q (with_request q owner mode) refl refl (mode-push_other o q.waiting (entry owner mode) (other-way o owner d));
    }

pub changed-conversion : (q : Queues) (owner : ℕ) (mode : Mode) → has_owner owner q.converting ≡ false → Changed owner (granted_in owner q) mode q (with_conversion q owner mode)
changed-conversion q owner mode once = record {
  own = refl;
  own_sought = ap (λ (x : Option Mode). unwrap_or x (unwrap_or (mode_in owner q.waiting) (granted_in owner q))) (mode-in_middle owner q.converting (entry owner mode) [] once (eq-eqb owner owner refl));
  others = λ o d. refl;
  others_sought = λ o d. sought-from o q (with_conversion q owner mode) refl (mode-push_other o q.converting (entry owner mode) (other-way o owner d)) refl;
}

-- ---- the table

module _ (old new : Table) (owner : ℕ) (n : Node) (r : Queues) (changes : ChangesAt old new n r) where
  apart-nodes : (x : Node) → same_node x n ≡ false → queues_at new x ≡ queues_at old x
  apart-nodes x d =
      changed-elsewhere old new n r x changes
      (elim (cases_Bool (same_node n x)) [ inr e ↦ e | inl s ↦ absurd (false≢true (sym d ∙ same_node-sym n x s)) ])

  choice : (pick : ℕ → Queues → Mode) (mode : Mode) → pick owner r ≡ mode → ((o : ℕ) → (o == owner) ≡ false → pick o r ≡ pick o (queues_at old n)) → (o : ℕ) (x : Node) → pick o (queues_at new x) ≡ (if (o == owner) && same_node x n then mode else pick o (queues_at old x))
  choice pick mode own others o x =
      by_test (λ (y : Mode). pick o (queues_at new x) ≡ y) ((o == owner) && same_node x n) mode (pick o (queues_at old x))
      (λ e.
      let p = and_parts (o == owner) (same_node x n) e in
      subst (λ (u : ℕ). pick u (queues_at new x) ≡ mode) (sym (eqb-true o owner p.0))
      (subst (λ (z : Node). pick owner (queues_at new z) ≡ mode) (sym (same_node-true x n p.1)) (ap (pick owner) (changed-here old new n r changes) ∙ own)))
      (λ e. elim (cases_Bool (same_node x n)) [
        | inr d ↦ ap (pick o) (apart-nodes x d)
        | inl s ↦
            let other : (o == owner) ≡ false = elim (cases_Bool (o == owner)) [ inr d ↦ d | inl y ↦ absurd (false≢true (sym e ∙ and_from (o == owner) (same_node x n) y s)) ] in
            subst (λ (z : Node). pick o (queues_at new z) ≡ pick o (queues_at old z)) (sym (same_node-true x n s)) (ap (pick o) (changed-here old new n r changes) ∙ others o other)
      ])

  pub raised-at : (mode : Mode) → Changed owner mode mode (queues_at old n) r → RaisedAt old new owner n mode
  raised-at mode c = record { granted = choice granted_in mode c.own c.others; sought = choice sought_in mode c.own_sought c.others_sought }

  pub queued-at : (mode : Mode) → Changed owner (granted_at old owner n) mode (queues_at old n) r → QueuedAt old new owner n mode
  queued-at mode c = record {
    granted = λ o x. choice granted_in (granted_at old owner n) c.own c.others o x
        ∙ by_test (λ (y : Mode). y ≡ granted_at old o x) ((o == owner) && same_node x n) (granted_at old owner n) (granted_at old o x)
        (λ e.
        let p = and_parts (o == owner) (same_node x n) e in
        subst (λ (u : ℕ). granted_at old owner n ≡ granted_at old u x) (sym (eqb-true o owner p.0)) (subst (λ (z : Node). granted_at old owner n ≡ granted_at old owner z) (sym (same_node-true x n p.1)) refl))
        (λ e. refl);
    sought = choice sought_in mode c.own_sought c.others_sought;
  }

-- the queues of the node are considered after a change
module _ (old new : Table) (owner : ℕ) (n : Node) (m : Queues) (changes : ChangesAt old new n (considered m)) (sound : IsSound m) (mode : Mode) (c : Changed owner mode mode (queues_at old n) m) where
  served : (o : ℕ) → IsServed o m (considered m)
  served o = considered-served o m sound

  own-now : granted_in owner (considered m) ≡ mode
  own-now = elim (served owner).granted [ inl e ↦ e ∙ c.own | inr e ↦ e ∙ c.own_sought ]

  others-now : (o : ℕ) → (o == owner) ≡ false → (granted_in o (considered m) ≡ granted_at old o n) ⊎ (granted_in o (considered m) ≡ sought_at old o n)
  others-now o d = elim (served o).granted [ inl e ↦ inl (e ∙ c.others o d) | inr e ↦ inr (e ∙ c.others_sought o d) ]

  here : queues_at new n ≡ considered m
  here = changed-here old new n (considered m) changes

  pub lowered-at : LoweredAt old new owner n mode
  lowered-at = record {
    own = ap (granted_in owner) here ∙ own-now;
    elsewhere = λ o x d. ap (granted_in o) (apart-nodes old new owner n (considered m) changes x d);
    others = λ o d. elim (others-now o d) [
      | inl e ↦ inl (ap (granted_in o) here ∙ e)
      | inr e ↦ inr (ap (granted_in o) here ∙ e)
    ];
    sought_own = ap (sought_in owner) here ∙ ((served owner).sought ∙ c.own_sought);
    sought_others = λ o x d. elim (cases_Bool (same_node x n)) [
      | inr e ↦ ap (sought_in o) (apart-nodes old new owner n (considered m) changes x e)
      | inl s ↦
          let other : (o == owner) ≡ false = elim (cases_Bool (o == owner)) [ inr e ↦ e | inl y ↦ absurd (false≢true (sym d ∙ and_from (o == owner) (same_node x n) y s)) ] in
          subst (λ (z : Node). sought_at new o z ≡ sought_at old o z) (sym (same_node-true x n s)) (ap (sought_in o) here ∙ ((served o).sought ∙ c.others_sought o other))
    ];
  }

module _ (old new : Table) (owner : ℕ) (n : Node) (live : IsLive (queues_at old)) where
  pub shares-live : AllShare old
  shares-live o u d x = shares-in (queues_at old x) o u (live.sound x) d

  -- who asks what it holds at the node has nothing queued there
  pub quiet-at : sought_at old owner n ≡ granted_at old owner n → is_queued owner (queues_at old n) ≡ false
  quiet-at same = unqueued (queues_at old n) owner (live.sound n) (live.settled n) same

  pub weakened-law : (mode held : Mode) → mode_in owner (queues_at old n).granted ≡ Some held → at_most mode held ≡ true → sought_at old owner n ≡ granted_at old owner n → ChangesAt old new n (after_weaken (queues_at old n) owner mode) → LoweredAt old new owner n mode
  weakened-law mode held has weaker same changes =
      let q : Queues = queues_at old n in
      let covered : covers owner mode q.granted ≡ true = covers-less owner q.granted held mode has weaker in
      lowered-at old new owner n (record q { granted = with_mode owner mode q.granted }) changes
      (sound-with_mode q owner mode (live.sound n) (fits-from_covers owner mode q.granted (live.sound n).shares (live.sound n).granted_once covered)) mode
      (changed-mode q owner mode (mode-has_owner owner q.granted held has) (quiet-at same))

  pub released-law : ChangesAt old new n (after_release (queues_at old n) owner) → LoweredAt old new owner n NL
  released-law changes =
      let q : Queues = queues_at old n in
      lowered-at old new owner n (record { granted = without owner q.granted; converting = without owner q.converting; waiting = without owner q.waiting }) changes
      (sound-gone q owner (live.sound n)) NL (changed-gone q owner)

  -- a request that is cancelled: the owner keeps its lock
  pub cancelled-law : ChangesAt old new n (after_cancel (queues_at old n) owner) → LoweredAt old new owner n (granted_at old owner n)
  cancelled-law changes =
      let q : Queues = queues_at old n in
      let m : Queues = record q { converting = without owner q.converting; waiting = without owner q.waiting } in
      elim (cases_Bool (is_queued owner q)) [
        | inl t ↦ lowered-at old new owner n m (subst (λ (b : Bool). ChangesAt old new n (if b then considered m else q)) t changes)
            (sound-unqueued q owner (live.sound n)) (granted_at old owner n) (changed-unqueued q owner)
        | inr f ↦ lowered-at old new owner n q (subst (λ (z : Queues). ChangesAt old new n z) (sym (considered-settled q (live.settled n))) (subst (λ (b : Bool). ChangesAt old new n (if b then considered m else q)) f changes))
            (live.sound n) (granted_at old owner n) (record { own = refl; own_sought = sought-unqueued owner q f; others = λ o d. refl; others_sought = λ o d. refl })
      ]
