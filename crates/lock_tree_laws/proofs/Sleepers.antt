-- Whoever is queued waits for somebody who holds or asks something there.
use Rattle.std.proofs.Common.{◌≡◌, ℕ, ◌++◌, ◌∷◌, [], inl, inr, Bool, true, false, List, refl, ◌∙◌, sym, ap, subst}
use Rattle.std.specs.Prelude.{◌==◌, not, ◌&&◌, ◌||◌, if◌then◌else◌, Option, Some, None, unwrap_or, nat_eq, is_some, map}
use Rattle.std.specs.List.{list_any}
use Rattle.std.specs.Map.{lookup}
use Rattle.std.proofs.lemmas.Bool.{false≢true, cases_Bool, eq-eqb, eqb-true, and_from, and_parts, or_left, or_right, or_cases, or_parts, not-true}
use Rattle.std.proofs.lemmas.List.Folds.{list_any-append}
use Rattle.rdb_types.specs.declared.node.Node.{Node}
use Rattle.vms_queues.specs.declared.lock_mode.Mode.{Mode}
use Rattle.vms_queues.specs.declared.lock_mode.Mode.TheVariants.{NL}
use Rattle.vms_queues.specs.declared.held.Held.{Held}
use Rattle.vms_queues.specs.Modes.{may_share, at_most, least_above}
use Rattle.vms_queues.specs.Queues.{Queues, IsSound, has_owner, mode_in, blocks, fits, is_free, is_queued, each_once, is_settled, conversions_wait, requests_wait}
use Rattle.vms_queues.specs.Waits.{waits, blocked_by, conversion_waits, request_waits}
use Rattle.vms_locks.specs.Table.{Table, queues_at, IsLive, WaitsIn}
use Rattle.lock_needs.specs.declared.party.OpenWant.{OpenWant}
use Rattle.lock_needs.specs.Party.{Party}
use Rattle.lock_needs.specs.Nodes.{same_node}
use Rattle.lock_needs.specs.Wants.{mode_for, sleeps_at}
use Rattle.lock_needs.proofs.ModeTables.{join-right}
use Rattle.lock_tree_laws.specs.LockTable.{granted_in, granted_at, sought_at}
use Rattle.lock_tree_laws.specs.Parties.{IsKept}
use Rattle.lock_tree_laws.specs.Forest.{Parties, idle, party_of, has_party}
use Rattle.lock_tree_laws.specs.Wanted.{is_known, someone_sleeps, IsClear}
use Rattle.lock_tree_laws.proofs.HeldModes.{nothing-shares}
use Rattle.lock_tree_laws.proofs.Changes.{quiet-at, sought-unqueued}

-- ---- somebody stands in the way

abbrev Blocker : ℕ → Mode → List Held → Type 0
Blocker a m hs = (b : ℕ) × (blocked_by b a m hs ≡ true)

blocker-in : (a : ℕ) (m : Mode) (hs : List Held) → fits a m hs ≡ false → Blocker a m hs
blocker-in a m [] h = absurd (false≢true (sym h))
blocker-in a m (x ∷ hs) h = elim (cases_Bool (blocks a m x)) [
  | inl t ↦ (x.owner, or_left ((x.owner == x.owner) && blocks a m x) (blocked_by x.owner a m hs) (and_from (x.owner == x.owner) (blocks a m x) (eq-eqb x.owner x.owner refl) t))
  | inr f ↦
      let rest : Blocker a m hs = blocker-in a m hs (sym (ap (λ (b : Bool). not b && fits a m hs) f) ∙ h) in
      (rest.0, or_right ((x.owner == rest.0) && blocks a m x) (blocked_by rest.0 a m hs) rest.1)
]

converter-waits : (g : List Held) (a : ℕ) (cs : List Held) → conversions_wait g cs ≡ true → has_owner a cs ≡ true → (b : ℕ) × (conversion_waits g a b cs ≡ true)
converter-waits g a [] h e = absurd (false≢true e)
converter-waits g a (c ∷ cs) h e =
    let p = and_parts (not (fits c.owner c.mode g)) (conversions_wait g cs) h in
    elim (cases_Bool (c.owner == a)) [
      | inl s ↦
          let found : Blocker a c.mode g = subst (λ (z : ℕ). Blocker z c.mode g) (eqb-true c.owner a s) (blocker-in c.owner c.mode g (not-true (fits c.owner c.mode g) p.0)) in
          (found.0, or_left ((c.owner == a) && blocked_by found.0 a c.mode g) (conversion_waits g a found.0 cs) (and_from (c.owner == a) (blocked_by found.0 a c.mode g) s found.1))
      | inr d ↦
          let rest : (b : ℕ) × (conversion_waits g a b cs ≡ true) = converter-waits g a cs p.1 (sym (ap (λ (b : Bool). b || has_owner a cs) d) ∙ e) in
          (rest.0, or_right ((c.owner == a) && blocked_by rest.0 a c.mode g) (conversion_waits g a rest.0 cs) rest.1)
    ]

-- one of three lists has who stands in the way
three : (a : ℕ) (m : Mode) (g k l : List Held) → (fits a m g && (fits a m k && fits a m l)) ≡ false → (b : ℕ) × ((blocked_by b a m g || (blocked_by b a m k || blocked_by b a m l)) ≡ true)
three a m g k l h = elim (cases_Bool (fits a m g)) [
  | inr f ↦ let found : Blocker a m g = blocker-in a m g f in (found.0, or_left (blocked_by found.0 a m g) (blocked_by found.0 a m k || blocked_by found.0 a m l) found.1)
  | inl y ↦ elim (cases_Bool (fits a m k)) [
    | inr f ↦
        let found : Blocker a m k = blocker-in a m k f in
        (found.0, or_right (blocked_by found.0 a m g) (blocked_by found.0 a m k || blocked_by found.0 a m l) (or_left (blocked_by found.0 a m k) (blocked_by found.0 a m l) found.1))
    | inl z ↦
        let found : Blocker a m l = blocker-in a m l (sym (ap (λ (b : Bool). b && (fits a m k && fits a m l)) y ∙ ap (λ (b : Bool). b && fits a m l) z) ∙ h) in
        (found.0, or_right (blocked_by found.0 a m g) (blocked_by found.0 a m k || blocked_by found.0 a m l) (or_right (blocked_by found.0 a m k) (blocked_by found.0 a m l) found.1))
  ]
]

request-waits : (g k : List Held) (a : ℕ) (ahead ws : List Held) → requests_wait k g ahead ws ≡ true → has_owner a ws ≡ true → (b : ℕ) × (request_waits g k a b ahead ws ≡ true)
request-waits g k a ahead [] h e = absurd (false≢true e)
request-waits g k a ahead (w ∷ ws) h e =
    let p = and_parts (not (is_free k g ahead w)) (requests_wait k g (ahead ++ w ∷ []) ws) h in
    elim (cases_Bool (w.owner == a)) [
      | inl s ↦
          let found = three w.owner w.mode g k ahead (not-true (is_free k g ahead w) p.0) in
          let way : (blocked_by found.0 a w.mode g || (blocked_by found.0 a w.mode k || blocked_by found.0 a w.mode ahead)) ≡ true =
          subst (λ (z : ℕ). (blocked_by found.0 z w.mode g || (blocked_by found.0 z w.mode k || blocked_by found.0 z w.mode ahead)) ≡ true) (eqb-true w.owner a s) found.1 in (
            found.0,
            or_left ((w.owner == a) && (blocked_by found.0 a w.mode g || (blocked_by found.0 a w.mode k || blocked_by found.0 a w.mode ahead))) (request_waits g k a found.0 (ahead ++ w ∷ []) ws)
                (and_from (w.owner == a) (blocked_by found.0 a w.mode g || (blocked_by found.0 a w.mode k || blocked_by found.0 a w.mode ahead)) s way),
          )
      | inr d ↦
          let rest : (b : ℕ) × (request_waits g k a b (ahead ++ w ∷ []) ws ≡ true) = request-waits g k a (ahead ++ w ∷ []) ws p.1 (sym (ap (λ (b : Bool). b || has_owner a ws) d) ∙ e) in
          (rest.0, or_right ((w.owner == a) && (blocked_by rest.0 a w.mode g || (blocked_by rest.0 a w.mode k || blocked_by rest.0 a w.mode ahead))) (request_waits g k a rest.0 (ahead ++ w ∷ []) ws) rest.1)
    ]

-- In settled queues whoever is queued waits for somebody.
pub queued-waits : (q : Queues) (a : ℕ) → is_settled q ≡ true → is_queued a q ≡ true → (b : ℕ) × (waits q a b ≡ true)
queued-waits q a calm queued =
    let p = and_parts (conversions_wait q.granted q.converting) (requests_wait q.converting q.granted [] q.waiting) calm in
    elim (or_cases (has_owner a q.converting) (has_owner a q.waiting) queued) [
      | inl c ↦
          let found : (b : ℕ) × (conversion_waits q.granted a b q.converting ≡ true) = converter-waits q.granted a q.converting p.0 c in
          (found.0, or_left (conversion_waits q.granted a found.0 q.converting) (request_waits q.granted q.converting a found.0 [] q.waiting) found.1)
      | inr w ↦
          let found : (b : ℕ) × (request_waits q.granted q.converting a b [] q.waiting ≡ true) = request-waits q.granted q.converting a [] q.waiting p.1 w in
          (found.0, or_right (conversion_waits q.granted a found.0 q.converting) (request_waits q.granted q.converting a found.0 [] q.waiting) found.1)
    ]

-- ---- who holds nothing and asks nothing is in nobody's way

absent-blocks : (b a : ℕ) (m : Mode) (hs : List Held) → has_owner b hs ≡ false → blocked_by b a m hs ≡ false
absent-blocks b a m [] h = refl
absent-blocks b a m (x ∷ hs) h =
    let p = or_parts (x.owner == b) (has_owner b hs) h in
    ap (λ (y : Bool). (y && blocks a m x) || blocked_by b a m hs) p.0 ∙ absent-blocks b a m hs p.1

-- a mode NL blocks nothing
nothing-blocks : (a : ℕ) (m : Mode) (x : Held) → x.mode ≡ NL → blocks a m x ≡ false
nothing-blocks a m x e = ap (λ (y : Mode). not (x.owner == a) && not (may_share y m)) e ∙ (ap (λ (b : Bool). not (x.owner == a) && not b) (nothing-shares m) ∙ and-none (not (x.owner == a)))
  where
    and-none : (s : Bool) → (s && false) ≡ false
    and-none true = refl
    and-none false = refl

idle-blocks : (b a : ℕ) (m : Mode) (hs : List Held) → each_once hs ≡ true → unwrap_or (mode_in b hs) NL ≡ NL → blocked_by b a m hs ≡ false
idle-blocks b a m [] once e = refl
idle-blocks b a m (x ∷ hs) once e =
    let p = and_parts (not (has_owner x.owner hs)) (each_once hs) once in
    elim (cases_Bool (x.owner == b)) [
      | inl s ↦
          ap (λ (y : Bool). ((x.owner == b) && y) || blocked_by b a m hs) (nothing-blocks a m x (sym (ap (λ (y : Bool). unwrap_or (if y then Some x.mode else mode_in b hs) NL) s) ∙ e))
          ∙ (ap (λ (y : Bool). (y && false) || blocked_by b a m hs) s ∙ absent-blocks b a m hs (subst (λ (z : ℕ). has_owner z hs ≡ false) (eqb-true x.owner b s) (not-true (has_owner x.owner hs) p.0)))
      | inr d ↦
          ap (λ (y : Bool). (y && blocks a m x) || blocked_by b a m hs) d
          ∙ idle-blocks b a m hs p.1 (sym (ap (λ (y : Bool). unwrap_or (if y then Some x.mode else mode_in b hs) NL) d) ∙ e)
    ]

and-false : (s : Bool) → (s && false) ≡ false
and-false true = refl
and-false false = refl

idle-conversions : (g : List Held) (a b : ℕ) (cs : List Held) → ((m : Mode) → blocked_by b a m g ≡ false) → conversion_waits g a b cs ≡ false
idle-conversions g a b [] f = refl
idle-conversions g a b (c ∷ cs) f =
    ap (λ (y : Bool). ((c.owner == a) && y) || conversion_waits g a b cs) (f c.mode)
    ∙ (ap (λ (y : Bool). y || conversion_waits g a b cs) (and-false (c.owner == a)) ∙ idle-conversions g a b cs f)

idle-requests : (g k : List Held) (a b : ℕ) (ahead ws : List Held) → ((m : Mode) → blocked_by b a m g ≡ false) → ((m : Mode) → blocked_by b a m k ≡ false) → has_owner b ahead ≡ false → has_owner b ws ≡ false → request_waits g k a b ahead ws ≡ false
idle-requests g k a b ahead [] f e h i = refl
idle-requests g k a b ahead (w ∷ ws) f e h i =
    let p = or_parts (w.owner == b) (has_owner b ws) i in
    let rest : Bool = request_waits g k a b (ahead ++ w ∷ []) ws in
    ap (λ (y : Bool). ((w.owner == a) && (y || (blocked_by b a w.mode k || blocked_by b a w.mode ahead))) || rest) (f w.mode)
    ∙ (ap (λ (y : Bool). ((w.owner == a) && (y || blocked_by b a w.mode ahead)) || rest) (e w.mode)
    ∙ (ap (λ (y : Bool). ((w.owner == a) && y) || rest) (absent-blocks b a w.mode ahead h)
    ∙ (ap (λ (y : Bool). y || rest) (and-false (w.owner == a))
    ∙ idle-requests g k a b (ahead ++ w ∷ []) ws f e
    (list_any-append (λ x. x.owner == b) ahead (w ∷ []) ∙ (ap (λ (y : Bool). y || ((w.owner == b) || false)) h ∙ ap (λ (y : Bool). y || false) p.0)) p.1)))

pub nobody-waits : (q : Queues) (a b : ℕ) → IsSound q → granted_in b q ≡ NL → is_queued b q ≡ false → waits q a b ≡ false
nobody-waits q a b s none quiet =
    let p = or_parts (has_owner b q.converting) (has_owner b q.waiting) quiet in
    let g : (m : Mode) → blocked_by b a m q.granted ≡ false = λ m. idle-blocks b a m q.granted s.granted_once none in
    let k : (m : Mode) → blocked_by b a m q.converting ≡ false = λ m. absent-blocks b a m q.converting p.0 in
    ap (λ (y : Bool). y || request_waits q.granted q.converting a b [] q.waiting) (idle-conversions q.granted a b q.converting g)
    ∙ idle-requests q.granted q.converting a b [] q.waiting g k refl p.1

-- ---- in the tree

pub any-mapped : {A B : Type 0} (p : B → Bool) (f : A → B) (ys : List A) (x : A) → list_any p (map f (ys ++ x ∷ [])) ≡ (list_any p (map f ys) || p (f x))
any-mapped p f [] x = last (p (f x))
  where
    last : (b : Bool) → (b || false) ≡ (false || b)
    last true = refl
    last false = refl
any-mapped p f (y ∷ ys) x = ap (λ (b : Bool). p (f y) || b) (any-mapped p f ys x) ∙ grouped (p (f y)) (list_any p (map f ys)) (p (f x))
  where
    grouped : (a b c : Bool) → (a || (b || c)) ≡ ((a || b) || c)
    grouped true b c = refl
    grouped false b c = refl

party-idle : (ps : Parties) (u : ℕ) → has_party ps u ≡ false → party_of ps u ≡ idle
party-idle ps u h = none (lookup (nat_eq u) ps) h
  where
    none : (o : Option Party) → is_some o ≡ false → unwrap_or o idle ≡ idle
    none None e = refl
    none (Some p) e = absurd (false≢true (sym e))

-- an owner that isn't known holds nothing
unknown-holds : (t : Table) (u : ℕ) → IsKept t u idle → (n : Node) → granted_at t u n ≡ NL
unknown-holds t u k n = elim (k.no_stray n refl) [
  | inl e ↦ e
  | inr r ↦ elim r [ inl f ↦ absurd (false≢true (sym f)) | inr y ↦ absurd (false≢true y) ]
]

-- an owner that is known has an entry
known-entry : (ps : Parties) (u : ℕ) → has_party ps u ≡ true → is_known ps u ≡ true
known-entry [] u h = absurd (false≢true h)
known-entry (e ∷ ps) u h = elim (cases_Bool (nat_eq u e.0)) [
  | inl y ↦ or_left (e.0 == u) (is_known ps u) (eq-eqb e.0 u (sym (eqb-true u e.0 y)))
  | inr n ↦ or_right (e.0 == u) (is_known ps u) (known-entry ps u (sym (ap (λ (b : Bool). is_some (if b then Some e.1 else lookup (nat_eq u) ps)) n) ∙ h))
]

-- what is false of all entries is false of each owner's
entry-false : (f : ℕ → Party → Bool) (ps : Parties) (u : ℕ) → list_any (λ e. f e.0 e.1) ps ≡ false → has_party ps u ≡ true → f u (party_of ps u) ≡ false
entry-false f [] u h k = absurd (false≢true k)
entry-false f (e ∷ ps) u h k =
    let p = or_parts (f e.0 e.1) (list_any (λ e. f e.0 e.1) ps) h in
    elim (cases_Bool (nat_eq u e.0)) [
      | inl y ↦
          subst (λ (q : Party). f u q ≡ false) (sym (ap (λ (b : Bool). unwrap_or (if b then Some e.1 else lookup (nat_eq u) ps) idle) y))
          (subst (λ (v : ℕ). f v e.1 ≡ false) (sym (eqb-true u e.0 y)) p.0)
      | inr n ↦
          subst (λ (q : Party). f u q ≡ false) (sym (ap (λ (b : Bool). unwrap_or (if b then Some e.1 else lookup (nat_eq u) ps) idle) n))
          (entry-false f ps u p.1 (sym (ap (λ (b : Bool). is_some (if b then Some e.1 else lookup (nat_eq u) ps)) n) ∙ k))
    ]

module _ (t : Table) (ps : Parties) (live : IsLive (queues_at t)) (kept : (u : ℕ) → IsKept t u (party_of ps u)) where
  -- whoever is waited for is known
  waited-known : (a b : ℕ) (n : Node) → waits (queues_at t n) a b ≡ true → has_party ps b ≡ true
  waited-known a b n w = elim (cases_Bool (has_party ps b)) [
    | inl y ↦ y
    | inr f ↦
        let k : IsKept t b idle = subst (λ (p : Party). IsKept t b p) (party-idle ps b f) (kept b) in
        absurd (false≢true (sym (nobody-waits (queues_at t n) a b (live.sound n) (unknown-holds t b k n) (quiet-at t t b n live (k.awake n refl))) ∙ w))
  ]

  -- where no open want sleeps nothing is queued
  pub all-clear : (n : Node) → someone_sleeps t n ps ≡ false → IsClear t n
  all-clear n none u = quiet-at t t u n live ((kept u).awake n (elim (cases_Bool (has_party ps u)) [
    | inl y ↦ entry-false (λ v p. sleeps_at (granted_at t v) p.opened n) ps u none y
    | inr f ↦ subst (λ (p : Party). sleeps_at (granted_at t u) p.opened n ≡ false) (sym (party-idle ps u f)) refl
  ]))

  pub queued-blocker : (a : ℕ) (n : Node) → is_queued a (queues_at t n) ≡ true → (b : ℕ) × (is_known ps b ≡ true) × WaitsIn (queues_at t) a b
  queued-blocker a n queued =
      let found : (b : ℕ) × (waits (queues_at t n) a b ≡ true) = queued-waits (queues_at t n) a (live.settled n) queued in
      (found.0, known-entry ps found.0 (waited-known a found.0 n found.1), (n, found.1))

-- who sleeps is queued
pub sleeping-queued : (t : Table) (owner : ℕ) (p : Party) (w : OpenWant) → IsKept t owner p → p.opened ≡ Some w → sleeps_at (granted_at t owner) (Some w) w.here ≡ true → is_queued owner (queues_at t w.here) ≡ true
sleeping-queued t owner p w k opened asleep = elim (cases_Bool (is_queued owner (queues_at t w.here))) [
  | inl y ↦ y
  | inr f ↦
      let held : Mode = granted_at t owner w.here in
      let m : Mode = mode_for w.need w.here in
      let q : sought_at t owner w.here ≡ held = sought-unqueued owner (queues_at t w.here) f in
      let joined : least_above held m ≡ held = sym (k.asleep w opened asleep) ∙ q in
      let less : at_most m held ≡ true = subst (λ (y : Mode). at_most m y ≡ true) joined (join-right held m) in
      let a = and_parts (same_node w.here w.here) (w.is_asked && not (at_most m held)) asleep in
      let b = and_parts w.is_asked (not (at_most m held)) a.1 in
      absurd (false≢true (sym (not-true (at_most m held) b.1) ∙ less))
]
