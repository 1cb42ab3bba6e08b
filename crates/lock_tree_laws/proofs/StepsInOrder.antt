-- The order of the tree is kept by a notice, by a want that opens, goes down, is got or ends, and by a release.
use Rattle.std.proofs.Common.{◌≡◌, ℕ, ◌++◌, ◌∷◌, [], Bool, true, false, refl, sym, ◌∙◌, ap, subst, inl, inr, List}
use Rattle.std.specs.Prelude.{◌&&◌, ◌||◌, ◌==◌, if◌then◌else◌, Option, Some, None}
use Rattle.std.proofs.lemmas.Bool.{false≢true, cases_Bool, eqb-true, and_parts, and_from, or_parts, or_cases, or_right}
use Rattle.rdb_types.specs.declared.node.Level.TheVariants.{Area}
use Rattle.rdb_types.specs.declared.node.Node.{Node}
use Rattle.vms_queues.specs.declared.lock_mode.Mode.{Mode}
use Rattle.vms_queues.specs.declared.lock_mode.Mode.TheVariants.{NL}
use Rattle.vms_queues.specs.Modes.{may_share, at_most, least_above, intent}
use Rattle.vms_queues.specs.Queues.{has_owner, is_queued}
use Rattle.vms_locks.specs.Table.{Table, queues_at, IsLive}
use Rattle.lock_needs.specs.declared.need.Need.{Need}
use Rattle.lock_needs.specs.declared.party.OpenWant.{OpenWant}
use Rattle.lock_needs.specs.declared.party.Asked.{Asked}
use Rattle.lock_needs.specs.Party.{Party}
use Rattle.lock_needs.specs.Nodes.{same_node, contains, is_on, above_of}
use Rattle.lock_needs.specs.Needs.{Holding}
use Rattle.lock_needs.specs.Keeping.{below, needed_on}
use Rattle.lock_needs.specs.Wants.{mode_for, has_granted, opened_at, sleeps_at, kept_at}
use Rattle.lock_needs.specs.Waits.{converts_at, asked_before}
use Rattle.lock_needs.proofs.ModeTables.{at_most-refl, at_most-trans, at_most-join, join-left, join-right}
use Rattle.lock_needs.proofs.NodeLaws.{same_node-true, contains-trans}
use Rattle.lock_needs.proofs.Above.{top-alone}
use Rattle.lock_needs.proofs.Cover.{by_test}
use Rattle.lock_needs.proofs.Growing.{join-more}
use Rattle.lock_needs.proofs.Joins.{nothing}
use Rattle.lock_tree_laws.specs.LockTable.{granted_in, sought_in, granted_at, sought_at}
use Rattle.lock_tree_laws.specs.Parties.{IsKept, wanting, resting, unasked, asked_at}
use Rattle.lock_tree_laws.specs.Order.{IsOrdered, IsInOrder, AreKept, KeepsParty, MakesWay, StandsByNeeds, asked_of_want, is_listed, without_asks}
use Rattle.lock_tree_laws.proofs.HeldModes.{nothing-shares}
use Rattle.lock_tree_laws.proofs.Changes.{shares-live, quiet-at}
use Rattle.lock_tree_laws.proofs.Ordered.{flip, stands-owner}
use Rattle.lock_tree_laws.proofs.Leaving.{and-none, opened-up, up-same}
use Rattle.lock_tree_laws.proofs.Asks.{listed-without, unlisted-without, before-without}
use Rattle.lock_tree_laws.proofs.Arrivals.{holder-came}
use Rattle.lock_tree_laws.proofs.WayMade.{way-none, way-others, way-own}
use Rattle.lock_tree_laws.proofs.AskedInOrder.{ordered-more}

-- some node
any-node : Node
any-node = record { level = Area; area = 0; at = 0; line = 0 }

-- where nobody holds, asks or wants anything
pub empty-in_order : (spare : ℕ) (party : ℕ → Party) → ((u : ℕ) → (party u).opened ≡ None) → IsInOrder (record { entries = []; spare = spare }) party []
empty-in_order spare party none = record {
  least = λ u a n d f. absurd (false≢true (sym f ∙ nothing-shares (sought_at (record { entries = []; spare = spare }) a n)));
  ordered = λ n. record {
    granted_used = refl;
    converting_used = refl;
    waiting_used = refl;
    converting = λ u h. absurd (false≢true h);
    waiting = λ u a d h s. absurd (false≢true h);
    granted = λ u a d h f s. absurd (false≢true h);
  };
  listed = λ u n. sym (ap (λ (q : Option OpenWant). asked_of_want q n) (none u));
}

module _ (old new : Table) (party next : ℕ → Party) (asks : List Asked) (o : ℕ) (way : MakesWay o old new) (live : IsLive (queues_at new)) (kept : AreKept old party) (after : AreKept new next)
    (others : KeepsParty o party next) (stands : StandsByNeeds new o (next o)) (order : IsInOrder old party asks) where
  step-least : (u : ℕ) → StandsByNeeds new u (next u)
  step-least u = elim (cases_Bool (u == o)) [
    | inl e ↦ subst (λ (z : ℕ). StandsByNeeds new z (next z)) (sym (eqb-true u o e)) stands
    | inr d ↦ subst (λ (p : Party). StandsByNeeds new u p) (sym (others u d))
        (way-others o old new way (shares-live new new o any-node live) u (party u) d (kept u) (subst (IsKept new u) (others u d) (after u)) (order.least u))
  ]

  step-order : (n : Node) → IsOrdered (λ u a. asked_before u a n asks) (λ u. converts_at (party u).needs n) (queues_at new n)
  step-order = way.order (λ n u a. asked_before u a n asks) (λ n u. converts_at (party u).needs n) order.ordered

  -- the owner has the same needs, and its open want was asked where it was
  pub served-in_order : ((n : Node) → converts_at (next o).needs n ≡ converts_at (party o).needs n) → ((n : Node) → asked_of_want (next o).opened n ≡ asked_of_want (party o).opened n) → IsInOrder new next asks
  served-in_order needs asked = record {
    least = step-least;
    ordered = λ n. ordered-more (λ u a. asked_before u a n asks) (λ u a. asked_before u a n asks) (λ u. converts_at (party u).needs n) (λ u. converts_at (next u).needs n) (queues_at new n)
        (λ u a h. h)
        (λ u h. elim (cases_Bool (u == o)) [
          | inr d ↦ subst (λ (p : Party). converts_at p.needs n ≡ true) (sym (others u d)) h
          | inl e ↦
              let is : u ≡ o = eqb-true u o e in
              subst (λ (z : ℕ). converts_at (next z).needs n ≡ true) (sym is) (needs n ∙ subst (λ (z : ℕ). converts_at (party z).needs n ≡ true) is h)
        ])
        (step-order n);
    listed = λ u n. elim (cases_Bool (u == o)) [
      | inr d ↦ order.listed u n ∙ sym (ap (λ (p : Party). asked_of_want p.opened n) (others u d))
      | inl e ↦ subst (λ (z : ℕ). is_listed z n asks ≡ asked_of_want (next z).opened n) (sym (eqb-true u o e)) (order.listed o n ∙ sym (asked n))
    ];
  }

  -- the owner has nothing queued
  module _ (quiet : (n : Node) → sought_at new o n ≡ granted_at new o n) where
    unqueued : (n : Node) → is_queued o (queues_at new n) ≡ false
    unqueued n = quiet-at new new o n live (quiet n)

    no-conversion : (n : Node) → has_owner o (queues_at new n).converting ≡ false
    no-conversion n = (or_parts (has_owner o (queues_at new n).converting) (has_owner o (queues_at new n).waiting) (unqueued n)).0

    no-request : (n : Node) → has_owner o (queues_at new n).waiting ≡ false
    no-request n = (or_parts (has_owner o (queues_at new n).converting) (has_owner o (queues_at new n).waiting) (unqueued n)).1

    other-than : (u : ℕ) (f : ℕ → Bool) → f o ≡ false → f u ≡ true → (u == o) ≡ false
    other-than u f n h = elim (cases_Bool (u == o)) [
      | inr d ↦ d
      | inl e ↦ absurd (false≢true (sym n ∙ subst (λ (z : ℕ). f z ≡ true) (eqb-true u o e) h))
    ]

    -- the list says of the others what it said, and of the owner what is needed
    order-with : (more : List Asked) → ((u a : ℕ) (n : Node) → (u == o) ≡ false → (a == o) ≡ false → asked_before u a n more ≡ asked_before u a n asks)
        → ((a : ℕ) (n : Node) → (o == a) ≡ false → has_owner o (queues_at new n).granted ≡ true → converts_at (next o).needs n ≡ false → may_share (granted_in o (queues_at new n)) (sought_in a (queues_at new n)) ≡ false → asked_before o a n more ≡ true)
        → (n : Node) → IsOrdered (λ u a. asked_before u a n more) (λ u. converts_at (next u).needs n) (queues_at new n)
    order-with more same own n =
        let k = step-order n in record {
          granted_used = k.granted_used;
          converting_used = k.converting_used;
          waiting_used = k.waiting_used;
          converting = λ u h.
              let d : (u == o) ≡ false = other-than u (λ z. has_owner z (queues_at new n).converting) (no-conversion n) h in
              subst (λ (p : Party). converts_at p.needs n ≡ true) (sym (others u d)) (k.converting u h);
          waiting = λ u a d h s.
              same u a n
              (other-than u (λ z. has_owner z (queues_at new n).waiting) (no-request n) (stands-owner u a (queues_at new n).waiting s))
              (other-than a (λ z. has_owner z (queues_at new n).waiting) (no-request n) h)
              ∙ k.waiting u a d h s;
          granted = λ u a d h f s. elim (cases_Bool (u == o)) [
            | inl e ↦
                let is : u ≡ o = eqb-true u o e in
                subst (λ (z : ℕ). asked_before z a n more ≡ true) (sym is)
                (own a n (subst (λ (z : ℕ). (z == a) ≡ false) is d) (subst (λ (z : ℕ). has_owner z (queues_at new n).granted ≡ true) is h) (subst (λ (z : ℕ). converts_at (next z).needs n ≡ false) is f)
                (subst (λ (z : ℕ). may_share (granted_in z (queues_at new n)) (sought_in a (queues_at new n)) ≡ false) is s))
            | inr e ↦ elim (cases_Bool (a == o)) [
              | inl g ↦
                  let is : a ≡ o = eqb-true a o g in
                  absurd (false≢true
                  (sym s
                  ∙ (ap (may_share (granted_in u (queues_at new n))) (subst (λ (z : ℕ). sought_at new z n ≡ granted_at new z n) (sym is) (quiet n))
                  ∙ shares-live new new o n live u a (flip u a d) n)))
              | inr g ↦ same u a n e g ∙ k.granted u a d h (subst (λ (p : Party). converts_at p.needs n ≡ false) (others u e) f) s
            ]
          ];
        }

  -- the owner's want isn't open any more, whatever needs it has now
  module _ (closed : (next o).opened ≡ None) where
    -- who holds a lock has a need there or below
    own-converts : (n : Node) → has_owner o (queues_at new n).granted ≡ true → converts_at (next o).needs n ≡ true
    own-converts n has = elim (cases_Bool (converts_at (next o).needs n)) [
      | inl t ↦ t
      | inr f ↦ absurd (false≢true (ap (λ (q : Option OpenWant). asked_of_want q n) (sym closed) ∙ holder-came new o (next o) n (after o) (step-order n).granted_used has f))
    ]

    pub ended-in_order : IsInOrder new next (without_asks o asks)
    ended-in_order = record {
      least = step-least;
      ordered = order-with (λ n. (after o).awake n (ap (λ (q : Option OpenWant). sleeps_at (granted_at new o) q n) closed)) (without_asks o asks)
          (λ u a n d e. before-without u a o n asks d e)
          (λ a n d h f s. absurd (false≢true (sym f ∙ own-converts n h)));
      listed = λ u n. elim (cases_Bool (u == o)) [
        | inr d ↦ listed-without u o n asks d ∙ (order.listed u n ∙ sym (ap (λ (p : Party). asked_of_want p.opened n) (others u d)))
        | inl e ↦ subst (λ (z : ℕ). is_listed z n (without_asks o asks) ≡ asked_of_want (next z).opened n) (sym (eqb-true u o e))
            (unlisted-without o n asks ∙ sym (ap (λ (q : Option OpenWant). asked_of_want q n) closed))
      ];
    }

-- ---- what must be kept as a want opens, goes down and is got

kept-opened : (held : Holding) (ws : List Need) (p q : Option OpenWant) (x : Node) → at_most (opened_at held p x) (opened_at held q x) ≡ true → at_most (kept_at held (record { needs = ws; opened = p }) x) (kept_at held (record { needs = ws; opened = q }) x) ≡ true
kept-opened held ws p q x h = join-more (opened_at held p x) (opened_at held q x) _ h

stands-opened : (t : Table) (o : ℕ) (ws : List Need) (p q : Option OpenWant) → ((x : Node) → at_most (opened_at (granted_at t o) p x) (opened_at (granted_at t o) q x) ≡ true)
    → StandsByNeeds t o (record { needs = ws; opened = p }) → StandsByNeeds t o (record { needs = ws; opened = q })
stands-opened t o ws p q h = way-own o t t (way-none o t) (record { needs = ws; opened = p }) (record { needs = ws; opened = q }) (λ x. kept-opened (granted_at t o) ws p q x (h x))

-- a want opens
pub stands-opens : (t : Table) (o : ℕ) (ws : List Need) (w : OpenWant) → StandsByNeeds t o (resting ws) → StandsByNeeds t o (wanting ws w)
stands-opens t o ws w = stands-opened t o ws None (Some w) (λ x. nothing (opened_at (granted_at t o) (Some w) x))

pub asked-opens : (w : OpenWant) (x : Node) → above_of w.here ≡ None → asked_of_want (Some (unasked w)) x ≡ asked_of_want None x
asked-opens w x top = ap (λ (b : Bool). b || (same_node x w.here && false)) (top-alone w.here x top) ∙ and-none (same_node x w.here)

-- a want that was granted its mode goes down
module _ (t : Table) (o : ℕ) (ws : List Need) (w : OpenWant) (up : Node) (e : above_of w.here ≡ Some up) (granted : at_most (mode_for w.need up) (granted_at t o up) ≡ true) where
  pub stands-descends : StandsByNeeds t o (wanting ws (asked_at w up)) → StandsByNeeds t o (wanting ws (unasked w))
  stands-descends = stands-opened t o ws (Some (asked_at w up)) (Some (unasked w))
      (λ x. subst (λ (y : Mode). at_most (opened_at (granted_at t o) (Some (asked_at w up)) x) y ≡ true) (opened-up (granted_at t o) w up e granted x) (at_most-refl (opened_at (granted_at t o) (Some (asked_at w up)) x)))

  pub asked-descends : (x : Node) → asked_of_want (Some (unasked w)) x ≡ asked_of_want (Some (asked_at w up)) x
  asked-descends x =
      ap (λ (b : Bool). b || (same_node x w.here && false)) (up-same (granted_at t o) w up e granted x)
      ∙ drops (contains x up) (same_node x up) (same_node x w.here)
    where
      drops : (c s d : Bool) → ((c || s) || (d && false)) ≡ (c || (s && true))
      drops true s d = refl
      drops false true d = refl
      drops false false true = refl
      drops false false false = refl

-- a want is got
below-push : (ws : List Need) (w : Need) (x : Node) → at_most (below ws x) (below (ws ++ w ∷ []) x) ≡ true
below-push [] w x = nothing (below (w ∷ []) x)
below-push (v ∷ vs) w x =
    elim (contains x v.node) as (λ b. at_most (if b then least_above (intent v.mode) (below vs x) else below vs x) (if b then least_above (intent v.mode) (below (vs ++ w ∷ []) x) else below (vs ++ w ∷ []) x) ≡ true) [
      | true ↦ join-grows (intent v.mode) (below vs x) (below (vs ++ w ∷ []) x) (below-push vs w x)
      | false ↦ below-push vs w x
    ]
  where
    join-grows : (m a b : Mode) → at_most a b ≡ true → at_most (least_above m a) (least_above m b) ≡ true
    join-grows m a b h =
        at_most-join m a (least_above m b)
        ∙ and_from (at_most m (least_above m b)) (at_most a (least_above m b)) (join-left m b) (at_most-trans a b (least_above m b) h (join-right m b))

below-pushed : (ws : List Need) (w : Need) (x : Node) → contains x w.node ≡ true → at_most (intent w.mode) (below (ws ++ w ∷ []) x) ≡ true
below-pushed [] w x c = subst (λ (b : Bool). at_most (intent w.mode) (if b then least_above (intent w.mode) NL else NL) ≡ true) (sym c) (join-left (intent w.mode) NL)
below-pushed (v ∷ vs) w x c =
    elim (contains x v.node) as (λ b. at_most (intent w.mode) (if b then least_above (intent v.mode) (below (vs ++ w ∷ []) x) else below (vs ++ w ∷ []) x) ≡ true) [
      | true ↦ at_most-trans (intent w.mode) (below (vs ++ w ∷ []) x) (least_above (intent v.mode) (below (vs ++ w ∷ []) x)) (below-pushed vs w x c) (join-right (intent v.mode) (below (vs ++ w ∷ []) x))
      | false ↦ below-pushed vs w x c
    ]

needed-push : (ws : List Need) (w : Need) (x : Node) → at_most (needed_on ws x) (needed_on (ws ++ w ∷ []) x) ≡ true
needed-push [] w x = nothing (needed_on (w ∷ []) x)
needed-push (v ∷ vs) w x =
    elim (same_node x v.node) as (λ b. at_most (if b then least_above v.mode (needed_on vs x) else needed_on vs x) (if b then least_above v.mode (needed_on (vs ++ w ∷ []) x) else needed_on (vs ++ w ∷ []) x) ≡ true) [
      | true ↦
          at_most-join v.mode (needed_on vs x) (least_above v.mode (needed_on (vs ++ w ∷ []) x))
          ∙ and_from (at_most v.mode (least_above v.mode (needed_on (vs ++ w ∷ []) x))) (at_most (needed_on vs x) (least_above v.mode (needed_on (vs ++ w ∷ []) x))) (join-left v.mode (needed_on (vs ++ w ∷ []) x))
          (at_most-trans (needed_on vs x) (needed_on (vs ++ w ∷ []) x) (least_above v.mode (needed_on (vs ++ w ∷ []) x)) (needed-push vs w x) (join-right v.mode (needed_on (vs ++ w ∷ []) x)))
      | false ↦ needed-push vs w x
    ]

needed-pushed : (ws : List Need) (w : Need) (x : Node) → same_node x w.node ≡ true → at_most w.mode (needed_on (ws ++ w ∷ []) x) ≡ true
needed-pushed [] w x c = subst (λ (b : Bool). at_most w.mode (if b then least_above w.mode NL else NL) ≡ true) (sym c) (join-left w.mode NL)
needed-pushed (v ∷ vs) w x c =
    elim (same_node x v.node) as (λ b. at_most w.mode (if b then least_above v.mode (needed_on (vs ++ w ∷ []) x) else needed_on (vs ++ w ∷ []) x) ≡ true) [
      | true ↦ at_most-trans w.mode (needed_on (vs ++ w ∷ []) x) (least_above v.mode (needed_on (vs ++ w ∷ []) x)) (needed-pushed vs w x c) (join-right v.mode (needed_on (vs ++ w ∷ []) x))
      | false ↦ needed-pushed vs w x c
    ]

-- what a want was granted at a node, its need asks there
opened-got : (held : Holding) (ws : List Need) (w : OpenWant) (x : Node) → is_on w.here w.need.node ≡ true → at_most (opened_at held (Some w) x) (least_above (below (ws ++ w.need ∷ []) x) (needed_on (ws ++ w.need ∷ []) x)) ≡ true
opened-got held ws w x way =
    let more : Mode = below (ws ++ w.need ∷ []) x in
    let on : Mode = needed_on (ws ++ w.need ∷ []) x in
    by_test (λ (y : Mode). at_most y (least_above more on) ≡ true) (has_granted held w x) (mode_for w.need x) NL
    (λ g.
    let at : is_on x w.need.node ≡ true = elim (or_cases (contains x w.here) (same_node x w.here && (w.is_asked && at_most (mode_for w.need x) (held x))) g) [
      | inl c ↦ or_right (same_node x w.need.node) (contains x w.need.node) (elim (or_cases (same_node w.here w.need.node) (contains w.here w.need.node) way) [
        | inl s ↦ subst (λ (z : Node). contains x z ≡ true) (same_node-true w.here w.need.node s) c
        | inr d ↦ contains-trans x w.here w.need.node c d
      ])
      | inr s ↦ subst (λ (z : Node). is_on z w.need.node ≡ true) (sym (same_node-true x w.here (and_parts (same_node x w.here) (w.is_asked && at_most (mode_for w.need x) (held x)) s).0)) way
    ] in
    elim (cases_Bool (same_node x w.need.node)) [
      | inl s ↦ subst (λ (b : Bool). at_most (if b then w.need.mode else intent w.need.mode) (least_above more on) ≡ true) (sym s)
          (at_most-trans w.need.mode on (least_above more on) (needed-pushed ws w.need x s) (join-right more on))
      | inr f ↦ subst (λ (b : Bool). at_most (if b then w.need.mode else intent w.need.mode) (least_above more on) ≡ true) (sym f)
          (at_most-trans (intent w.need.mode) more (least_above more on)
          (below-pushed ws w.need x (elim (or_cases (same_node x w.need.node) (contains x w.need.node) at) [ inl s ↦ absurd (false≢true (sym f ∙ s)) | inr c ↦ c ]))
          (join-left more on))
    ])
    (λ g. nothing (least_above more on))

pub kept-got : (held : Holding) (ws : List Need) (w : OpenWant) (x : Node) → is_on w.here w.need.node ≡ true → at_most (kept_at held (wanting ws w) x) (kept_at held (resting (ws ++ w.need ∷ [])) x) ≡ true
kept-got held ws w x way =
    let needed : Mode = least_above (below ws x) (needed_on ws x) in
    let more : Mode = least_above (below (ws ++ w.need ∷ []) x) (needed_on (ws ++ w.need ∷ []) x) in
    let kept : Mode = kept_at held (resting (ws ++ w.need ∷ [])) x in
    let up : at_most more kept ≡ true = join-right NL more in
    at_most-join (opened_at held (Some w) x) needed kept
    ∙ and_from (at_most (opened_at held (Some w) x) kept) (at_most needed kept)
    (at_most-trans (opened_at held (Some w) x) more kept (opened-got held ws w x way) up)
    (at_most-trans needed more kept
    (at_most-join (below ws x) (needed_on ws x) more
    ∙ and_from (at_most (below ws x) more) (at_most (needed_on ws x) more)
    (at_most-trans (below ws x) (below (ws ++ w.need ∷ []) x) more (below-push ws w.need x) (join-left (below (ws ++ w.need ∷ []) x) (needed_on (ws ++ w.need ∷ []) x)))
    (at_most-trans (needed_on ws x) (needed_on (ws ++ w.need ∷ []) x) more (needed-push ws w.need x) (join-right (below (ws ++ w.need ∷ []) x) (needed_on (ws ++ w.need ∷ []) x))))
    up)

-- the owner got the need of its want
pub stands-got : (old new : Table) (o : ℕ) (ws : List Need) (w : OpenWant) → MakesWay o old new → is_on w.here w.need.node ≡ true → StandsByNeeds old o (wanting ws w) → StandsByNeeds new o (resting (ws ++ w.need ∷ []))
stands-got old new o ws w way on = way-own o old new way (wanting ws w) (resting (ws ++ w.need ∷ [])) (λ x. kept-got (granted_at old o) ws w x on)
