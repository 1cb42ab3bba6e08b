-- Who stands in the way of a request is one for whom its owner waits by needs.
use Rattle.std.proofs.Common.{◌≡◌, ℕ, Bool, true, false, refl, sym, ◌∙◌, ap, subst, ◌⊎◌, inl, inr, List, [], ◌∷◌}
use Rattle.std.specs.Prelude.{◌&&◌, ◌||◌, ◌==◌, not, if◌then◌else◌, Option, Some, None, unwrap_or}
use Rattle.std.proofs.lemmas.Bool.{false≢true, and_parts, and_from, or_left, or_right, or_cases, cases_Bool, not_from_false, eq-eqb, eqb-true}
use Rattle.rdb_types.specs.declared.node.Node.{Node}
use Rattle.vms_queues.specs.declared.lock_mode.Mode.{Mode}
use Rattle.vms_queues.specs.declared.lock_mode.Mode.TheVariants.{NL}
use Rattle.vms_queues.specs.Modes.{may_share, at_most, least_above}
use Rattle.vms_queues.specs.Queues.{IsSound, has_owner}
use Rattle.vms_queues.specs.Waits.{waits}
use Rattle.vms_queues.proofs.ModeLaws.{may_share-comm}
use Rattle.vms_queues.proofs.PassEdges.{not_named_in}
use Rattle.vms_locks.specs.Table.{Table, queues_at, WaitsIn}
use Rattle.lock_needs.specs.declared.party.OpenWant.{OpenWant}
use Rattle.lock_needs.specs.declared.party.Asked.{Asked}
use Rattle.lock_needs.specs.Party.{Party}
use Rattle.lock_needs.specs.Nodes.{same_node, contains}
use Rattle.lock_needs.specs.Needs.{Holding, AreCompatible, conflict}
use Rattle.lock_needs.specs.Keeping.{below, needed_on}
use Rattle.lock_needs.specs.Wants.{mode_for, has_granted, opened_at, sleeps_at, IsOnWay}
use Rattle.lock_needs.specs.Waits.{upper_of, converts_at, asked_before, has_asked, holds_against, wants_against, waits_for, comes_first, wanted}
use Rattle.lock_needs.proofs.ModeTables.{at_most-shares}
use Rattle.lock_needs.proofs.NodeLaws.{same_node-true, IsOn}
use Rattle.lock_tree_laws.specs.LockTable.{granted_at, sought_at, HasIntents}
use Rattle.lock_tree_laws.specs.Parties.{IsKeptBut, nowhere, was_asked}
use Rattle.lock_tree_laws.specs.Order.{stands_before, is_listed, asked_of_want, IsInOrder, AreKept, waits_with, waits_by_needs}
use Rattle.lock_tree_laws.proofs.QueueModes.{mode-absent}
use Rattle.lock_tree_laws.proofs.HeldModes.{nothing-shares, shares-in}
use Rattle.lock_tree_laws.proofs.OwnLocks.{asked-at_here}
use Rattle.lock_tree_laws.proofs.Blockers.{stands-in_way}
use Rattle.lock_tree_laws.proofs.Meeting.{as-on, on-on, Meets, meets, covered-shares, other-part, Proves, some-below, some-on}

other-way : (o u : ℕ) → (o == u) ≡ false → (u == o) ≡ false
other-way o u d = elim (cases_Bool (u == o)) [ inr n ↦ n | inl y ↦ absurd (false≢true (sym d ∙ eq-eqb o u (sym (eqb-true u o y)))) ]

-- where a want was asked at a node, it was asked
listed-asked : (owner : ℕ) (n : Node) (asks : List Asked) → is_listed owner n asks ≡ true → has_asked owner asks ≡ true
listed-asked owner n [] h = absurd (false≢true h)
listed-asked owner n (a ∷ rest) h =
    elim (or_cases (same_node a.node n && (a.owner == owner)) (is_listed owner n rest) h) [
      | inl x ↦ or_left (a.owner == owner) (has_asked owner rest) (and_parts (same_node a.node n) (a.owner == owner) x).1
      | inr x ↦ or_right (a.owner == owner) (has_asked owner rest) (listed-asked owner n rest x)
    ]

-- where it was granted its mode, it was asked
granted-asked : (v : OpenWant) (held : Holding) (n : Node) → has_granted held v n ≡ true → was_asked v n ≡ true
granted-asked v held n g =
    elim (or_cases (contains n v.here) (same_node n v.here && (v.is_asked && at_most (mode_for v.need n) (held n))) g) [
      | inl c ↦ or_left (contains n v.here) (same_node n v.here && v.is_asked) c
      | inr s ↦
          let p = and_parts (same_node n v.here) (v.is_asked && at_most (mode_for v.need n) (held n)) s in
          or_right (contains n v.here) (same_node n v.here && v.is_asked) (and_from (same_node n v.here) v.is_asked p.0 (and_parts v.is_asked (at_most (mode_for v.need n) (held n)) p.1).0)
    ]

-- the open want of who asks another mode at the node than it holds
pub record IsAsleepAt (held sought : Holding) (p : Party) (n : Node) : Type 0 where
  pub want : OpenWant
  pub opened : p.opened ≡ Some want
  pub here : n ≡ want.here
  pub asked : was_asked want n ≡ true
  pub asks : sought n ≡ least_above (held n) (mode_for want.need n)
  pub on : IsOn n want.need.node

on-way : (p : Party) (w : OpenWant) → IsOnWay p.opened → p.opened ≡ Some w → IsOn w.here w.need.node
on-way p w way e = as-on w.here w.need.node (subst IsOnWay e way)

module _ (held sought : Holding) (p : Party) (n : Node) (k : IsKeptBut nowhere held sought p) (differs : sought n ≡ held n → ⊥) where
  asleep-from : (o : Option OpenWant) → p.opened ≡ o → IsAsleepAt held sought p n
  asleep-from None e = absurd (differs (k.awake n (ap (λ (o : Option OpenWant). sleeps_at held o n) e)))
  asleep-from (Some w) e =
      elim (cases_Bool (sleeps_at held (Some w) n)) [
        | inr f ↦ absurd (differs (k.awake n (ap (λ (o : Option OpenWant). sleeps_at held o n) e ∙ f)))
        | inl s ↦
            let parts = and_parts (same_node n w.here) (w.is_asked && not (at_most (mode_for w.need n) (held n))) s in
            let here : n ≡ w.here = same_node-true n w.here parts.0 in record {
              want = w;
              opened = e;
              here = here;
              asked = asked-at_here w n parts.0 (and_parts w.is_asked (not (at_most (mode_for w.need n) (held n))) parts.1).0;
              asks = subst (λ (z : Node). sought z ≡ least_above (held z) (mode_for w.need z)) (sym here)
                  (k.asleep w e (subst (λ (z : Node). sleeps_at held (Some w) z ≡ true) here s));
              on = subst (λ (z : Node). IsOn z w.need.node) (sym here) (on-way p w k.way e);
            }
      ]

  pub asleep-at : IsAsleepAt held sought p n
  asleep-at = asleep-from p.opened refl

module _ (t : Table) (party : ℕ → Party) (asks : List Asked) (sound : (n : Node) → IsSound (queues_at t n)) (intents : HasIntents t) (kept : AreKept t party) (order : IsInOrder t party asks) where
  module _ (a b : ℕ) (n : Node) (other : (b == a) ≡ false) where
    side : AreCompatible (granted_at t b) (granted_at t a)
    side x = shares-in (queues_at t x) b a (sound x) (other-way b a other)

    -- a mode that shares with the owner's lock, and not with what it asks, doesn't share with the mode of its want
    apart : (w : IsAsleepAt (granted_at t a) (sought_at t a) (party a) n) (x : Mode) → may_share x (granted_at t a n) ≡ true → may_share x (sought_at t a n) ≡ false → may_share x (mode_for w.want.need n) ≡ false
    apart w x s f =
        may_share-comm x (mode_for w.want.need n)
        ∙ other-part (granted_at t a n) (mode_for w.want.need n) x
        (subst (λ (y : Mode). may_share y x ≡ false) w.asks (may_share-comm (sought_at t a n) x ∙ f))
        (may_share-comm (granted_at t a n) x ∙ s)

    -- a want of b that came first
    want-waits : (w : IsAsleepAt (granted_at t a) (sought_at t a) (party a) n) (v : OpenWant) → Meets w.want.need v.need n → (party b).opened ≡ Some v → was_asked v n ≡ true → ((converts_at (party b).needs n || asked_before b a n asks) ≡ true) → comes_first asks a w.want.need b (party b).needs (wanted (Some v)) ≡ true
    want-waits w v m e asked first =
        and_from (conflict w.want.need v.need) ((converts_at (party b).needs (upper_of w.want.need v.need) && has_asked b asks) || asked_before b a (upper_of w.want.need v.need) asks) m.conflicts
        (subst (λ (z : Node). ((converts_at (party b).needs z && has_asked b asks) || asked_before b a z asks) ≡ true) (sym m.upper)
        (elim (or_cases (converts_at (party b).needs n) (asked_before b a n asks) first) [
          | inl c ↦ or_left (converts_at (party b).needs n && has_asked b asks) (asked_before b a n asks) (and_from (converts_at (party b).needs n) (has_asked b asks) c
              (listed-asked b n asks (order.listed b n ∙ (ap (λ (o : Option OpenWant). asked_of_want o n) e ∙ asked))))
          | inr s ↦ or_right (converts_at (party b).needs n && has_asked b asks) (asked_before b a n asks) s
        ]))

    -- so a waits for b
    for-want : (w : IsAsleepAt (granted_at t a) (sought_at t a) (party a) n) → (holds_against w.want.need (party b) || wants_against asks a w.want.need b (party b)) ≡ true → waits_by_needs party asks a b ≡ true
    for-want w h =
        ap (λ (o : Option OpenWant). waits_with asks a o b (party b)) w.opened
        ∙ and_from (has_asked a asks) (waits_for asks a w.want.need b (party b))
        (listed-asked a n asks (order.listed a n ∙ (ap (λ (o : Option OpenWant). asked_of_want o n) w.opened ∙ w.asked)))
        (and_from (not (a == b)) (holds_against w.want.need (party b) || wants_against asks a w.want.need b (party b)) (not_from_false (a == b) (other-way b a other)) h)

    module _ (shuts : may_share (granted_at t b n) (sought_at t a n) ≡ false) where
      asleep : IsAsleepAt (granted_at t a) (sought_at t a) (party a) n
      asleep = asleep-at (granted_at t a) (sought_at t a) (party a) n (kept a) (λ e. false≢true (sym shuts ∙ (ap (may_share (granted_at t b n)) e ∙ side n)))

      holder : has_owner b (queues_at t n).granted ≡ true
      holder = elim (cases_Bool (has_owner b (queues_at t n).granted)) [
        | inl h ↦ h
        | inr f ↦ absurd (false≢true (sym shuts ∙ (ap (λ (x : Option Mode). may_share (unwrap_or x NL) (sought_at t a n)) (mode-absent b (queues_at t n).granted f) ∙ nothing-shares (sought_at t a n))))
      ]

      first : (converts_at (party b).needs n || asked_before b a n asks) ≡ true
      first = elim (cases_Bool (converts_at (party b).needs n)) [
        | inl c ↦ or_left (converts_at (party b).needs n) (asked_before b a n asks) c
        | inr f ↦ or_right (converts_at (party b).needs n) (asked_before b a n asks) ((order.ordered n).granted b a other holder f shuts)
      ]

      proves : Proves (conflict asleep.want.need) (granted_at t b) n (sought_at t a n)
      proves v c on f =
          (meets asleep.want.need v n asleep.on on
          (apart asleep (mode_for v n) (covered-shares (granted_at t b) (granted_at t a) side (intents.granted b) (intents.granted a) v n c on) f)).conflicts

      by-need : may_share (least_above (below (party b).needs n) (needed_on (party b).needs n)) (sought_at t a n) ≡ false → holds_against asleep.want.need (party b) ≡ true
      by-need f =
          elim (cases_Bool (may_share (below (party b).needs n) (sought_at t a n))) [
            | inr x ↦ some-below (conflict asleep.want.need) (granted_at t b) n (sought_at t a n) (party b).needs proves (kept b).covered x
            | inl x ↦ some-on (conflict asleep.want.need) (granted_at t b) n (sought_at t a n) (party b).needs proves (kept b).covered
                (other-part (below (party b).needs n) (needed_on (party b).needs n) (sought_at t a n) f x)
          ]

      granted-on : (v : OpenWant) → (party b).opened ≡ Some v → has_granted (granted_at t b) v n ≡ true → IsOn n v.need.node
      granted-on v e g =
          on-on n v.here v.need.node
          (elim (or_cases (contains n v.here) (same_node n v.here && (v.is_asked && at_most (mode_for v.need n) (granted_at t b n))) g) [
            | inl c ↦ inr c
            | inr s ↦ inl (same_node-true n v.here (and_parts (same_node n v.here) (v.is_asked && at_most (mode_for v.need n) (granted_at t b n)) s).0)
          ])
          (on-way (party b) v (kept b).way e)

      by-want : (o : Option OpenWant) → (party b).opened ≡ o → may_share (opened_at (granted_at t b) o n) (sought_at t a n) ≡ false → comes_first asks a asleep.want.need b (party b).needs (wanted o) ≡ true
      by-want None e f = absurd (false≢true (sym f ∙ nothing-shares (sought_at t a n)))
      by-want (Some v) e f =
          elim (cases_Bool (has_granted (granted_at t b) v n)) [
            | inr d ↦ absurd (false≢true
                (sym (subst (λ (g : Bool). may_share (if g then mode_for v.need n else NL) (sought_at t a n) ≡ false) d f) ∙ nothing-shares (sought_at t a n)))
            | inl g ↦
                let opens : opened_at (granted_at t b) (Some v) n ≡ mode_for v.need n = ap (λ (g : Bool). if g then mode_for v.need n else NL) g in
                let most : at_most (mode_for v.need n) (granted_at t b n) ≡ true =
                subst (λ (y : Mode). at_most y (granted_at t b n) ≡ true) (ap (λ (o : Option OpenWant). opened_at (granted_at t b) o n) e ∙ opens) ((kept b).granted n) in
                want-waits asleep v
                (meets asleep.want.need v.need n asleep.on (granted-on v e g)
                (apart asleep (mode_for v.need n) (at_most-shares (mode_for v.need n) (granted_at t b n) (granted_at t a n) most (side n))
                (subst (λ (y : Mode). may_share y (sought_at t a n) ≡ false) opens f)))
                e (granted-asked v (granted_at t b) n g) first
          ]

      pub by-lock : waits_by_needs party asks a b ≡ true
      by-lock =
          let opened : Mode = opened_at (granted_at t b) (party b).opened n in
          let needed : Mode = least_above (below (party b).needs n) (needed_on (party b).needs n) in
          for-want asleep
          (elim (cases_Bool (may_share opened (sought_at t a n))) [
            | inr x ↦ or_right (holds_against asleep.want.need (party b)) (wants_against asks a asleep.want.need b (party b)) (by-want (party b).opened refl x)
            | inl x ↦ or_left (holds_against asleep.want.need (party b)) (wants_against asks a asleep.want.need b (party b))
                (by-need (other-part opened needed (sought_at t a n) (order.least b a n other shuts) x))
          ])

    module _ (there : has_owner a (queues_at t n).waiting ≡ true) (shuts : may_share (sought_at t b n) (sought_at t a n) ≡ false) (place : (has_owner b (queues_at t n).converting ≡ true) ⊎ (stands_before b a (queues_at t n).waiting ≡ true)) (beside : may_share (granted_at t b n) (sought_at t a n) ≡ true) where
      bare : granted_at t a n ≡ NL
      bare = ap (λ (x : Option Mode). unwrap_or x NL)
          (mode-absent a (queues_at t n).granted (elim (cases_Bool (has_owner a (queues_at t n).granted)) [
            | inr f ↦ f
            | inl h ↦ absurd (false≢true (sym (not_named_in a (queues_at t n).granted (queues_at t n).waiting (sound n).waiting_not_granted h) ∙ there))
          ]))

      shares-bare : (x : Mode) → may_share x (granted_at t a n) ≡ true
      shares-bare x = ap (may_share x) bare ∙ (may_share-comm x NL ∙ nothing-shares x)

      waiter : IsAsleepAt (granted_at t a) (sought_at t a) (party a) n
      waiter = asleep-at (granted_at t a) (sought_at t a) (party a) n (kept a) (λ e. false≢true (sym shuts ∙ (ap (may_share (sought_at t b n)) e ∙ shares-bare (sought_at t b n))))

      ahead : IsAsleepAt (granted_at t b) (sought_at t b) (party b) n
      ahead = asleep-at (granted_at t b) (sought_at t b) (party b) n (kept b) (λ e. false≢true (sym shuts ∙ (ap (λ (y : Mode). may_share y (sought_at t a n)) e ∙ beside)))

      came : (converts_at (party b).needs n || asked_before b a n asks) ≡ true
      came = elim place [
        | inl c ↦ or_left (converts_at (party b).needs n) (asked_before b a n asks) ((order.ordered n).converting b c)
        | inr s ↦ or_right (converts_at (party b).needs n) (asked_before b a n asks) ((order.ordered n).waiting b a other there s)
      ]

      pub by-request : waits_by_needs party asks a b ≡ true
      by-request =
          let v : OpenWant = ahead.want in
          let shut : may_share (mode_for v.need n) (sought_at t a n) ≡ false =
          other-part (granted_at t b n) (mode_for v.need n) (sought_at t a n) (subst (λ (y : Mode). may_share y (sought_at t a n) ≡ false) ahead.asks shuts) beside in
          for-want waiter
          (or_right (holds_against waiter.want.need (party b)) (wants_against asks a waiter.want.need b (party b))
          (subst (λ (o : Option OpenWant). comes_first asks a waiter.want.need b (party b).needs (wanted o) ≡ true) (sym ahead.opened)
          (want-waits waiter v (meets waiter.want.need v.need n waiter.on ahead.on (apart waiter (mode_for v.need n) (shares-bare (mode_for v.need n)) shut)) ahead.opened ahead.asked came)))

  -- who stands in the way by the grant rule is waited for by needs
  pub waits-needed : (n : Node) (a b : ℕ) → waits (queues_at t n) a b ≡ true → waits_by_needs party asks a b ≡ true
  waits-needed n a b h =
      let s = stands-in_way (queues_at t n) a b (sound n) h in
      elim s.way [
        | inl x ↦ by-lock a b n s.other x
        | inr x ↦ elim (cases_Bool (may_share (granted_at t b n) (sought_at t a n))) [
          | inr f ↦ by-lock a b n s.other f
          | inl y ↦ by-request a b n s.other x.0 x.1.0 x.1.1 y
        ]
      ]

  pub waits-in_needed : (a b : ℕ) → WaitsIn (queues_at t) a b → waits_by_needs party asks a b ≡ true
  waits-in_needed a b h = waits-needed h.0 a b h.1
