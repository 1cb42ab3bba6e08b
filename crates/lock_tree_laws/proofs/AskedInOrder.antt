-- The order is kept where an open want is asked at its node, and where it is granted there or queued.
use Rattle.std.proofs.Common.{◌≡◌, ℕ, Bool, true, false, refl, sym, ◌∙◌, ap, subst, inl, inr, List}
use Rattle.std.specs.Prelude.{◌&&◌, ◌||◌, ◌==◌, not, if◌then◌else◌, Some}
use Rattle.std.proofs.lemmas.Bool.{false≢true, cases_Bool, eq-eqb, eqb-true, and_parts, and_from, or_parts, or_left, or_right}
use Rattle.rdb_types.specs.declared.node.Node.{Node}
use Rattle.vms_queues.specs.declared.lock_mode.Mode.{Mode}
use Rattle.vms_queues.specs.declared.lock_mode.Mode.TheVariants.{NL, EX}
use Rattle.vms_queues.specs.Modes.{may_share, at_most, least_above}
use Rattle.vms_queues.specs.Queues.{Queues, has_owner, fits, is_queued, with_mode, with_request, with_conversion}
use Rattle.vms_queues.proofs.Soundness.{sound-with_mode}
use Rattle.vms_locks.specs.Table.{Table, queues_at, ChangesAt, IsLive}
use Rattle.vms_locks.specs.Answers.{asking, converting}
use Rattle.lock_needs.specs.declared.need.Need.{Need}
use Rattle.lock_needs.specs.declared.party.OpenWant.{OpenWant}
use Rattle.lock_needs.specs.declared.party.Asked.{Asked}
use Rattle.lock_needs.specs.Party.{Party}
use Rattle.lock_needs.specs.Nodes.{same_node, contains}
use Rattle.lock_needs.specs.Needs.{Holding}
use Rattle.lock_needs.specs.Wants.{mode_for, opened_at, kept_at}
use Rattle.lock_needs.specs.Waits.{converts_at, asked_before}
use Rattle.lock_needs.proofs.ModeTables.{at_most-refl, at_most-trans, join-right}
use Rattle.lock_needs.proofs.NodeLaws.{same_node-true, same_node-refl, same_node-sym, contains-self}
use Rattle.lock_needs.proofs.Cover.{by_test}
use Rattle.lock_needs.proofs.Growing.{join-more, kept-more}
use Rattle.lock_needs.proofs.Joins.{nothing}
use Rattle.lock_tree_laws.specs.LockTable.{granted_at, sought_at, AllShare, HasIntents, RaisedAt, QueuedAt}
use Rattle.lock_tree_laws.specs.Parties.{IsKept, wanting, unasked, asked_at}
use Rattle.lock_tree_laws.specs.Order.{IsOrdered, IsInOrder, AreKept, KeepsParty, asked_of_want, is_listed, asked_last, requesting, NoneInExcess}
use Rattle.lock_tree_laws.proofs.QueueModes.{mode-absent}
use Rattle.lock_tree_laws.proofs.Changes.{quiet-at, queued-at, shares-live, changed-request, changed-conversion}
use Rattle.lock_tree_laws.proofs.Conditions.{absent-quiet}
use Rattle.lock_tree_laws.proofs.Leaving.{and-none, opened-unasked}
use Rattle.lock_tree_laws.proofs.Exactness.{HasNoExclusiveAbove}
use Rattle.lock_tree_laws.proofs.Ordered.{flip, considered-ordered}
use Rattle.lock_tree_laws.proofs.OrderedRequests.{order-there, ordered-lock, ordered-mode, ordered-request, ordered-conversion}
use Rattle.lock_tree_laws.proofs.Asks.{before-push, before-last, listed-last}
use Rattle.lock_tree_laws.proofs.LeastInWay.{shut-more, beside-exclusive, mode-used, least-held}
use Rattle.lock_tree_laws.proofs.Arrivals.{holder-came, waiter-came}

-- the order says no less where more came before, and more have a need there
pub ordered-more : (before more : ℕ → ℕ → Bool) (converts also : ℕ → Bool) (q : Queues) → ((u a : ℕ) → before u a ≡ true → more u a ≡ true) → ((u : ℕ) → converts u ≡ true → also u ≡ true) → IsOrdered before converts q → IsOrdered more also q
ordered-more before more converts also q f g k = record {
  granted_used = k.granted_used;
  converting_used = k.converting_used;
  waiting_used = k.waiting_used;
  converting = λ u h. g u (k.converting u h);
  waiting = λ u a d h s. f u a (k.waiting u a d h s);
  granted = λ u a d h n s. f u a (k.granted u a d h
      (elim (cases_Bool (converts u)) [ inr y ↦ y | inl y ↦ absurd (false≢true (sym n ∙ g u y)) ]) s);
}

module _ (old : Table) (party : ℕ → Party) (asks : List Asked) (live : IsLive (queues_at old)) (intents : HasIntents old) (kept : AreKept old party) (order : IsInOrder old party asks)
    (o : ℕ) (ws : List Need) (w : OpenWant) (own : party o ≡ wanting ws (unasked w)) (real : at_most w.need.mode NL ≡ false) where
  abbrev mode : Mode
  mode = least_above (granted_at old o w.here) (mode_for w.need w.here)

  abbrev here : Queues
  here = queues_at old w.here

  own-kept : IsKept old o (wanting ws (unasked w))
  own-kept = subst (IsKept old o) own (kept o)

  pub own-quiet : (x : Node) → sought_at old o x ≡ granted_at old o x
  own-quiet x = own-kept.awake x (and-none (same_node x w.here))

  pub unqueued : is_queued o here ≡ false
  unqueued = quiet-at old old o w.here live (own-quiet w.here)

  pub no-conversion : has_owner o here.converting ≡ false
  no-conversion = (or_parts (has_owner o here.converting) (has_owner o here.waiting) unqueued).0

  mode-real : at_most mode NL ≡ false
  mode-real = elim (cases_Bool (at_most mode NL)) [
    | inr f ↦ f
    | inl t ↦ absurd (false≢true (sym (mode-used w.need w.here real) ∙ at_most-trans (mode_for w.need w.here) mode NL (join-right (granted_at old o w.here) (mode_for w.need w.here)) t))
  ]

  -- it wasn't asked at the node yet
  not-come : asked_of_want (Some (unasked w)) w.here ≡ false
  not-come = ap (λ (b : Bool). b || (same_node w.here w.here && false)) (self w.here) ∙ and-none (same_node w.here w.here)
    where
      self : (n : Node) → contains n n ≡ false
      self n = elim (cases_Bool (contains n n)) [ inr f ↦ f | inl t ↦ absurd (false≢true (sym (contains-self n n t) ∙ same_node-refl n)) ]

  not-listed : is_listed o w.here asks ≡ false
  not-listed = order.listed o w.here ∙ (ap (λ (p : Party). asked_of_want p.opened w.here) own ∙ not-come)

  -- who has a lock there has a need there or below
  own-converts : has_owner o here.granted ≡ true → converts_at ws w.here ≡ true
  own-converts has = elim (cases_Bool (converts_at ws w.here)) [
    | inl t ↦ t
    | inr f ↦ absurd (false≢true (sym not-come ∙ holder-came old o (wanting ws (unasked w)) w.here own-kept (order.ordered w.here).granted_used has f))
  ]

  holder-listed : (u : ℕ) → has_owner u here.granted ≡ true → converts_at (party u).needs w.here ≡ false → is_listed u w.here asks ≡ true
  holder-listed u has f = order.listed u w.here ∙ holder-came old u (party u) w.here (kept u) (order.ordered w.here).granted_used has f

  waiter-listed : (u : ℕ) → has_owner u here.waiting ≡ true → is_listed u w.here asks ≡ true
  waiter-listed u has = order.listed u w.here ∙ waiter-came old u (party u) w.here (kept u) (live.sound w.here) (order.ordered w.here).waiting_used has

  -- no other has an exclusive lock above the node
  none-exclusive : (u : ℕ) → (u == o) ≡ false → HasNoExclusiveAbove (granted_at old u) w.here
  none-exclusive u d x c = elim (cases_Bool (at_most EX (granted_at old u x))) [
    | inr f ↦ f
    | inl t ↦ absurd (false≢true
        (sym (mode-used w.need x real)
        ∙ at_most-trans (mode_for w.need x) (granted_at old o x) NL
        (subst (λ (y : Mode). at_most y (granted_at old o x) ≡ true) (opened-unasked (granted_at old o) w x ∙ ap (λ (b : Bool). if b then mode_for w.need x else NL) c) (own-kept.granted x))
        (beside-exclusive (granted_at old u x) (granted_at old o x) t (shares-live old old o w.here live u o (flip u o d) x))))
  ]

  -- asking gives what must be kept no less
  kept-asks : (held : Holding) (x : Node) → at_most (kept_at held (wanting ws (unasked w)) x) (kept_at held (wanting ws (asked_at w w.here)) x) ≡ true
  kept-asks held x =
      let m : Mode = mode_for w.need x in
      let tail : Bool = same_node x w.here && (true && at_most m (held x)) in
      join-more (opened_at held (Some (unasked w)) x) (opened_at held (Some (asked_at w w.here)) x) _
      (subst (λ (y : Mode). at_most y (if contains x w.here || tail then m else NL) ≡ true) (sym (opened-unasked held w x))
      (by_test (λ (y : Mode). at_most y (if contains x w.here || tail then m else NL) ≡ true) (contains x w.here) m NL
      (λ c. subst (λ (b : Bool). at_most m (if b then m else NL) ≡ true) (sym (or_left (contains x w.here) tail c)) (at_most-refl m))
      (λ d. nothing (if contains x w.here || tail then m else NL))))

  module _ (next : ℕ → Party) (asked : next o ≡ wanting ws (asked_at w w.here)) (others : KeepsParty o party next) where
    abbrev came : Node → ℕ → ℕ → Bool
    came x u a = asked_before u a x (asked_last asks o w.here)

    abbrev has_need : Node → ℕ → Bool
    has_need x u = converts_at (next u).needs x

    same-needs : (u : ℕ) (x : Node) → converts_at (next u).needs x ≡ converts_at (party u).needs x
    same-needs u x = elim (cases_Bool (u == o)) [
      | inr d ↦ ap (λ (p : Party). converts_at p.needs x) (others u d)
      | inl e ↦ subst (λ (z : ℕ). converts_at (next z).needs x ≡ converts_at (party z).needs x) (sym (eqb-true u o e))
          (ap (λ (p : Party). converts_at p.needs x) asked ∙ sym (ap (λ (p : Party). converts_at p.needs x) own))
    ]

    pub next-listed : (u : ℕ) (x : Node) → is_listed u x (asked_last asks o w.here) ≡ asked_of_want (next u).opened x
    next-listed u x = elim (cases_Bool (u == o)) [
      | inr d ↦ listed-last u o w.here x asks
          ∙ (ap (λ (b : Bool). is_listed u x asks || (same_node w.here x && b)) (flip u o d)
          ∙ (off (is_listed u x asks) (same_node w.here x) ∙ (order.listed u x ∙ sym (ap (λ (p : Party). asked_of_want p.opened x) (others u d)))))
      | inl e ↦ subst (λ (z : ℕ). is_listed z x (asked_last asks o w.here) ≡ asked_of_want (next z).opened x) (sym (eqb-true u o e))
          (listed-last o o w.here x asks
          ∙ (ap (λ (b : Bool). is_listed o x asks || (same_node w.here x && b)) (eq-eqb o o refl)
          ∙ (ap (λ (b : Bool). b || (same_node w.here x && true)) (order.listed o x ∙ ap (λ (p : Party). asked_of_want p.opened x) own)
          ∙ (ap (λ (b : Bool). (contains x w.here || (same_node x w.here && false)) || (b && true)) (turned x)
          ∙ (joined (contains x w.here) (same_node x w.here) ∙ sym (ap (λ (p : Party). asked_of_want p.opened x) asked))))))
    ]
      where
        off : (a b : Bool) → (a || (b && false)) ≡ a
        off true b = refl
        off false true = refl
        off false false = refl

        turned : (x : Node) → same_node w.here x ≡ same_node x w.here
        turned x = elim (cases_Bool (same_node x w.here)) [
          | inl s ↦ same_node-sym x w.here s ∙ sym s
          | inr f ↦ elim (cases_Bool (same_node w.here x)) [
            | inl s ↦ absurd (false≢true (sym f ∙ same_node-sym w.here x s))
            | inr g ↦ g ∙ sym f
          ]
        ]

        joined : (c s : Bool) → ((c || (s && false)) || (s && true)) ≡ (c || (s && true))
        joined true s = refl
        joined false true = refl
        joined false false = refl

    old-order : (x : Node) → IsOrdered (came x) (has_need x) (queues_at old x)
    old-order x =
        ordered-more (λ u a. asked_before u a x asks) (came x) (λ u. converts_at (party u).needs x) (has_need x) (queues_at old x)
        (λ u a h. before-push u a x asks (record { owner = o; node = w.here }) h)
        (λ u h. same-needs u x ∙ h) (order.ordered x)

    holder-first : (u : ℕ) → (u == o) ≡ false → has_owner u here.granted ≡ true → has_need w.here u ≡ false → came w.here u o ≡ true
    holder-first u d h f = before-last u o w.here asks _ (holder-listed u h (sym (same-needs u w.here) ∙ f)) not-listed

    waiter-first : (u : ℕ) → (u == o) ≡ false → has_owner u here.waiting ≡ true → came w.here u o ≡ true
    waiter-first u d h = before-last u o w.here asks _ (waiter-listed u h) not-listed

    own-need : has_owner o here.granted ≡ true → has_need w.here o ≡ true
    own-need has = same-needs o w.here ∙ (ap (λ (p : Party). converts_at p.needs w.here) own ∙ own-converts has)

    kept-least : (u a : ℕ) (x : Node) → (u == a) ≡ false → may_share (granted_at old u x) (sought_at old a x) ≡ false → (held : Holding) → held x ≡ granted_at old u x → may_share (kept_at held (next u) x) (sought_at old a x) ≡ false
    kept-least u a x d f held e =
        shut-more (kept_at (granted_at old u) (party u) x) (kept_at held (next u) x) (sought_at old a x)
        (at_most-trans (kept_at (granted_at old u) (party u) x) (kept_at (granted_at old u) (next u) x) (kept_at held (next u) x)
        (elim (cases_Bool (u == o)) [
          | inr d ↦ subst (λ (p : Party). at_most (kept_at (granted_at old u) (party u) x) (kept_at (granted_at old u) p x) ≡ true) (sym (others u d)) (at_most-refl (kept_at (granted_at old u) (party u) x))
          | inl s ↦
              let is = eqb-true u o s in
              subst (λ (p : Party). at_most (kept_at (granted_at old u) p x) (kept_at (granted_at old u) (next u) x) ≡ true) (sym (ap party is ∙ own))
              (subst (λ (p : Party). at_most (kept_at (granted_at old u) (wanting ws (unasked w)) x) (kept_at (granted_at old u) p x) ≡ true) (sym (ap next is ∙ asked)) (kept-asks (granted_at old u) x))
        ])
        (kept-more (granted_at old u) held (next u) x (subst (λ (y : Mode). at_most (granted_at old u x) y ≡ true) (sym e) (at_most-refl (granted_at old u x)))))
        (order.least u a x d f)

    -- ---- the request is queued

    module _ (new : Table) (changes : ChangesAt old new w.here (requesting here o mode).queued) (due : NoneInExcess old party o w.here mode) where
      queued-here : IsOrdered (came w.here) (has_need w.here) (requesting here o mode).queued
      queued-here = elim (cases_Bool (has_owner o here.granted)) [
        | inl t ↦ subst (λ (b : Bool). IsOrdered (came w.here) (has_need w.here) (if b then converting here o mode else asking here o mode).queued) (sym t)
            (ordered-conversion (came w.here) (has_need w.here) here o mode (live.sound w.here) (old-order w.here) t no-conversion (ap not mode-real) (own-need t) holder-first)
        | inr t ↦ subst (λ (b : Bool). IsOrdered (came w.here) (has_need w.here) (if b then converting here o mode else asking here o mode).queued) (sym t)
            (ordered-request (came w.here) (has_need w.here) here o mode (live.sound w.here) (old-order w.here)
            (absent-quiet old old o w.here mode live unqueued (mode-absent o here.granted t)) (ap not mode-real) waiter-first holder-first)
      ]

      pub queued-law : QueuedAt old new o w.here mode
      queued-law = elim (cases_Bool (has_owner o here.granted)) [
        | inl t ↦ queued-at old new o w.here (with_conversion here o mode) (subst (λ (b : Bool). ChangesAt old new w.here (if b then converting here o mode else asking here o mode).queued) t changes) mode
            (changed-conversion here o mode no-conversion)
        | inr t ↦ queued-at old new o w.here (with_request here o mode) (subst (λ (b : Bool). ChangesAt old new w.here (if b then converting here o mode else asking here o mode).queued) t changes) mode
            (changed-request here o mode (absent-quiet old old o w.here mode live unqueued (mode-absent o here.granted t)))
      ]

      queued-least : (u a : ℕ) (x : Node) → (u == a) ≡ false → may_share (granted_at new u x) (sought_at new a x) ≡ false → may_share (kept_at (granted_at new u) (next u) x) (sought_at new a x) ≡ false
      queued-least u a x d f =
          let held : granted_at new u x ≡ granted_at old u x = queued-law.granted u x in
          let shut : may_share (granted_at old u x) (sought_at new a x) ≡ false = subst (λ (y : Mode). may_share y (sought_at new a x) ≡ false) held f in
          elim (cases_Bool ((a == o) && same_node x w.here)) [
            | inr g ↦
                let same : sought_at new a x ≡ sought_at old a x = queued-law.sought a x ∙ ap (λ (b : Bool). if b then mode else sought_at old a x) g in
                subst (λ (y : Mode). may_share (kept_at (granted_at new u) (next u) x) y ≡ false) (sym same)
                (kept-least u a x d (subst (λ (y : Mode). may_share (granted_at old u x) y ≡ false) same shut) (granted_at new u) held)
            | inl g ↦
                let p = and_parts (a == o) (same_node x w.here) g in
                let is : a ≡ o = eqb-true a o p.0 in
                let there : x ≡ w.here = same_node-true x w.here p.1 in
                let apart : (u == o) ≡ false = subst (λ (z : ℕ). (u == z) ≡ false) is d in
                let asks : sought_at new a x ≡ mode = queued-law.sought a x ∙ ap (λ (b : Bool). if b then mode else sought_at old a x) g in
                let shuts : may_share (granted_at old u w.here) mode ≡ false =
                subst (λ (z : Node). may_share (granted_at old u z) mode ≡ false) there (subst (λ (y : Mode). may_share (granted_at old u x) y ≡ false) asks shut) in
                let least : at_most (granted_at old u w.here) (kept_at (granted_at old u) (party u) w.here) ≡ true =
                least-held (granted_at old u) (sought_at old u) (party u) w.here (kept u) (intents.granted u) (none-exclusive u apart) (due u apart shuts) in
                subst (λ (y : Mode). may_share (kept_at (granted_at new u) (next u) x) y ≡ false) (sym asks)
                (subst (λ (z : Node). may_share (kept_at (granted_at new u) (next u) z) mode ≡ false) (sym there)
                (shut-more (granted_at old u w.here) (kept_at (granted_at new u) (next u) w.here) mode
                (at_most-trans (granted_at old u w.here) (kept_at (granted_at old u) (party u) w.here) (kept_at (granted_at new u) (next u) w.here) least
                (subst (λ (p : Party). at_most (kept_at (granted_at old u) (party u) w.here) (kept_at (granted_at new u) p w.here) ≡ true) (sym (others u apart))
                (kept-more (granted_at old u) (granted_at new u) (party u) w.here
                (subst (λ (y : Mode). at_most (granted_at old u w.here) y ≡ true) (sym (queued-law.granted u w.here)) (at_most-refl (granted_at old u w.here))))))
                shuts))
          ]

      pub queued-in_order : IsInOrder new next (asked_last asks o w.here)
      queued-in_order = record {
        least = queued-least;
        ordered = order-there old new w.here (requesting here o mode).queued changes came has_need old-order queued-here;
        listed = next-listed;
      }

    -- ---- the request is granted

    module _ (new : Table) (changes : ChangesAt old new w.here (requesting here o mode).granted) (free : (requesting here o mode).grantable ≡ true) (law : RaisedAt old new o w.here mode) (shares : AllShare new) (own-after : IsKept new o (wanting ws (asked_at w w.here))) where
      granted-here : IsOrdered (came w.here) (has_need w.here) (requesting here o mode).granted
      granted-here = elim (cases_Bool (has_owner o here.granted)) [
        | inl t ↦
            let fit : fits o mode here.granted ≡ true = subst (λ (b : Bool). (if b then converting here o mode else asking here o mode).grantable ≡ true) t free in
            subst (λ (b : Bool). IsOrdered (came w.here) (has_need w.here) (if b then converting here o mode else asking here o mode).granted) (sym t)
            (considered-ordered (came w.here) (has_need w.here) (record here { granted = with_mode o mode here.granted }) (sound-with_mode here o mode (live.sound w.here) fit)
            (ordered-mode (came w.here) (has_need w.here) here o mode (live.sound w.here) (old-order w.here) t unqueued fit (ap not mode-real)
            (λ a d f x. absurd (false≢true (sym f ∙ own-need t)))))
        | inr t ↦ subst (λ (b : Bool). IsOrdered (came w.here) (has_need w.here) (if b then converting here o mode else asking here o mode).granted) (sym t)
            (ordered-lock (came w.here) (has_need w.here) here o mode (live.sound w.here) (old-order w.here)
            (absent-quiet old old o w.here mode live unqueued (mode-absent o here.granted t))
            (subst (λ (b : Bool). (if b then converting here o mode else asking here o mode).grantable ≡ true) t free) (ap not mode-real))
      ]

      granted-least : (u a : ℕ) (x : Node) → (u == a) ≡ false → may_share (granted_at new u x) (sought_at new a x) ≡ false → may_share (kept_at (granted_at new u) (next u) x) (sought_at new a x) ≡ false
      granted-least u a x d f =
          elim (cases_Bool ((a == o) && same_node x w.here)) [
            | inl g ↦ absurd (false≢true
                (sym f
                ∙ (ap (may_share (granted_at new u x)) (law.sought a x ∙ (ap (λ (b : Bool). if b then mode else sought_at old a x) g ∙ sym (law.granted a x ∙ ap (λ (b : Bool). if b then mode else granted_at old a x) g)))
                ∙ shares u a (flip u a d) x)))
            | inr g ↦
                let same : sought_at new a x ≡ sought_at old a x = law.sought a x ∙ ap (λ (b : Bool). if b then mode else sought_at old a x) g in
                elim (cases_Bool ((u == o) && same_node x w.here)) [
                  | inr h ↦
                      let held : granted_at new u x ≡ granted_at old u x = law.granted u x ∙ ap (λ (b : Bool). if b then mode else granted_at old u x) h in
                      subst (λ (y : Mode). may_share (kept_at (granted_at new u) (next u) x) y ≡ false) (sym same)
                      (kept-least u a x d (subst (λ (y : Mode). may_share y (sought_at old a x) ≡ false) held (subst (λ (y : Mode). may_share (granted_at new u x) y ≡ false) same f)) (granted_at new u) held)
                  | inl h ↦
                      let p = and_parts (u == o) (same_node x w.here) h in
                      let is : u ≡ o = eqb-true u o p.0 in
                      shut-more (granted_at new u x) (kept_at (granted_at new u) (next u) x) (sought_at new a x)
                      (subst (λ (z : ℕ). at_most (granted_at new z x) (kept_at (granted_at new z) (next z) x) ≡ true) (sym is)
                      (subst (λ (p : Party). at_most (granted_at new o x) (kept_at (granted_at new o) p x) ≡ true) (sym asked)
                      (own-after.exact x (asked_at w w.here) refl (or_right (contains x w.here) (same_node x w.here && true) (and_from (same_node x w.here) true p.1 refl)))))
                      f
                ]
          ]

      pub granted-in_order : IsInOrder new next (asked_last asks o w.here)
      granted-in_order = record {
        least = granted-least;
        ordered = order-there old new w.here (requesting here o mode).granted changes came has_need old-order granted-here;
        listed = next-listed;
      }
