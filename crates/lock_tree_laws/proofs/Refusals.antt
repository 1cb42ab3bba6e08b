-- A request that is refused would wait by needs, if it were queued, for whom the refusal names.
use Rattle.std.proofs.Common.{◌≡◌, ℕ, ◌++◌, ◌∷◌, [], Bool, true, false, refl, sym, ◌∙◌, ap, subst, ◌⊎◌, inl, inr, List}
use Rattle.std.specs.Prelude.{◌&&◌, ◌||◌, ◌==◌, if◌then◌else◌, Option, Some, None, unwrap_or, map}
use Rattle.std.specs.List.{filter}
use Rattle.std.proofs.lemmas.Bool.{false≢true, cases_Bool, eq-eqb, eqb-true, and_from, or_left, or_right}
use Rattle.std.proofs.lemmas.Map.Entries.{lookup_head, lookup_tail}
use Rattle.rdb_types.specs.declared.node.Node.{Node}
use Rattle.vms_queues.specs.declared.lock_mode.Mode.{Mode}
use Rattle.vms_queues.specs.declared.lock_mode.Mode.TheVariants.{NL}
use Rattle.vms_queues.specs.declared.held.Held.{Held}
use Rattle.vms_queues.specs.Modes.{at_most, least_above}
use Rattle.vms_queues.specs.Queues.{Queues, IsSound, no_queues, has_owner, blocks, blockers, first_of, ask_blockers, entry, with_request, with_conversion}
use Rattle.vms_queues.specs.Waits.{waits, blocked_by, conversion_waits, request_waits}
use Rattle.vms_queues.proofs.WaitEdges.{conversion_waits-append, request_waits-append}
use Rattle.vms_queues.proofs.Soundness.{sound-queued, sound-converting}
use Rattle.vms_locks.specs.Table.{Table, queues_at, ChangesAt, IsLive, WaitsIn}
use Rattle.vms_locks.specs.Walks.{IsWalk, IsCycle}
use Rattle.vms_locks.specs.Answers.{asking, converting, WaitsQueued}
use Rattle.vms_locks.proofs.Awake.{changed-here, changed-elsewhere}
use Rattle.lock_needs.specs.declared.need.Need.{Need}
use Rattle.lock_needs.specs.declared.party.OpenWant.{OpenWant}
use Rattle.lock_needs.specs.declared.party.Asked.{Asked}
use Rattle.lock_needs.specs.Party.{Party}
use Rattle.lock_needs.specs.Nodes.{same_node}
use Rattle.lock_needs.specs.Wants.{mode_for, kept_at}
use Rattle.lock_needs.proofs.NodeLaws.{same_node-true, same_node-refl, same_node-sym}
use Rattle.lock_tree_laws.specs.LockTable.{granted_at, HasIntents}
use Rattle.lock_tree_laws.specs.Parties.{IsKept, wanting, unasked, asked_at}
use Rattle.lock_tree_laws.specs.Order.{IsInOrder, AreKept, KeepsParty, asked_last, requesting, waits_by_needs, NoneInExcess}
use Rattle.lock_tree_laws.proofs.QueueModes.{mode-absent}
use Rattle.lock_tree_laws.proofs.Conditions.{absent-quiet}
use Rattle.lock_tree_laws.proofs.WantAsked.{AskedAt, queued-asked, want-intents, want-kept, asked-others}
use Rattle.lock_tree_laws.proofs.AskedInOrder.{queued-law, queued-in_order, unqueued, no-conversion}
use Rattle.lock_tree_laws.proofs.NeedsInWay.{waits-in_needed}

-- ---- who is named first stands in the way

first-blocked : (o : ℕ) (m : Mode) (hs : List Held) (b : ℕ) → first_of (blockers o m hs) ≡ Some b → blocked_by b o m hs ≡ true
first-blocked o m [] b e = absurd (false≢true (ap (λ (x : Option ℕ). elim x [ None ↦ false | Some k ↦ true ]) e))
first-blocked o m (x ∷ xs) b e =
    elim (cases_Bool (blocks o m x)) [
      | inl t ↦
          let named : Some x.owner ≡ Some b = sym (ap (λ (c : Bool). first_of (map (λ (h : Held). h.owner) (if c then x ∷ filter (blocks o m) xs else filter (blocks o m) xs))) t) ∙ e in
          or_left ((x.owner == b) && blocks o m x) (blocked_by b o m xs)
          (and_from (x.owner == b) (blocks o m x) (eq-eqb x.owner b (ap (λ (y : Option ℕ). unwrap_or y b) named)) t)
      | inr f ↦ or_right ((x.owner == b) && blocks o m x) (blocked_by b o m xs)
          (first-blocked o m xs b (sym (ap (λ (c : Bool). first_of (map (λ (h : Held). h.owner) (if c then x ∷ filter (blocks o m) xs else filter (blocks o m) xs))) f) ∙ e))
    ]

first-part : (xs ys : List ℕ) (b : ℕ) → first_of (xs ++ ys) ≡ Some b → (first_of xs ≡ Some b) ⊎ (first_of ys ≡ Some b)
first-part [] ys b e = inr e
first-part (x ∷ xs) ys b e = inl e

-- the owner would wait for whom stands in the way
request-waits : (q : Queues) (o : ℕ) (m : Mode) (b : ℕ) → first_of (ask_blockers q o m) ≡ Some b → waits (with_request q o m) o b ≡ true
request-waits q o m b e =
    let any : Bool = blocked_by b o m q.granted || (blocked_by b o m q.converting || blocked_by b o m q.waiting) in
    or_right (conversion_waits q.granted o b q.converting) (request_waits q.granted q.converting o b [] (q.waiting ++ entry o m ∷ []))
    (request_waits-append q.granted q.converting o b [] q.waiting (entry o m ∷ [])
    ∙ or_right (request_waits q.granted q.converting o b [] q.waiting) (request_waits q.granted q.converting o b q.waiting (entry o m ∷ []))
    (or_left ((o == o) && any) false (and_from (o == o) any (eq-eqb o o refl) blocked)))
  where
    blocked : (blocked_by b o m q.granted || (blocked_by b o m q.converting || blocked_by b o m q.waiting)) ≡ true
    blocked = elim (first-part (blockers o m q.granted) (blockers o m q.converting ++ blockers o m q.waiting) b e) [
      | inl f ↦ or_left (blocked_by b o m q.granted) (blocked_by b o m q.converting || blocked_by b o m q.waiting) (first-blocked o m q.granted b f)
      | inr r ↦ or_right (blocked_by b o m q.granted) (blocked_by b o m q.converting || blocked_by b o m q.waiting)
          (elim (first-part (blockers o m q.converting) (blockers o m q.waiting) b r) [
            | inl f ↦ or_left (blocked_by b o m q.converting) (blocked_by b o m q.waiting) (first-blocked o m q.converting b f)
            | inr f ↦ or_right (blocked_by b o m q.converting) (blocked_by b o m q.waiting) (first-blocked o m q.waiting b f)
          ])
    ]

conversion-waits : (q : Queues) (o : ℕ) (m : Mode) (b : ℕ) → first_of (blockers o m q.granted) ≡ Some b → waits (with_conversion q o m) o b ≡ true
conversion-waits q o m b e =
    or_left (conversion_waits q.granted o b (q.converting ++ entry o m ∷ [])) (request_waits q.granted (q.converting ++ entry o m ∷ []) o b [] q.waiting)
    (conversion_waits-append q.granted o b q.converting (entry o m ∷ [])
    ∙ or_right (conversion_waits q.granted o b q.converting) (conversion_waits q.granted o b (entry o m ∷ []))
    (or_left ((o == o) && blocked_by b o m q.granted) false (and_from (o == o) (blocked_by b o m q.granted) (eq-eqb o o refl) (first-blocked o m q.granted b e))))

pub first-waits : (q : Queues) (o : ℕ) (m : Mode) (b : ℕ) → first_of (requesting q o m).in_way ≡ Some b → waits (requesting q o m).queued o b ≡ true
first-waits q o m b e = elim (cases_Bool (has_owner o q.granted)) [
  | inl t ↦ subst (λ (c : Bool). waits (if c then converting q o m else asking q o m).queued o b ≡ true) (sym t)
      (conversion-waits q o m b (subst (λ (c : Bool). first_of (if c then converting q o m else asking q o m).in_way ≡ Some b) t e))
  | inr t ↦ subst (λ (c : Bool). waits (if c then converting q o m else asking q o m).queued o b ≡ true) (sym t)
      (request-waits q o m b (subst (λ (c : Bool). first_of (if c then converting q o m else asking q o m).in_way ≡ Some b) t e))
]

-- ---- the table as it would be

abbrev with_queues : Table → Node → Queues → Table
with_queues t n q = record { entries = (n, q) ∷ t.entries; spare = t.spare }

turned : (x n : Node) → same_node x n ≡ false → same_node n x ≡ false
turned x n f = elim (cases_Bool (same_node n x)) [ inr g ↦ g | inl s ↦ absurd (false≢true (sym f ∙ same_node-sym n x s)) ]

with-changes : (t : Table) (n : Node) (q : Queues) → ChangesAt t (with_queues t n q) n q
with-changes t n q x =
    elim (cases_Bool (same_node x n)) [
      | inl s ↦ ap (λ (o : Option Queues). unwrap_or o no_queues) (lookup_head (same_node x) (n, q) t.entries s) ∙ sym (ap (λ (b : Bool). if b then q else queues_at t x) (same_node-sym x n s))
      | inr f ↦ ap (λ (o : Option Queues). unwrap_or o no_queues) (lookup_tail (same_node x) (n, q) t.entries f) ∙ sym (ap (λ (b : Bool). if b then q else queues_at t x) (turned x n f))
    ]

walk-more : (P Q : ℕ → ℕ → Type 0) → ((a b : ℕ) → P a b → Q a b) → (x : ℕ) (over : List ℕ) (y : ℕ) → IsWalk P x over y → IsWalk Q x over y
walk-more P Q f x [] y h = f x y h
walk-more P Q f x (z ∷ zs) y h = (f x z h.0, walk-more P Q f z zs y h.1)

pub cycle-more : (P Q : ℕ → ℕ → Type 0) → ((a b : ℕ) → P a b → Q a b) → (o : ℕ) (cycle : List ℕ) → IsCycle P o cycle → IsCycle Q o cycle
cycle-more P Q f o cycle h = (h.0, walk-more P Q f o h.0 o h.1, h.2)

module _ (old : Table) (party : ℕ → Party) (asks : List Asked) (live : IsLive (queues_at old)) (intents : HasIntents old) (kept : AreKept old party) (order : IsInOrder old party asks)
    (o : ℕ) (ws : List Need) (w : OpenWant) (own : party o ≡ wanting ws (unasked w)) (real : at_most w.need.mode NL ≡ false)
    (least : at_most (granted_at old o w.here) (kept_at (granted_at old o) (wanting ws (unasked w)) w.here) ≡ true)
    (next : ℕ → Party) (asked : next o ≡ wanting ws (asked_at w w.here)) (others : KeepsParty o party next) where
  abbrev mode : Mode
  mode = least_above (granted_at old o w.here) (mode_for w.need w.here)

  abbrev here : Queues
  here = queues_at old w.here

  own-kept : IsKept old o (wanting ws (unasked w))
  own-kept = subst (IsKept old o) own (kept o)

  -- the queues with the request in them are sound
  sound-here : IsSound (requesting here o mode).queued
  sound-here = elim (cases_Bool (has_owner o here.granted)) [
    | inl t ↦ subst (λ (b : Bool). IsSound (if b then converting here o mode else asking here o mode).queued) (sym t)
        (sound-converting here o mode (live.sound w.here) t (no-conversion old party asks live intents kept order o ws w own real))
    | inr t ↦ subst (λ (b : Bool). IsSound (if b then converting here o mode else asking here o mode).queued) (sym t)
        (sound-queued here o mode (live.sound w.here) (absent-quiet old old o w.here mode live (unqueued old party asks live intents kept order o ws w own real) (mode-absent o here.granted t)))
  ]

  module _ (new : Table) (changes : ChangesAt old new w.here (requesting here o mode).queued) (due : NoneInExcess old party o w.here mode) where
    as-asked : AskedAt old new o w.here mode
    as-asked = queued-asked old new o w.here mode (queued-law old party asks live intents kept order o ws w own real next asked others new changes due)

    sound-all : (x : Node) → IsSound (queues_at new x)
    sound-all x = elim (cases_Bool (same_node w.here x)) [
      | inl s ↦ subst (λ (z : Node). IsSound (queues_at new z)) (same_node-true w.here x s)
          (subst IsSound (sym (changed-here old new w.here (requesting here o mode).queued changes)) sound-here)
      | inr d ↦ subst IsSound (sym (changed-elsewhere old new w.here (requesting here o mode).queued x changes d)) (live.sound x)
    ]

    pub queued-kept : AreKept new next
    queued-kept u = elim (cases_Bool (u == o)) [
      | inl e ↦ subst (λ (z : ℕ). IsKept new z (next z)) (sym (eqb-true u o e))
          (subst (IsKept new o) (sym asked) (want-kept old new o ws w mode refl own-kept least as-asked intents))
      | inr d ↦ subst (IsKept new u) (sym (others u d)) (asked-others old new o w.here mode as-asked u (party u) d (kept u))
    ]

    -- whoever waits in the table with the request in its queue does so by needs
    pub queued-needed : (a b : ℕ) → WaitsIn (queues_at new) a b → waits_by_needs next (asked_last asks o w.here) a b ≡ true
    queued-needed a b h =
        waits-in_needed new next (asked_last asks o w.here) sound-all (want-intents old new o ws w mode refl own-kept least as-asked intents) queued-kept
        (queued-in_order old party asks live intents kept order o ws w own real next asked others new changes due) a b h

  module _ (due : NoneInExcess old party o w.here mode) where
    -- and so would whoever waited if the request were queued
    pub would-wait : (a b : ℕ) → WaitsQueued old w.here (requesting here o mode) a b → waits_by_needs next (asked_last asks o w.here) a b ≡ true
    would-wait a b h =
        let q : Queues = (requesting here o mode).queued in
        let changes : ChangesAt old (with_queues old w.here q) w.here q = with-changes old w.here q in
        queued-needed (with_queues old w.here q) changes due a b (h.0, subst (λ (r : Queues). waits r a b ≡ true) (sym (changes h.0)) h.1)

    pub refused-first : (b : ℕ) → first_of (requesting here o mode).in_way ≡ Some b → waits_by_needs next (asked_last asks o w.here) o b ≡ true
    refused-first b e =
        would-wait o b (
          w.here,
          subst (λ (r : Queues). waits r o b ≡ true) (sym (ap (λ (c : Bool). if c then (requesting here o mode).queued else queues_at old w.here) (same_node-refl w.here))) (first-waits here o mode b e),
        )

    pub refused-cycle : (cycle : List ℕ) → IsCycle (WaitsQueued old w.here (requesting here o mode)) o cycle → IsCycle (λ a b. waits_by_needs next (asked_last asks o w.here) a b ≡ true) o cycle
    refused-cycle cycle h = cycle-more (WaitsQueued old w.here (requesting here o mode)) (λ a b. waits_by_needs next (asked_last asks o w.here) a b ≡ true) would-wait o cycle h
