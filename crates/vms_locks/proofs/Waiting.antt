-- Who waits, and who would wait if a request were queued, by the places of the owners.
use Rattle.std.proofs.Common.{◌≡◌, ℕ, ◌⊎◌, inl, inr, Bool, true, false, List, [], ◌∷◌, Option, None, Some, refl, ◌∙◌, sym, ap, subst, arith}
use Rattle.std.specs.Prelude.{◌||◌, ◌&&◌, ◌==◌, if◌then◌else◌, is_some, IsTrue, ◌↔◌}
use Rattle.std.proofs.lemmas.Bool.{false≢true, or_cases, or_left, or_right, and_parts, and_from, eq-eqb}
use Rattle.std.proofs.lemmas.Grind.{common_steps}
use Rattle.rdb_types.specs.declared.node.Node.{Node}
use Rattle.vms_queues.specs.declared.lock_mode.Mode.{Mode}
use Rattle.vms_queues.specs.declared.held.Held.{Held}
use Rattle.vms_queues.specs.Queues.{Queues, no_queues, mode_in, has_owner, is_queued, with_request, with_conversion}
use Rattle.vms_queues.specs.Waits.{waits}
use Rattle.vms_locks.specs.Table.{same_node, requested, WaitsIn, WaitsIf}
use Rattle.vms_queues.specs.Owners.{is_owner}
use Rattle.vms_locks.specs.Places.{KnowsPlaces}
use Rattle.vms_locks.proofs.Nodes.{same_node-refl, same_node-true, not-same, same_node-apart}
use Rattle.vms_locks.proofs.Queued.{waits-queued, request-cases, conversion-cases}

pub holds_mode : (o : ℕ) (hs : List Held) → is_some (mode_in o hs) ≡ has_owner o hs
holds_mode o [] = refl
holds_mode o (h ∷ hs) = grind (arith, common_steps, holds_mode o hs)

-- nobody would wait at a node where nobody is
pub nobody_waits : (owner : ℕ) (mode : Mode) (a b : ℕ) → waits (requested no_queues owner mode) a b ≡ false
nobody_waits owner mode a b = grind arith

none-some : (n : Node) → None ≡ Some n → ⊥
none-some n h = (cc)

pub some-same : (m n : Node) → Some m ≡ Some n → m ≡ n
some-same m n h = (cc)

-- who would be queued is queued, or asks
requested-cases : (q : Queues) (owner : ℕ) (mode : Mode) (o : ℕ) → is_queued o (requested q owner mode) ≡ true → (is_queued o q ≡ true) ⊎ (o ≡ owner)
requested-cases q owner mode o h =
    elim (has_owner owner q.granted) as (λ b. is_queued o (if b then with_conversion q owner mode else with_request q owner mode) ≡ true → (is_queued o q ≡ true) ⊎ (o ≡ owner)) [
      | true ↦ conversion-cases q owner mode o
      | false ↦ request-cases q owner mode o
    ] h

module _ (at : Node → Queues) (place : ℕ → Option Node) (known : KnowsPlaces place at) where
  -- who waits has its place there
  sleeper : (a b : ℕ) (n : Node) → waits (at n) a b ≡ true → place a ≡ Some n
  sleeper a b n w = known.only a n (waits-queued (at n) a b w)

  pub waits-at_place : (a b : ℕ) (n : Node) (answer : Bool) → place a ≡ Some n → answer ≡ waits (at n) a b → IsTrue answer ↔ WaitsIn at a b
  waits-at_place a b n answer p e = (
    λ h. (n, sym e ∙ h),
    λ w.
        let same : n ≡ w.0 = some-same n w.0 (sym p ∙ sleeper a b w.0 w.1) in
        e ∙ subst (λ (k : Node). waits (at k) a b ≡ true) (sym same) w.1,
  )

  pub waits-nowhere : (a b : ℕ) (answer : Bool) → place a ≡ None → answer ≡ false → IsTrue answer ↔ WaitsIn at a b
  waits-nowhere a b answer p e = (
    λ h. absurd (false≢true (sym e ∙ h)),
    λ w. absurd (none-some w.0 (sym p ∙ sleeper a b w.0 w.1)),
  )

  module _ (owner : ℕ) (node : Node) (mode : Mode) where
    there-if : (a b : ℕ) → waits (requested (at node) owner mode) a b ≡ true → WaitsIf at owner node mode a b
    there-if a b h =
        (node, ap (λ (t : Bool). waits (if t then requested (at node) owner mode else at node) a b) (same_node-refl node) ∙ h)

    elsewhere-if : (a b : ℕ) (n : Node) → same_node node n ≡ false → waits (at n) a b ≡ true → WaitsIf at owner node mode a b
    elsewhere-if a b n other h =
        (n, ap (λ (t : Bool). waits (if t then requested (at node) owner mode else at n) a b) other ∙ h)

    where-if : (a b : ℕ) → WaitsIf at owner node mode a b → (waits (requested (at node) owner mode) a b ≡ true) ⊎ ((n : Node) × (same_node node n ≡ false) × (waits (at n) a b ≡ true))
    where-if a b w =
        elim (same_node node w.0) as (λ t. same_node node w.0 ≡ t → waits (if t then requested (at node) owner mode else at w.0) a b ≡ true → (waits (requested (at node) owner mode) a b ≡ true) ⊎ ((n : Node) × (same_node node n ≡ false) × (waits (at n) a b ≡ true))) [
          | true ↦ λ e k. inl k
          | false ↦ λ e k. inr (w.0, e, k)
        ] refl w.1

    there-who : (a b : ℕ) → waits (requested (at node) owner mode) a b ≡ true → (a ≡ owner) ⊎ (place a ≡ Some node)
    there-who a b h =
        elim (requested-cases (at node) owner mode a (waits-queued (requested (at node) owner mode) a b h)) [
          | inl y ↦ inr (known.only a node y)
          | inr e ↦ inl e
        ]

    asker-if : (a b : ℕ) → ((a == owner) && waits (requested (at node) owner mode) a b) ≡ true → WaitsIf at owner node mode a b
    asker-if a b h = there-if a b (and_parts (a == owner) (waits (requested (at node) owner mode) a b) h).1

    asker-from : (a b : ℕ) → a ≡ owner → waits (requested (at node) owner mode) a b ≡ true → ((a == owner) && waits (requested (at node) owner mode) a b) ≡ true
    asker-from a b e k = and_from (a == owner) (waits (requested (at node) owner mode) a b) (eq-eqb a owner e) k

    -- who has no place would wait only as the one who asks
    pub would-awake : (a b : ℕ) (answer : Bool) → place a ≡ None → answer ≡ ((a == owner) && waits (requested (at node) owner mode) a b) → IsTrue answer ↔ WaitsIf at owner node mode a b
    would-awake a b answer p e = (
      λ h. asker-if a b (sym e ∙ h),
      λ w.
          e ∙ (elim (where-if a b w) [
            | inl k ↦ elim (there-who a b k) [ inl same ↦ asker-from a b same k | inr q ↦ absurd (none-some node (sym p ∙ q)) ]
            | inr k ↦ absurd (none-some k.0 (sym p ∙ sleeper a b k.0 k.2))
          ]),
    )

    -- who has its place at the node
    pub would-here : (a b : ℕ) (n : Node) (answer : Bool) → place a ≡ Some n → same_node n node ≡ true → answer ≡ waits (requested (at node) owner mode) a b → IsTrue answer ↔ WaitsIf at owner node mode a b
    would-here a b n answer p here e = (
      λ h. there-if a b (sym e ∙ h),
      λ w.
          e ∙ (elim (where-if a b w) [
            | inl k ↦ k
            | inr k ↦
                let same : n ≡ k.0 = some-same n k.0 (sym p ∙ sleeper a b k.0 k.2) in
                absurd (not-same node k.0 k.1 (sym (same_node-true n node here) ∙ same))
          ]),
    )

    -- who has its place elsewhere
    pub would-elsewhere : (a b : ℕ) (n : Node) (answer : Bool) → place a ≡ Some n → same_node n node ≡ false → answer ≡ (waits (at n) a b || ((a == owner) && waits (requested (at node) owner mode) a b)) → IsTrue answer ↔ WaitsIf at owner node mode a b
    would-elsewhere a b n answer p other e = (
      λ h.
          elim (or_cases (waits (at n) a b) ((a == owner) && waits (requested (at node) owner mode) a b) (sym e ∙ h)) [
            | inl k ↦ elsewhere-if a b n (same_node-apart n node other) k
            | inr k ↦ asker-if a b k
          ],
      λ w.
          e ∙ (elim (where-if a b w) [
            | inl k ↦ elim (there-who a b k) [
              | inl same ↦ or_right (waits (at n) a b) ((a == owner) && waits (requested (at node) owner mode) a b) (asker-from a b same k)
              | inr q ↦ absurd (not-same n node other (some-same n node (sym p ∙ q)))
            ]
            | inr k ↦
                let same : n ≡ k.0 = some-same n k.0 (sym p ∙ sleeper a b k.0 k.2) in
                or_left (waits (at n) a b) ((a == owner) && waits (requested (at node) owner mode) a b) (subst (λ (m : Node). waits (at m) a b ≡ true) (sym same) k.2)
          ]),
    )

    -- who would wait is an owner
    pub would-ranges : is_owner owner ≡ true → (a b : ℕ) → WaitsIf at owner node mode a b → is_owner a ≡ true
    would-ranges ranged a b w =
        elim (where-if a b w) [
          | inl k ↦ elim (there-who a b k) [
            | inl e ↦ subst (λ (o : ℕ). is_owner o ≡ true) (sym e) ranged
            | inr p ↦ known.ranges a node p
          ]
          | inr k ↦ known.ranges a k.0 (sleeper a b k.0 k.2)
        ]
