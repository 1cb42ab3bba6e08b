-- The places of the owners after each change of a node's queues.
use Rattle.std.proofs.Common.{◌≡◌, ℕ, ◌⊎◌, inl, inr, Bool, true, false, List, Option, None, Some, refl, ◌∙◌, sym, ap, subst}
use Rattle.std.specs.Prelude.{◌&&◌, not, if◌then◌else◌}
use Rattle.std.proofs.lemmas.Bool.{false≢true, cases_eq, cases_Bool}
use Rattle.rdb_types.specs.declared.node.Node.{Node}
use Rattle.vms_queues.specs.Queues.{Queues, is_queued, no_queues}
use Rattle.vms_locks.specs.Table.{Table, same_node, queues_at, queues_with, IsAwake, IsLive, HasNoEmpty, OnlyOwners, ChangesAt}
use Rattle.vms_queues.specs.Owners.{is_owner}
use Rattle.vms_locks.specs.Places.{KnowsPlaces, still_at}
use Rattle.vms_locks.proofs.Nodes.{same_node-refl, same_node-true, not-same, node-cases}

none-some : (n : Node) → None ≡ Some n → ⊥
none-some n h = (cc)

some-same : (m n : Node) → Some m ≡ Some n → m ≡ n
some-same m n h = (cc)

-- nobody is queued in an empty table, and nobody has a place
pub known-empty : (place : ℕ → Option Node) (t : Table) → ((o : ℕ) → place o ≡ None) → ((n : Node) → queues_at t n ≡ no_queues) → KnowsPlaces place (queues_at t)
known-empty place t none empty = record {
  asleep = λ o n p. absurd (none-some n (sym (none o) ∙ p));
  only = λ o n h. absurd (false≢true (sym (ap (λ (q : Queues). is_queued o q) (empty n)) ∙ h));
  ranges = λ o n p. absurd (none-some n (sym (none o) ∙ p));
}

module _ (at : Node → Queues) (place : ℕ → Option Node) (known : KnowsPlaces place at) (node : Node) (q : Queues) where
  -- who is queued as before at the node is queued as before at each
  as_before : (o : ℕ) (n : Node) → is_queued o q ≡ is_queued o (at node) → is_queued o (queues_with at node q n) ≡ is_queued o (at n)
  as_before o n same =
      elim (same_node node n) as (λ b. same_node node n ≡ b → is_queued o (if b then q else at n) ≡ is_queued o (at n)) [
        | true ↦ λ e. same ∙ ap (λ (m : Node). is_queued o (at m)) (same_node-true node n e)
        | false ↦ λ e. refl
      ] refl

  known-kept : ((o : ℕ) → is_queued o q ≡ is_queued o (at node)) → KnowsPlaces place (queues_with at node q)
  known-kept same = record {
    asleep = λ o n p. as_before o n (same o) ∙ known.asleep o n p;
    only = λ o n h. known.only o n (sym (as_before o n (same o)) ∙ h);
    ranges = known.ranges;
  }

  module _ (place' : ℕ → Option Node) where
    -- the owner is queued at the node
    known-set : (owner : ℕ) → IsAwake at owner → is_owner owner ≡ true → place' owner ≡ Some node → ((o : ℕ) → (o ≡ owner → ⊥) → place' o ≡ place o) → is_queued owner q ≡ true → ((o : ℕ) → (o ≡ owner → ⊥) → is_queued o q ≡ is_queued o (at node)) → KnowsPlaces place' (queues_with at node q)
    known-set owner awake ranged own others queued same = record {
      asleep =
          λ o n p. elim (cases_eq o owner) [
            | inl e ↦
                let here : node ≡ n = some-same node n (sym own ∙ (ap place' (sym e) ∙ p)) in
                subst (λ (m : Node). is_queued o (queues_with at node q m) ≡ true) here (ap (λ (b : Bool). is_queued o (if b then q else at node)) (same_node-refl node) ∙ (ap (λ (k : ℕ). is_queued k q) e ∙ queued))
            | inr other ↦ as_before o n (same o other) ∙ known.asleep o n (sym (others o other) ∙ p)
          ];
      only =
          λ o n h. elim (cases_eq o owner) [
            | inl e ↦ ap place' e ∙ (own ∙ (elim (node-cases node n) [
              | inl here ↦ ap (λ (m : Node). Some m) here
              | inr there ↦ absurd (false≢true (sym (awake n) ∙ (ap (λ (k : ℕ). is_queued k (at n)) (sym e) ∙ (sym (ap (λ (b : Bool). is_queued o (if b then q else at n)) there) ∙ h))))
            ]))
            | inr other ↦ others o other ∙ known.only o n (sym (as_before o n (same o other)) ∙ h)
          ];
      ranges =
          λ o n p. elim (cases_eq o owner) [
            | inl e ↦ subst (λ (k : ℕ). is_owner k ≡ true) (sym e) ranged
            | inr other ↦ known.ranges o n (sym (others o other) ∙ p)
          ];
    }

    -- nobody is queued anew, and the places at the node were looked at again
    module _ (gone : (o : ℕ) → is_queued o (at node) ≡ false → is_queued o q ≡ false) (again : (o : ℕ) → place' o ≡ still_at node (is_queued o q) (place o)) where
      -- where a place is left, it was so before, and elsewhere or still in use
      left_place : (o : ℕ) (n : Node) → place' o ≡ Some n → (place o ≡ Some n) × ((same_node n node ≡ false) ⊎ (is_queued o q ≡ true))
      left_place o n p =
          elim (place o) as (λ x. place o ≡ x → still_at node (is_queued o q) x ≡ Some n → (x ≡ Some n) × ((same_node n node ≡ false) ⊎ (is_queued o q ≡ true))) [
            | None ↦ λ e h. absurd (none-some n h)
            | Some m ↦ λ e h.
                elim (same_node m node) as (λ b. same_node m node ≡ b → (if b && not (is_queued o q) then None else Some m) ≡ Some n → (Some m ≡ Some n) × ((same_node n node ≡ false) ⊎ (is_queued o q ≡ true))) [
                  | true ↦ λ s k.
                      elim (is_queued o q) as (λ b. (if not b then None else Some m) ≡ Some n → (Some m ≡ Some n) × ((same_node n node ≡ false) ⊎ (b ≡ true))) [
                        | true ↦ λ j. (j, inr refl)
                        | false ↦ λ j. absurd (none-some n j)
                      ] k
                  | false ↦ λ s k. (k, inl (subst (λ (x : Node). same_node x node ≡ false) (some-same m n k) s))
                ] refl h
          ] refl (sym (again o) ∙ p)

      known-reviewed : KnowsPlaces place' (queues_with at node q)
      known-reviewed = record {
        asleep =
            λ o n p.
            let l = left_place o n p in
            elim (same_node node n) as (λ b. same_node node n ≡ b → is_queued o (if b then q else at n) ≡ true) [
              | true ↦ λ e. elim l.1 [
                | inl other ↦ absurd (not-same n node other (sym (same_node-true node n e)))
                | inr y ↦ y
              ]
              | false ↦ λ e. known.asleep o n l.0
            ] refl;
        only =
            λ o n h. elim (node-cases node n) [
              | inl here ↦
                  let still : is_queued o q ≡ true = sym (ap (λ (b : Bool). is_queued o (if b then q else at node)) (same_node-refl node)) ∙ subst (λ (m : Node). is_queued o (queues_with at node q m) ≡ true) (sym here) h in
                  let was : is_queued o (at node) ≡ true = elim (cases_Bool (is_queued o (at node))) [ inl y ↦ y | inr none ↦ absurd (false≢true (sym (gone o none) ∙ still)) ] in
                  again o ∙ (ap (λ (x : Option Node). still_at node (is_queued o q) x) (known.only o node was)
                  ∙ (ap (λ (b : Bool). if same_node node node && not b then None else Some node) still
                  ∙ (ap (λ (b : Bool). if b && false then None else Some node) (same_node-refl node) ∙ ap (λ (m : Node). Some m) here)))
              | inr there ↦
                  let was : is_queued o (at n) ≡ true = sym (ap (λ (b : Bool). is_queued o (if b then q else at n)) there) ∙ h in
                  let other : same_node n node ≡ false = elim (node-cases n node) [ inl e ↦ absurd (not-same node n there (sym e)) | inr m ↦ m ] in
                  again o ∙ (ap (λ (x : Option Node). still_at node (is_queued o q) x) (known.only o n was)
                  ∙ ap (λ (b : Bool). if b && not (is_queued o q) then None else Some n) other)
            ];
        ranges = λ o n p. known.ranges o n (left_place o n p).0;
      }

-- of a table that was changed

known-agree : (place : ℕ → Option Node) (new old : Node → Queues) → ((n : Node) → new n ≡ old n) → KnowsPlaces place old → KnowsPlaces place new
known-agree place new old same known = subst (λ (at : Node → Queues). KnowsPlaces place at) (λ i. λ n. sym (same n) i) known

module _ (old new : Table) (place : ℕ → Option Node) (known : KnowsPlaces place (queues_at old)) (node : Node) (q : Queues) (changes : ChangesAt old new node q) where
  pub places-kept : ((o : ℕ) → is_queued o q ≡ is_queued o (queues_at old node)) → KnowsPlaces place (queues_at new)
  places-kept same = known-agree place (queues_at new) (queues_with (queues_at old) node q) changes (known-kept (queues_at old) place known node q same)

  pub places-set : (place' : ℕ → Option Node) (owner : ℕ) → IsAwake (queues_at old) owner → is_owner owner ≡ true → place' owner ≡ Some node → ((o : ℕ) → (o ≡ owner → ⊥) → place' o ≡ place o) → is_queued owner q ≡ true → ((o : ℕ) → (o ≡ owner → ⊥) → is_queued o q ≡ is_queued o (queues_at old node)) → KnowsPlaces place' (queues_at new)
  places-set place' owner awake ranged own others queued same =
      known-agree place' (queues_at new) (queues_with (queues_at old) node q) changes
      (known-set (queues_at old) place known node q place' owner awake ranged own others queued same)

  pub places-reviewed : (place' : ℕ → Option Node) → ((o : ℕ) → is_queued o (queues_at old node) ≡ false → is_queued o q ≡ false) → ((o : ℕ) → place' o ≡ still_at node (is_queued o (queues_at new node)) (place o)) → KnowsPlaces place' (queues_at new)
  places-reviewed place' gone again =
      let here : queues_at new node ≡ q = changes node ∙ ap (λ (b : Bool). if b then q else queues_at old node) (same_node-refl node) in
      known-agree place' (queues_at new) (queues_with (queues_at old) node q) changes
      (known-reviewed (queues_at old) place known node q place' gone (λ o. again o ∙ ap (λ (r : Queues). still_at node (is_queued o r) (place o)) here))

-- of a table with the same entries

abbrev bare : ℕ → List (Node × Queues) → Table
bare spare entries = record { entries = entries; spare = spare }

pub unchanged : (old new : Table) (place : ℕ → Option Node) → new.entries ≡ old.entries → IsLive (queues_at old) × HasNoEmpty old × OnlyOwners (queues_at old) × KnowsPlaces place (queues_at old) → IsLive (queues_at new) × HasNoEmpty new × OnlyOwners (queues_at new) × KnowsPlaces place (queues_at new)
unchanged old new place same holds =
    subst (λ (es : List (Node × Queues)). IsLive (queues_at (bare new.spare es)) × HasNoEmpty (bare new.spare es) × OnlyOwners (queues_at (bare new.spare es)) × KnowsPlaces place (queues_at (bare new.spare es))) (sym same) holds
