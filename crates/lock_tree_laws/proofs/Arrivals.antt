-- Who has a lock or a request at a node has a need there or below, or its open want was asked there.
use Rattle.std.proofs.Common.{◌≡◌, ℕ, Bool, true, false, refl, sym, ◌∙◌, ap, subst, inl, inr, List, [], ◌∷◌}
use Rattle.std.specs.Prelude.{◌&&◌, ◌==◌, not, if◌then◌else◌, Option, Some, None, unwrap_or}
use Rattle.std.proofs.lemmas.Bool.{false≢true, cases_Bool, and_parts, and_from, or_cases, or_left, or_right, not-true}
use Rattle.rdb_types.specs.declared.node.Node.{Node}
use Rattle.vms_queues.specs.declared.lock_mode.Mode.{Mode}
use Rattle.vms_queues.specs.declared.lock_mode.Mode.TheVariants.{NL}
use Rattle.vms_queues.specs.declared.held.Held.{Held}
use Rattle.vms_queues.specs.Modes.{at_most}
use Rattle.vms_queues.specs.Queues.{Queues, IsSound, has_owner, mode_in}
use Rattle.vms_queues.proofs.PassEdges.{not_named_in}
use Rattle.vms_locks.specs.Table.{Table, queues_at}
use Rattle.lock_needs.specs.declared.party.OpenWant.{OpenWant}
use Rattle.lock_needs.specs.Party.{Party}
use Rattle.lock_needs.specs.Nodes.{same_node, contains}
use Rattle.lock_needs.specs.Needs.{Holding}
use Rattle.lock_needs.specs.Wants.{mode_for, has_granted, opened_at}
use Rattle.lock_needs.specs.Waits.{converts_at}
use Rattle.lock_tree_laws.specs.LockTable.{granted_at, sought_at}
use Rattle.lock_tree_laws.specs.Parties.{IsKept}
use Rattle.lock_tree_laws.specs.Order.{all_used, asked_of_want}
use Rattle.lock_tree_laws.proofs.QueueModes.{mode-absent}
use Rattle.lock_tree_laws.proofs.HeldModes.{option-cases, one-mode, no-mode_absent}
use Rattle.lock_tree_laws.proofs.Blockers.{sought-waited}
use Rattle.lock_tree_laws.proofs.NeedsInWay.{asleep-at}

pub used-mode : (u : ℕ) (hs : List Held) (k : Mode) → all_used hs ≡ true → mode_in u hs ≡ Some k → at_most k NL ≡ false
used-mode u [] k h e = absurd (false≢true (ap (λ (x : Option Mode). elim x [ None ↦ false | Some k ↦ true ]) e))
used-mode u (x ∷ xs) k h e =
    let p = and_parts (not (at_most x.mode NL)) (all_used xs) h in
    elim (cases_Bool (x.owner == u)) [
      | inl s ↦ subst (λ (y : Mode). at_most y NL ≡ false) (one-mode x.mode k (sym (ap (λ (b : Bool). if b then Some x.mode else mode_in u xs) s) ∙ e)) (not-true (at_most x.mode NL) p.0)
      | inr d ↦ used-mode u xs k p.1 (sym (ap (λ (b : Bool). if b then Some x.mode else mode_in u xs) d) ∙ e)
    ]

-- who has an entry has a mode
pub mode-of : (u : ℕ) (hs : List Held) → has_owner u hs ≡ true → (k : Mode) × (mode_in u hs ≡ Some k)
mode-of u hs h =
    elim (option-cases (mode_in u hs)) [
      | inr x ↦ x
      | inl n ↦ absurd (false≢true (sym (no-mode_absent u hs n) ∙ h))
    ]

-- what an open want was granted it was asked
pub granted-asked : (held : Holding) (o : Option OpenWant) (n : Node) → at_most (opened_at held o n) NL ≡ false → asked_of_want o n ≡ true
granted-asked held None n f = absurd (false≢true (sym f))
granted-asked held (Some w) n f =
    elim (cases_Bool (has_granted held w n)) [
      | inr d ↦ absurd (false≢true (sym (subst (λ (b : Bool). at_most (if b then mode_for w.need n else NL) NL ≡ false) d f)))
      | inl g ↦ elim (or_cases (contains n w.here) (same_node n w.here && (w.is_asked && at_most (mode_for w.need n) (held n))) g) [
        | inl c ↦ or_left (contains n w.here) (same_node n w.here && w.is_asked) c
        | inr s ↦
            let p = and_parts (same_node n w.here) (w.is_asked && at_most (mode_for w.need n) (held n)) s in
            or_right (contains n w.here) (same_node n w.here && w.is_asked)
            (and_from (same_node n w.here) w.is_asked p.0 (and_parts w.is_asked (at_most (mode_for w.need n) (held n)) p.1).0)
      ]
    ]

module _ (t : Table) (u : ℕ) (p : Party) (n : Node) (k : IsKept t u p) where
  pub holder-came : all_used (queues_at t n).granted ≡ true → has_owner u (queues_at t n).granted ≡ true → converts_at p.needs n ≡ false → asked_of_want p.opened n ≡ true
  holder-came used has none =
      let m = mode-of u (queues_at t n).granted has in
      let held : granted_at t u n ≡ m.0 = ap (λ (x : Option Mode). unwrap_or x NL) m.1 in
      elim (k.no_stray n refl) [
        | inl e ↦ absurd (false≢true (sym (used-mode u (queues_at t n).granted m.0 used m.1) ∙ ap (λ (y : Mode). at_most y NL) (sym held ∙ e)))
        | inr r ↦ elim r [
          | inl f ↦ granted-asked (granted_at t u) p.opened n f
          | inr c ↦ absurd (false≢true (sym none ∙ c))
        ]
      ]

  pub asleep-came : (sought_at t u n ≡ granted_at t u n → ⊥) → asked_of_want p.opened n ≡ true
  asleep-came differs =
      let w = asleep-at (granted_at t u) (sought_at t u) p n k differs in
      ap (λ (o : Option OpenWant). asked_of_want o n) w.opened ∙ w.asked

  pub waiter-came : IsSound (queues_at t n) → all_used (queues_at t n).waiting ≡ true → has_owner u (queues_at t n).waiting ≡ true → asked_of_want p.opened n ≡ true
  waiter-came sound used has =
      let q : Queues = queues_at t n in
      let m = mode-of u q.waiting has in
      let bare : granted_at t u n ≡ NL = ap (λ (x : Option Mode). unwrap_or x NL)
      (mode-absent u q.granted (elim (cases_Bool (has_owner u q.granted)) [
        | inr f ↦ f
        | inl h ↦ absurd (false≢true (sym (not_named_in u q.granted q.waiting sound.waiting_not_granted h) ∙ has))
      ])) in
      asleep-came (λ e. false≢true (sym (used-mode u q.waiting m.0 used m.1) ∙ ap (λ (y : Mode). at_most y NL) (sym (sought-waited u q m.0 sound m.1) ∙ (e ∙ bare))))
