-- Who has a lock is an owner.
use Rattle.std.proofs.Common.{◌≡◌, ℕ, true, subst, inl, inr, List, [], ◌∷◌}
use Rattle.std.specs.Prelude.{◌==◌}
use Rattle.std.proofs.lemmas.Bool.{false≢true, and_parts, or_cases, eqb-true}
use Rattle.vms_queues.specs.declared.held.Held.{Held}
use Rattle.vms_queues.specs.Queues.{has_owner}
use Rattle.vms_queues.specs.Owners.{is_owner, are_owners}

pub owner-of : (o : ℕ) (hs : List Held) → are_owners hs ≡ true → has_owner o hs ≡ true → is_owner o ≡ true
owner-of o [] a h = absurd (false≢true h)
owner-of o (x ∷ hs) a h =
    let p = and_parts (is_owner x.owner) (are_owners hs) a in
    elim (or_cases (x.owner == o) (has_owner o hs) h) [
      | inl e ↦ subst (λ (k : ℕ). is_owner k ≡ true) (eqb-true x.owner o e) p.0
      | inr r ↦ owner-of o hs p.1 r
    ]
