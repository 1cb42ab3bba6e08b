use Rattle.std.proofs.Common.{◌≡◌, ◌≢◌, ℕ, ◌≤◌, inl, inr, Bool, true, Option, Some, None, refl, ◌∙◌, sym, ap, arith}
use Rattle.std.specs.Prelude.{nat_le}
use Rattle.std.proofs.lemmas.Bool.{false≢true, cases_eq, and_parts, leb-true}
use Rattle.std.proofs.lemmas.Bool.Decides.{leb_tells}
use Rattle.rdb_types.specs.declared.node.Node.{Node}
use Rattle.vms_queues.specs.Queues.{is_queued}
use Rattle.vms_queues.specs.Owners.{is_owner}
use Rattle.vms_locks.specs.Table.{table_of, queues_at}
use Rattle.vms_locks.specs.Places.{place_of, still_at}
use Rattle.vms_locks.proofs.review.review.Goals as goal

-- who has no place gets none
no_place : (place : Option Node) (node : Node) (queued : Bool) → ((n : Node) → place ≡ Some n → ⊥) → place ≡ still_at node queued place
no_place None node queued none = refl
no_place (Some n) node queued none = absurd (none n refl)

below : (o : ℕ) → is_owner o ≡ true → o ≤ 16
below o h = leb-true o 16 (and_parts (nat_le 1 o) (nat_le o 16) h).1

pub loop-owner-preserved : goal.loop-owner-preserved
loop-owner-preserved c =
    let old = c.args.places.now in
    let node = c.args.node in
    let at = queues_at (table_of c.args.table.now) node in
    let owner = c.loop-owner.owner in
    let own : place_of c.set.new.self owner ≡ still_at node (is_queued owner at) (place_of old owner) =
    c.set.ensures.own ∙ (c.place_after-place.ensures ∙ ap (λ (p : Option Node). still_at node (is_queued owner at) p) (c.of.ensures ∙ c.loop-owner.invariant.after owner (omega arith))) in
    record {
      before =
          λ o p q. elim (cases_eq o owner) [
            | inl e ↦ ap (λ (k : ℕ). place_of c.set.new.self k) e ∙ (own ∙ ap (λ (k : ℕ). still_at node (is_queued k at) (place_of old k)) (sym e))
            | inr n ↦ c.set.ensures.others o n ∙ c.loop-owner.invariant.before o p (omega arith)
          ];
      after = λ o h. let n : o ≢ owner = omega arith in c.set.ensures.others o n ∙ c.loop-owner.invariant.after o (omega arith);
      none = let n : 0 ≢ owner = omega arith in c.set.ensures.others 0 n ∙ c.loop-owner.invariant.none;
    }

pub returns : goal.returns
returns c o =
    let old = c.args.places.now in
    let node = c.args.node in
    let queued = is_queued o (queues_at (table_of c.args.table.now) node) in
    elim (cases_eq o 0) [
      | inl e ↦
          ap (λ (k : ℕ). place_of c.loop-owner.places k) e ∙ (c.loop-owner.invariant.none ∙ (ap (λ (k : ℕ). place_of old k) (sym e)
          ∙ no_place (place_of old o) node queued (λ n p. false≢true (ap is_owner (sym e) ∙ c.requires.ranges o n p))))
      | inr n ↦
          elim (leb_tells 17 o) [
            | inl far ↦ c.loop-owner.invariant.after o (omega (arith, far.1)) ∙ no_place (place_of old o) node queued (λ m p. let b = below o (c.requires.ranges o m p) in absurd (omega (arith, far.1, b)))
            | inr near ↦ c.loop-owner.invariant.before o (omega arith) (omega (arith, near.1))
          ]
    ]
