-- An empty table.
use Rattle.std.proofs.Common.{◌≡◌, ℕ, ◌∷◌, [], List, None, Some, refl, sym, subst, ap}
use Rattle.std.proofs.lemmas.Bool.{false≢true}
use Rattle.rdb_types.specs.declared.node.Node.{Node}
use Rattle.vms_queues.specs.Queues.{Queues, no_queues, is_queued}
use Rattle.vms_locks.specs.Walks.{IsWalk}
use Rattle.vms_locks.specs.Table.{Table, queues_at, WaitsIn, IsAwake, IsLive, HasNoEmpty}

none-some : (q : Queues) → None ≡ Some q → ⊥
none-some q h = (cc)

abbrev bare : ℕ → List (Node × Queues) → Table
bare spare entries = record { entries = entries; spare = spare }

no_walk : (spare : ℕ) (x : ℕ) (over : List ℕ) (y : ℕ) → IsWalk (WaitsIn (queues_at (bare spare []))) x over y → ⊥
no_walk spare x [] y h = false≢true h.1
no_walk spare x (z ∷ zs) y h = false≢true h.0.1

pub live-empty : (t : Table) → t.entries ≡ [] → IsLive (queues_at t) × HasNoEmpty t
live-empty t e =
    subst (λ (es : List (Node × Queues)). IsLive (queues_at (bare t.spare es)) × HasNoEmpty (bare t.spare es)) (sym e) (
      record {
        acyclic = λ x over h. no_walk t.spare x over x h;
        once = λ o m n h k. absurd (false≢true h);
        sound =
            λ n. record {
              shares = refl;
              granted_once = refl;
              converting_once = refl;
              converting_granted = refl;
              waiting_once = refl;
              waiting_not_granted = refl;
            };
        settled = λ n. refl;
      },
      λ n h. none-some no_queues h,
    )

pub queues-empty : (t : Table) → t.entries ≡ [] → (n : Node) → queues_at t n ≡ no_queues
queues-empty t e n =
    ap (λ (es : List (Node × Queues)). queues_at (bare t.spare es) n) e

pub awake-empty : (t : Table) (owner : ℕ) → t.entries ≡ [] → IsAwake (queues_at t) owner
awake-empty t owner e n = ap (λ (q : Queues). is_queued owner q) (queues-empty t e n)
