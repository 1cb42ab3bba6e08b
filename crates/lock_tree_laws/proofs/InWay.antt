-- Who is found in the way of a mode is another owner, whose lock can't stand beside it and is stronger than it has to be.
use Rattle.std.proofs.Common.{◌≡◌, ℕ, Bool, true, false, refl, sym, ◌∙◌, ap, subst, inl, inr, List, [], ◌∷◌}
use Rattle.std.specs.Prelude.{◌&&◌, ◌==◌, not, if◌then◌else◌, Option, Some, None, unwrap_or, map}
use Rattle.std.specs.List.{filter}
use Rattle.std.proofs.lemmas.Bool.{false≢true, cases_eq, ne_eqb, eq-eqb, and_parts, or_left, or_right, not-true}
use Rattle.rdb_types.specs.declared.node.Node.{Node}
use Rattle.vms_queues.specs.declared.lock_mode.Mode.{Mode}
use Rattle.vms_queues.specs.declared.lock_mode.Mode.TheVariants.{NL}
use Rattle.vms_queues.specs.declared.held.Held.{Held}
use Rattle.vms_queues.specs.Modes.{may_share}
use Rattle.vms_queues.specs.Queues.{has_owner, mode_in, blocks, blockers, each_once}
use Rattle.vms_locks.specs.Table.{Table, queues_at, IsLive}
use Rattle.lock_tree_laws.specs.LockTable.{granted_at}
use Rattle.lock_tree_laws.specs.Forest.{Parties}
use Rattle.lock_tree_laws.specs.Asking.{exceeds_at, first_excess}

record IsInWay (owner : ℕ) (mode : Mode) (hs : List Held) (u : ℕ) : Type 0 where
  pub among : has_owner u hs ≡ true
  pub other : (u == owner) ≡ false
  pub shuts : may_share (unwrap_or (mode_in u hs) NL) mode ≡ false

both-not : (a b : Bool) → (not a && not b) ≡ true → (a ≡ false) × (b ≡ false)
both-not false false h = (refl, refl)
both-not true b h = absurd (false≢true h)
both-not false true h = absurd (false≢true h)

module _ (t : Table) (ps : Parties) (n : Node) (owner : ℕ) (mode : Mode) (u : ℕ) where
  further : (h : Held) (hs : List Held) → not (has_owner h.owner hs) ≡ true → IsInWay owner mode hs u → IsInWay owner mode (h ∷ hs) u
  further h hs once w = record {
    among = or_right (h.owner == u) (has_owner u hs) w.among;
    other = w.other;
    shuts = elim (cases_eq h.owner u) [
      | inl s ↦ absurd (false≢true (sym (not-true (has_owner h.owner hs) once) ∙ subst (λ (z : ℕ). has_owner z hs ≡ true) (sym s) w.among))
      | inr d ↦ ap (λ (b : Bool). may_share (unwrap_or (if b then Some h.mode else mode_in u hs) NL) mode) (ne_eqb h.owner u d) ∙ w.shuts
    ];
  }

  here : (h : Held) (hs : List Held) → h.owner ≡ u → blocks owner mode h ≡ true → IsInWay owner mode (h ∷ hs) u
  here h hs s b =
      let p = both-not (h.owner == owner) (may_share h.mode mode) b in
      let own : (h.owner == u) ≡ true = eq-eqb h.owner u s in record {
        among = or_left (h.owner == u) (has_owner u hs) own;
        other = subst (λ (z : ℕ). (z == owner) ≡ false) s p.0;
        shuts = ap (λ (b : Bool). may_share (unwrap_or (if b then Some h.mode else mode_in u hs) NL) mode) own ∙ p.1;
      }

  choose : (h : Held) (hs : List Held) → (first_excess t ps n (blockers owner mode hs) ≡ Some u → IsInWay owner mode (h ∷ hs) u × (exceeds_at t ps n u ≡ true))
      → (b : Bool) → exceeds_at t ps n h.owner ≡ b → blocks owner mode h ≡ true → (if b then Some h.owner else first_excess t ps n (blockers owner mode hs)) ≡ Some u → IsInWay owner mode (h ∷ hs) u × (exceeds_at t ps n u ≡ true)
  choose h hs later true x b f =
      let s : h.owner ≡ u = ap (λ (o : Option ℕ). unwrap_or o u) f in
      (here h hs s b, subst (λ (z : ℕ). exceeds_at t ps n z ≡ true) s x)
  choose h hs later false x b f = later f

  step : (h : Held) (hs : List Held) → (first_excess t ps n (blockers owner mode hs) ≡ Some u → IsInWay owner mode (h ∷ hs) u × (exceeds_at t ps n u ≡ true))
      → (b : Bool) → blocks owner mode h ≡ b → first_excess t ps n (map (λ h. h.owner) (if b then h ∷ filter (blocks owner mode) hs else filter (blocks owner mode) hs)) ≡ Some u → IsInWay owner mode (h ∷ hs) u × (exceeds_at t ps n u ≡ true)
  step h hs later true b f = choose h hs later (exceeds_at t ps n h.owner) refl b f
  step h hs later false b f = later f

  found-in : (hs : List Held) → each_once hs ≡ true → first_excess t ps n (blockers owner mode hs) ≡ Some u → IsInWay owner mode hs u × (exceeds_at t ps n u ≡ true)
  found-in [] once e = absurd (false≢true (ap (λ (o : Option ℕ). elim o [ None ↦ false | Some v ↦ true ]) e))
  found-in (h ∷ hs) once e =
      let p = and_parts (not (has_owner h.owner hs)) (each_once hs) once in
      step h hs (λ f. let r = found-in hs p.1 f in (further h hs p.0 r.0, r.1)) (blocks owner mode h) refl e

  -- in the tree's words
  pub found-in_way : IsLive (queues_at t) → first_excess t ps n (blockers owner mode (queues_at t n).granted) ≡ Some u → ((u == owner) ≡ false) × (may_share (granted_at t u n) mode ≡ false) × (exceeds_at t ps n u ≡ true)
  found-in_way live e = let r = found-in (queues_at t n).granted (live.sound n).granted_once e in (r.0.other, r.0.shuts, r.1)
