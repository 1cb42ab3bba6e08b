-- A want that comes to be queued has fewer steps to go.
use Rattle.std.proofs.Common.{◌≡◌, ◌<◌, ◌≤◌, ◌+◌, ◌*◌, ◌-◌, ◌⊎◌, ℕ, ◌∷◌, [], List, Bool, true, false, refl, sym, ap, ◌∙◌, inl, inr, arith, Option, Some}
use Rattle.std.specs.Prelude.{not, ◌&&◌}
use Rattle.std.proofs.lemmas.Bool.{false≢true}
use Rattle.lock_needs.specs.declared.party.OpenWant.{OpenWant}
use Rattle.lock_needs.specs.Nodes.{same_node}
use Rattle.lock_needs.specs.Wants.{sleeps_at}
use Rattle.lock_needs.proofs.NodeLaws.{same_node-refl}
use Rattle.lock_tree_laws.specs.Forest.{State, opened_of}
use Rattle.lock_tree_laws.specs.LockTable.{granted_at}
use Rattle.lock_tree_laws.specs.Room.{depth}
use Rattle.lock_tree_laws.specs.Progress.{has_mode, steps_here, steps_for, steps_of, IsAtMost, Falls, NeverRises, LeavesOthers}
use Rattle.lock_tree_laws.proofs.Measured.{steps_by}
use Rattle.lock_tree_laws.proofs.MeasureFalls.{fewer-falls}

-- a want at its node: asked there or not, with its mode or without, and whether it is queued
queued-steps : (same asked has : Bool) → same ≡ true → (same && (asked && not has)) ≡ true → steps_by asked has ≡ 2
queued-steps false asked has e h = absurd (false≢true e)
queued-steps true false has e h = absurd (false≢true h)
queued-steps true true true e h = absurd (false≢true h)
queued-steps true true false e h = refl

awake-steps : (same asked has : Bool) → same ≡ true → (same && (asked && not has)) ≡ false → (steps_by asked has ≡ 1) ⊎ (steps_by asked has ≡ 3)
awake-steps false asked has e h = absurd (false≢true e)
awake-steps true false has e h = inr refl
awake-steps true true true e h = inl refl
awake-steps true true false e h = absurd (false≢true (sym h))

less : (a b x y h : ℕ) → b ≡ 3 * x + h → a ≡ 3 * y + 2 → a ≤ b → (h ≡ 1) ⊎ (h ≡ 3) → a < b
less a b x y h e f g (inl o) = omega (arith, e, f, g, o)
less a b x y h e f g (inr o) = omega (arith, e, f, g, o)

-- the first numbers of lists of which the one is at most the other
first-most : (x y : ℕ) (xs ys : List ℕ) → IsAtMost (x ∷ xs) (y ∷ ys) → x ≤ y
first-most x y xs ys (inl e) = let f : x ≡ y = ap (λ (zs : List ℕ). first zs) e in omega (arith, f)
  where
    first : List ℕ → ℕ
    first [] = 0
    first (z ∷ zs) = z
first-most x y xs ys (inr (inl h)) = omega (arith, h)
first-most x y xs ys (inr (inr h)) = let f = h.0 in omega (arith, f)

module _ (s r : State) (owner : ℕ) (leaves : LeavesOthers owner s r) (never : NeverRises owner s r) where
  no-more : steps_of r owner ≤ steps_of s owner
  no-more = let h : 0 + steps_of r owner ≤ 0 + steps_of s owner = first-most (0 + steps_of r owner) (0 + steps_of s owner) _ _ (never (owner ∷ []) (grind arith)) in omega (arith, h)

  -- one that wasn't queued is queued
  pub queued-falls : (w v : OpenWant) → opened_of s owner ≡ Some w → opened_of r owner ≡ Some v → sleeps_at (granted_at s.table owner) (Some w) w.here ≡ false → sleeps_at (granted_at r.table owner) (Some v) v.here ≡ true → Falls owner s r
  queued-falls w v was is awake queued = fewer-falls s r owner leaves
      (less (steps_of r owner) (steps_of s owner) (depth w.need.node.level - depth w.here.level) (depth v.need.node.level - depth v.here.level) (steps_here (granted_at s.table owner) w) old new no-more
      (awake-steps (same_node w.here w.here) w.is_asked (has_mode (granted_at s.table owner) w) (same_node-refl w.here) awake))
    where
      old : steps_of s owner ≡ 3 * (depth w.need.node.level - depth w.here.level) + steps_here (granted_at s.table owner) w
      old = ap (λ (o : Option OpenWant). steps_for (granted_at s.table owner) o) was

      new : steps_of r owner ≡ 3 * (depth v.need.node.level - depth v.here.level) + 2
      new = ap (λ (o : Option OpenWant). steps_for (granted_at r.table owner) o) is ∙ ap (λ (n : ℕ). 3 * (depth v.need.node.level - depth v.here.level) + n) (queued-steps (same_node v.here v.here) v.is_asked (has_mode (granted_at r.table owner) v) (same_node-refl v.here) queued)
