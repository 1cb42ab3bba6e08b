-- Needs of two owners that are covered never conflict.
use Rattle.std.proofs.Common.{◌≡◌, Bool, true, false, refl, sym, ◌∙◌, ap, subst, ◌⊎◌, inl, inr}
use Rattle.std.specs.Prelude.{◌&&◌, ◌||◌, not}
use Rattle.std.proofs.lemmas.Bool.{false≢true, and_parts, or_from, or_cases}
use Rattle.vms_queues.specs.Modes.{may_share, at_most, intent}
use Rattle.vms_queues.proofs.ModeLaws.{may_share-comm}
use Rattle.rdb_types.specs.declared.node.Level.{Level}
use Rattle.rdb_types.specs.declared.node.Level.TheVariants.{Area, Range, Page}
use Rattle.rdb_types.specs.declared.node.Node.{Node}
use Rattle.lock_needs.specs.declared.need.Need.{Need}
use Rattle.lock_needs.specs.Nodes.{same_node, contains, is_above, on_way}
use Rattle.lock_needs.specs.Needs.{Holding, AreCompatible, HasIntentsAbove, conflict, covers_below, covers_from, covered_above, is_covered}
use Rattle.lock_needs.proofs.ModeTables.{at_most-shares, at_most-trans, intent-most, intent-own, lower-shares, covers_below-most}
use Rattle.lock_needs.proofs.NodeLaws.{same_node-true, same_node-refl, contains-self, way-contains, IsOn, comparable, on-then}

-- The lock that covers a need: at its node, or above it.
pub record IsCover (held : Holding) (w : Need) (x : Node) : Type 0 where
  pub most : at_most w.mode (held x) ≡ true
  pub place : (x ≡ w.node) ⊎ ((contains x w.node ≡ true) × (covers_below (held x) w.mode ≡ true))

cover-from : (held : Holding) (w : Need) (l : Level) → covers_from held w l ≡ true → (x : Node) × IsCover held w x
cover-from held w l h =
    let p = and_parts (is_above l w.node.level) (covers_below (held (on_way l w.node)) w.mode) h in (
      on_way l w.node,
      record {
        most = covers_below-most (held (on_way l w.node)) w.mode p.1;
        place = inr (way-contains l (on_way l w.node) w.node p.0 (same_node-refl (on_way l w.node)), p.1);
      },
    )

pub cover-of : (held : Holding) (w : Need) → is_covered held w ≡ true → (x : Node) × IsCover held w x
cover-of held w h =
    elim (or_cases (at_most w.mode (held w.node)) (covered_above held w) h) [
      | inl a ↦ (w.node, record { most = a; place = inl refl })
      | inr u ↦ elim (or_cases (covers_from held w Area) (covers_from held w Range || covers_from held w Page) u) [
        | inl a ↦ cover-from held w Area a
        | inr v ↦ elim (or_cases (covers_from held w Range) (covers_from held w Page) v) [
          | inl r ↦ cover-from held w Range r
          | inr p ↦ cover-from held w Page p
        ]
      ]
    ]

cover-on : {held : Holding} (w : Need) (x : Node) → IsCover held w x → IsOn x w.node
cover-on w x k = elim k.place [ inl e ↦ inl e | inr p ↦ inr p.0 ]

no-both : (x y : Node) → contains x y ≡ true → IsOn y x → ⊥
no-both x y h (inl f) = false≢true (sym (contains-self x y h) ∙ subst (λ (z : Node). same_node x z ≡ true) (sym f) (same_node-refl x))
no-both x y h (inr g) = false≢true (sym (contains-self x x (on-then x y x (inr h) g)) ∙ same_node-refl x)

to-intent : (w v : Need) → may_share w.mode v.mode ≡ true → may_share w.mode (intent v.mode) ≡ true
to-intent w v s =
    may_share-comm w.mode (intent v.mode) ∙ at_most-shares (intent v.mode) v.mode w.mode (intent-own v.mode) (may_share-comm v.mode w.mode ∙ s)

module _ (mine theirs : Holding) (shares : AreCompatible mine theirs) (intents : HasIntentsAbove theirs) where
  -- where both are covered at one node
  at-one : (w v : Need) (x : Node) → at_most w.mode (mine x) ≡ true → at_most v.mode (theirs x) ≡ true → may_share w.mode v.mode ≡ true
  at-one w v x a b =
      at_most-shares w.mode (mine x) v.mode a
      (may_share-comm (mine x) v.mode
      ∙ at_most-shares v.mode (theirs x) (mine x) b (may_share-comm (theirs x) (mine x) ∙ shares x))

  -- where one is covered from above the lock of the other
  from-above : (w v : Need) (x y : Node) → covers_below (mine x) w.mode ≡ true → contains x y ≡ true → at_most v.mode (theirs y) ≡ true → may_share w.mode v.mode ≡ true
  from-above w v x y c h b =
      may_share-comm w.mode v.mode
      ∙ at_most-shares v.mode (theirs y) w.mode b
      (may_share-comm (theirs y) w.mode
      ∙ lower-shares (mine x) w.mode (theirs x) (theirs y) c (shares x) (intents x y h))

  -- where the lock of one stands above the lock of the other, it shares with the other's intent
  intent-above : (w v : Need) (x y : Node) → at_most w.mode (mine x) ≡ true → contains x y ≡ true → at_most v.mode (theirs y) ≡ true → may_share w.mode (intent v.mode) ≡ true
  intent-above w v x y a h b =
      at_most-shares w.mode (mine x) (intent v.mode) a
      (may_share-comm (mine x) (intent v.mode)
      ∙ at_most-shares (intent v.mode) (theirs x) (mine x)
      (at_most-trans (intent v.mode) (intent (theirs y)) (theirs x) (intent-most v.mode (theirs y) b) (intents x y h))
      (may_share-comm (theirs x) (mine x) ∙ shares x))

flipped : (mine theirs : Holding) → AreCompatible mine theirs → AreCompatible theirs mine
flipped mine theirs s n = may_share-comm (theirs n) (mine n) ∙ s n

module _ (mine theirs : Holding) (shares : AreCompatible mine theirs) (my_intents : HasIntentsAbove mine) (their_intents : HasIntentsAbove theirs) where
  -- needs on one node
  same-apart : (w v : Need) → is_covered mine w ≡ true → is_covered theirs v ≡ true → w.node ≡ v.node → may_share w.mode v.mode ≡ true
  same-apart w v h g e =
      let p = cover-of mine w h in
      let q = cover-of theirs v g in
      let x : Node = p.0 in
      let y : Node = q.0 in
      elim (comparable x y v.node (subst (λ (z : Node). IsOn x z) e (cover-on w x p.1)) (cover-on v y q.1)) [
        | inl f ↦ at-one mine theirs shares their_intents w v x p.1.most (subst (λ (z : Node). at_most v.mode (theirs z) ≡ true) (sym f) q.1.most)
        | inr k ↦ elim k [
          | inl xy ↦ elim p.1.place [
            | inr c ↦ from-above mine theirs shares their_intents w v x y c.1 xy q.1.most
            | inl xa ↦ absurd (no-both x y xy (subst (λ (z : Node). IsOn y z) (sym (xa ∙ e)) (cover-on v y q.1)))
          ]
          | inr yx ↦ elim q.1.place [
            | inr c ↦ may_share-comm w.mode v.mode ∙ from-above theirs mine (flipped mine theirs shares) my_intents v w y x c.1 yx p.1.most
            | inl yb ↦ absurd (no-both y x yx (subst (λ (z : Node). IsOn x z) (e ∙ sym yb) (cover-on w x p.1)))
          ]
        ]
      ]

  -- a need on a containing node
  within-apart : (w v : Need) → is_covered mine w ≡ true → is_covered theirs v ≡ true → contains w.node v.node ≡ true → may_share w.mode (intent v.mode) ≡ true
  within-apart w v h g inside =
      let p = cover-of mine w h in
      let q = cover-of theirs v g in
      let x : Node = p.0 in
      let y : Node = q.0 in
      elim (comparable x y v.node (inr (on-then x w.node v.node (cover-on w x p.1) inside)) (cover-on v y q.1)) [
        | inl f ↦ to-intent w v (at-one mine theirs shares their_intents w v x p.1.most (subst (λ (z : Node). at_most v.mode (theirs z) ≡ true) (sym f) q.1.most))
        | inr k ↦ elim k [
          | inl xy ↦ intent-above mine theirs shares their_intents w v x y p.1.most xy q.1.most
          | inr yx ↦ elim q.1.place [
            | inr c ↦ to-intent w v (may_share-comm w.mode v.mode ∙ from-above theirs mine (flipped mine theirs shares) my_intents v w y x c.1 yx p.1.most)
            | inl yb ↦ absurd (false≢true
                (sym (contains-self y y (on-then y x y (inr yx) (subst (λ (z : Node). contains x z ≡ true) (sym yb) (on-then x w.node v.node (cover-on w x p.1) inside)))) ∙ same_node-refl y))
          ]
        ]
      ]

-- The law of cover: needs that locks of two owners cover don't conflict, where the locks may stand side by side and have their
-- intents above them.
pub covered-apart : (mine theirs : Holding) → AreCompatible mine theirs → HasIntentsAbove mine → HasIntentsAbove theirs → (w v : Need) → is_covered mine w ≡ true → is_covered theirs v ≡ true → conflict w v ≡ false
covered-apart mine theirs shares mi ti w v h g =
    or_from (same_node w.node v.node && not (may_share w.mode v.mode)) ((contains w.node v.node && not (may_share w.mode (intent v.mode))) || (contains v.node w.node && not (may_share v.mode (intent w.mode))))
    (none (same_node w.node v.node) (may_share w.mode v.mode) (λ s. same-apart mine theirs shares mi ti w v h g (same_node-true w.node v.node s)))
    (or_from (contains w.node v.node && not (may_share w.mode (intent v.mode))) (contains v.node w.node && not (may_share v.mode (intent w.mode)))
    (none (contains w.node v.node) (may_share w.mode (intent v.mode)) (within-apart mine theirs shares mi ti w v h g))
    (none (contains v.node w.node) (may_share v.mode (intent w.mode)) (within-apart theirs mine (flipped mine theirs shares) ti mi v w g h)))
  where
    none : (a b : Bool) → (a ≡ true → b ≡ true) → (a && not b) ≡ false
    none true b f = ap not (f refl)
    none false b f = refl
