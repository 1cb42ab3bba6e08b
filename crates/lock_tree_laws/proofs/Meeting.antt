-- Needs that meet at a node: where their modes there can't stand side by side they conflict, and the node is the upper of theirs.
use Rattle.std.proofs.Common.{◌≡◌, Bool, true, false, refl, sym, ◌∙◌, ap, subst, inl, inr, List, [], ◌∷◌}
use Rattle.std.specs.Prelude.{◌&&◌, ◌||◌, not, if◌then◌else◌}
use Rattle.std.specs.List.{list_any}
use Rattle.std.proofs.lemmas.Bool.{false≢true, and_parts, and_from, or_left, or_right, or_cases, or_parts, cases_Bool, not_from_false}
use Rattle.rdb_types.specs.declared.node.Node.{Node}
use Rattle.vms_queues.specs.declared.lock_mode.Mode.{Mode}
use Rattle.vms_queues.specs.Modes.{may_share, at_most, least_above, intent}
use Rattle.vms_queues.proofs.ModeLaws.{all_modes_2-at, may_share-comm}
use Rattle.lock_needs.specs.declared.need.Need.{Need}
use Rattle.lock_needs.specs.Nodes.{same_node, contains, is_on}
use Rattle.lock_needs.specs.Needs.{Holding, AreCompatible, HasIntentsAbove, conflict, is_covered, all_covered, covered_above}
use Rattle.lock_needs.specs.Keeping.{below, needed_on}
use Rattle.lock_needs.specs.Wants.{mode_for}
use Rattle.lock_needs.specs.Waits.{upper_of}
use Rattle.lock_needs.proofs.ModeTables.{at_most-refl, shares-join}
use Rattle.lock_needs.proofs.NodeLaws.{same_node-true, same_node-refl, contains-self, contains-trans, IsOn}
use Rattle.lock_needs.proofs.Apart.{covered-apart}
use Rattle.lock_tree_laws.proofs.HeldModes.{nothing-shares}

-- ---- nodes

self-apart : (n : Node) → contains n n ≡ true → ⊥
self-apart n h = false≢true (sym (contains-self n n h) ∙ same_node-refl n)

not-over : (a b : Node) → IsOn a b → contains b a ≡ false
not-over a b on =
    elim (cases_Bool (contains b a)) [
      | inr f ↦ f
      | inl t ↦ elim on [
        | inl e ↦ absurd (self-apart a (subst (λ (z : Node). contains z a ≡ true) (sym e) t))
        | inr c ↦ absurd (self-apart b (contains-trans b a b t c))
      ]
    ]

pub as-on : (a b : Node) → is_on a b ≡ true → IsOn a b
as-on a b h = elim (or_cases (same_node a b) (contains a b) h) [ inl s ↦ inl (same_node-true a b s) | inr c ↦ inr c ]

pub on-on : (a b c : Node) → IsOn a b → IsOn b c → IsOn a c
on-on a b c (inl e) on = subst (λ (z : Node). IsOn z c) (sym e) on
on-on a b c (inr g) (inl f) = inr (subst (λ (z : Node). contains a z ≡ true) f g)
on-on a b c (inr g) (inr h) = inr (contains-trans a b c g h)

-- ---- modes of needs at a node

pub mode-there : (v : Need) (n : Node) → n ≡ v.node → mode_for v n ≡ v.mode
mode-there v n e = ap (λ (b : Bool). if b then v.mode else intent v.mode) (subst (λ (z : Node). same_node z v.node ≡ true) (sym e) (same_node-refl v.node))

pub mode-over : (v : Need) (n : Node) → contains n v.node ≡ true → mode_for v n ≡ intent v.mode
mode-over v n c = ap (λ (b : Bool). if b then v.mode else intent v.mode) (contains-self n v.node c)

intents-share : (a b : Mode) → may_share (intent a) (intent b) ≡ true
intents-share a b = all_modes_2-at (λ a b. may_share (intent a) (intent b)) refl a b

pub record Meets (w v : Need) (n : Node) : Type 0 where
  pub conflicts : conflict w v ≡ true
  pub upper : upper_of w v ≡ n

module _ (w v : Need) (n : Node) where
  shut : (x y : Mode) → mode_for v n ≡ x → mode_for w n ≡ y → may_share (mode_for v n) (mode_for w n) ≡ false → may_share x y ≡ false
  shut x y ex ey s = subst (λ (z : Mode). may_share x z ≡ false) ey (subst (λ (z : Mode). may_share z (mode_for w n) ≡ false) ex s)

  meets-at : n ≡ w.node → IsOn n v.node → may_share (mode_for v n) (mode_for w n) ≡ false → conflict w v ≡ true
  meets-at e (inl f) s =
      or_left (same_node w.node v.node && not (may_share w.mode v.mode)) ((contains w.node v.node && not (may_share w.mode (intent v.mode))) || (contains v.node w.node && not (may_share v.mode (intent w.mode))))
      (and_from (same_node w.node v.node) (not (may_share w.mode v.mode))
      (subst (λ (z : Node). same_node w.node z ≡ true) (sym e ∙ f) (same_node-refl w.node))
      (not_from_false (may_share w.mode v.mode) (may_share-comm w.mode v.mode ∙ shut v.mode w.mode (mode-there v n f) (mode-there w n e) s)))
  meets-at e (inr c) s =
      or_right (same_node w.node v.node && not (may_share w.mode v.mode)) ((contains w.node v.node && not (may_share w.mode (intent v.mode))) || (contains v.node w.node && not (may_share v.mode (intent w.mode))))
      (or_left (contains w.node v.node && not (may_share w.mode (intent v.mode))) (contains v.node w.node && not (may_share v.mode (intent w.mode)))
      (and_from (contains w.node v.node) (not (may_share w.mode (intent v.mode)))
      (subst (λ (z : Node). contains z v.node ≡ true) e c)
      (not_from_false (may_share w.mode (intent v.mode)) (may_share-comm w.mode (intent v.mode) ∙ shut (intent v.mode) w.mode (mode-over v n c) (mode-there w n e) s))))

  pub meets : IsOn n w.node → IsOn n v.node → may_share (mode_for v n) (mode_for w n) ≡ false → Meets w v n
  meets (inl e) on s = record {
    conflicts = meets-at e on s;
    upper = ap (λ (b : Bool). if b then v.node else w.node) (not-over w.node v.node (subst (λ (z : Node). IsOn z v.node) e on)) ∙ sym e;
  }
  meets (inr c) (inl f) s =
      let over : contains v.node w.node ≡ true = subst (λ (z : Node). contains z w.node ≡ true) f c in record {
        conflicts = or_right (same_node w.node v.node && not (may_share w.mode v.mode)) ((contains w.node v.node && not (may_share w.mode (intent v.mode))) || (contains v.node w.node && not (may_share v.mode (intent w.mode))))
            (or_right (contains w.node v.node && not (may_share w.mode (intent v.mode))) (contains v.node w.node && not (may_share v.mode (intent w.mode)))
            (and_from (contains v.node w.node) (not (may_share v.mode (intent w.mode))) over
            (not_from_false (may_share v.mode (intent w.mode)) (shut v.mode (intent w.mode) (mode-there v n f) (mode-over w n c) s))));
        upper = ap (λ (b : Bool). if b then v.node else w.node) over ∙ sym f;
      }
  meets (inr c) (inr d) s = absurd (false≢true (sym (shut (intent v.mode) (intent w.mode) (mode-over v n d) (mode-over w n c) s) ∙ intents-share v.mode w.mode))

-- ---- a covered need shares with what others hold

both-told : (a b : Bool) → (a && not b) ≡ false → a ≡ true → b ≡ true
both-told true true h e = refl
both-told true false h e = absurd (false≢true (sym h))
both-told false b h e = absurd (false≢true e)

pub covered-shares : (mine theirs : Holding) → AreCompatible mine theirs → HasIntentsAbove mine → HasIntentsAbove theirs → (v : Need) (n : Node) → is_covered mine v ≡ true → IsOn n v.node → may_share (mode_for v n) (theirs n) ≡ true
covered-shares mine theirs shares mi ti v n h on =
    let lock : Need = record { node = n; mode = theirs n } in
    let held : is_covered theirs lock ≡ true = or_left (at_most (theirs n) (theirs n)) (covered_above theirs lock) (at_most-refl (theirs n)) in
    let p = or_parts (same_node v.node n && not (may_share v.mode (theirs n))) ((contains v.node n && not (may_share v.mode (intent (theirs n)))) || (contains n v.node && not (may_share (theirs n) (intent v.mode))))
    (covered-apart mine theirs shares mi ti v lock h held) in
    let q = or_parts (contains v.node n && not (may_share v.mode (intent (theirs n)))) (contains n v.node && not (may_share (theirs n) (intent v.mode))) p.1 in
    elim on [
      | inl e ↦ subst (λ (y : Mode). may_share y (theirs n) ≡ true) (sym (mode-there v n e))
          (both-told (same_node v.node n) (may_share v.mode (theirs n)) p.0 (subst (λ (z : Node). same_node v.node z ≡ true) (sym e) (same_node-refl v.node)))
      | inr c ↦ subst (λ (y : Mode). may_share y (theirs n) ≡ true) (sym (mode-over v n c))
          (may_share-comm (intent v.mode) (theirs n) ∙ both-told (contains n v.node) (may_share (theirs n) (intent v.mode)) q.1 c)
    ]

-- ---- what doesn't share with a join doesn't share with a part of it

pub other-part : (a b m : Mode) → may_share (least_above a b) m ≡ false → may_share a m ≡ true → may_share b m ≡ false
other-part a b m h k =
    elim (cases_Bool (may_share b m)) [
      | inr f ↦ f
      | inl t ↦ absurd (false≢true (sym h ∙ (shares-join a b m ∙ and_from (may_share a m) (may_share b m) k t)))
    ]

-- some need has the property, where each need does whose mode at the node doesn't share with this one
abbrev pub Proves : (Need → Bool) → Holding → Node → Mode → Type 0
Proves p held n s = (v : Need) → is_covered held v ≡ true → IsOn n v.node → may_share (mode_for v n) s ≡ false → p v ≡ true

pub some-below : (p : Need → Bool) (held : Holding) (n : Node) (s : Mode) (ws : List Need) → Proves p held n s → all_covered held ws ≡ true → may_share (below ws n) s ≡ false → list_any p ws ≡ true
some-below p held n s [] f c h = absurd (false≢true (sym h ∙ nothing-shares s))
some-below p held n s (w ∷ ws) f c h =
    let k = and_parts (is_covered held w) (all_covered held ws) c in
    elim (cases_Bool (contains n w.node)) [
      | inr d ↦ or_right (p w) (list_any p ws)
          (some-below p held n s ws f k.1 (subst (λ (b : Bool). may_share (if b then least_above (intent w.mode) (below ws n) else below ws n) s ≡ false) d h))
      | inl d ↦
          let shut : may_share (least_above (intent w.mode) (below ws n)) s ≡ false =
          subst (λ (b : Bool). may_share (if b then least_above (intent w.mode) (below ws n) else below ws n) s ≡ false) d h in
          elim (cases_Bool (may_share (intent w.mode) s)) [
            | inr x ↦ or_left (p w) (list_any p ws) (f w k.0 (inr d) (subst (λ (y : Mode). may_share y s ≡ false) (sym (mode-over w n d)) x))
            | inl x ↦ or_right (p w) (list_any p ws) (some-below p held n s ws f k.1 (other-part (intent w.mode) (below ws n) s shut x))
          ]
    ]

pub some-on : (p : Need → Bool) (held : Holding) (n : Node) (s : Mode) (ws : List Need) → Proves p held n s → all_covered held ws ≡ true → may_share (needed_on ws n) s ≡ false → list_any p ws ≡ true
some-on p held n s [] f c h = absurd (false≢true (sym h ∙ nothing-shares s))
some-on p held n s (w ∷ ws) f c h =
    let k = and_parts (is_covered held w) (all_covered held ws) c in
    elim (cases_Bool (same_node n w.node)) [
      | inr d ↦ or_right (p w) (list_any p ws)
          (some-on p held n s ws f k.1 (subst (λ (b : Bool). may_share (if b then least_above w.mode (needed_on ws n) else needed_on ws n) s ≡ false) d h))
      | inl d ↦
          let e : n ≡ w.node = same_node-true n w.node d in
          let shut : may_share (least_above w.mode (needed_on ws n)) s ≡ false =
          subst (λ (b : Bool). may_share (if b then least_above w.mode (needed_on ws n) else needed_on ws n) s ≡ false) d h in
          elim (cases_Bool (may_share w.mode s)) [
            | inr x ↦ or_left (p w) (list_any p ws) (f w k.0 (inl e) (subst (λ (y : Mode). may_share y s ≡ false) (sym (mode-there w n e)) x))
            | inl x ↦ or_right (p w) (list_any p ws) (some-on p held n s ws f k.1 (other-part w.mode (needed_on ws n) s shut x))
          ]
    ]
