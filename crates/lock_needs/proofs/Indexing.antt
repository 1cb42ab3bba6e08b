-- What needs ask of each node, as one more need comes.
use Rattle.std.proofs.Common.{◌≡◌, ℕ, Bool, true, false, refl, sym, ◌∙◌, ap, subst, inl, inr}
use Rattle.std.specs.Prelude.{◌&&◌, if◌then◌else◌, List, [], ◌∷◌, ◌++◌}
use Rattle.std.proofs.lemmas.Bool.{cases_Bool}
use Rattle.rdb_types.specs.declared.node.Level.{Level}
use Rattle.rdb_types.specs.declared.node.Level.TheVariants.{Area, Range, Page, Line, Journal}
use Rattle.rdb_types.specs.declared.node.Node.{Node}
use Rattle.vms_queues.specs.declared.lock_mode.Mode.{Mode}
use Rattle.vms_queues.specs.declared.lock_mode.Mode.TheVariants.{NL}
use Rattle.vms_queues.specs.Modes.{least_above, intent}
use Rattle.lock_needs.specs.declared.need.Need.{Need}
use Rattle.lock_needs.specs.declared.index.Asks.{Asks}
use Rattle.lock_needs.specs.Nodes.{same_node, is_above, on_way, contains}
use Rattle.lock_needs.specs.Keeping.{below, needed_on}
use Rattle.lock_needs.specs.Index.{Index, asks_at, joined_if, IsIndexOf, AddsBelow, AddsOn}
use Rattle.lock_needs.proofs.Joins.{join_assoc, join-none, join-none_right}
use Rattle.lock_needs.proofs.NodeLaws.{make, same_node-true}

-- what comes last joins at the end
added-behind : (c t : Bool) (a more x y : Mode) → y ≡ joined_if t more x → (if c then least_above a y else y) ≡ joined_if t more (if c then least_above a x else x)
added-behind true true a more x y e = ap (λ (m : Mode). least_above a m) e ∙ sym (join_assoc a x more)
added-behind true false a more x y e = ap (λ (m : Mode). least_above a m) e
added-behind false t a more x y e = e

first-joined : (t : Bool) (m : Mode) → (if t then least_above m NL else NL) ≡ joined_if t m NL
first-joined true m = join-none_right m ∙ sym (join-none m)
first-joined false m = refl

below-added : (ws : List Need) (w : Need) (n : Node) → below (ws ++ w ∷ []) n ≡ joined_if (contains n w.node) (intent w.mode) (below ws n)
below-added [] w n = first-joined (contains n w.node) (intent w.mode)
below-added (v ∷ ws) w n = added-behind (contains n v.node) (contains n w.node) (intent v.mode) (intent w.mode) (below ws n) (below (ws ++ w ∷ []) n) (below-added ws w n)

needed_on-added : (ws : List Need) (w : Need) (n : Node) → needed_on (ws ++ w ∷ []) n ≡ joined_if (same_node n w.node) w.mode (needed_on ws n)
needed_on-added [] w n = first-joined (same_node n w.node) w.mode
needed_on-added (v ∷ ws) w n = added-behind (same_node n v.node) (same_node n w.node) v.mode w.mode (needed_on ws n) (needed_on (ws ++ w ∷ []) n) (needed_on-added ws w n)

-- the node is that of this level above the other
abbrev pub is_over : Level → Node → Node → Bool
is_over level k n = is_above level k.level && same_node n (on_way level k)

-- a node contains another where it is that of one of three levels above it
over-levels : (ln lk : Level) (an tn en ak tk ek : ℕ) (m x : Mode) → joined_if (is_over Page (make lk ak tk ek) (make ln an tn en)) m (joined_if (is_over Range (make lk ak tk ek) (make ln an tn en)) m (joined_if (is_over Area (make lk ak tk ek) (make ln an tn en)) m x)) ≡ joined_if (contains (make ln an tn en) (make lk ak tk ek)) m x
over-levels Area Area an tn en ak tk ek m x = refl
over-levels Area Range an tn en ak tk ek m x = refl
over-levels Area Page an tn en ak tk ek m x = refl
over-levels Area Line an tn en ak tk ek m x = refl
over-levels Area Journal an tn en ak tk ek m x = refl
over-levels Range Area an tn en ak tk ek m x = refl
over-levels Range Range an tn en ak tk ek m x = refl
over-levels Range Page an tn en ak tk ek m x = refl
over-levels Range Line an tn en ak tk ek m x = refl
over-levels Range Journal an tn en ak tk ek m x = refl
over-levels Page Area an tn en ak tk ek m x = refl
over-levels Page Range an tn en ak tk ek m x = refl
over-levels Page Page an tn en ak tk ek m x = refl
over-levels Page Line an tn en ak tk ek m x = refl
over-levels Page Journal an tn en ak tk ek m x = refl
over-levels Line Area an tn en ak tk ek m x = refl
over-levels Line Range an tn en ak tk ek m x = refl
over-levels Line Page an tn en ak tk ek m x = refl
over-levels Line Line an tn en ak tk ek m x = refl
over-levels Line Journal an tn en ak tk ek m x = refl
over-levels Journal Area an tn en ak tk ek m x = refl
over-levels Journal Range an tn en ak tk ek m x = refl
over-levels Journal Page an tn en ak tk ek m x = refl
over-levels Journal Line an tn en ak tk ek m x = refl
over-levels Journal Journal an tn en ak tk ek m x = refl

-- one need more
pub index-added : (ws : List Need) (w : Need) (i0 i1 i2 i3 i4 : Index) → AddsOn i0 i1 w.node w.mode → AddsBelow i1 i2 (is_over Area w.node) (intent w.mode) → AddsBelow i2 i3 (is_over Range w.node) (intent w.mode) → AddsBelow i3 i4 (is_over Page w.node) (intent w.mode) → IsIndexOf ws i0 → IsIndexOf (ws ++ w ∷ []) i4
index-added ws w i0 i1 i2 i3 i4 o a r p index =
    record {
      below = λ n.
          p.below n
          ∙ (ap (λ (x : Mode). joined_if (is_over Page w.node n) (intent w.mode) x) (r.below n)
          ∙ (ap (λ (x : Mode). joined_if (is_over Page w.node n) (intent w.mode) (joined_if (is_over Range w.node n) (intent w.mode) x)) (a.below n)
          ∙ (over-levels n.level w.node.level n.area n.at n.line w.node.area w.node.at w.node.line (intent w.mode) (asks_at i1 n).below
          ∙ (ap (λ (x : Mode). joined_if (contains n w.node) (intent w.mode) x) (o.below n ∙ index.below n)
          ∙ sym (below-added ws w n)))));
      on = λ n.
          p.on n
          ∙ (r.on n
          ∙ (a.on n
          ∙ (o.on n
          ∙ (ap (λ (x : Mode). joined_if (same_node n w.node) w.mode x) (index.on n)
          ∙ sym (needed_on-added ws w n)))));
    }

-- ---- what is put at one node

module _ (old new : Index) (node : Node) (asks : Asks) (here : asks_at new node ≡ asks) (elsewhere : (n : Node) → same_node n node ≡ false → asks_at new n ≡ asks_at old n) where
  stays : (part : Asks → Mode) → part asks ≡ part (asks_at old node) → (n : Node) → part (asks_at new n) ≡ part (asks_at old n)
  stays part same n =
      elim (cases_Bool (same_node n node)) [
        | inl s ↦ subst (λ (x : Node). part (asks_at new x) ≡ part (asks_at old x)) (sym (same_node-true n node s)) (ap part here ∙ same)
        | inr f ↦ ap part (elsewhere n f)
      ]

  joins : (part : Asks → Mode) (mode : Mode) → part asks ≡ least_above (part (asks_at old node)) mode → (n : Node) → part (asks_at new n) ≡ joined_if (same_node n node) mode (part (asks_at old n))
  joins part mode more n =
      elim (cases_Bool (same_node n node)) [
        | inl s ↦ subst (λ (t : Bool). part (asks_at new n) ≡ joined_if t mode (part (asks_at old n))) (sym s)
            (subst (λ (x : Node). part (asks_at new x) ≡ least_above (part (asks_at old x)) mode) (sym (same_node-true n node s)) (ap part here ∙ more))
        | inr f ↦ subst (λ (t : Bool). part (asks_at new n) ≡ joined_if t mode (part (asks_at old n))) (sym f) (ap part (elsewhere n f))
      ]

  pub put-on : (mode : Mode) → asks.below ≡ (asks_at old node).below → asks.on ≡ least_above (asks_at old node).on mode → AddsOn old new node mode
  put-on mode same more = record { below = stays (λ a. a.below) same; on = joins (λ a. a.on) mode more }

  pub put-below : (mode : Mode) (test : Node → Bool) → ((n : Node) → test n ≡ same_node n node) → asks.below ≡ least_above (asks_at old node).below mode → asks.on ≡ (asks_at old node).on → AddsBelow old new test mode
  put-below mode test is more same =
      record {
        below = λ n. joins (λ a. a.below) mode more n ∙ ap (λ (t : Bool). joined_if t mode (asks_at old n).below) (sym (is n));
        on = stays (λ a. a.on) same;
      }
