-- The child that a pair belongs below.
use Rattle.std.proofs.Common.{◌≡◌, ℕ, suc, ◌<◌, true, false, cond, List, [], ◌∷◌, ◌++◌, length, get_or, Option, refl, sym, ap, subst, ◌∙◌, arith}
use Rattle.std.specs.Ordering.{is_le}
use Rattle.std.specs.List.{AllByRecursion, remove}
use Rattle.index_node.specs.declared.entry.NodeEntry.{NodeEntry}
use Rattle.index_node.specs.Order.{entry_order}
use Rattle.line_view.specs.Knowledge.{Lines}
use Rattle.line_view.specs.declared.writes.Write.{Write}
use Rattle.sorted_index_laws.specs.Tree.{Tree, place, has_nothing}
use Rattle.sorted_index_laws.specs.Changes.{goes_on, chosen}
use Rattle.sorted_index_laws.specs.Inner.Removal.{keep, replaced, without, Choose, IsLeft, WroteIn, Wrote}
use Rattle.sorted_index_laws.specs.Inner.Steps.{count_up_to, child_place}
use Rattle.sorted_index_laws.proofs.Ordered.{StandsBelow}
use Rattle.sorted_index_laws.proofs.Without.{Entries}

pub record IsChosen (all : Lines) (area : ℕ) (pair : NodeEntry) (level : ℕ) (children : List (NodeEntry × Tree level)) (at : ℕ) (child : NodeEntry × Tree level) : Type 0 where
  pub within : at < length (Entries level children)
  pub entry : (d : NodeEntry) → get_or (Entries level children) at d ≡ child.0
  pub one : chosen pair children ≡ child.1 ∷ []
  pub stands : StandsBelow all area level child
  pub wrote : (before : List Write) (image : Option (List ℕ)) → Wrote pair level child.1 before → IsLeft level (without pair level child.1) image → WroteIn pair level (Wrote pair level) children (before ++ record { key = place level child.1; image = image } ∷ [])
  pub kept : has_nothing level (without pair level child.1) ≡ false → Entries level (replaced level pair (without pair level) children) ≡ Entries level children
  pub dropped : has_nothing level (without pair level child.1) ≡ true → Entries level (replaced level pair (without pair level) children) ≡ remove (Entries level children) at

abbrev After : NodeEntry → (level : ℕ) → NodeEntry × Tree level → List Write → Type 0
After pair level child writes = (before : List Write) × ((image : Option (List ℕ)) × ((writes ≡ before ++ record { key = place level child.1; image = image } ∷ []) × Wrote pair level child.1 before × IsLeft level (without pair level child.1) image))

here : (all : Lines) (area : ℕ) (pair : NodeEntry) (level : ℕ) (child : NodeEntry × Tree level) (children : List (NodeEntry × Tree level)) → StandsBelow all area level child → goes_on pair (Entries level children) ≡ false → IsChosen all area pair level (child ∷ children) 0 child
here all area pair level child children is stays = record {
  within = omega arith;
  entry = λ d. refl;
  one = ap (λ b. cond b (chosen pair children) (child.1 ∷ [])) stays;
  stands = is;
  wrote = λ before image wrote left. subst (λ b. Choose b (WroteIn pair level (Wrote pair level) children (before ++ record { key = place level child.1; image = image } ∷ [])) (After pair level child (before ++ record { key = place level child.1; image = image } ∷ []))) (sym stays) (before, (image, (refl, wrote, left)));
  kept = λ some. ap (λ b. Entries level (cond b (child ∷ replaced level pair (without pair level) children) (keep level child.0 (without pair level child.1) children))) stays
      ∙ ap (λ b. Entries level (cond b children ((child.0, without pair level child.1) ∷ children))) some;
  dropped = λ none. ap (λ b. Entries level (cond b (child ∷ replaced level pair (without pair level) children) (keep level child.0 (without pair level child.1) children))) stays
      ∙ ap (λ b. Entries level (cond b children ((child.0, without pair level child.1) ∷ children))) none;
}

further : (all : Lines) (area : ℕ) (pair : NodeEntry) (level : ℕ) (first : NodeEntry × Tree level) (children : List (NodeEntry × Tree level)) (at : ℕ) (child : NodeEntry × Tree level) → goes_on pair (Entries level children) ≡ true → IsChosen all area pair level children at child → IsChosen all area pair level (first ∷ children) (suc at) child
further all area pair level first children at child goes is = record {
  within = let inside = is.within in omega (arith, inside);
  entry = λ d. is.entry d;
  one = ap (λ b. cond b (chosen pair children) (first.1 ∷ [])) goes ∙ is.one;
  stands = is.stands;
  wrote = λ before image wrote left. subst (λ b. Choose b (WroteIn pair level (Wrote pair level) children (before ++ record { key = place level child.1; image = image } ∷ [])) (After pair level first (before ++ record { key = place level child.1; image = image } ∷ []))) (sym goes) (is.wrote before image wrote left);
  kept = λ some. ap (λ b. Entries level (cond b (first ∷ replaced level pair (without pair level) children) (keep level first.0 (without pair level first.1) children))) goes ∙ ap (λ es. first.0 ∷ es) (is.kept some);
  dropped = λ none. ap (λ b. Entries level (cond b (first ∷ replaced level pair (without pair level) children) (keep level first.0 (without pair level first.1) children))) goes ∙ ap (λ es. first.0 ∷ es) (is.dropped none);
}

abbrev Found : Lines → ℕ → NodeEntry → (level : ℕ) → List (NodeEntry × Tree level) → ℕ → Type 0
Found all area pair level children at = (child : NodeEntry × Tree level) × IsChosen all area pair level children at child

pub chosen_child : (all : Lines) (area : ℕ) (pair : NodeEntry) (level : ℕ) (child : NodeEntry × Tree level) (children : List (NodeEntry × Tree level)) → AllByRecursion (StandsBelow all area level) (child ∷ children) → (found : NodeEntry × Tree level) × IsChosen all area pair level (child ∷ children) (child_place pair (Entries level (child ∷ children))) found
chosen_child all area pair level child [] is = (child, here all area pair level child [] is.0 refl)
chosen_child all area pair level child (next ∷ children) is =
    let es = Entries level children in
    elim (is_le (entry_order next.0 pair)) as (λ b. is_le (entry_order next.0 pair) ≡ b → Found all area pair level (child ∷ next ∷ children) (cond b (suc (count_up_to pair es)) 0)) [
      | true ↦ λ goes. let rest = chosen_child all area pair level next children is.1 in (rest.0, further all area pair level child (next ∷ children) (count_up_to pair es) rest.0 goes rest.1)
      | false ↦ λ stays. (child, here all area pair level child (next ∷ children) is.0 stays)
    ] refl
