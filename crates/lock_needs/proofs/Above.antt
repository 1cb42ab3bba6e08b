-- The node next above another.
use Rattle.std.proofs.Common.{◌≡◌, Bool, true, false, refl, sym, ◌∙◌, ap, subst, ◌⊎◌, inl, inr}
use Rattle.std.specs.Prelude.{◌&&◌, ◌||◌, not, if◌then◌else◌, Option, Some, None, unwrap_or}
use Rattle.std.proofs.lemmas.Bool.{false≢true, and_parts, and_from, cases_Bool, not-true}
use Rattle.rdb_types.specs.declared.node.Level.{Level}
use Rattle.rdb_types.specs.declared.node.Level.TheVariants.{Area, Range, Page, Line, Journal}
use Rattle.rdb_types.specs.declared.node.Node.{Node}
use Rattle.lock_needs.specs.Nodes.{is_above, on_way, contains, level_over, above_of}
use Rattle.lock_needs.proofs.NodeLaws.{contains-above, way-contains, way-level, same_node-refl, comparable}

abbrev all_levels : (Level → Bool) → Bool
all_levels p = p Area && (p Range && (p Page && (p Line && p Journal)))

all_levels-at : (p : Level → Bool) → all_levels p ≡ true → (l : Level) → p l ≡ true
all_levels-at p h l =
    let a = and_parts (p Area) (p Range && (p Page && (p Line && p Journal))) h in
    let b = and_parts (p Range) (p Page && (p Line && p Journal)) a.1 in
    let c = and_parts (p Page) (p Line && p Journal) b.1 in
    let d = and_parts (p Line) (p Journal) c.1 in
    elim l as (λ l. p l ≡ true) [ Area ↦ a.0 | Range ↦ b.0 | Page ↦ c.0 | Line ↦ d.0 | Journal ↦ d.1 ]

-- no level lies between a level and the one over it
none-between : (l a : Level) → not (is_above (level_over l) a && is_above a l) ≡ true
none-between l a = all_levels-at (λ a. not (is_above (level_over l) a && is_above a l)) (all_levels-at (λ l. all_levels (λ a. not (is_above (level_over l) a && is_above a l))) refl l) a

-- where nothing is over a level, nothing is above it
none-over : (l a : Level) → (is_above (level_over l) l || not (is_above a l)) ≡ true
none-over l a = all_levels-at (λ a. is_above (level_over l) l || not (is_above a l)) (all_levels-at (λ l. all_levels (λ a. is_above (level_over l) l || not (is_above a l))) refl l) a

-- what is above a node that has none next above
pub top-alone : (n x : Node) → above_of n ≡ None → contains x n ≡ false
top-alone n x e =
    elim (cases_Bool (contains x n)) [
      | inr f ↦ f
      | inl c ↦
          let no_over : is_above (level_over n.level) n.level ≡ false = elim (cases_Bool (is_above (level_over n.level) n.level)) [
            | inr f ↦ f
            | inl t ↦ absurd (false≢true (ap (λ (o : Option Node). elim o [ None ↦ false | Some m ↦ true ]) (sym e ∙ ap (λ (b : Bool). if b then Some (on_way (level_over n.level) n) else None) t)))
          ] in
          absurd (false≢true (sym (not-true (is_above x.level n.level) (subst (λ (b : Bool). (b || not (is_above x.level n.level)) ≡ true) no_over (none-over n.level x.level))) ∙ contains-above x n c))
    ]

module _ (n up : Node) (e : above_of n ≡ Some up) where
  over : is_above (level_over n.level) n.level ≡ true
  over = elim (cases_Bool (is_above (level_over n.level) n.level)) [
    | inl t ↦ t
    | inr f ↦ absurd (false≢true (ap (λ (o : Option Node). elim o [ None ↦ false | Some m ↦ true ]) (sym (ap (λ (b : Bool). if b then Some (on_way (level_over n.level) n) else None) f) ∙ e)))
  ]

  up-is : on_way (level_over n.level) n ≡ up
  up-is = ap (λ (o : Option Node). unwrap_or o n) (sym (ap (λ (b : Bool). if b then Some (on_way (level_over n.level) n) else None) over) ∙ e)

  pub above-contains : contains up n ≡ true
  above-contains = subst (λ (z : Node). contains z n ≡ true) up-is (way-contains (level_over n.level) (on_way (level_over n.level) n) n over (same_node-refl (on_way (level_over n.level) n)))

  pub above-level : up.level ≡ level_over n.level
  above-level = ap (λ (z : Node). z.level) (sym up-is) ∙ way-level (level_over n.level) n.level n.area n.at n.line over

  -- what is above a node is the one next above it, or above that
  pub above-next : (x : Node) → contains x n ≡ true → (x ≡ up) ⊎ (contains x up ≡ true)
  above-next x h =
      elim (comparable x up n (inr h) (inr above-contains)) [
        | inl s ↦ inl s
        | inr c ↦ elim c [
          | inl y ↦ inr y
          | inr z ↦
              let lower : is_above (level_over n.level) x.level ≡ true = subst (λ (l : Level). is_above l x.level ≡ true) above-level (contains-above up x z) in
              absurd (false≢true (sym (not-true (is_above (level_over n.level) x.level && is_above x.level n.level) (none-between n.level x.level))
              ∙ and_from (is_above (level_over n.level) x.level) (is_above x.level n.level) lower (contains-above x n h)))
        ]
      ]
