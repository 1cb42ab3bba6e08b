-- How many items of a script a step takes up.
use Rattle.std.proofs.Common.{◌≡◌, ◌≤◌, ◌+◌, ℕ, List, [], ◌∷◌, length, Option, Some, None, sym, subst, arith}
use Rattle.rdo_ast.specs.declared.syntax.Item.{Item}
use Rattle.rdo_ast.specs.Tree.{Uttered}
use Rattle.job_steps.specs.session_states.declared.stage.Phase.{Phase}
use Rattle.job_steps.specs.session_states.declared.stage.Phase.TheVariants.{Outside, Closing, Writing, Reading, Over}
use Rattle.job_steps.specs.session_states.States.{item_of, reader_item}
use Rattle.job_steps.specs.session_measure.Weights.{one_under_way, items_in}
use Rattle.line_arms.specs.Going.{TakesOne}

under-few : (item : Option Uttered) → one_under_way item ≤ 1
under-few None = omega arith
under-few (Some item) = omega arith

items-few : (x : Phase) → items_in x ≤ 1
items-few Outside = omega arith
items-few Closing = omega arith
items-few (Writing w) = under-few (item_of w.stage)
items-few (Reading r) = under-few (reader_item r.stage)
items-few Over = omega arith

-- none is
pub takes-none : (left : List Item) (x : Phase) → TakesOne left left x
takes-none left x = let few = items-few x in omega (arith, few)

-- the first is, where none is under way
pub takes-first : (item : Item) (old left : List Item) (x : Phase) → items_in x ≡ 0 → old ≡ item ∷ left → TakesOne old left x
takes-first item old left x none is = subst (λ (ls : List Item). TakesOne ls left x) (sym is) (let e = none in omega (arith, e))
