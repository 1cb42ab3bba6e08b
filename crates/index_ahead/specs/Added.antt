-- What is added to a list.
use Rattle.std.specs.Prelude.{◌≡◌, ◌⊎◌, List}
use Rattle.std.specs.List.{AllByRecursion}
use Rattle.sorted_index_laws.specs.Nodes.{AnyByRecursion}

-- it is one of these
abbrev pub IsIn : {X : Type 0} → List X → X → Type 0
IsIn xs x = AnyByRecursion (λ o. x ≡ o) xs

-- each of these was there before, or is so
abbrev pub AddsOnly : {X : Type 0} → (X → Type 0) → List X → List X → Type 0
AddsOnly Is old new = AllByRecursion (λ x. Is x ⊎ IsIn old x) new
