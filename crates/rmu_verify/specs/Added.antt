-- What is added, and which roots indexes have.
use Rattle.std.specs.Prelude.{◌≡◌, List, ◌++◌}
use Rattle.catalog_lines.specs.declared.line.CatalogLine.{CatalogLine}
use Rattle.catalog_lines.specs.declared.line.CatalogLine.TheVariants.{Relation, Global, Field, Index}

-- some more were added, of which this is true
abbrev pub AddsSome : {X : Type 0} → (List X → Type 0) → List X → List X → Type 0
AddsSome {X} Are old new = (more : List X) × (new ≡ old ++ more) × Are more

-- an index's root lies in its own area
abbrev pub IsRooted : CatalogLine → Type 0
IsRooted (Relation r) = Unit {0}
IsRooted (Global g) = Unit {0}
IsRooted (Field f) = Unit {0}
IsRooted (Index x) = x.root.area ≡ x.area
