-- Indexes by their places among all.
use Rattle.std.specs.Prelude.{ℕ, List, map, Option, Some, slice_get}
use Rattle.rdo_ast.specs.Tree.{Name}
use Rattle.rdb_meaning.specs.declared.tables.Index.{Index}
use Rattle.rdb_tables.specs.declared.area.Area.{Area}

-- what stands at the places, by area
abbrev pub seen_at : List (Name × Index) → List (Area × ℕ) → List (ℕ × Option (Name × Index))
seen_at indexes places = map (λ p. (p.0.number, slice_get indexes p.1)) places

abbrev pub with_some : List (ℕ × (Name × Index)) → List (ℕ × Option (Name × Index))
with_some es = map (λ e. (e.0, Some e.1)) es
