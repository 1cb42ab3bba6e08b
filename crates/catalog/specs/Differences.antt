-- Things of a catalog that have one name, one area or one place are one line.
use Rattle.std.specs.Prelude.{◌≡◌, ℕ, List, Some}
use Rattle.std.specs.List.{slice_get}
use Rattle.catalog_lines.specs.declared.line.CatalogLine.{CatalogLine}
use Rattle.catalog_lines.specs.declared.line.CatalogLine.TheVariants.{Relation, Global, Field as FieldOf, Index}
use Rattle.catalog.specs.declared.directory.PlacedLine.{PlacedLine}

-- lines of this kind that are the same in this are one line
abbrev pub OnePer : {X : Type 0} → (X → CatalogLine) → (X → X → Type 0) → List PlacedLine → Type 0
OnePer {X} kind Same ps = (i j : ℕ) (p q : PlacedLine) (x y : X) → slice_get ps i ≡ Some p → slice_get ps j ≡ Some q → p.line ≡ kind x → q.line ≡ kind y → Same x y → p.key ≡ q.key

pub record Differ (ps : List PlacedLine) : Type 0 where
  pub relation_names : OnePer Relation (λ r s. r.name ≡ s.name) ps
  pub relation_areas : OnePer Relation (λ r s. r.area ≡ s.area) ps
  pub index_names : OnePer Index (λ x y. x.name ≡ y.name) ps
  pub index_areas : OnePer Index (λ x y. x.area ≡ y.area) ps
  pub global_names : OnePer Global (λ g h. g.name ≡ h.name) ps
  pub field_places : OnePer FieldOf (λ f g. (f.relation ≡ g.relation) × (f.position ≡ g.position)) ps
