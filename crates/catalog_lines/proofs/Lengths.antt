-- How long the images of lines are.
use Rattle.std.proofs.Common.{ℕ, ◌≤◌, ◌+◌, List, length, arith}
use Rattle.slot_fields.specs.Fields.{size}
use Rattle.slot_fields.proofs.Laws.{size_append, whole_ends}
use Rattle.catalog_lines.specs.declared.line.CatalogLine.{CatalogLine}
use Rattle.catalog_lines.specs.declared.line.CatalogLine.TheVariants.{Relation, Global, Field as FieldOf, Index}
use Rattle.catalog_lines.specs.Parts.{name_fields, positions_fields}
use Rattle.catalog_lines.specs.Lines.{line_fields, IsCatalogLine}
use Rattle.catalog_lines.proofs.Positions.{size_positions}

pub short_line : (bytes : List ℕ) (line : CatalogLine) → IsCatalogLine bytes line → length bytes ≤ 208
short_line bytes (Relation r) is = let whole = whole_ends (line_fields (Relation r)) 0 bytes is.fields in let short = is.allowed.name.length.1 in omega (arith, whole, short)
short_line bytes (Global g) is = let whole = whole_ends (line_fields (Global g)) 0 bytes is.fields in let short = is.allowed.name.length.1 in omega (arith, whole, short)
short_line bytes (FieldOf f) is = let whole = whole_ends (line_fields (FieldOf f)) 0 bytes is.fields in let short = is.allowed.name.length.1 in omega (arith, whole, short)
short_line bytes (Index x) is =
    let whole = whole_ends (line_fields (Index x)) 0 bytes is.fields in
    let short = is.allowed.name.length.1 in
    let few = is.allowed.count.1 in
    omega (arith, whole, short, few, size_positions x.fields, size_append (positions_fields x.fields) (name_fields x.name))
