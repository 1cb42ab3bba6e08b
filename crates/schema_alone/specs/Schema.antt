-- Tables that have one schema.
use Rattle.std.specs.Prelude.{◌≡◌, [], option_map}
use Rattle.rdo_ast.specs.Tree.{Name}
use Rattle.rdb_meaning.specs.declared.tables.Relation.{Relation}
use Rattle.rdb_meaning.specs.declared.tables.Tables.{Tables}
use Rattle.rdb_meaning.specs.Contents.{relation_named, with_rows}

-- the relation without its rows
abbrev pub bare : Relation → Relation
bare r = with_rows [] r

-- Each name is that of no relation in both, or of two with one area and the same fields.
abbrev pub OneSchema : Tables → Tables → Type 0
OneSchema t u = (n : Name) → option_map bare (relation_named n t) ≡ option_map bare (relation_named n u)
