-- Dbkeys that are free.
use Rattle.std.specs.Prelude.{Bool, true, not, ◌&&◌, ◌==◌, Option, Some, None, is_some}
use Rattle.std.specs.FinMap.Entries.{find}
use Rattle.rdb_types.specs.declared.keys.Dbkey.{Dbkey}
use Rattle.rdb_meaning.specs.declared.tables.Relation.{Relation}
use Rattle.rdb_types.specs.Order.{dbkey_order}

-- it is of the relation's area, and no row has it
abbrev pub is_free : Dbkey → Relation → Bool
is_free k r = (k.area == r.area) && not (is_some (find dbkey_order k r.rows))

abbrev pub is_absent : Dbkey → Option Relation → Bool
is_absent k (Some r) = not (is_some (find dbkey_order k r.rows))
is_absent k None = true

-- it is free, and the relation that is saved, if one is, has no row there
abbrev pub may_take : Dbkey → Relation → Option Relation → Bool
may_take k r saved = is_free k r && is_absent k saved
