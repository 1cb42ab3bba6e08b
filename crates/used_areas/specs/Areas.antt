-- The logical areas of the relations that a statement uses.
use Rattle.std.specs.Prelude.{ℕ, if◌then◌else◌, List, [], ◌∷◌, ◌++◌, map, Option, Some, None}
use Rattle.rdb_meaning.specs.declared.tables.Relation.{Relation}
use Rattle.rdb_meaning.specs.declared.tables.Tables.{Tables}
use Rattle.rdb_meaning.specs.Contents.{relation_named, indexes_on}
use Rattle.rdb_meaning.specs.Checks.{Use}

-- the area of a relation, and those of its indexes
abbrev pub relation_areas : Tables → Option Relation → List ℕ
relation_areas t (Some r) = r.area ∷ map (λ e. e.1.area) (indexes_on r.area t)
relation_areas t None = []

-- those of the relations that are used
abbrev pub areas_read : Tables → List Use → List ℕ
areas_read t [] = []
areas_read t (u ∷ us) = relation_areas t (relation_named u.relation t) ++ areas_read t us

-- those of the relations that are changed
abbrev pub areas_changed : Tables → List Use → List ℕ
areas_changed t [] = []
areas_changed t (u ∷ us) = (if u.changes then relation_areas t (relation_named u.relation t) else []) ++ areas_changed t us
