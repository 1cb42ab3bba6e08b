-- A catalog, and what of the lines it was read from.
use Rattle.std.specs.Prelude.{Some}
use Rattle.catalog.specs.declared.reading.Catalog.{Catalog}
use Rattle.rdo_exec.specs.Coming.{FitsKnown}
use Rattle.remembered_catalog.specs.Part.{Part, part_knows}

pub record Shown : Type 0 where
  pub part : Part
  pub schema : Catalog

-- it is the catalog of these lines
abbrev pub IsOfPart : Shown → Type 0
IsOfPart s = FitsKnown (Some s.schema) (part_knows s.part)
