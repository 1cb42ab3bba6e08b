-- What is kept of the catalog is kept from job to job, and stays true where no line of the catalog is other than it was.
use Rattle.std.specs.Prelude.{◌≡◌, ◌==◌, true, Option, Some, None}
use Rattle.std.proofs.Common.{sym, ◌∙◌}
use Rattle.std.proofs.lemmas.List.Elements.{All-from_recursion, recursion_from_All}
use Rattle.rdb_types.specs.declared.keys.Dbkey.{Dbkey}
use Rattle.catalog.specs.declared.directory.PlacedLine.{PlacedLine}
use Rattle.catalog.specs.declared.reading.Catalog.{Catalog}
use Rattle.catalog.specs.Reading.{catalog_area, IsPresent, IsCatalogOf}
use Rattle.line_view.specs.Knowledge.{Knowledge, Lines, line_in, lines_in, keys_of}
use Rattle.sound_changes.proofs.Basics.{both_of}
use Rattle.sound_changes.proofs.Frames.{in_area}
use Rattle.session_jobs.specs.Kept.{HasCatalogOf}
use Rattle.rdo_exec.specs.Coming.{FitsKnown}

-- a catalog that was kept is kept
abbrev pub StaysKept : Option Catalog → Option Catalog → Type 0
StaysKept before behind = (c : Catalog) → before ≡ Some c → behind ≡ Some c

-- A catalog is that of each map with the same lines in its area. (It stands in `sound_statements` too, beside lemmas that a clause can't lead to.)
catalog_alike : (all now : Lines) (c : Catalog) → keys_of (lines_in catalog_area now) ≡ keys_of (lines_in catalog_area all) → ((k : Dbkey) → (k.area == catalog_area) ≡ true → line_in k now ≡ line_in k all) → IsCatalogOf all c → IsCatalogOf now c
catalog_alike all now c keys lines is = record {
  lines = record {
    keys = is.lines.keys ∙ sym keys;
    images = All-from_recursion (IsPresent now) c.lines
        (both_of (λ (p : PlacedLine). (p.key.area == catalog_area) ≡ true) (IsPresent all) (IsPresent now) alike c.lines (in_area all c is) (recursion_from_All (IsPresent all) c.lines is.lines.images));
  };
  fit = is.fit;
  tables = is.tables;
}
  where
    alike : (p : PlacedLine) → (p.key.area == catalog_area) ≡ true → IsPresent all p → IsPresent now p
    alike p own present = record { image = present.image; present = lines p.key own ∙ present.present; decodes = present.decodes }

pub lasts : (kept : Option Catalog) (old new : Knowledge) → FitsKnown kept old → HasCatalogOf new old → FitsKnown kept new
lasts None old new fits has = tt
lasts (Some c) old new fits has = (λ all agrees. let of = has all agrees in catalog_alike of.before all c of.same.keys of.same.lines (fits.0 of.before of.agrees), fits.1)
