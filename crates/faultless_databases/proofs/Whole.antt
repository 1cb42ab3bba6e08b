-- A sound database has no faults.
use Rattle.std.proofs.Common.{◌≡◌, inl, ℕ, List, [], ◌++◌, map, refl, subst, ◌∙◌}
use Rattle.rdb_types.specs.declared.keys.Dbkey.{Dbkey}
use Rattle.rdb_outside.specs.Disk.{Image}
use Rattle.line_view.specs.Knowledge.{Lines}
use Rattle.line_view.specs.Held.{ordered}
use Rattle.catalog.specs.declared.reading.Catalog.{Catalog}
use Rattle.catalog.specs.Reading.{IsCatalogOf}
use Rattle.sound_lines.specs.Sound.{IsSound}
use Rattle.stable_lines.specs.Image.{StandsFor}
use Rattle.stable_lines.specs.Journal.{Journal}
use Rattle.stable_lines.specs.Kept.{Kept}
use Rattle.stable_lines.proofs.Unique.{one_journal}
use Rattle.rmu_texts.specs.declared.faults.VerifyFault.{VerifyFault}
use Rattle.rmu_texts.specs.declared.faults.VerifyFault.TheVariants as fault
use Rattle.line_faults.specs.Catalog.{without, IsCheckedCatalog}
use Rattle.verified_lines.specs.Faults.{names_in_order, AreLineFaults}
use Rattle.lines_at_rest.specs.Left.{LeavesOut}
use Rattle.faultless_databases.specs.Faultless.{HasNoFaults}
use Rattle.faultless_databases.proofs.Definitions.{no_line_unsound}
use Rattle.faultless_databases.proofs.Indexes.{no_index}
use Rattle.faultless_databases.proofs.Pages.{all_pass, no_page}
use Rattle.faultless_databases.proofs.Rows.{no_row, no_stray}
use Rattle.faultless_databases.proofs.Standing.{sound_over}
use Rattle.faultless_databases.proofs.Taken.{none_taken}

-- ---- the catalog

module _ (all : Lines) (is : IsSound all) (c : Catalog) (faults : List Dbkey) (checked : IsCheckedCatalog all c faults) where
  taken : checked.taken ≡ []
  taken = none_taken all is.catalog is.decodes checked.taken checked.bad

  pub whole_catalog : IsCatalogOf all c
  whole_catalog = subst (λ (keys : List Dbkey). IsCatalogOf (without keys all) c) taken checked.left

  pub no_definition : faults ≡ []
  no_definition =
      let unsound = no_line_unsound all c (sound_over all c is whole_catalog) in
      checked.are ∙ (λ i. ordered (taken i ++ unsound i))

-- ---- all lines

pub no_line : (all : Lines) → IsSound all → (faults : List VerifyFault) → AreLineFaults all faults → faults ≡ []
no_line all is faults are =
    let sound = sound_over all are.c is (whole_catalog all is are.c are.catalog are.checked) in
    let catalog = no_definition all is are.c are.catalog are.checked in
    let rows = no_row all are.c sound are.rows are.finds_rows in
    let strays = no_stray all are.c sound are.areas in
    let indexes = no_index all are.c sound are.nodes are.names are.finds_indexes in
    are.are
    ∙ (λ i. map fault.Catalog (catalog i) ++ (map fault.Row (ordered (rows i ++ strays i)) ++ (map fault.Node (ordered (indexes.0 i)) ++ map fault.Index (names_in_order (indexes.1 i)))))

-- ---- the database

module _ (classes : ℕ → ℕ) (lines : Lines) (own : Journal) (image : Image) (kept : Kept classes lines own image) (is : IsSound lines) where
  -- no page is left out
  nothing_out : LeavesOut image image
  nothing_out = record {
    pages = λ file page is_file is_page. inl (all_pass image kept.root.limits.pages kept.well_formed file page is_file is_page, refl);
    others = λ file slot other. refl;
  }

  pub no_fault : HasNoFaults image
  no_fault journal is_journal faults are =
      let stands = subst (λ (j : Journal). StandsFor image j.groups lines) (one_journal image own journal kept.journal is_journal) kept.stands in
      let page = no_page image kept.root.limits.pages kept.well_formed are.pages are.lists in
      let line = no_line lines is are.lines (are.finds image lines nothing_out stands) in
      are.are ∙ (λ i. page i ++ line i)
