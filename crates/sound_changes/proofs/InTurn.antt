-- A row is stored, modified or erased in a relation with any number of indexes.
use Rattle.std.proofs.Common.{◌≡◌, ℕ, true, List, [], ◌∷◌, Some, None, sym, subst}
use Rattle.std.specs.FinMap.Entries.{find, is_sorted}
use Rattle.rdb_types.specs.declared.keys.Dbkey.{Dbkey}
use Rattle.rdb_types.specs.Order.{dbkey_order}
use Rattle.rdo_ast.specs.Tree.{Name}
use Rattle.rdb_meaning.specs.declared.tables.Relation.{Relation as Rows}
use Rattle.rdb_meaning.specs.declared.tables.Tables.{Tables}
use Rattle.rdb_meaning.specs.Contents.{Row, relation_named, with_row, without_row}
use Rattle.line_view.specs.Knowledge.{Lines, line_in, laid}
use Rattle.line_view.specs.declared.writes.Write.{Write}
use Rattle.line_view.specs.Writes.{laid_all}
use Rattle.catalog_lines.specs.declared.line.IndexLine.{IndexLine}
use Rattle.sound_lines.specs.catalog.declared.reading.Catalog.{Catalog}
use Rattle.sound_lines.specs.relation_rows.Stored.{IsRowOf}
use Rattle.sound_lines.specs.Contents.{versions_in, version_of, stored}
use Rattle.sound_changes.specs.Standing.{IsSoundFor, IsSoundAs, tables_for}
use Rattle.sound_changes.specs.InTurn.{IsPairPut, IsPairMoved, IsPairTaken, Turn, InTurn, laid_in_turn, IsIndexOn, AreIndexesOn}
use Rattle.sound_changes.proofs.RowLaid.{row_written, row_goes}
use Rattle.sound_changes.proofs.RowsInOrder.{rows_in_order}
use Rattle.sound_changes.proofs.PairPut.{pair_put}
use Rattle.sound_changes.proofs.PairMoved.{pair_moved, pair_goes}
use Rattle.sound_changes.proofs.Given.{no_row}
use Rattle.sound_changes.proofs.AllDone.{all_done}

-- Where each turn leaves its index done, all are done behind the last.
module _ (c : Catalog) (area : ℕ) (t after : Tables) (step : Lines → IndexLine → List Write → Type 0)
    (one : (all : Lines) (done : List ℕ) (x : IndexLine) (writes : List Write) → IsSoundFor all c after (tables_for area done t after) → IsIndexOn c area x → step all x writes → IsSoundFor (laid_all writes all) c after (tables_for area (x.area ∷ done) t after)) where
  turns : (all : Lines) (done : List ℕ) (ss : List Turn) → IsSoundFor all c after (tables_for area done t after) → AreIndexesOn c area done ss → InTurn step all ss → IsSoundAs (laid_in_turn ss all) c after
  turns all done [] sound on steps = all_done all c area done t after sound on
  turns all done (s ∷ ss) sound on steps = turns (laid_all s.1 all) (s.0.area ∷ done) ss (one all done s.0 s.1 sound on.0 steps.0) on.1 steps.1

module _ (all : Lines) (c : Catalog) (t : Tables) (n : Name) (rel : Rows) (key : Dbkey) (sound : IsSoundAs all c t) (named : relation_named n t ≡ Some rel) (at : key.area ≡ rel.area) where
  pub stored_in_turn : (image : List ℕ) (row : Row) (ss : List Turn) → line_in key all ≡ None → IsRowOf (stored (version_of n (versions_in c.lines)) rel) image row →
      AreIndexesOn c rel.area [] ss → InTurn (IsPairPut rel key row) (laid key (Some image) all) ss → IsSoundAs (laid_in_turn ss (laid key (Some image) all)) c (with_row n key row t)
  stored_in_turn image row ss free of on steps =
      turns c rel.area t (with_row n key row t) (IsPairPut rel key row)
      (λ cur done x writes now own put. pair_put cur c done t n rel key row own.place own.line x writes now named (no_row all c t n rel (λ l. t) key sound named free) own.stands own.is own.on put.old put.new put.free)
      (laid key (Some image) all) [] ss (row_written all c t n rel key image row sound named at of) on steps

  pub modified_in_turn : (image : List ℕ) (was row : Row) (ss : List Turn) → find dbkey_order key rel.rows ≡ Some was → IsRowOf (stored (version_of n (versions_in c.lines)) rel) image row →
      AreIndexesOn c rel.area [] ss → InTurn (IsPairMoved rel key was row) (laid key (Some image) all) ss → IsSoundAs (laid_in_turn ss (laid key (Some image) all)) c (with_row n key row t)
  modified_in_turn image was row ss found of on steps =
      let sorted : is_sorted dbkey_order rel.rows ≡ true = rows_in_order all c t n rel (λ l. t) sound named in
      turns c rel.area t (with_row n key row t) (IsPairMoved rel key was row)
      (λ cur done x writes now own moved.
      subst (λ (ws : List Write). IsSoundFor (laid_all ws cur) c (with_row n key row t) (tables_for rel.area (x.area ∷ done) t (with_row n key row t))) (sym moved.both)
      (pair_moved cur c done t n rel key was row own.place own.line x moved.first moved.second now named sorted found own.stands own.is own.on moved.old moved.gone moved.back moved.free))
      (laid key (Some image) all) [] ss (row_written all c t n rel key image row sound named at of) on steps

  pub erased_in_turn : (was : Row) (ss : List Turn) → find dbkey_order key rel.rows ≡ Some was →
      AreIndexesOn c rel.area [] ss → InTurn (IsPairTaken rel key was) (laid key None all) ss → IsSoundAs (laid_in_turn ss (laid key None all)) c (without_row n key t)
  erased_in_turn was ss found on steps =
      let sorted : is_sorted dbkey_order rel.rows ≡ true = rows_in_order all c t n rel (λ l. t) sound named in
      turns c rel.area t (without_row n key t) (IsPairTaken rel key was)
      (λ cur done x writes now own taken. pair_goes cur c done t n rel key was own.place own.line x writes now named sorted found own.stands own.is own.on taken.old taken.gone)
      (laid key None all) [] ss (row_goes all c t n rel key sound named at) on steps
