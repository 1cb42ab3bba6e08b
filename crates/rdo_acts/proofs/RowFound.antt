-- The row at a Dbkey is that of its line.
use Rattle.std.proofs.Common.{◌≡◌, ◌==◌, ℕ, true, false, cond, List, [], ◌∷◌, map, Option, Some, None, Result, Ok, Err, refl, sym, ap, subst, ◌∙◌}
use Rattle.std.specs.Prelude.{IfOk, IfSome, IfNone}
use Rattle.std.specs.Ordering.{is_eq}
use Rattle.std.specs.FinMap.Entries.{find, find-where_key}
use Rattle.std.proofs.lemmas.Bool.{eq-eqb}
use Rattle.std.proofs.lemmas.Option.{none-some, same_Some}
use Rattle.rdb_types.specs.declared.keys.Dbkey.{Dbkey}
use Rattle.rdb_types.specs.Order.{dbkey_order}
use Rattle.rdb_types.specs.OrderLaws.{same_dbkey}
use Rattle.rdb_meaning.specs.declared.tables.Relation.{Relation}
use Rattle.rdb_meaning.specs.Contents.{Row}
use Rattle.line_view.specs.declared.need.Need.{Need}
use Rattle.line_view.specs.declared.need.Need.TheVariants.{Line}
use Rattle.line_view.specs.declared.stop.Stop.{Stop}
use Rattle.line_view.specs.declared.stop.Stop.TheVariants.{Missing, Bad, NoMemory, Own}
use Rattle.line_view.specs.declared.stop.Never.{Never}
use Rattle.line_view.specs.Knowledge.{Lines, Agrees, line_in, lines_in}
use Rattle.line_view.specs.Held.{knows}
use Rattle.line_view.specs.Stops.{Lacks}
use Rattle.statement_view.specs.Over.{Over, knows_over}
use Rattle.relation_rows.specs.declared.stored.StoredRelation.{StoredRelation}
use Rattle.relation_rows.specs.Relations.{stored_row, HasRows}
use Rattle.relation_rows.specs.Stored.{IsRowOf, AreRowsOf, IsRowAt, IsBadAt}
use Rattle.relation_rows.proofs.OneRow.{same_row}
use Rattle.index_rows.proofs.Standing.{none_bad}
use Rattle.rdo_acts.specs.Ends.{Computes}
use Rattle.rdo_acts.proofs.Missing.{line_under}

module _ (r : StoredRelation) (key : Dbkey) where
  found_row : (image : List ℕ) (row : Row) (lines : Lines) (rows : List (Dbkey × Row)) → line_in key lines ≡ Some image → AreRowsOf r lines (map stored_row rows) → IsRowOf r image row → find dbkey_order key rows ≡ Some row
  found_row image row [] rows found are is = absurd (none-some image found)
  found_row image row (l ∷ ls) [] found are is = absurd are
  found_row image row (l ∷ ls) (e ∷ es) found are is =
      ap (λ (k : Dbkey). cond (is_eq (dbkey_order key k)) (Some e.1) (find dbkey_order key es)) are.0
      ∙ elim (is_eq (dbkey_order key l.0)) as (λ b. cond b (Some l.1) (line_in key ls) ≡ Some image → cond b (Some e.1) (find dbkey_order key es) ≡ Some row) [
        | true ↦ λ h. ap Some (same_row r image e.1 row (subst (λ (i : List ℕ). IsRowOf r i e.1) (same_Some l.1 image h) are.1) is)
        | false ↦ λ h. found_row image row ls es h are.2 is
      ] found

  none_found : (lines : Lines) (rows : List (Dbkey × Row)) → line_in key lines ≡ None → AreRowsOf r lines (map stored_row rows) → find dbkey_order key rows ≡ None
  none_found [] [] none are = refl
  none_found [] (e ∷ es) none are = absurd are
  none_found (l ∷ ls) [] none are = refl
  none_found (l ∷ ls) (e ∷ es) none are =
      ap (λ (k : Dbkey). cond (is_eq (dbkey_order key k)) (Some e.1) (find dbkey_order key es)) are.0
      ∙ elim (is_eq (dbkey_order key l.0)) as (λ b. cond b (Some l.1) (line_in key ls) ≡ None → cond b (Some e.1) (find dbkey_order key es) ≡ None) [
        | true ↦ λ h. absurd (none-some l.1 (sym h))
        | false ↦ λ h. none_found ls es h are.2
      ] none

  line_within : (all : Lines) → line_in key (lines_in r.area all) ≡ cond (key.area == r.area) (line_in key all) None
  line_within all = find-where_key dbkey_order (λ k. k.area == r.area) key (λ x tie. ap (λ (k : Dbkey). k.area == r.area) (sym (same_dbkey key x tie))) all

  own_line : (all : Lines) → key.area ≡ r.area → line_in key (lines_in r.area all) ≡ line_in key all
  own_line all own = line_within all ∙ ap (λ b. cond b (line_in key all) None) (eq-eqb key.area r.area own)

  -- no row stands in another logical area
  pub none_beside : (all : Lines) (table : Relation) → HasRows all r table → (key.area == r.area) ≡ false → None ≡ find dbkey_order key table.rows
  none_beside all table has off = sym (none_found (lines_in r.area all) table.rows (line_within all ∙ ap (λ b. cond b (line_in key all) None) off) has.rows)

  module _ (view : Over) (all : Lines) (table : Relation) (agrees : Agrees (knows_over view) all) (has : HasRows all r table) (own : key.area ≡ r.area) where
    read_row : (read : Option Row) → IfSome read (IsRowAt (knows_over view) r key) → IfNone read ((knows_over view).line key ≡ Some None) → read ≡ find dbkey_order key table.rows
    read_row (Some row) found absent =
        sym (found_row found.0 row (lines_in r.area all) table.rows (own_line all own ∙ sym (agrees.line key (Some found.0) found.1)) has.rows found.2)
    read_row None found absent = sym (none_found (lines_in r.area all) table.rows (own_line all own ∙ sym (agrees.line key None absent)) has.rows)

    -- what is answered of a row of the relation's own area
    pub row_answer : (result : Result (Option Row) (Stop Never)) → IfOk result (λ read. IfSome read (IsRowAt (knows_over view) r key)) → IfOk result (λ read. IfNone read ((knows_over view).line key ≡ Some None))
        → ((need : Need) → result ≡ Err (Missing need) → (need ≡ Line key) × ((knows_over view).line key ≡ None)) → ((at : Dbkey) → result ≡ Err (Bad at) → (at ≡ key) × IsBadAt (knows_over view) r key)
        → Computes result view (λ found. found ≡ find dbkey_order key table.rows) (λ never. ⊥)
    row_answer (Ok read) found absent missing bad = read_row read found absent
    row_answer (Err (Missing need)) found absent missing bad = let m = missing need refl in subst (Lacks (knows view.base)) (sym m.0) (line_under view key m.1)
    row_answer (Err (Bad at)) found absent missing bad =
        let b = bad at refl in
        none_bad all r (map stored_row table.rows) key own (b.1.0, sym (agrees.line key (Some b.1.0) b.1.1), b.1.2) has.rows
    row_answer (Err NoMemory) found absent missing bad = tt
    row_answer (Err (Own never)) found absent missing bad = elim never [ ]
