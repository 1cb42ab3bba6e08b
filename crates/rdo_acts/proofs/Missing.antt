-- What a selection lacks of the view of a statement is lacking of what was known at its start.
use Rattle.std.proofs.Common.{◌≡◌, inl, inr, ℕ, cond, List, [], ◌∷◌, Option, Some, None, option_map, Result, Ok, Err, refl, sym, subst}
use Rattle.std.specs.Prelude.{is_none, IfErr}
use Rattle.std.proofs.lemmas.Option.{none-some, same_Some}
use Rattle.std.specs.FinMap.Entries.{find}
use Rattle.std.specs.Ordering.{nat_cmp}
use Rattle.rdb_types.specs.declared.keys.Dbkey.{Dbkey}
use Rattle.rdb_types.specs.Order.{dbkey_order}
use Rattle.rdb_meaning.specs.declared.tables.Relation.{Relation}
use Rattle.rdb_meaning.specs.declared.tables.Tables.{Tables}
use Rattle.rdb_meaning.specs.Contents.{Row}
use Rattle.line_view.specs.declared.need.Need.{Need}
use Rattle.line_view.specs.declared.need.Need.TheVariants.{Line, Area, Room}
use Rattle.line_view.specs.declared.stop.Stop.TheVariants as stop
use Rattle.line_view.specs.Knowledge.{Knowledge, Lines, IsInOrder, Agrees, lines_in}
use Rattle.line_view.specs.Held.{knows}
use Rattle.line_view.specs.Stops.{Lacks}
use Rattle.statement_view.specs.Over.{Over, knows_over, first_of}
use Rattle.relation_rows.specs.Stored.{IsNextNeed}
use Rattle.access_paths.specs.declared.choice.Access.{Access}
use Rattle.access_paths.specs.declared.choice.Access.TheVariants.{Scan, Find, Range}
use Rattle.index_rows.specs.Given.{Serves, IsNextOfAccess, lines_read}
use Rattle.index_rows.proofs.Losing.{loses_none}
use Rattle.index_rows.proofs.Wide.{rows_wide}
use Rattle.sorted_index_laws.specs.Search.{first_unknown}
use Rattle.sorted_index_laws.specs.Keys.{only, between}
use Rattle.rdo_select.specs.declared.source.Source.{Source}
use Rattle.rdo_select.specs.SelectStop.{SelectStop}
use Rattle.rdo_select.specs.Sources.{Listed, IsSourceOf, IsAccessOf, IsNextOf}
use Rattle.rdo_select.specs.Readings.{failure}
use Rattle.rdo_select.specs.Reasons.{IsSelectReason}
use Rattle.rdo_select.specs.Stops.{GivesOr}
use Rattle.rdo_select.specs.Work.{Work, Does}
use Rattle.selection_areas.specs.statement_sources.Sources.{AreOfTables}
use Rattle.rdo_acts.specs.Ends.{Computes}

-- ---- the layers of the view

under : {X : Type 0} (above below : Option X) → first_of above below ≡ None → below ≡ None
under (Some x) below h = let bad : ⊥ = cc in absurd bad
under None below h = h

pub line_under : (o : Over) (key : Dbkey) → (knows_over o).line key ≡ None → (knows o.base).line key ≡ None
line_under o key h = under (find dbkey_order key o.lines) ((knows o.base).line key) h

area_under : (o : Over) (area : ℕ) → (knows_over o).area area ≡ None → (knows o.base).area area ≡ None
area_under o area h = under (find nat_cmp area o.areas) ((knows o.base).area area) h

-- ---- what is read next isn't known

unknown_first : (known : Knowledge) (lines : List Dbkey) (key : Dbkey) → first_unknown known lines ≡ Some key → known.line key ≡ None
unknown_first known [] key h = absurd (none-some key h)
unknown_first known (k ∷ ks) key h =
    elim (known.line k) as (λ o. known.line k ≡ o → cond (is_none o) (Some k) (first_unknown known ks) ≡ Some key → known.line key ≡ None) [
      | None ↦ λ e h. subst (λ (x : Dbkey). known.line x ≡ None) (same_Some k key h) e
      | Some what ↦ λ e h. unknown_first known ks key h
    ] refl h

module _ (o : Over) where
  first_need : (lines : List Dbkey) (need : Need) (found : Option Dbkey) → first_unknown (knows_over o) lines ≡ found → option_map Line found ≡ Some need → Lacks (knows o.base) need
  first_need lines need None e h = absurd (none-some need h)
  first_need lines need (Some key) e h = subst (Lacks (knows o.base)) (same_Some (Line key) need h) (line_under o key (unknown_first (knows_over o) lines key e))

  next_need : (area : ℕ) (need : Need) → IsNextNeed (knows_over o) area need → Lacks (knows o.base) need
  next_need area (Area a) next = subst (λ (n : ℕ). (knows o.base).area n ≡ None) (sym next.0) (area_under o area next.1)
  next_need area (Line key) next = line_under o key (next.2).unknown
  next_need area (Room room) next = absurd next

  module _ (all : Lines) (area : ℕ) (positions : List ℕ) (rows : List (Dbkey × Row)) (need : Need) where
    next_of : (access : Access) (served : Serves all positions rows access) → IsNextOfAccess (knows_over o) area all positions rows access served need → Lacks (knows o.base) need
    next_of Scan served next = next_need area need next
    next_of (Find root key) served next = let lines = lines_read all root positions rows (only key) served in first_need lines need (first_unknown (knows_over o) lines) refl next
    next_of (Range root bounds) served next = let lines = lines_read all root positions rows (between bounds) served in first_need lines need (first_unknown (knows_over o) lines) refl next

  serves : (all : Lines) (rel : Relation) (source : Source) (access : Access) → IsSourceOf all rel source → IsAccessOf source access → (positions : List ℕ) × Serves all positions rel.rows access
  serves all rel source access is (inl scan) = ([], subst (Serves all [] rel.rows) (sym scan) tt)
  serves all rel source access is (inr by) =
      let loses = loses_none all rel.rows source.indexes.now by.0 by.1 is.1 (rows_wide source.relation (lines_in source.relation.area all) rel.rows (is.0).rows) in
      (loses.positions, subst (Serves all loses.positions rel.rows) (sym by.2) loses.serves)

  pub next_lacks : (all : Lines) (t : Tables) (sources : Listed) (need : Need) → IsInOrder all → Agrees (knows_over o) all → AreOfTables all t sources → IsNextOf (knows_over o) sources need → Lacks (knows o.base) need
  next_lacks all t sources need sorted agrees only is =
      let own = only is.area is.source is.stands in
      let next = is.next in
      let by = serves all own.0 is.source next.access own.1 next.of_source in
      next_of all (is.source).relation.area by.0 (own.0).rows need next.access by.1 (next.next all own.0 by.0 sorted agrees (own.1).0 by.1)

  -- what a selection or a value answers
  pub computes : {T : Type 0} (all : Lines) (t : Tables) (sources : Listed) (result : Result T SelectStop) (gives : T → Type 0) (overflows : Type 0) (work : Work) → IsInOrder all → Agrees (knows_over o) all → AreOfTables all t sources
      → GivesOr gives overflows result → Does (knows_over o) work (failure result) → IfErr result (IsSelectReason (knows_over o) sources) → Computes result o gives (λ past. overflows)
  computes all t sources (Ok given) gives overflows work sorted agrees only is does why = is
  computes all t sources (Err (stop.Missing need)) gives overflows work sorted agrees only is does why = next_lacks all t sources need sorted agrees only why
  computes all t sources (Err (stop.Bad key)) gives overflows work sorted agrees only is does why = does
  computes all t sources (Err stop.NoMemory) gives overflows work sorted agrees only is does why = tt
  computes all t sources (Err (stop.Own past)) gives overflows work sorted agrees only is does why = is
