-- The lines that are found where selections are looked through are read by indexes.
use Rattle.std.proofs.Common.{◌≡◌, ◌||◌, ℕ, Bool, true, false, cond, inl, inr, List, [], ◌∷◌, ◌++◌, map, Some, Result, Ok, Err, refl, sym, ap, subst, ◌∙◌}
use Rattle.std.specs.declared.cmp.Ordering.{Ordering}
use Rattle.std.specs.declared.cmp.Ordering.TheVariants.{Less, Equal, Greater}
use Rattle.std.specs.Ordering.{is_eq}
use Rattle.std.specs.List.{AllByRecursion, filter, list_any}
use Rattle.rdb_types.specs.declared.keys.Dbkey.{Dbkey}
use Rattle.rdb_types.specs.Order.{dbkey_order}
use Rattle.rdb_types.specs.OrderLaws.{dbkey_total, same_dbkey}
use Rattle.std.specs.Cmp.{tied_itself}
use Rattle.rdo_ast.specs.declared.syntax.Range.{Range as Written}
use Rattle.rdb_meaning.specs.declared.tables.Relation.{Relation}
use Rattle.rdb_meaning.specs.declared.tables.Tables.{Tables}
use Rattle.rdb_meaning.specs.Contents.{Row, relation_named}
use Rattle.rdb_meaning.specs.Evaluation.{bind_source}
use Rattle.line_view.specs.declared.need.Need.TheVariants.{Line, Area, Room}
use Rattle.line_view.specs.declared.stop.Stop.TheVariants.{Missing, Own, Bad, NoMemory}
use Rattle.line_view.specs.Knowledge.{Knowledge, Lines}
use Rattle.relation_rows.specs.declared.stored.StoredRow.{StoredRow}
use Rattle.relation_rows.specs.Relations.{stored_row}
use Rattle.relation_rows.specs.Indexed.{IsIndexOf, pairs_of}
use Rattle.sorted_index_laws.specs.Keys.{Interval, only, between}
use Rattle.sorted_index_laws.specs.Search.{Answers, reads, rows_within}
use Rattle.sorted_index_laws.specs.Stop.{IndexStop}
use Rattle.sorted_index_laws.specs.Tree.{pairs}
use Rattle.access_paths.specs.declared.choice.Access.{Access}
use Rattle.access_paths.specs.declared.choice.Access.TheVariants.{Scan, Find, Range}
use Rattle.access_paths.specs.Choice.{choice}
use Rattle.index_rows.specs.Given.{is_keyed, reached, Serves}
use Rattle.index_rows.specs.Indexed.{positions_in}
use Rattle.index_rows.proofs.Chosen.{serves_chosen}
use Rattle.index_rows.proofs.Keyed.{keyed, found_keyed}
use Rattle.rdo_values.specs.declared.bound.BoundRange.{BoundRange}
use Rattle.rdo_values.specs.Tree.{Conjunction}
use Rattle.rdo_values.specs.Places.{AreRanges, IsRangeOf}
use Rattle.rdo_values.specs.Rows.{row_of}
use Rattle.rdo_select.specs.declared.source.Source.{Source}
use Rattle.rdo_select.specs.Sources.{Listed, source_at, HasSource, IsSourceOf, IsShown}
use Rattle.rdo_select.specs.Work.{is_read_once}
use Rattle.served_selections.specs.Ranges.{Chosen, chosen_from}
use Rattle.served_selections.specs.Served.{access_behind, ReadsBy, IsReadByIndex}
use Rattle.served_selections.proofs.Along.{IsRowOf, one_more_variable, rows_of_source}
use Rattle.served_selections.proofs.Lacked.{IsLed, rows_led, first_led, nodes_led}
use Rattle.index_ahead.specs.Added.{AddsOnly, IsIn}
use Rattle.rdo_acts.specs.Looking.{IsFoundIn, IsAccessed, IsReadBy, AreValuesOf, StandBehind}
use Rattle.rdo_acts.proofs.Viewing.{range_there}
use Rattle.index_ahead.proofs.Added.{then_added, added_as}

-- ---- what an index is found to have

has_one : (key : Dbkey) (keys : List Dbkey) → IsIn keys key → list_any (λ k. is_eq (dbkey_order key k)) keys ≡ true
has_one key [] there = absurd there
has_one key (k ∷ ks) (inl is) = ap (λ b. b || list_any (λ k. is_eq (dbkey_order key k)) ks) (ap (λ (x : Dbkey). is_eq (dbkey_order key x)) (sym is) ∙ ap is_eq (tied_itself dbkey_total key))
has_one key (k ∷ ks) (inr later) = ap (λ b. is_eq (dbkey_order key k) || b) (has_one key ks later) ∙ or_true (is_eq (dbkey_order key k)) where
  or_true : (b : Bool) → (b || true) ≡ true
  or_true true = refl
  or_true false = refl

is_one : (P : Dbkey → Type 0) (key : Dbkey) (keys : List Dbkey) → AllByRecursion P keys → list_any (λ k. is_eq (dbkey_order key k)) keys ≡ true → P key
is_one P key [] each has = let bad : ⊥ = cc in absurd bad
is_one P key (k ∷ ks) each has = by (dbkey_order key k) refl (is_one P key ks each.1) where
  by : (r : Ordering) → dbkey_order key k ≡ r → (list_any (λ k. is_eq (dbkey_order key k)) ks ≡ true → P key) → P key
  by Equal tie later = subst P (sym (same_dbkey key k tie)) each.0
  by Less apart later = later (sym (ap (λ r. is_eq r || list_any (λ k. is_eq (dbkey_order key k)) ks) apart) ∙ has)
  by Greater apart later = later (sym (ap (λ r. is_eq r || list_any (λ k. is_eq (dbkey_order key k)) ks) apart) ∙ has)

module _ (known : Knowledge) (all : Lines) (root : Dbkey) (positions : List ℕ) (rows : List (Dbkey × Row)) (interval : Interval) (index : IsIndexOf all root positions rows) where
  abbrev Led : Dbkey → Type 0
  Led = IsLed root.area (is_keyed positions interval) rows

  found_led : (found : List Dbkey) → found ≡ rows_within interval (pairs index.level index.tree) → (key : Dbkey) → IsIn found key → Led key
  found_led found is key there =
      let same : found ≡ rows_within interval (pairs_of positions rows) = is ∙ ap (rows_within interval) index.holds in
      is_one Led key (keyed interval (λ k. is_eq (dbkey_order key k)) positions rows) (rows_led root.area (is_keyed positions interval) rows)
      (sym (found_keyed interval (λ k. is_eq (dbkey_order key k)) positions rows)
      ∙ ap (list_any (λ k. is_eq (dbkey_order key k))) (sym same)
      ∙ has_one key found there)

  pub answers_led : (result : Result (List Dbkey) IndexStop) → Answers known (reads interval index.level index.tree) (rows_within interval (pairs index.level index.tree)) result → (key : Dbkey) → IsFoundIn root.area result key → Led key
  answers_led (Ok found) answers key there = found_led found answers.0 key there
  answers_led (Err (Missing need)) answers key there = inl there
  answers_led (Err (Own duplicate)) answers key there = absurd there
  answers_led (Err (Bad at)) answers key there = absurd there
  answers_led (Err NoMemory) answers key there = absurd there

-- ---- what is read of a relation by an access

module _ (known : Knowledge) (all : Lines) (rel : Relation) (source : Source) where
  pub find_accessed : (root : Dbkey) (key : _) (served : Serves all (positions_in source.indexes.now (Find root key)) rel.rows (Find root key)) (result : Result (List Dbkey) IndexStop)
      → Answers known (reads (only key) served.level served.tree) (rows_within (only key) (pairs served.level served.tree)) result → (line : Dbkey) → IsFoundIn root.area result line → IsAccessed (Find root key) source rel line
  find_accessed root key served result answers line there = (
    λ e. let bad : ⊥ = cc in bad,
    answers_led known all root (positions_in source.indexes.now (Find root key)) rel.rows (only key) served result answers line there,
  )

  pub range_accessed : (root : Dbkey) (bounds : _) (served : Serves all (positions_in source.indexes.now (Range root bounds)) rel.rows (Range root bounds)) (result : Result (List Dbkey) IndexStop)
      → Answers known (reads (between bounds) served.level served.tree) (rows_within (between bounds) (pairs served.level served.tree)) result → (line : Dbkey) → IsFoundIn root.area result line → IsAccessed (Range root bounds) source rel line
  range_accessed root bounds served result answers line there = (
    λ e. let bad : ⊥ = cc in bad,
    answers_led known all root (positions_in source.indexes.now (Range root bounds)) rel.rows (between bounds) served result answers line there,
  )

-- ---- the first of crossed ranges

all_left : {X Y : Type 0} (P : Y → Type 0) (f : X → Y) (keep : X → Bool) (xs : List X) → AllByRecursion P (map f xs) → AllByRecursion P (map f (filter keep xs))
all_left P f keep [] each = tt
all_left P f keep (x ∷ xs) each = elim (keep x) as (λ b. AllByRecursion P (map f (cond b (x ∷ filter keep xs) (filter keep xs)))) [
  | true ↦ (each.0, all_left P f keep xs each.1)
  | false ↦ all_left P f keep xs each.1
]

module _ (known : Knowledge) (sources : Listed) (t : Tables) (shown : IsShown known sources t) (range : BoundRange) (rest : List BoundRange) (vs : List Written) (tests : Conjunction) (before : Row) (own : AreValuesOf t vs before)
    (ranged : AreRanges (range ∷ rest) t) (source : Source) (stands : source_at range.area sources ≡ Some source) where
  there : (rel : Relation) × (relation_named range.range.relation t ≡ Some rel)
  there = range_there range (relation_named range.range.relation t) ranged.0

  pub rel : Relation
  rel = there.0

  named : relation_named range.range.relation t ≡ Some rel
  unfolding rel
  named = there.1

  same_area : range.area ≡ rel.area
  same_area = let of : IsRangeOf range (Some rel) = subst (IsRangeOf range) named ranged.0 in of.0

  pub of_source : IsSourceOf shown.all rel source
  of_source =
      let has : HasSource shown.all rel (source_at range.area sources) = subst (λ (a : ℕ). HasSource shown.all rel (source_at a sources)) (sym same_area) (shown.relations range.range.relation rel named) in
      let so : HasSource shown.all rel (Some source) = subst (HasSource shown.all rel) stands has in
      so

  serves_behind : Serves shown.all (positions_in source.indexes.now (access_behind tests before source)) rel.rows (access_behind tests before source)
  serves_behind = elim (is_read_once tests source) as (λ b. let a = cond b Scan (choice source.indexes.now before tests) in Serves shown.all (positions_in source.indexes.now a) rel.rows a) [
    | true ↦ tt
    | false ↦ serves_chosen shown.all rel.rows source.indexes.now before tests of_source.1
  ]

  module _ (access : Access) (is : access ≡ access_behind tests before source) where
    pub serves : Serves shown.all (positions_in source.indexes.now access) rel.rows access
    serves = subst (λ (a : Access). Serves shown.all (positions_in source.indexes.now a) rel.rows a) (sym is) serves_behind

    is_now : access ≡ access_behind tests (row_of t own.scope) source
    is_now = is ∙ ap (λ (r : Row). access_behind tests r source) (sym own.row)

    abbrev chosen : Chosen
    chosen = record { range = range; before = vs; tests = tests }

    is_read : (line : Dbkey) → IsAccessed access source rel line → IsReadByIndex t sources (Line line) chosen
    is_read line by = record {
      line = line;
      is = refl;
      read = record {
        relation = rel;
        named = named;
        source = source;
        stands = stands;
        scope = own.scope;
        variables = own.variables;
        reads = subst (λ (a : Access). ReadsBy a source.indexes.now rel (Line line)) is_now by.1;
      };
      by_index = λ e. by.0 (is_now ∙ e);
    }

    -- what was added by the access is read
    pub first_added : (old new : List Dbkey) → AddsOnly (IsAccessed access source rel) old new → AddsOnly (IsReadBy t sources (chosen_from (range ∷ rest) vs tests)) old new
    first_added old new h = added_as (IsAccessed access source rel) (IsReadBy t sources (chosen_from (range ∷ rest) vs tests)) (λ line by. inl (is_read line by)) old new h

    -- and so is what was added behind it for the rows that it gives
    pub rest_added : (old mid new : List Dbkey) → AddsOnly (IsAccessed access source rel) old mid → AddsOnly (IsReadBy t sources (chosen_from rest (vs ++ range.range ∷ []) tests)) mid new → AddsOnly (IsReadBy t sources (chosen_from (range ∷ rest) vs tests)) old new
    rest_added old mid new h k =
        then_added (IsReadBy t sources (chosen_from (range ∷ rest) vs tests)) old mid new (first_added old mid h)
        (added_as (IsReadBy t sources (chosen_from rest (vs ++ range.range ∷ []) tests)) (IsReadBy t sources (chosen_from (range ∷ rest) vs tests)) (λ line by. inr by) mid new k)

    row_behind : (x : StoredRow) → IsRowOf shown.all shown.sorted t sources shown.relations range.range x → AreValuesOf t (vs ++ range.range ∷ []) (before ++ x.row)
    row_behind x stands_so = record {
      scope = own.scope ++ bind_source range.range (Some x.key) ∷ [];
      variables = one_more_variable own.scope vs range.range (Some x.key) own.variables;
      row = stands_so own.scope ∙ ap (λ (r : Row). r ++ x.row) own.row;
    }

    all_behind : (xs : List StoredRow) → AllByRecursion (IsRowOf shown.all shown.sorted t sources shown.relations range.range) xs → StandBehind t (vs ++ range.range ∷ []) before xs
    all_behind [] each = tt
    all_behind (x ∷ xs) each = (row_behind x each.0, all_behind xs each.1)

    pub rows_behind : (given : List StoredRow) → given ≡ map stored_row (filter (reached (positions_in source.indexes.now access) access) rel.rows) → StandBehind t (vs ++ range.range ∷ []) before given
    rows_behind given so = subst (StandBehind t (vs ++ range.range ∷ []) before) (sym so)
        (all_behind (map stored_row (filter (reached (positions_in source.indexes.now access) access) rel.rows))
        (all_left (IsRowOf shown.all shown.sorted t sources shown.relations range.range) stored_row (reached (positions_in source.indexes.now access) access) rel.rows
        (rows_of_source shown.all shown.sorted t sources shown.relations range.range rel source named of_source)))
