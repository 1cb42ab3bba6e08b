-- What is lacked is what an access to a relation reads.
use Rattle.std.proofs.Common.{◌≡◌, ◌≢◌, ◌==◌, ◌⊎◌, ℕ, Bool, true, false, cond, List, [], ◌∷◌, ◌++◌, map, Option, Some, None, inl, inr, refl, sym, subst, ◌∙◌}
use Rattle.std.specs.Prelude.{option_map}
use Rattle.std.specs.List.{AllByRecursion, filter}
use Rattle.std.proofs.lemmas.Option.{none-some, same_Some}
use Rattle.rdb_types.specs.declared.keys.Dbkey.{Dbkey}
use Rattle.rdb_meaning.specs.declared.tables.Relation.{Relation}
use Rattle.rdb_meaning.specs.declared.tables.Tables.{Tables}
use Rattle.rdb_meaning.specs.Contents.{Row}
use Rattle.rdb_meaning.specs.Evaluation.{Scope, computed, verdict_of_condition}
use Rattle.line_view.specs.declared.need.Need.{Need}
use Rattle.line_view.specs.declared.need.Need.TheVariants.{Line, Area, Room}
use Rattle.line_view.specs.Knowledge.{Knowledge, Lines, IsInOrder, Agrees, lines_in, keys_of}
use Rattle.rdo_values.specs.Tree.{Expression, Condition, Ranging, Conjunction}
use Rattle.rdo_values.specs.Named.{named, named_condition}
use Rattle.rdo_values.specs.Places.{IsBound, IsBoundCondition, IsBoundRanging}
use Rattle.rdo_values.specs.Rows.{row_of, variables_of}
use Rattle.sorted_index_laws.specs.Keys.{Interval, only, between}
use Rattle.sorted_index_laws.specs.Nodes.{AnyByRecursion}
use Rattle.sorted_index_laws.specs.Search.{reads, first_unknown}
use Rattle.sorted_index_laws.proofs.Ordered.{all_append}
use Rattle.sorted_index_laws.proofs.After.{areas}
use Rattle.relation_rows.specs.Stored.{IsNextNeed}
use Rattle.relation_rows.specs.Indexed.{IsIndexOf}
use Rattle.access_paths.specs.declared.choice.IndexPath.{IndexPath}
use Rattle.access_paths.specs.declared.choice.Access.{Access}
use Rattle.access_paths.specs.declared.choice.Access.TheVariants.{Scan, Find, Range}
use Rattle.access_paths.specs.Choice.{choice}
use Rattle.index_rows.specs.Given.{is_keyed, Serves, lines_read, IsFirstNeed, IsNextOfAccess}
use Rattle.index_rows.specs.Indexed.{positions_in}
use Rattle.index_rows.proofs.Chosen.{serves_chosen}
use Rattle.sound_changes.proofs.Basics.{all_of, number_is}
use Rattle.sound_changes.proofs.Frames.{keys_in}
use Rattle.row_writes.proofs.NodesRead.{reads_within, first_among}
use Rattle.rdo_select.specs.declared.source.Source.{Source}
use Rattle.rdo_select.specs.Readings.{Reading, IsNextOfReading, LacksFirst}
use Rattle.rdo_select.specs.Sources.{Listed, IsSourceOf, IsShown}
use Rattle.rdo_select.specs.Work.{is_read_once, read_for, read_for_condition, valuing, judging, selecting}
use Rattle.served_selections.specs.Ranges.{Chosen, chosen_in, chosen_in_condition, chosen_in_ranging}
use Rattle.served_selections.specs.Served.{access_behind, IsOfArea, IsLineBy, ReadsBy, IsReadFor, IsServedBehind, IsServed, IsReadByIndex}
use Rattle.served_selections.proofs.Lists.{any_of, any_with}
use Rattle.served_selections.proofs.Along.{IsReadAt, valued_each, judged_each, expression_reads, condition_reads, selection_reads}

-- ---- lines of an area

of_area : (known : Knowledge) (all : Lines) (area : ℕ) (need : Need) → Agrees known all → IsNextNeed known area need → IsOfArea area need
of_area known all area (Area a) agrees next = next.0
of_area known all area (Line key) agrees next =
    there next.2.before
    (subst (AllByRecursion (λ (k : Dbkey). k.area ≡ area)) (sym (agrees.area area next.0 next.1) ∙ next.2.stands)
    (all_of (λ (k : Dbkey). (k.area == area) ≡ true) (λ (k : Dbkey). k.area ≡ area) (λ k is. number_is k.area area is) (keys_of (lines_in area all)) (keys_in area all))) where
      there : (before : List Dbkey) → AllByRecursion (λ (k : Dbkey). k.area ≡ area) (before ++ key ∷ next.2.behind) → key.area ≡ area
      there [] each = each.0
      there (k ∷ ks) each = there ks each.1
of_area known all area (Room room) agrees next = absurd next

-- ---- lines that an index leads to

-- the line is of the area, or that of a row which meets this
abbrev pub IsLed : ℕ → (Dbkey × Row → Bool) → List (Dbkey × Row) → Dbkey → Type 0
IsLed area meets rows line = (line.area ≡ area) ⊎ AnyByRecursion (λ (e : Dbkey × Row). (e.0 ≡ line) × (meets e ≡ true)) rows

module _ (area : ℕ) (meets : Dbkey × Row → Bool) where
  led_further : (e : Dbkey × Row) (es : List (Dbkey × Row)) (line : Dbkey) → IsLed area meets es line → IsLed area meets (e ∷ es) line
  led_further e es line (inl own) = inl own
  led_further e es line (inr row) = inr (inr row)

  pub rows_led : (rows : List (Dbkey × Row)) → AllByRecursion (IsLed area meets rows) (map (λ e. e.0) (filter meets rows))
  rows_led [] = tt
  rows_led (e ∷ es) =
      let more : AllByRecursion (IsLed area meets (e ∷ es)) (map (λ e. e.0) (filter meets es)) = all_of (IsLed area meets es) (IsLed area meets (e ∷ es)) (led_further e es) (map (λ (e : Dbkey × Row). e.0) (filter meets es)) (rows_led es) in
      elim (meets e) as (λ b. meets e ≡ b → AllByRecursion (IsLed area meets (e ∷ es)) (map (λ (e : Dbkey × Row). e.0) (cond b (e ∷ filter meets es) (filter meets es)))) [
        | true ↦ λ met. (inr (inl (refl, met)), more)
        | false ↦ λ met. more
      ] refl

  pub first_led : (known : Knowledge) (rows : List (Dbkey × Row)) (lines : List Dbkey) (need : Need) → AllByRecursion (IsLed area meets rows) lines → IsFirstNeed known lines need → IsLineBy area meets rows need
  first_led known rows lines need each is = by_first (first_unknown known lines) refl is where
    by_first : (o : Option Dbkey) → first_unknown known lines ≡ o → option_map Line o ≡ Some need → IsLineBy area meets rows need
    by_first None at h = absurd (none-some need h)
    by_first (Some key) at h = subst (IsLineBy area meets rows) (same_Some (Line key) need h) (first_among (IsLed area meets rows) known lines key each at)

module _ (all : Lines) (root : Dbkey) (positions : List ℕ) (rows : List (Dbkey × Row)) (interval : Interval) (index : IsIndexOf all root positions rows) where
  pub nodes_led : AllByRecursion (IsLed root.area (is_keyed positions interval) rows) (reads interval index.level index.tree)
  nodes_led =
      all_of (λ (k : Dbkey). k.area ≡ root.area) (IsLed root.area (is_keyed positions interval) rows) (λ k own. inl own) (reads interval index.level index.tree)
      (reads_within (λ (k : Dbkey). k.area ≡ root.area) interval index.level index.tree (areas all root.area index.level index.tree index.is.stands))

  index_led : AllByRecursion (IsLed root.area (is_keyed positions interval) rows) (lines_read all root positions rows interval index)
  index_led =
      all_append (IsLed root.area (is_keyed positions interval) rows) (reads interval index.level index.tree) (map (λ e. e.0) (filter (is_keyed positions interval) rows)) nodes_led
      (rows_led root.area (is_keyed positions interval) rows)

-- ---- an access

module _ (seen : Knowledge) (all : Lines) (sorted : IsInOrder all) (agrees : Agrees seen all) (rel : Relation) (source : Source) (is : IsSourceOf all rel source) (need : Need) where
  by_access : (a : Access) (served : Serves all (positions_in source.indexes.now a) rel.rows a) → IsNextOfAccess seen source.relation.area all (positions_in source.indexes.now a) rel.rows a served need → ReadsBy a source.indexes.now rel need
  by_access Scan served next = subst (λ (area : ℕ). IsOfArea area need) is.0.area (of_area seen all source.relation.area need agrees next)
  by_access (Find root key) served next =
      let positions = positions_in source.indexes.now (Find root key) in
      first_led root.area (is_keyed positions (only key)) seen rel.rows (lines_read all root positions rel.rows (only key) served) need (index_led all root positions rel.rows (only key) served) next
  by_access (Range root bounds) served next =
      let positions = positions_in source.indexes.now (Range root bounds) in
      first_led root.area (is_keyed positions (between bounds)) seen rel.rows (lines_read all root positions rel.rows (between bounds) served) need (index_led all root positions rel.rows (between bounds) served) next

  serves_behind : (tests : Conjunction) (before : Row) → Serves all (positions_in source.indexes.now (access_behind tests before source)) rel.rows (access_behind tests before source)
  serves_behind tests before = elim (is_read_once tests source) as (λ b. let a = cond b Scan (choice source.indexes.now before tests) in Serves all (positions_in source.indexes.now a) rel.rows a) [
    | true ↦ tt
    | false ↦ serves_chosen all rel.rows source.indexes.now before tests is.1
  ]

  pub reads_behind : (tests : Conjunction) (before : Row) → IsNextOfReading seen (record { source = source; access = access_behind tests before source }) need → ReadsBy (access_behind tests before source) source.indexes.now rel need
  reads_behind tests before next =
      let a = access_behind tests before source in
      let served = serves_behind tests before in
      by_access a served (next all rel (positions_in source.indexes.now a) sorted agrees is.0 served)

-- ---- what is lacked first

among_read : (P : Reading → Type 0) (before behind : List Reading) (r : Reading) → AllByRecursion P (before ++ r ∷ behind) → P r
among_read P [] behind r each = each.0
among_read P (x ∷ xs) behind r each = among_read P xs behind r each.1

module _ (seen : Knowledge) (sources : Listed) (t : Tables) (need : Need) (shown : IsShown seen sources t) where
  read_for_one : (reading : Reading) → IsNextOfReading seen reading need → (c : Chosen) → IsReadAt shown.all t sources reading c → IsReadFor t sources need c
  read_for_one reading next c at = record {
    relation = at.relation;
    named = at.named;
    source = reading.source;
    stands = at.stands;
    scope = at.scope;
    variables = at.variables;
    reads = reads_behind seen shown.all shown.sorted shown.agrees at.relation reading.source at.is need c.tests (row_of t at.scope)
        (subst (λ (a : Access). IsNextOfReading seen (record { source = reading.source; access = a }) need) at.access next);
  }

  abbrev IsReadAmong : List Chosen → Reading → Type 0
  IsReadAmong cs reading = AnyByRecursion (IsReadAt shown.all t sources reading) cs

  lacked : (cs : List Chosen) (rs : List Reading) → AllByRecursion (IsReadAmong cs) rs → LacksFirst seen rs need → AnyByRecursion (IsReadFor t sources need) cs
  lacked cs rs each lacks =
      any_of (IsReadAt shown.all t sources lacks.reading) (IsReadFor t sources need) (read_for_one lacks.reading lacks.next) cs
      (among_read (IsReadAmong cs) lacks.before lacks.behind lacks.reading (subst (AllByRecursion (IsReadAmong cs)) lacks.stands each))

  pub selection_lacks : (scope : Scope) (r : Ranging) → IsBoundRanging r t (variables_of scope) → LacksFirst seen (selecting r t sources scope).readings need → AnyByRecursion (IsReadFor t sources need) (chosen_in_ranging r (variables_of scope))
  selection_lacks scope r bound lacks =
      let cs = chosen_in_ranging r (variables_of scope) in
      lacked cs (selecting r t sources scope).readings (selection_reads shown.all shown.sorted t sources shown.relations (IsReadAmong cs) r scope (variables_of scope) refl bound (λ reading h. h)) lacks

  pub expression_lacks : (scope : Scope) (e : Expression) → IsBound e t (variables_of scope) → LacksFirst seen (valuing e t sources scope).readings need → AnyByRecursion (IsReadFor t sources need) (chosen_in e (variables_of scope))
  expression_lacks scope e bound lacks =
      let cs = chosen_in e (variables_of scope) in
      lacked cs (valuing e t sources scope).readings
      (valued_each (IsReadAmong cs) (read_for e t sources scope) (computed (named e) t scope) (expression_reads shown.all shown.sorted t sources shown.relations (IsReadAmong cs) e scope (variables_of scope) refl bound (λ reading h. h))) lacks

  pub condition_lacks : (scope : Scope) (c : Condition) → IsBoundCondition c t (variables_of scope) → LacksFirst seen (judging c t sources scope).readings need → AnyByRecursion (IsReadFor t sources need) (chosen_in_condition c (variables_of scope))
  condition_lacks scope c bound lacks =
      let cs = chosen_in_condition c (variables_of scope) in
      lacked cs (judging c t sources scope).readings
      (judged_each (IsReadAmong cs) (read_for_condition c t sources scope) (verdict_of_condition (named_condition c) t scope) (condition_reads shown.all shown.sorted t sources shown.relations (IsReadAmong cs) c scope (variables_of scope) refl bound (λ reading h. h))) lacks

-- ---- indexes that serve

is_line : (a : Access) (indexes : List IndexPath) (rel : Relation) (need : Need) → a ≢ Scan → ReadsBy a indexes rel need → (line : Dbkey) × (need ≡ Line line)
is_line Scan indexes rel need by_index reads = absurd (by_index refl)
is_line (Find root key) indexes rel (Line line) by_index reads = (line, refl)
is_line (Find root key) indexes rel (Area area) by_index reads = absurd reads
is_line (Find root key) indexes rel (Room room) by_index reads = absurd reads
is_line (Range root bounds) indexes rel (Line line) by_index reads = (line, refl)
is_line (Range root bounds) indexes rel (Area area) by_index reads = absurd reads
is_line (Range root bounds) indexes rel (Room room) by_index reads = absurd reads

module _ (sources : Listed) (t : Tables) (need : Need) where
  read_by_index : (c : Chosen) → IsReadFor t sources need c → IsServed t sources c → IsReadByIndex t sources need c
  read_by_index c read served =
      let a = access_behind c.tests (row_of t read.scope) read.source in
      let serving : IsServedBehind t c (Some read.source) = subst (IsServedBehind t c) read.stands served in
      let by_index : a ≢ Scan = serving read.scope read.variables in
      let line = is_line a read.source.indexes.now read.relation need by_index read.reads in
      record { line = line.0; is = line.1; read = read; by_index = by_index }

  pub all_by_index : (cs : List Chosen) → AllByRecursion (IsServed t sources) cs → AnyByRecursion (IsReadFor t sources need) cs → AnyByRecursion (IsReadByIndex t sources need) cs
  all_by_index cs served read = any_with (IsReadFor t sources need) (IsServed t sources) (IsReadByIndex t sources need) read_by_index cs served read
