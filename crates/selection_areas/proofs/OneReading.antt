-- What one reading of a source lacks is of its areas.
use Rattle.std.proofs.Common.{◌≡◌, ◌==◌, ℕ, Bool, true, false, cond, List, [], ◌∷◌, ◌++◌, map, Option, Some, None, inl, inr, refl, sym, ap, subst, ◌∙◌}
use Rattle.std.specs.Prelude.{option_map}
use Rattle.std.specs.List.{AllByRecursion, filter}
use Rattle.std.proofs.lemmas.Option.{none-some, same_Some}
use Rattle.rdb_types.specs.declared.keys.Dbkey.{Dbkey}
use Rattle.rdb_meaning.specs.declared.tables.Relation.{Relation}
use Rattle.rdb_meaning.specs.Contents.{Row}
use Rattle.line_view.specs.declared.need.Need.{Need}
use Rattle.line_view.specs.declared.need.Need.TheVariants.{Line, Area, Room}
use Rattle.line_view.specs.Knowledge.{Knowledge, Lines, IsInOrder, Agrees, lines_in, keys_of}
use Rattle.rdo_values.specs.Tree.{Conjunction}
use Rattle.sorted_index_laws.specs.Keys.{Interval, only, between}
use Rattle.sorted_index_laws.specs.Search.{reads, first_unknown}
use Rattle.sorted_index_laws.proofs.Ordered.{all_append}
use Rattle.sorted_index_laws.proofs.After.{areas}
use Rattle.relation_rows.specs.declared.stored.StoredRelation.{StoredRelation}
use Rattle.relation_rows.specs.Stored.{AreRowsOf, IsNextNeed}
use Rattle.relation_rows.specs.Indexed.{IsIndexOf}
use Rattle.relation_rows.specs.Relations.{stored_row}
use Rattle.access_paths.specs.declared.choice.IndexPath.{IndexPath}
use Rattle.access_paths.specs.declared.choice.Access.{Access}
use Rattle.access_paths.specs.declared.choice.Access.TheVariants.{Scan, Find, Range}
use Rattle.access_paths.specs.Choice.{choice}
use Rattle.access_paths.specs.Reached.{IsOfRoot}
use Rattle.access_paths.proofs.Rooted.{rooted}
use Rattle.index_rows.specs.Given.{is_keyed, Serves, lines_read, IsFirstNeed, IsNextOfAccess}
use Rattle.index_rows.specs.Indexed.{positions_in}
use Rattle.index_rows.proofs.Chosen.{IsOfOne, chosen_by_one, serves_chosen}
use Rattle.sound_changes.proofs.Basics.{all_of, number_is}
use Rattle.sound_changes.proofs.Frames.{keys_in}
use Rattle.statement_view.specs.Areas.{is_among, IsNeedOf}
use Rattle.row_writes.proofs.AreaLists.{Wider, one_more_area, first_area}
use Rattle.row_writes.proofs.NodesRead.{reads_within, first_among}
use Rattle.rdo_select.specs.declared.source.Source.{Source}
use Rattle.rdo_select.specs.Readings.{IsNextOfReading}
use Rattle.rdo_select.specs.Sources.{IsSourceOf, IsAccessOf}
use Rattle.selection_areas.specs.Areas.{areas_of_source}

abbrev AreOf : ℕ → List Dbkey → Type 0
AreOf area = AllByRecursion (λ (k : Dbkey). k.area ≡ area)

abbrev AreAmong : List ℕ → List Dbkey → Type 0
AreAmong used = AllByRecursion (λ (k : Dbkey). is_among used k.area ≡ true)

among_all : (used : List ℕ) (area : ℕ) (keys : List Dbkey) → is_among used area ≡ true → AreOf area keys → AreAmong used keys
among_all used area keys is = all_of (λ (k : Dbkey). k.area ≡ area) (λ (k : Dbkey). is_among used k.area ≡ true) (λ k same. subst (λ (a : ℕ). is_among used a ≡ true) (sym same) is) keys

-- ---- the lines of a relation

keys_on : (area : ℕ) (all : Lines) → AreOf area (keys_of (lines_in area all))
keys_on area all = all_of (λ (k : Dbkey). (k.area == area) ≡ true) (λ (k : Dbkey). k.area ≡ area) (λ k is. number_is k.area area is) (keys_of (lines_in area all)) (keys_in area all)

-- the rows of lines have their keys
rows_on : (r : StoredRelation) (area : ℕ) (lines : Lines) (rows : List (Dbkey × Row)) → AreOf area (keys_of lines) → AreRowsOf r lines (map stored_row rows) → AreOf area (map (λ e. e.0) rows)
rows_on r area [] [] on are = tt
rows_on r area [] (x ∷ xs) on are = absurd are
rows_on r area (e ∷ es) [] on are = absurd are
rows_on r area (e ∷ es) (x ∷ xs) on are = (ap (λ (k : Dbkey). k.area) are.0 ∙ on.0, rows_on r area es xs on.1 are.2)

kept_on : (P : Dbkey → Type 0) (keep : Dbkey × Row → Bool) (rows : List (Dbkey × Row)) → AllByRecursion P (map (λ e. e.0) rows) → AllByRecursion P (map (λ e. e.0) (filter keep rows))
kept_on P keep [] each = tt
kept_on P keep (e ∷ es) each = elim (keep e) as (λ b. AllByRecursion P (map (λ (x : Dbkey × Row). x.0) (cond b (e ∷ filter keep es) (filter keep es)))) [
  | true ↦ (each.0, kept_on P keep es each.1)
  | false ↦ kept_on P keep es each.1
]

-- ---- an access

-- the index by which the rows are come by, if they are by one, is in one of these areas
abbrev IsIn : List ℕ → Access → Type 0
IsIn used Scan = Unit {0}
IsIn used (Find root key) = is_among used root.area ≡ true
IsIn used (Range root bounds) = is_among used root.area ≡ true

of_root : (used : List ℕ) (root : Dbkey) (a : Access) → is_among used root.area ≡ true → IsOfRoot root a → IsIn used a
of_root used root Scan is of = tt
of_root used root (Find own key) is of = subst (λ (k : Dbkey). is_among used k.area ≡ true) of is
of_root used root (Range own bounds) is of = subst (λ (k : Dbkey). is_among used k.area ≡ true) of is

module _ (before : Row) (tests : Conjunction) where
  of_one : (used : List ℕ) (xs : List IndexPath) (a : Access) → Wider (map (λ (x : IndexPath). x.root.area) xs) used → IsOfOne before tests xs a → IsIn used a
  of_one used [] a wider some = absurd some
  of_one used (x ∷ xs) a wider (inl own) = of_root used x.root a (wider x.root.area (first_area x.root.area (map (λ (y : IndexPath). y.root.area) xs))) (subst (IsOfRoot x.root) own (rooted before tests x))
  of_one used (x ∷ xs) a wider (inr later) = of_one used xs a (λ b h. wider b (one_more_area x.root.area (map (λ (y : IndexPath). y.root.area) xs) b h)) later

  pub chosen_in : (used : List ℕ) (xs : List IndexPath) → Wider (map (λ (x : IndexPath). x.root.area) xs) used → IsIn used (choice xs before tests)
  chosen_in used xs wider = chosen_by_one before tests (IsIn used) xs tt (λ a some. of_one used xs a wider some)

-- ---- what is lacked

line_needed : (known : Knowledge) (used : List ℕ) (lines : List Dbkey) (need : Need) → AreAmong used lines → IsFirstNeed known lines need → IsNeedOf used [] need
line_needed known used lines need among is = by_first (first_unknown known lines) refl is where
  by_first : (o : Option Dbkey) → first_unknown known lines ≡ o → option_map Line o ≡ Some need → IsNeedOf used [] need
  by_first None at h = absurd (none-some need h)
  by_first (Some key) at h = subst (IsNeedOf used []) (same_Some (Line key) need h) (first_among (λ (k : Dbkey). is_among used k.area ≡ true) known lines key among at)

next_needed : (known : Knowledge) (all : Lines) (used : List ℕ) (area : ℕ) (need : Need) → Agrees known all → is_among used area ≡ true → IsNextNeed known area need → IsNeedOf used [] need
next_needed known all used area (Area a) agrees is next = subst (λ (b : ℕ). is_among used b ≡ true) (sym next.0) is
next_needed known all used area (Line key) agrees is next =
    there next.2.before (subst (AreAmong used) (sym (agrees.area area next.0 next.1) ∙ next.2.stands) (among_all used area (keys_of (lines_in area all)) is (keys_on area all))) where
      there : (before : List Dbkey) → AreAmong used (before ++ key ∷ next.2.behind) → is_among used key.area ≡ true
      there [] each = each.0
      there (k ∷ ks) each = there ks each.1
next_needed known all used area (Room room) agrees is next = absurd next

module _ (known : Knowledge) (all : Lines) (used : List ℕ) (source : Source) (rel : Relation) (agrees : Agrees known all) (is : IsSourceOf all rel source) (wider : Wider (areas_of_source source) used) where
  own : is_among used source.relation.area ≡ true
  own = wider source.relation.area (first_area source.relation.area (map (λ (x : IndexPath). x.root.area) source.indexes.now))

  indexes : Wider (map (λ (x : IndexPath). x.root.area) source.indexes.now) used
  indexes a h = wider a (one_more_area source.relation.area (map (λ (x : IndexPath). x.root.area) source.indexes.now) a h)

  rows : AreAmong used (map (λ e. e.0) rel.rows)
  rows = among_all used source.relation.area (map (λ e. e.0) rel.rows) own (rows_on source.relation source.relation.area (lines_in source.relation.area all) rel.rows (keys_on source.relation.area all) is.0.rows)

  read_of_index : (root : Dbkey) (positions : List ℕ) (interval : Interval) (index : IsIndexOf all root positions rel.rows) → is_among used root.area ≡ true → AreAmong used (lines_read all root positions rel.rows interval index)
  read_of_index root positions interval index in_used =
      all_append (λ (k : Dbkey). is_among used k.area ≡ true) (reads interval index.level index.tree) (map (λ e. e.0) (filter (is_keyed positions interval) rel.rows))
      (among_all used root.area (reads interval index.level index.tree) in_used (reads_within (λ (k : Dbkey). k.area ≡ root.area) interval index.level index.tree (areas all root.area index.level index.tree index.is.stands)))
      (kept_on (λ (k : Dbkey). is_among used k.area ≡ true) (is_keyed positions interval) rel.rows rows)

  by_access : (positions : List ℕ) (a : Access) (served : Serves all positions rel.rows a) (need : Need) → IsIn used a → IsNextOfAccess known source.relation.area all positions rel.rows a served need → IsNeedOf used [] need
  by_access positions Scan served need in_used next = next_needed known all used source.relation.area need agrees own next
  by_access positions (Find root key) served need in_used next = line_needed known used (lines_read all root positions rel.rows (only key) served) need (read_of_index root positions (only key) served in_used) next
  by_access positions (Range root bounds) served need in_used next = line_needed known used (lines_read all root positions rel.rows (between bounds) served) need (read_of_index root positions (between bounds) served in_used) next

  pub reading_needs : (sorted : IsInOrder all) (a : Access) (need : Need) → IsAccessOf source a → IsNextOfReading known (record { source = source; access = a }) need → IsNeedOf used [] need
  reading_needs sorted a need (inl scan) next =
      by_access [] Scan tt need tt (subst (λ (b : Access). IsNextOfReading known (record { source = source; access = b }) need) scan next all rel [] sorted agrees is.0 tt)
  reading_needs sorted a need (inr (before, tests, same)) next =
      let chosen = choice source.indexes.now before tests in
      let positions = positions_in source.indexes.now chosen in
      let serves = serves_chosen all rel.rows source.indexes.now before tests is.1 in
      by_access positions chosen serves need (chosen_in before tests used source.indexes.now indexes)
      (subst (λ (b : Access). IsNextOfReading known (record { source = source; access = b }) need) same next all rel positions sorted agrees is.0 serves)
