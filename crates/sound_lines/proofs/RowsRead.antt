-- The rows of a relation that were read, and what is left.
use Rattle.std.proofs.Common.{◌≡◌, ◌≤◌, ◌==◌, ℕ, true, List, [], ◌∷◌, ◌++◌, map, Some, None, T, refl, sym, ap, subst, ◌∙◌}
use Rattle.std.specs.List.{AllByRecursion}
use Rattle.std.specs.FinMap.Entries.{put, is_sorted, is_sorted-where_key}
use Rattle.std.proofs.lemmas.List.{append-nil}
use Rattle.rdb_types.specs.declared.values.Value.{Value}
use Rattle.rdb_types.specs.declared.values.Field.{Field}
use Rattle.rdb_types.specs.declared.keys.Dbkey.{Dbkey}
use Rattle.rdb_types.specs.Order.{dbkey_order}
use Rattle.rdb_types.specs.OrderLaws.{dbkey_total}
use Rattle.rdb_meaning.specs.Contents.{Row}
use Rattle.line_view.specs.declared.need.Need.TheVariants.{Line}
use Rattle.line_view.specs.declared.stop.Stop.{Stop}
use Rattle.line_view.specs.declared.stop.Never.{Never}
use Rattle.line_view.specs.declared.stop.Stop.TheVariants.{Missing, Bad, NoMemory, Own}
use Rattle.line_view.specs.declared.need.Need.{Need}
use Rattle.line_view.specs.Knowledge.{Knowledge, Lines, IsInOrder, Agrees, lines_in}
use Rattle.relation_rows.specs.declared.stored.StoredRelation.{StoredRelation}
use Rattle.relation_rows.specs.declared.stored.StoredRow.{StoredRow}
use Rattle.relation_rows.specs.Stored.{IsRowOf, AreRowsOf, IsRowAt, IsBadAt, IsLineKnown, IsAreaKnown, IsNextNeed, count_in, are_values_of, completed}
use Rattle.relation_rows.proofs.Progress.{AreRead, none_read, row_read, absent_read, all_read, next_line}
use Rattle.sound_lines.specs.Gathered.{put_all}
use Rattle.relation_rows.specs.Relations.{stored_row}
use Rattle.sound_lines.specs.Reading.{IsBadRow, StopsRows}
use Rattle.sound_lines.proofs.Gathering.{keys as keys_in, true_from_T, gathered, put_all_more, same_sorted}

-- ---- the rows are one thing for relations of one version and of the same fields

pub row_alike : (r s : StoredRelation) (image : List ℕ) (row : List Value) → r.version ≡ s.version → r.fields.now ≡ s.fields.now → IsRowOf r image row → IsRowOf s image row
row_alike r s image row version fields is = record {
  version = is.version;
  values = is.values;
  stands = is.stands;
  fit = record {
    known = subst (λ (n : ℕ). is.version ≤ n) version is.fit.known;
    count = is.fit.count ∙ ap (λ (fs : List Field). count_in is.version fs) fields;
    fit = subst (λ (fs : List Field). are_values_of fs is.values ≡ true) fields is.fit.fit;
  };
  whole = is.whole ∙ ap (λ (fs : List Field). completed fs is.values) fields;
}

pub rows_alike : (r s : StoredRelation) (lines : Lines) (rows : List StoredRow) → r.version ≡ s.version → r.fields.now ≡ s.fields.now → AreRowsOf r lines rows → AreRowsOf s lines rows
rows_alike r s [] [] version fields are = tt
rows_alike r s [] (x ∷ xs) version fields are = absurd are
rows_alike r s (e ∷ es) [] version fields are = absurd are
rows_alike r s (e ∷ es) (x ∷ xs) version fields are = (are.0, row_alike r s e.1 x.row version fields are.1, rows_alike r s es xs version fields are.2)

bad_alike : (known : Knowledge) (r s : StoredRelation) (key : Dbkey) → r.version ≡ s.version → r.fields.now ≡ s.fields.now → IsBadAt known r key → IsBadAt known s key
bad_alike known r s key version fields bad = (bad.0, bad.1, λ row is. bad.2 row (row_alike s r bad.0 row (sym version) (sym fields) is))

pub stops_alike : (known : Knowledge) (r s : StoredRelation) (stop : Stop Never) → r.area ≡ s.area → r.version ≡ s.version → r.fields.now ≡ s.fields.now → StopsRows known r stop → StopsRows known s stop
stops_alike known r s (Missing need) area version fields stops = subst (λ (a : ℕ). IsNextNeed known a need) area stops
stops_alike known r s (Bad key) area version fields stops = record {
  before = stops.before;
  behind = stops.behind;
  told = ap known.area (sym area) ∙ stops.told;
  lines = stops.lines;
  bad = bad_alike known r s key version fields stops.bad;
}
stops_alike known r s NoMemory area version fields stops = tt
stops_alike known r s (Own never) area version fields stops = elim never [ ]

-- ---- gathering the rows

abbrev entry_of : StoredRow → Dbkey × Row
entry_of x = (x.key, x.row)

entries_more : (xs : List StoredRow) (x : StoredRow) → map entry_of (xs ++ x ∷ []) ≡ map entry_of xs ++ entry_of x ∷ []
entries_more [] x = refl
entries_more (y ∷ ys) x = ap (λ l. entry_of y ∷ l) (entries_more ys x)

entries_back : (xs : List StoredRow) → map stored_row (map entry_of xs) ≡ xs
entries_back [] = refl
entries_back (x ∷ xs) = ap (λ l. x ∷ l) (entries_back xs)

-- of the lines of these keys, those before the keys that are left were read, and have these rows
pub record Reads (known : Knowledge) (r : StoredRelation) (keys left : List Dbkey) (rows : List (Dbkey × Row)) : Type 0 where
  pub stored : List StoredRow
  pub are : AreRead known r keys left stored
  pub gathers : rows ≡ put_all dbkey_order [] (map entry_of stored)

pub no_row : (known : Knowledge) (r : StoredRelation) (keys : List Dbkey) → known.area r.area ≡ Some keys → Reads known r keys keys []
no_row known r keys told = record { stored = []; are = none_read known r keys told; gathers = refl }

pub one_row_more : (known : Knowledge) (r : StoredRelation) (keys left : List Dbkey) (key : Dbkey) (rows new : List (Dbkey × Row)) (row : List Value) →
    Reads known r keys (key ∷ left) rows → IsRowAt known r key row → new ≡ put dbkey_order key row rows → Reads known r keys left new
one_row_more known r keys left key rows new row reads is made = record {
  stored = reads.stored ++ record { key = key; row = row } ∷ [];
  are = row_read known r keys left key reads.stored row is.0 reads.are is.1 is.2;
  gathers = made
      ∙ ap (λ l. put dbkey_order key row l) reads.gathers
      ∙ sym (put_all_more dbkey_order [] (map entry_of reads.stored) key row)
      ∙ ap (put_all dbkey_order []) (sym (entries_more reads.stored (record { key = key; row = row })));
}

pub no_row_more : (known : Knowledge) (r : StoredRelation) (keys left : List Dbkey) (key : Dbkey) (rows : List (Dbkey × Row)) →
    Reads known r keys (key ∷ left) rows → known.line key ≡ Some None → Reads known r keys left rows
no_row_more known r keys left key rows reads absent = record {
  stored = reads.stored;
  are = absent_read known r keys left key reads.stored reads.are absent;
  gathers = reads.gathers;
}

keys_are : (r : StoredRelation) (lines : Lines) (rows : List StoredRow) → AreRowsOf r lines rows → keys_in lines ≡ keys_in (map entry_of rows)
keys_are r [] [] are = refl
keys_are r [] (x ∷ xs) are = absurd are
keys_are r (e ∷ es) [] are = absurd are
keys_are r (e ∷ es) (x ∷ xs) are = λ i. sym are.0 i ∷ keys_are r es xs are.2 i

part_sorted : (area : ℕ) (all : Lines) → IsInOrder all → is_sorted dbkey_order (lines_in area all) ≡ true
part_sorted area all sorted = true_from_T _ (is_sorted-where_key dbkey_order (λ k. k.area == area) all (subst T (sym sorted) tt))

pub rows_are : (known : Knowledge) (r : StoredRelation) (keys : List Dbkey) (rows : List (Dbkey × Row)) → Reads known r keys [] rows → (all : Lines) → IsInOrder all → Agrees known all → AreRowsOf r (lines_in r.area all) (map stored_row rows)
rows_are known r keys rows reads all sorted agrees =
    let are = all_read known r keys reads.stored reads.are all sorted agrees in
    let ordered : is_sorted dbkey_order (map entry_of reads.stored) ≡ true = sym (same_sorted dbkey_order (lines_in r.area all) (map entry_of reads.stored) (keys_are r (lines_in r.area all) reads.stored are)) ∙ part_sorted r.area all sorted in
    let same : rows ≡ map entry_of reads.stored = reads.gathers ∙ gathered dbkey_order dbkey_total (map entry_of reads.stored) ordered in
    subst (AreRowsOf r (lines_in r.area all)) (sym (ap (map stored_row) same ∙ entries_back reads.stored)) are

pub area_known : (known : Knowledge) (r : StoredRelation) (keys : List Dbkey) (rows : List (Dbkey × Row)) → known.area r.area ≡ Some keys → Reads known r keys [] rows → IsAreaKnown known r.area
area_known known r keys rows told reads = (keys, told, subst (AllByRecursion (IsLineKnown known)) (sym (reads.are.stands ∙ append-nil reads.are.front)) reads.are.lines)

pub row_stops : (known : Knowledge) (r : StoredRelation) (keys left : List Dbkey) (key : Dbkey) (rows : List (Dbkey × Row)) (stop : Stop Never) →
    known.area r.area ≡ Some keys → Reads known r keys (key ∷ left) rows →
    ((need : Need) → stop ≡ Missing need → (need ≡ Line key) × (known.line key ≡ None)) → ((at : Dbkey) → stop ≡ Bad at → (at ≡ key) × IsBadAt known r key) → StopsRows known r stop
row_stops known r keys left key rows (Missing need) told reads missing bad =
    let why = missing need refl in
    subst (IsNextNeed known r.area) (sym why.0) (keys, told, next_line known r keys left key reads.stored reads.are why.1)
row_stops known r keys left key rows (Bad at) told reads missing bad =
    let why = bad at refl in
    subst (IsBadRow known r) (sym why.0) (record { before = reads.are.front; behind = left; told = told ∙ ap Some reads.are.stands; lines = reads.are.lines; bad = why.1 })
row_stops known r keys left key rows NoMemory told reads missing bad = tt
row_stops known r keys left key rows (Own never) told reads missing bad = elim never [ ]
