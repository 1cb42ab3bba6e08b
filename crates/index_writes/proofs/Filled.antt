-- An index filled row by row.
use Rattle.std.proofs.Common.{◌≡◌, ℕ, Bool, true, false, ◌&&◌, List, [], ◌∷◌, ◌++◌, map, Some, None, inl, inr, refl, sym, ap, subst, ◌∙◌}
use Rattle.std.specs.Prelude.{Result, Ok, Err}
use Rattle.std.specs.List.{AllByRecursion}
use Rattle.std.specs.FinMap.Entries.{find, put, is_sorted}
use Rattle.std.proofs.lemmas.Bool.{and_parts}
use Rattle.std.proofs.lemmas.List.{append-nil, append_assoc}
use Rattle.rdb_types.specs.declared.keys.Dbkey.{Dbkey}
use Rattle.rdb_types.specs.Order.{dbkey_order}
use Rattle.rdb_meaning.specs.Contents.{Row, key_of, has_key as rows_have}
use Rattle.rdb_meaning.specs.Defining.{keys_repeat}
use Rattle.line_view.specs.declared.stop.Stop.TheVariants.{Missing, Bad, NoMemory, Own}
use Rattle.line_view.specs.declared.writes.Write.{Write}
use Rattle.line_view.specs.Knowledge.{Lines, laid}
use Rattle.line_view.specs.Held.{Held, knows}
use Rattle.line_view.specs.Stops.{Stops, Lacks}
use Rattle.line_view.specs.Writes.{laid_all}
use Rattle.line_view.proofs.Written.{laid_in_turn}
use Rattle.catalog_lines.specs.declared.line.IndexLine.{IndexLine}
use Rattle.index_node.specs.Node.{IsNode}
use Rattle.sorted_index_laws.specs.Tree.{pairs}
use Rattle.sorted_index_laws.specs.Changes.{pair_of, has_key}
use Rattle.sorted_index_laws.specs.Insertion.{IsKey, IsNew}
use Rattle.sorted_index_laws.proofs.Ordered.{all_append}
use Rattle.relation_rows.specs.declared.stored.StoredRow.{StoredRow}
use Rattle.relation_rows.specs.Indexed.{IsIndexOf}
use Rattle.relation_rows.specs.Relations.{stored_row}
use Rattle.sound_changes.proofs.PairPut.{new_pair}
use Rattle.sound_changes.proofs.Pairs.{keys_held, none_twice}
use Rattle.sound_definitions.proofs.Filling.{empty_index, index_grows, next_row}
use Rattle.statement_view.specs.Over.{Over, Stands, laid_over}
use Rattle.statement_view.specs.Areas.{KeepsTo}
use Rattle.row_writes.specs.declared.stop.PairRefusal.TheVariants as pair
use Rattle.row_writes.specs.Stop.{PairStop}
use Rattle.row_writes.specs.Areas.{KeepsToIndex}
use Rattle.row_writes.specs.Pairs.{PairRefused, AddsPair, IsLongKey, CanNotGrow, has_taken}
use Rattle.schema_writes.specs.declared.stop.SchemaRefusal.TheVariants.{Refused, NoRoom, Full}
use Rattle.schema_writes.specs.Stop.{SchemaStop}
use Rattle.schema_writes.proofs.Made.{Stays}
use Rattle.index_writes.specs.Filling.{IsDuplicate, TellsRow, RowRefused, RowAdded, AddsRow, AreFitting, IsFilled, RowsAdded, AddsRows, Fills}
use Rattle.index_writes.proofs.Repeats.{repeats}

-- ---- one row

abbrev RowStops : Held → Lines → IndexLine → Type 0 → SchemaStop → Type 0
RowStops base start x IsTaken = Stops (Lacks (knows base)) (λ key. ⊥) (RowRefused x IsTaken (CanNotGrow base start x))

told_duplicate : (base : Held) (start : Lines) (x : IndexLine) (IsTaken : Type 0) (told : SchemaStop) → IsTaken → IsDuplicate x.name told → RowStops base start x IsTaken told
told_duplicate base start x IsTaken told taken (inl is) = subst (RowStops base start x IsTaken) (sym is) (refl, taken)
told_duplicate base start x IsTaken told taken (inr is) = subst (RowStops base start x IsTaken) (sym is) tt

told_row : (base : Held) (start : Lines) (x : IndexLine) (IsTaken IsLong : Type 0) (at : Dbkey) (stop : PairStop) (told : SchemaStop) → (IsLong → ⊥) → TellsRow x.name at stop told → Stops (Lacks (knows base)) (λ key. ⊥) (PairRefused IsTaken IsLong (CanNotGrow base start x)) stop → RowStops base start x IsTaken told
told_row base start x IsTaken IsLong at (Missing need) told short tells said = subst (RowStops base start x IsTaken) (sym tells) said
told_row base start x IsTaken IsLong at (Bad key) told short tells said = absurd said
told_row base start x IsTaken IsLong at NoMemory told short tells said = subst (RowStops base start x IsTaken) (sym tells) tt
told_row base start x IsTaken IsLong at (Own pair.Duplicate) told short tells said = told_duplicate base start x IsTaken told said tells
told_row base start x IsTaken IsLong at (Own pair.LongKey) told short tells said = absurd (short said)
told_row base start x IsTaken IsLong at (Own pair.Full) told short tells said = subst (RowStops base start x IsTaken) (sym tells) said

pub row_added : (old new : Over) (x : IndexLine) (row : StoredRow) → AddsPair old new x row.row row.key (Ok tt) → AddsRow old new x row (Ok tt)
row_added old new x row adds = λ first level tree stands index fresh key. adds first level tree stands index fresh

pub row_stops : (old new : Over) (x : IndexLine) (row : StoredRow) (stop : PairStop) (told : SchemaStop) → AddsPair old new x row.row row.key (Err stop) → TellsRow x.name row.key stop told → AddsRow old new x row (Err told)
row_stops old new x row stop told adds tells = λ first level tree stands index fresh key.
    told_row old.base first x (has_taken x row.row (pairs level tree) ≡ true) (IsLongKey x row.row) row.key stop told (λ long. long key) tells (adds first level tree stands index fresh)

-- ---- some rows

-- Of all rows those before are in the index, and those behind are left.
pub record IsUnderway (old new : Over) (first : Lines) (x : IndexLine) (rows : List (Dbkey × Row)) (left : List StoredRow) : Type 0 where
  pub before : List (Dbkey × Row)
  pub behind : List (Dbkey × Row)
  pub parts : rows ≡ before ++ behind
  pub rest : map stored_row behind ≡ left
  pub filled : IsFilled old new first x before

pub begun : (old : Over) (first : Lines) (x : IndexLine) (rows : List (Dbkey × Row)) (given : List StoredRow) → given ≡ map stored_row rows → Stands old first → IsIndexOf (laid_over old.lines first) x.root x.fields [] → IsUnderway old old first x rows given
begun old first x rows given same stands index = record {
  before = [];
  behind = rows;
  parts = refl;
  rest = sym same;
  filled = record { stands = stands; filling = []; laid = refl; within = tt; index = index; once = λ is. refl };
}

pub ended : (old new : Over) (first : Lines) (x : IndexLine) (rows : List (Dbkey × Row)) → IsUnderway old new first x rows [] → IsFilled old new first x rows
ended old new first x rows under = subst (IsFilled old new first x) (sym (under.parts ∙ ap (λ (l : List (Dbkey × Row)). under.before ++ l) (none_left under.behind under.rest) ∙ append-nil under.before)) under.filled where
  none_left : (es : List (Dbkey × Row)) → map stored_row es ≡ [] → es ≡ []
  none_left [] same = refl
  none_left (e ∷ es) same = let bad : ⊥ = cc in absurd bad

-- ---- one row more

unless : (is_unique has : Bool) → (is_unique && has) ≡ false → is_unique ≡ true → has ≡ false
unless is_unique has none is = ap (λ b. b && has) (sym is) ∙ none

module _ (old mid : Over) (first : Lines) (x : IndexLine) (rows : List (Dbkey × Row)) (fitting : AreFitting x rows) (before rest : List (Dbkey × Row)) (e : Dbkey × Row) (parts : rows ≡ before ++ e ∷ rest) (filled : IsFilled old mid first x before) where
  next : (find dbkey_order e.0 before ≡ None) × (put dbkey_order e.0 e.1 before ≡ before ++ e ∷ [])
  next = next_row before rest e.0 e.1 (subst (λ (l : List (Dbkey × Row)). is_sorted dbkey_order l ≡ true) parts fitting.sorted)

  fresh : IsNew (pair_of (key_of x.fields e.1) e.0) (pairs filled.index.level filled.index.tree)
  fresh = subst (IsNew (pair_of (key_of x.fields e.1) e.0)) (sym filled.index.holds) (new_pair x.fields (key_of x.fields e.1) e.0 before next.0)

  -- the key of a row behind others
  key_there : (xs : List (Dbkey × Row)) → AllByRecursion (λ (y : Dbkey × Row). IsKey (key_of x.fields y.1)) (xs ++ e ∷ rest) → IsKey (key_of x.fields e.1)
  key_there [] each = each.0
  key_there (y ∷ ys) each = key_there ys each.1

  key : IsKey (key_of x.fields e.1)
  key = key_there before (subst (AllByRecursion (λ (y : Dbkey × Row). IsKey (key_of x.fields y.1))) parts fitting.keys)

  -- the index has the key where a row before has it
  taken : has_taken x e.1 (pairs filled.index.level filled.index.tree) ≡ (x.unique && rows_have x.fields e.1 before)
  taken = ap (λ b. x.unique && b) (ap (has_key (key_of x.fields e.1)) filled.index.holds ∙ keys_held x.fields e.1 before)

  one_filled : (new : Over) → RowAdded mid new x (stored_row e) first filled.index.level filled.index.tree (Ok tt) → IsFilled old new first x (before ++ e ∷ [])
  one_filled new added =
      let lines = laid_over mid.lines first in
      subst (IsFilled old new first x) next.1 (record {
        stands = added.0.stands;
        filling = filled.filling ++ added.0.writes;
        laid = added.0.laid ∙ ap (laid_all added.0.writes) filled.laid ∙ sym (laid_in_turn filled.filling added.0.writes (laid_over old.lines first));
        within = all_append (λ (w : Write). (w.key).area ≡ x.root.area) filled.filling added.0.writes filled.within added.0.leaves.in_area;
        index = subst (λ (l : Lines). IsIndexOf l x.root x.fields (put dbkey_order e.0 e.1 before)) (sym added.0.laid) (index_grows lines x.root x.fields before e.0 e.1 added.0.writes filled.index next.0 added.0.leaves);
        once = λ is. none_twice x.fields e.0 e.1 before (filled.once is) (unless x.unique (rows_have x.fields e.1 before) (sym taken ∙ added.1) is);
      })

  -- a key that is taken repeats
  repeated : has_taken x e.1 (pairs filled.index.level filled.index.tree) ≡ true → (x.unique ≡ true) × (keys_repeat x.fields rows ≡ true)
  repeated has =
      let both = and_parts x.unique (rows_have x.fields e.1 before) (sym taken ∙ has) in
      (both.0, ap (keys_repeat x.fields) parts ∙ repeats x.fields e before rest both.1)

  one_refused : (told : SchemaStop) → RowStops mid.base first x (has_taken x e.1 (pairs filled.index.level filled.index.tree) ≡ true) told → RowStops mid.base first x ((x.unique ≡ true) × (keys_repeat x.fields rows ≡ true)) told
  one_refused (Missing need) said = said
  one_refused (Bad at) said = said
  one_refused NoMemory said = said
  one_refused (Own (Refused reply)) said = (said.0, repeated said.1)
  one_refused (Own NoRoom) said = said
  one_refused (Own Full) said = said

-- the first row that is left
abbrev IsFirst : List (Dbkey × Row) → StoredRow → List StoredRow → Type 0
IsFirst behind row left = (e : Dbkey × Row) × (rest : List (Dbkey × Row)) × (behind ≡ e ∷ rest) × (stored_row e ≡ row) × (map stored_row rest ≡ left)

first_left : (behind : List (Dbkey × Row)) (row : StoredRow) (left : List StoredRow) → map stored_row behind ≡ row ∷ left → IsFirst behind row left
first_left [] row left same = let bad : ⊥ = cc in absurd bad
first_left (e ∷ es) row left same =
    let here : stored_row e ≡ row = cc in
    let rest : map stored_row es ≡ left = cc in
    (e, es, refl, here, rest)

module _ (old mid new : Over) (first : Lines) (x : IndexLine) (rows : List (Dbkey × Row)) (row : StoredRow) (left : List StoredRow) (fitting : AreFitting x rows) (under : IsUnderway old mid first x rows (row ∷ left)) where
  this : IsFirst under.behind row left
  this = first_left under.behind row left under.rest

  parted : rows ≡ under.before ++ this.0 ∷ this.1
  parted = under.parts ∙ ap (λ (l : List (Dbkey × Row)). under.before ++ l) this.2

  pub rows_more : AddsRow mid new x row (Ok tt) → IsUnderway old new first x rows left
  rows_more adds =
      let filled = under.filled in
      let e = this.0 in
      let own : AddsRow mid new x (stored_row e) (Ok tt) = subst (λ (r : StoredRow). AddsRow mid new x r (Ok tt)) (sym this.3) adds in
      let added = own first filled.index.level filled.index.tree filled.stands filled.index.is (fresh old mid first x rows fitting under.before this.1 e parted filled) (key old mid first x rows fitting under.before this.1 e parted filled) in
      record {
        before = under.before ++ e ∷ [];
        behind = this.1;
        parts = parted ∙ sym (append_assoc under.before (e ∷ []) this.1);
        rest = this.4;
        filled = one_filled old mid first x rows fitting under.before this.1 e parted filled new added;
      }

  -- in the words of the map so far
  pub row_within : (result : Result (Unit {0}) SchemaStop) → KeepsToIndex mid new x.root (λ level tree. IsNew (pair_of (key_of x.fields row.row) row.key) (pairs level tree)) result → KeepsTo (x.root.area ∷ []) (x.root.area ∷ []) mid new result
  row_within result keeps =
      let filled = under.filled in
      let e = this.0 in
      let own : KeepsToIndex mid new x.root (λ level tree. IsNew (pair_of (key_of x.fields e.1) e.0) (pairs level tree)) result =
      subst (λ (r : StoredRow). KeepsToIndex mid new x.root (λ level tree. IsNew (pair_of (key_of x.fields r.row) r.key) (pairs level tree)) result) (sym this.3) keeps in
      own first filled.index.level filled.index.tree filled.stands filled.index.is (fresh old mid first x rows fitting under.before this.1 e parted filled)

  pub rows_refused : (told : SchemaStop) → mid.base ≡ old.base → AddsRow mid new x row (Err told) → RowsAdded old new x first rows (Err told)
  rows_refused told base adds =
      let filled = under.filled in
      let e = this.0 in
      let own : AddsRow mid new x (stored_row e) (Err told) = subst (λ (r : StoredRow). AddsRow mid new x r (Err told)) (sym this.3) adds in
      let said = own first filled.index.level filled.index.tree filled.stands filled.index.is (fresh old mid first x rows fitting under.before this.1 e parted filled) (key old mid first x rows fitting under.before this.1 e parted filled) in
      subst (λ (h : Held). RowStops h first x ((x.unique ≡ true) × (keys_repeat x.fields rows ≡ true)) told) base (one_refused old mid first x rows fitting under.before this.1 e parted filled told said)

-- ---- all rows, behind an empty root

abbrev pub AreUnderway : Over → Over → IndexLine → List StoredRow → List StoredRow → Type 0
AreUnderway old new x given left = (first : Lines) (rows : List (Dbkey × Row)) → given ≡ map stored_row rows → AreFitting x rows → Stands old first → IsIndexOf (laid_over old.lines first) x.root x.fields [] → IsUnderway old new first x rows left

module _ (old mid new : Over) (x : IndexLine) (given : List StoredRow) (image : List ℕ) (leaf : IsNode image (record { level = 0; entries = [] })) (stay : Stays old mid) (put_root : (first : Lines) → Stands old first → laid_over mid.lines first ≡ laid x.root (Some image) (laid_over old.lines first)) (base : mid.base ≡ old.base) where
  pub root_there : (first : Lines) → Stands old first → IsIndexOf (laid_over mid.lines first) x.root x.fields []
  root_there first stands = subst (λ (l : Lines). IsIndexOf l x.root x.fields []) (sym (put_root first stands)) (empty_index (laid_over old.lines first) x.root image x.fields leaf)

  -- the write of the root comes before the others
  with_root : (first : Lines) (rows : List (Dbkey × Row)) → Stands old first → IsFilled mid new first x rows → IsFilled old new first x rows
  with_root first rows stands filled = record {
    stands = filled.stands;
    filling = record { key = x.root; image = Some image } ∷ filled.filling;
    laid = filled.laid ∙ ap (laid_all filled.filling) (put_root first stands);
    within = (refl, filled.within);
    index = filled.index;
    once = filled.once;
  }

  pub filled_so : (result : Result (Unit {0}) SchemaStop) → AddsRows mid new x given result → Fills old new x given result
  filled_so (Ok u) adds = λ first rows same fitting stands. with_root first rows stands (adds first rows same fitting (stay first stands) (root_there first stands))
  filled_so (Err told) adds = λ first rows same fitting stands.
      subst (λ (h : Held). RowStops h first x ((x.unique ≡ true) × (keys_repeat x.fields rows ≡ true)) told) base (adds first rows same fitting (stay first stands) (root_there first stands))

-- ---- the loop

pub all_begun : (old : Over) (x : IndexLine) (given : List StoredRow) → AreUnderway old old x given given
all_begun old x given = λ first rows same fitting stands index. begun old first x rows given same stands index

pub all_more : (old mid new : Over) (x : IndexLine) (given left rest : List StoredRow) (row : StoredRow) → left ≡ row ∷ rest → AreUnderway old mid x given left → AddsRow mid new x row (Ok tt) → AreUnderway old new x given rest
all_more old mid new x given left rest row next under adds = λ first rows same fitting stands index.
    rows_more old mid new first x rows row rest fitting (subst (IsUnderway old mid first x rows) next (under first rows same fitting stands index)) adds

pub all_refused : (old mid new : Over) (x : IndexLine) (given left rest : List StoredRow) (row : StoredRow) (told : SchemaStop) → left ≡ row ∷ rest → AreUnderway old mid x given left → mid.base ≡ old.base → AddsRow mid new x row (Err told) → AddsRows old new x given (Err told)
all_refused old mid new x given left rest row told next under base adds = λ first rows same fitting stands index.
    rows_refused old mid new first x rows row rest fitting (subst (IsUnderway old mid first x rows) next (under first rows same fitting stands index)) told base adds

pub all_ended : (old new : Over) (x : IndexLine) (given left : List StoredRow) → left ≡ [] → AreUnderway old new x given left → AddsRows old new x given (Ok tt)
all_ended old new x given left none under = λ first rows same fitting stands index.
    ended old new first x rows (subst (IsUnderway old new first x rows) none (under first rows same fitting stands index))
