-- The line of a row, and then its pairs.
use Rattle.std.proofs.Common.{◌≡◌, ℕ, Bool, true, false, cond, ◌&&◌, List, [], ◌∷◌, length, Option, Some, None, refl, sym, ap, subst, ◌∙◌}
use Rattle.std.specs.Prelude.{Result, Ok, Err}
use Rattle.std.specs.FinMap.Entries.{find}
use Rattle.std.proofs.lemmas.Option.{none-some}
use Rattle.rdb_types.specs.declared.keys.Dbkey.{Dbkey}
use Rattle.rdb_types.specs.declared.values.Field.{Field}
use Rattle.rdb_types.specs.Order.{dbkey_order}
use Rattle.rdo_ast.specs.Tree.{Name}
use Rattle.rdb_meaning.specs.declared.tables.Relation.{Relation as Rows}
use Rattle.rdb_meaning.specs.declared.tables.Tables.{Tables}
use Rattle.rdb_meaning.specs.Contents.{Row, relation_named, is_too_long}
use Rattle.rdb_meaning.specs.Execution.{nowhere}
use Rattle.line_view.specs.declared.stop.Stop.TheVariants.{Missing, Bad, NoMemory, Own}
use Rattle.line_view.specs.Knowledge.{Lines, line_in, laid}
use Rattle.line_view.specs.Held.{Held, knows}
use Rattle.line_view.specs.Stops.{Stops, Lacks}
use Rattle.catalog_lines.specs.declared.line.IndexLine.{IndexLine}
use Rattle.sound_changes.specs.catalog.declared.reading.Catalog.{Catalog}
use Rattle.record_format.specs.Rows.{IsRowImage}
use Rattle.relation_rows.specs.Stored.{IsRowOf, are_values_of}
use Rattle.stored_rows.specs.Fitting.{IsRowFor}
use Rattle.stored_rows.specs.declared.images.Unstored.{Unstored}
use Rattle.stored_rows.specs.declared.images.Unstored.TheVariants.{Misfit, TooLong}
use Rattle.sound_changes.specs.sound_lines.Contents.{versions_in, version_of, stored}
use Rattle.sound_changes.specs.Standing.{IsSoundFor, IsSoundAs, tables_for}
use Rattle.sound_changes.proofs.Images.{fits_its_fields}
use Rattle.sound_changes.proofs.RowLaid.{row_written, row_goes as line_erased}
use Rattle.sound_changes.proofs.Versions.{versions_rise_to}
use Rattle.sound_changes.proofs.RowsInOrder.{rows_in_order}
use Rattle.sound_changes.proofs.PairPut.{own_relation}
use Rattle.sound_changes.proofs.Given.{no_row, nowhere_is_other}
use Rattle.statement_view.specs.Over.{Over, Stands, laid_over, knows_over, room_at, all_rooms, AreRoomsKnown}
use Rattle.statement_view.proofs.Rooms.{left_room}
use Rattle.row_writes.specs.declared.target.TargetRelation.{TargetRelation}
use Rattle.row_writes.specs.declared.stop.PairRefusal.{PairRefusal}
use Rattle.row_writes.specs.declared.stop.PairRefusal.TheVariants.{Duplicate, LongKey, Full}
use Rattle.row_writes.specs.declared.stop.RowRefusal.{RowRefusal}
use Rattle.row_writes.specs.declared.stop.RowRefusal.TheVariants.{NoImage, NoRoom, Pair}
use Rattle.row_writes.specs.Stop.{RowStop}
use Rattle.row_writes.specs.Target.{IsTarget, taken_in}
use Rattle.row_writes.specs.Pairs.{CanNotGrow, IsLongKey}
use Rattle.row_writes.specs.Changes.{Underway, tables_to, is_key_taken, IsRefused, ChangesPairs}
use Rattle.row_writes.specs.Rows.{IsSoundView, HasNoImage, IsPairRefused, taken_by_another, IsNotStored, StoresRow, IsNotChanged, ChangesRow, ErasesRow, TellsNoRoom}
use Rattle.row_writes.proofs.Stopping.{stops_for, refused_for}
use Rattle.row_writes.proofs.Trees.{Stays}

-- ---- the row's image and its line

row_fits : (all : Lines) (c : Catalog) (t : Tables) (n : Name) (rel : Rows) (r : TargetRelation) (image : List ℕ) (row : Row) → IsSoundAs all c t → relation_named n t ≡ Some rel → IsTarget c n rel r →
    IsRowImage image r.stored.version row → IsRowFor r.stored.version r.stored.fields.now row → IsRowOf (stored (version_of n (versions_in c.lines)) rel) image row
row_fits all c t n rel r image row sound named target stands fits =
    fits_its_fields (stored (version_of n (versions_in c.lines)) rel) image row
    (subst (λ v. IsRowImage image v row) (sym target.version) stands)
    (fits.count ∙ ap (λ (fs : List Field). length fs) (sym target.fields))
    (versions_rise_to all c t n rel sound named)
    (ap (λ (fs : List Field). are_values_of fs row) target.fields ∙ fits.values)

short_here : (c : Catalog) (n : Name) (rel : Rows) (r : TargetRelation) (row : Row) (b : Bool) → IsTarget c n rel r → is_too_long r.stored.fields.now row ≡ b → is_too_long rel.fields row ≡ b
short_here c n rel r row b target is = ap (λ (fs : List Field). is_too_long fs row) target.fields ∙ is

abbrev pub Laid : Over → Over → Dbkey → Option (List ℕ) → Type 0
Laid old mid key image = (first : Lines) → Stands old first → laid_over mid.lines first ≡ laid key image (laid_over old.lines first)

-- behind the write of the line no index is done
pub begun : (old mid : Over) (key : Dbkey) (was to : Option Row) (image : Option (List ℕ)) (c : Catalog) (n : Name) (rel : Rows) (t : Tables) (first : Lines) → IsSoundView old c t first → relation_named n t ≡ Some rel → find dbkey_order key rel.rows ≡ was → Stays old mid → Laid old mid key image →
    IsSoundFor (laid key image (laid_over old.lines first)) c (tables_to n key to t) (tables_for rel.area [] t (tables_to n key to t)) → Underway c n rel t key was to mid first []
begun old mid key was to image c n rel t first view named found stay put sound = record {
  stands = stay first view.stands;
  sound = subst (λ (l : Lines). IsSoundFor l c (tables_to n key to t) (tables_for rel.area [] t (tables_to n key to t))) (sym (put first view.stands)) sound;
  named = named;
  own = own_relation (laid_over old.lines first) c t n rel (λ l. t) view.sound named;
  sorted = rows_in_order (laid_over old.lines first) c t n rel (λ l. t) view.sound named;
  found = found;
}

-- ---- a row that has no image

abbrev pub failed : Unstored → Result (List ℕ) Unstored
failed reason = Err reason

no_image : (r : TargetRelation) (c : Catalog) (n : Name) (rel : Rows) (row : Row) (reason : Unstored) → IsTarget c n rel r → (failed reason ≡ failed Misfit → IsRowFor r.stored.version r.stored.fields.now row → ⊥) → (failed reason ≡ failed TooLong → is_too_long r.stored.fields.now row ≡ true) → HasNoImage r rel row reason
no_image r c n rel row Misfit target misfit long = misfit refl
no_image r c n rel row TooLong target misfit long = short_here c n rel r row true target (long refl)

module _ (old new : Over) (r : TargetRelation) (row : Row) (reason : Unstored) (misfit : failed reason ≡ failed Misfit → IsRowFor r.stored.version r.stored.fields.now row → ⊥) (long : failed reason ≡ failed TooLong → is_too_long r.stored.fields.now row ≡ true) where
  pub no_image_stored : StoresRow old new r row (Err (Own (NoImage reason)))
  no_image_stored = λ c n rel t first view named target. no_image r c n rel row reason target misfit long

  pub no_image_changed : (key : Dbkey) (was : Row) → ChangesRow old new r key was row (Err (Own (NoImage reason)))
  no_image_changed key was = λ c n rel t first view named target found area. no_image r c n rel row reason target misfit long

-- ---- an index that refuses the row's pair

pair_refused : (base : Held) (start : Lines) (rel : Rows) (key : Dbkey) (row : Row) (xs : List IndexLine) (taken : Option Name) → is_too_long rel.fields row ≡ false → taken_in (is_key_taken rel key (Some row)) xs ≡ taken →
    (Other : RowRefusal → Type 0) → ((at : ℕ) (refusal : PairRefusal) → IsPairRefused base start rel xs taken row at refusal → Other (Pair at refusal)) → (e : RowRefusal) → IsRefused base start rel key (Some row) xs e → Other e
pair_refused base start rel key row xs taken short same Other told (NoImage reason) said = absurd said
pair_refused base start rel key row xs taken short same Other told NoRoom said = absurd said
pair_refused base start rel key row xs taken short same Other told (Pair at refusal) said = told at refusal (record {
  short = short;
  index = said.0;
  stands = said.1;
  refused = refused_for (taken_in (is_key_taken rel key (Some row)) xs ≡ Some (said.0).name) (taken ≡ Some (said.0).name) (IsLongKey said.0 row) (CanNotGrow base start said.0) (λ first. sym same ∙ first) refusal said.2;
})

-- ---- a row stored

module _ (old mid new : Over) (r : TargetRelation) (row : Row) (image : List ℕ) (image_is : IsRowImage image r.stored.version row) (fits : IsRowFor r.stored.version r.stored.fields.now row) (short : is_too_long r.stored.fields.now row ≡ false)
    (key : Dbkey) (stay : Stays old mid) (put : Laid old mid key (Some image)) (base : mid.base ≡ old.base) where
  pub line_sound : (c : Catalog) (n : Name) (rel : Rows) (t : Tables) (first : Lines) → IsSoundView old c t first → relation_named n t ≡ Some rel → IsTarget c n rel r → key.area ≡ rel.area →
      IsSoundFor (laid key (Some image) (laid_over old.lines first)) c (tables_to n key (Some row) t) (tables_for rel.area [] t (tables_to n key (Some row) t))
  line_sound c n rel t first view named target area = row_written (laid_over old.lines first) c t n rel key image row view.sound named area (row_fits (laid_over old.lines first) c t n rel r image row view.sound named target image_is fits)

  module _ (is_room : (knows_over old).room (room_at r.stored.area r.class 0) ≡ Some key) (c : Catalog) (n : Name) (rel : Rows) (t : Tables) (first : Lines) (view : IsSoundView old c t first) (named : relation_named n t ≡ Some rel) (target : IsTarget c n rel r) where
    area : key.area ≡ rel.area
    area = view.stands.agrees.within (room_at r.stored.area r.class 0) key is_room ∙ sym target.area

    free : line_in key (laid_over old.lines first) ≡ None
    free = view.stands.agrees.free (room_at r.stored.area r.class 0) key is_room

    unused : line_in key first ≡ None
    unused = let known = left_room (knows old.base) old.lines r.stored.area r.class 0 key is_room in view.stands.base.free _ key known.0.is

    fresh : find dbkey_order key rel.rows ≡ None
    fresh = no_row (laid_over old.lines first) c t n rel (λ l. t) key view.sound named free

    pub starts : Underway c n rel t key None (Some row) mid first []
    starts = begun old mid key None (Some row) (Some image) c n rel t first view named fresh stay put (line_sound c n rel t first view named target area)

    for_new : taken_in (is_key_taken rel key (Some row)) r.indexes.now ≡ taken_by_another rel r.indexes.now nowhere row
    for_new = λ i. taken_in (λ positions. sym (nowhere_is_other (laid_over old.lines first) c t n rel positions row key view.sound named fresh) i) r.indexes.now

  pub row_stored : (knows_over old).room (room_at r.stored.area r.class 0) ≡ Some key → ChangesPairs mid new r.indexes.now None (Some row) key (Ok tt) → StoresRow old new r row (Ok key)
  row_stored is_room changes = λ c n rel t first view named target.
      let done = changes c n rel t first (starts is_room c n rel t first view named target) target.indexes in
      record {
        behind = record { stands = done.stands; sound = done.sound };
        short = short_here c n rel r row false target short;
        untaken = sym (for_new is_room c n rel t first view named target) ∙ done.untaken;
        room = is_room;
        area = area is_room c n rel t first view named target;
        unused = unused is_room c n rel t first view named target;
        free = free is_room c n rel t first view named target;
      }

  pub storing_stops : (stop : RowStop) → (knows_over old).room (room_at r.stored.area r.class 0) ≡ Some key → ChangesPairs mid new r.indexes.now None (Some row) key (Err stop) → StoresRow old new r row (Err stop)
  storing_stops stop is_room changes = λ c n rel t first view named target.
      let stopped = subst (λ (h : Held). Stops (Lacks (knows h)) (λ at. ⊥) (IsRefused h first rel key (Some row) r.indexes.now) stop) base (changes c n rel t first (starts is_room c n rel t first view named target) target.indexes) in
      stops_for (Lacks (knows old.base)) (λ at. ⊥) (IsRefused old.base first rel key (Some row) r.indexes.now) (IsNotStored old.base first rel r row)
      (pair_refused old.base first rel key row r.indexes.now (taken_by_another rel r.indexes.now nowhere row) (short_here c n rel r row false target short) (for_new is_room c n rel t first view named target)
      (IsNotStored old.base first rel r row) (λ at refusal said. said)) stop stopped

  -- ---- a row changed

  pub row_changed : (was : Row) (result : Result (Unit {0}) RowStop) → ChangesPairs mid new r.indexes.now (Some was) (Some row) key result → ChangesRow old new r key was row result
  row_changed was (Ok u) changes = λ c n rel t first view named target found area.
      let done = changes c n rel t first (begun old mid key (Some was) (Some row) (Some image) c n rel t first view named found stay put (line_sound c n rel t first view named target area)) target.indexes in
      record {
        behind = record { stands = done.stands; sound = done.sound };
        short = short_here c n rel r row false target short;
        untaken = done.untaken;
      }
  row_changed was (Err stop) changes = λ c n rel t first view named target found area.
      let stopped = subst (λ (h : Held). Stops (Lacks (knows h)) (λ at. ⊥) (IsRefused h first rel key (Some row) r.indexes.now) stop) base
      (changes c n rel t first (begun old mid key (Some was) (Some row) (Some image) c n rel t first view named found stay put (line_sound c n rel t first view named target area)) target.indexes) in
      stops_for (Lacks (knows old.base)) (λ at. ⊥) (IsRefused old.base first rel key (Some row) r.indexes.now) (IsNotChanged old.base first rel r key row)
      (pair_refused old.base first rel key row r.indexes.now (taken_by_another rel r.indexes.now key row) (short_here c n rel r row false target short) refl (IsNotChanged old.base first rel r key row) (λ at refusal said. said)) stop stopped

-- ---- a row erased

none_is_taken : (xs : List IndexLine) (name : Name) → taken_in (λ positions. false) xs ≡ Some name → ⊥
none_is_taken [] name is = none-some name is
none_is_taken (x ∷ xs) name is = none_is_taken xs name (elim x.unique as (λ b. cond (b && false) (Some x.name) (taken_in (λ positions. false) xs) ≡ Some name → taken_in (λ positions. false) xs ≡ Some name) [ true ↦ λ h. h | false ↦ λ h. h ] is)

never_refused : (base : Held) (start : Lines) (rel : Rows) (key : Dbkey) (xs : List IndexLine) (e : RowRefusal) → IsRefused base start rel key None xs e → ⊥
never_refused base start rel key xs (NoImage reason) said = said
never_refused base start rel key xs NoRoom said = said
never_refused base start rel key xs (Pair at Duplicate) said = none_is_taken xs (said.0).name said.2
never_refused base start rel key xs (Pair at LongKey) said = said.2
never_refused base start rel key xs (Pair at Full) said = said.2

pub row_erased : (old mid new : Over) (xs : List IndexLine) (was : Row) (key : Dbkey) (result : Result (Unit {0}) RowStop) → Stays old mid → Laid old mid key None → mid.base ≡ old.base → ChangesPairs mid new xs (Some was) None key result → ErasesRow old new xs key was result
row_erased old mid new xs was key (Ok u) stay put base changes = λ c n rel t first view named own found area.
    let done = changes c n rel t first (begun old mid key (Some was) None None c n rel t first view named found stay put (line_erased (laid_over old.lines first) c t n rel key view.sound named area)) own in
    record { stands = done.stands; sound = done.sound }
row_erased old mid new xs was key (Err stop) stay put base changes = λ c n rel t first view named own found area.
    let stopped = subst (λ (h : Held). Stops (Lacks (knows h)) (λ at. ⊥) (IsRefused h first rel key None xs) stop) base
    (changes c n rel t first (begun old mid key (Some was) None None c n rel t first view named found stay put (line_erased (laid_over old.lines first) c t n rel key view.sound named area)) own) in
    stops_for (Lacks (knows old.base)) (λ at. ⊥) (IsRefused old.base first rel key None xs) (λ refusal. ⊥) (never_refused old.base first rel key xs) stop stopped

-- ---- no room

pub no_room : (old new : Over) (r : TargetRelation) (row : Row) (class : ℕ) (stop : RowStop) → class ≡ r.class → TellsNoRoom old.base r.stored.area class stop → StoresRow old new r row (Err stop)
no_room old new r row class (Missing need) same tells = λ c n rel t first view named target. tells.0
no_room old new r row class (Own refusal) same tells = λ c n rel t first view named target.
    subst (IsNotStored old.base first rel r row) (sym tells.0)
    (λ nth below. subst (λ (a : ℕ). AreRoomsKnown (knows old.base) a r.class all_rooms) (sym target.area) (subst (λ (k : ℕ). AreRoomsKnown (knows old.base) r.stored.area k all_rooms) same tells.1) nth below)
no_room old new r row class (Bad q) same tells = absurd tells
no_room old new r row class NoMemory same tells = absurd tells
