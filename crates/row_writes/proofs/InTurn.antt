-- The pairs of a row in all indexes of its relation, one after another.
use Rattle.std.proofs.Common.{◌≡◌, ℕ, ◌+◌, ◌<◌, ◌≤◌, true, cond, ◌&&◌, List, [], ◌∷◌, length, drop, get_or, Option, Some, refl, sym, ap, subst, ◌∙◌}
use Rattle.std.specs.Prelude.{Ok, Err, slice_get}
use Rattle.std.proofs.lemmas.List.{drop_more}
use Rattle.std.proofs.Math.ListN.{drop_of_length-le}
use Rattle.rdb_types.specs.declared.keys.Dbkey.{Dbkey}
use Rattle.rdo_ast.specs.Tree.{Name}
use Rattle.rdb_meaning.specs.declared.tables.Relation.{Relation as Rows}
use Rattle.rdb_meaning.specs.declared.tables.Tables.{Tables}
use Rattle.rdb_meaning.specs.Contents.{Row}
use Rattle.line_view.specs.Knowledge.{Lines}
use Rattle.line_view.specs.Held.{Held, knows}
use Rattle.line_view.specs.Stops.{Stops, Lacks}
use Rattle.catalog_lines.specs.declared.line.IndexLine.{IndexLine}
use Rattle.sound_changes.specs.catalog.declared.reading.Catalog.{Catalog}
use Rattle.sound_changes.proofs.AllDone.{all_done}
use Rattle.statement_view.specs.Over.{Over, laid_over}
use Rattle.row_writes.specs.Stop.{PairStop}
use Rattle.row_writes.specs.Target.{AreOwn, taken_in}
use Rattle.row_writes.specs.Pairs.{CanNotGrow, IsLongKey}
use Rattle.row_writes.specs.Changes.{Underway, tables_to, is_key_taken, HasRow, RefusesPair, ChangesPair, row_stop_of, IsRefused, ChangesPairs}
use Rattle.row_writes.proofs.Stopping.{row_stops, refused_for}

-- So many of the indexes are done, and the key isn't taken in them.
pub record SoFar (c : Catalog) (n : Name) (rel : Rows) (t : Tables) (first : Lines) (new : Over) (xs : List IndexLine) (i : ℕ) (was to : Option Row) (key : Dbkey) : Type 0 where
  pub done : List ℕ
  pub underway : Underway c n rel t key was to new first done
  pub own : AreOwn c rel.area done (drop i xs)
  pub untaken : taken_in (is_key_taken rel key to) (drop i xs) ≡ taken_in (is_key_taken rel key to) xs

abbrev pub ChangesSome : Over → Over → List IndexLine → ℕ → Option Row → Option Row → Dbkey → Type 0
ChangesSome old new xs i was to key = (c : Catalog) (n : Name) (rel : Rows) (t : Tables) (first : Lines) → Underway c n rel t key was to old first [] → AreOwn c rel.area [] xs → SoFar c n rel t first new xs i was to key

pub none_yet : (old : Over) (xs : List IndexLine) (was to : Option Row) (key : Dbkey) → ChangesSome old old xs 0 was to key
none_yet old xs was to key = λ c n rel t first st own. record { done = []; underway = st; own = own; untaken = refl }

module _ (old mid new : Over) (xs : List IndexLine) (i : ℕ) (x : IndexLine) (was to : Option Row) (key : Dbkey) (inside : i < length xs) (is : x ≡ get_or xs i x) (some : ChangesSome old mid xs i was to key) where
  pub split : drop i xs ≡ x ∷ drop (i + 1) xs
  split = drop_more xs i x inside ∙ ap (λ y. y ∷ drop (i + 1) xs) (sym is)

  -- the key is looked for in this index, and then in those behind it
  next_taken : (c : Catalog) (n : Name) (rel : Rows) (t : Tables) (first : Lines) → SoFar c n rel t first mid xs i was to key →
      taken_in (is_key_taken rel key to) xs ≡ cond (x.unique && is_key_taken rel key to x.fields) (Some x.name) (taken_in (is_key_taken rel key to) (drop (i + 1) xs))
  next_taken c n rel t first so = sym so.untaken ∙ ap (taken_in (is_key_taken rel key to)) split

  pub one_more : ChangesPair mid new x was to key (Ok tt) → ChangesSome old new xs (i + 1) was to key
  one_more changes = λ c n rel t first st own.
      let so = some c n rel t first st own in
      let mine = subst (AreOwn c rel.area so.done) split so.own in
      let changed = changes c n rel t first so.done so.underway mine.0 mine.1 in
      record {
        done = x.area ∷ so.done;
        underway = changed.0;
        own = mine.2;
        untaken = sym (next_taken c n rel t first so ∙ ap (λ b. cond b (Some x.name) (taken_in (is_key_taken rel key to) (drop (i + 1) xs))) changed.1);
      }

  pub one_stops : (stop : PairStop) → slice_get xs i ≡ Some x → mid.base ≡ old.base → ChangesPair mid new x was to key (Err stop) → ChangesPairs old new xs was to key (Err (row_stop_of i stop))
  one_stops stop at base changes = λ c n rel t first st own.
      let so = some c n rel t first st own in
      let mine = subst (AreOwn c rel.area so.done) split so.own in
      let Taken = (x.unique && is_key_taken rel key to x.fields) ≡ true in
      let stopped = subst (λ (h : Held). Stops (Lacks (knows h)) (λ at. ⊥) (RefusesPair h first to x Taken) stop) base (changes c n rel t first so.done so.underway mine.0 mine.1) in
      row_stops (Lacks (knows old.base)) (λ at. ⊥) (RefusesPair old.base first to x Taken) (IsRefused old.base first rel key to xs) i
      (λ r said. (
        x,
        at,
        refused_for Taken (taken_in (is_key_taken rel key to) xs ≡ Some x.name) (HasRow to (IsLongKey x)) (HasRow to (λ row. CanNotGrow old.base first x))
            (λ taken. next_taken c n rel t first so ∙ ap (λ b. cond b (Some x.name) (taken_in (is_key_taken rel key to) (drop (i + 1) xs))) taken) r said,
      )) stop stopped

pub all_changed : (old new : Over) (xs : List IndexLine) (i : ℕ) (was to : Option Row) (key : Dbkey) → length xs ≤ i → ChangesSome old new xs i was to key → ChangesPairs old new xs was to key (Ok tt)
all_changed old new xs i was to key short some = λ c n rel t first st own.
    let so = some c n rel t first st own in
    let none : drop i xs ≡ [] = drop_of_length-le xs short in
    record {
      stands = so.underway.stands;
      sound = all_done (laid_over new.lines first) c rel.area so.done t (tables_to n key to t) so.underway.sound (subst (AreOwn c rel.area so.done) none so.own);
      untaken = sym so.untaken ∙ ap (taken_in (is_key_taken rel key to)) none;
    }
