-- The pair of a row in one index, by the rows of the relation.
use Rattle.std.proofs.Common.{◌≡◌, ℕ, Bool, true, false, cond, not, ◌&&◌, List, [], ◌∷◌, ◌++◌, Option, Some, None, refl, sym, ap, subst, ◌∙◌}
use Rattle.std.specs.Prelude.{Result, Ok, Err, ◌||◌}
use Rattle.std.specs.List.{AllByRecursion, list_any}
use Rattle.std.specs.Ordering.{is_eq, ordering_reverse}
use Rattle.std.specs.declared.cmp.Ordering.{Ordering}
use Rattle.std.specs.declared.cmp.Ordering.TheVariants.{Less, Equal, Greater}
use Rattle.std.specs.FinMap.Entries.{find, put}
use Rattle.std.proofs.lemmas.Option.{none-some, same_Some}
use Rattle.rdb_types.specs.declared.keys.Dbkey.{Dbkey}
use Rattle.rdb_types.specs.Order.{dbkey_order, row_order}
use Rattle.rdb_types.specs.OrderLaws.{row_total, same_row}
use Rattle.rdo_ast.specs.Tree.{Name}
use Rattle.rdb_meaning.specs.declared.tables.Relation.{Relation as Rows}
use Rattle.rdb_meaning.specs.declared.tables.Tables.{Tables}
use Rattle.rdb_meaning.specs.Contents.{Row, key_of, with_rows, is_used, is_taken, has_key as rows_have}
use Rattle.rdb_meaning.specs.Defining.{keys_repeat}
use Rattle.line_view.specs.declared.writes.Write.{Write}
use Rattle.line_view.specs.Knowledge.{Lines}
use Rattle.line_view.specs.Held.{Held, knows}
use Rattle.line_view.specs.Stops.{Stops, Lacks}
use Rattle.line_view.specs.Writes.{laid_all}
use Rattle.line_view.proofs.Written.{laid_in_turn}
use Rattle.catalog_lines.specs.declared.line.IndexLine.{IndexLine}
use Rattle.sound_changes.specs.catalog.declared.reading.Catalog.{Catalog}
use Rattle.sorted_index_laws.specs.Tree.{pairs, IsIndex}
use Rattle.sorted_index_laws.specs.Changes.{pair_of, with_pair, without_pair, has_key, Leaves}
use Rattle.sorted_index_laws.specs.Insertion.{IsNew}
use Rattle.sorted_index_laws.proofs.Ordered.{all_append}
use Rattle.relation_rows.specs.Indexed.{pairs_of}
use Rattle.sound_changes.specs.sound_lines.Sound.{IsSoundIndex}
use Rattle.sound_changes.specs.Standing.{IsSoundFor, tables_for}
use Rattle.sound_changes.proofs.PairPut.{new_pair, index_put, index_waits}
use Rattle.sound_changes.proofs.PairsOut.{left, pairs_out, are_at, none_left}
use Rattle.sound_changes.proofs.PairMoved.{index_without, index_moved, index_kept, index_changed}
use Rattle.sound_changes.proofs.Given.{taken_by_others, all_others}
use Rattle.sound_changes.specs.InTurn.{IsIndexOn}
use Rattle.statement_view.specs.Over.{Over, Stands, laid_over}
use Rattle.row_writes.specs.Stop.{PairStop}
use Rattle.row_writes.specs.Pairs.{Turned, TakesPair, PairAdded, AddsPair, CanNotGrow, PairRefused, IsLongKey, has_taken}
use Rattle.row_writes.specs.Changes.{Underway, rows_to, tables_to, is_key_taken, RefusesPair, PairChanged, ChangesPair}
use Rattle.row_writes.proofs.Stopping.{stops_for, refused_for}

-- ---- a row whose key stays has it alone

turned : (a b : Row) → is_eq (row_order a b) ≡ is_eq (row_order b a)
turned a b = ap is_eq (row_total.antisymm a b) ∙ mirrored (row_order b a)
  where
    mirrored : (r : Ordering) → is_eq (ordering_reverse r) ≡ is_eq r
    mirrored Less = refl
    mirrored Equal = refl
    mirrored Greater = refl

neither : (a b : Bool) → (a || b) ≡ false → (a ≡ false) × (b ≡ false)
neither true b h = let bad : ⊥ = cc in absurd bad
neither false b h = (refl, h)

equal : (r : Ordering) → is_eq r ≡ true → r ≡ Equal
equal Less is = let bad : ⊥ = cc in absurd bad
equal Equal is = refl
equal Greater is = let bad : ⊥ = cc in absurd bad

pub same_key : (positions : List ℕ) (was row : Row) → is_eq (row_order (key_of positions was) (key_of positions row)) ≡ true → key_of positions was ≡ key_of positions row
same_key positions was row ties = same_row (key_of positions was) (key_of positions row) (equal _ ties)

-- where no row has the key, no other has
none_taken : (positions : List ℕ) (row : Row) (own : Dbkey) (rows : List (Dbkey × Row)) → rows_have positions row rows ≡ false → is_taken positions row own rows ≡ false
none_taken positions row own [] none = refl
none_taken positions row own (e ∷ es) none =
    let parts = neither (is_eq (row_order (key_of positions row) (key_of positions e.1))) (rows_have positions row es) none in
    elim (not (is_eq (dbkey_order own e.0))) as (λ b. ((b && is_eq (row_order (key_of positions row) (key_of positions e.1))) || is_taken positions row own es) ≡ false) [
      | true ↦ ap (λ b. b || is_taken positions row own es) parts.0 ∙ none_taken positions row own es parts.1
      | false ↦ none_taken positions row own es parts.1
    ]

-- a row that is there has another key than those that no row has
found_apart : (positions : List ℕ) (row was : Row) (own : Dbkey) (rows : List (Dbkey × Row)) → rows_have positions row rows ≡ false → find dbkey_order own rows ≡ Some was → is_eq (row_order (key_of positions row) (key_of positions was)) ≡ false
found_apart positions row was own [] none found = absurd (none-some was found)
found_apart positions row was own (e ∷ es) none found =
    let parts = neither (is_eq (row_order (key_of positions row) (key_of positions e.1))) (rows_have positions row es) none in
    elim (is_eq (dbkey_order own e.0)) as (λ b. cond b (Some e.1) (find dbkey_order own es) ≡ Some was → is_eq (row_order (key_of positions row) (key_of positions was)) ≡ false) [
      | true ↦ λ h. subst (λ (r : Row). is_eq (row_order (key_of positions row) (key_of positions r)) ≡ false) (same_Some e.1 was h) parts.0
      | false ↦ λ h. found_apart positions row was own es parts.1 h
    ] found

key_stays : (positions : List ℕ) (was row : Row) (own : Dbkey) (rows : List (Dbkey × Row)) → keys_repeat positions rows ≡ false → find dbkey_order own rows ≡ Some was → key_of positions was ≡ key_of positions row → is_taken positions row own rows ≡ false
key_stays positions was row own [] once found same = refl
key_stays positions was row own (e ∷ es) once found same =
    let parts = neither (rows_have positions e.1 es) (keys_repeat positions es) once in
    elim (is_eq (dbkey_order own e.0)) as (λ b. cond b (Some e.1) (find dbkey_order own es) ≡ Some was → ((not b && is_eq (row_order (key_of positions row) (key_of positions e.1))) || is_taken positions row own es) ≡ false) [
      | true ↦ λ h.
          let key : key_of positions e.1 ≡ key_of positions row = ap (key_of positions) (same_Some e.1 was h) ∙ same in
          none_taken positions row own es (subst (λ (k : Row). list_any (λ (f : Dbkey × Row). is_eq (row_order k (key_of positions f.1))) es ≡ false) key parts.0)
      | false ↦ λ h.
          let apart : is_eq (row_order (key_of positions row) (key_of positions e.1)) ≡ false =
          turned (key_of positions row) (key_of positions e.1) ∙ ap (λ (k : Row). is_eq (row_order (key_of positions e.1) k)) (sym same) ∙ found_apart positions e.1 was own es parts.0 h in
          ap (λ b. b || is_taken positions row own es) apart ∙ key_stays positions was row own es parts.1 h same
    ] found

unless : (unique taken : Bool) → (unique ≡ true → taken ≡ false) → (unique && taken) ≡ false
unless true taken free = free refl
unless false taken free = refl

-- ---- the index of a relation whose line is written

module _ (old : Over) (x : IndexLine) (was to : Option Row) (key : Dbkey) (c : Catalog) (n : Name) (rel : Rows) (t : Tables) (first : Lines) (done : List ℕ) (st : Underway c n rel t key was to old first done) (own : IsIndexOn c rel.area x) (unused : is_used x.area done ≡ false) where
  pub waits : IsSoundIndex (laid_over old.lines first) x (Some rel)
  waits = index_waits (laid_over old.lines first) c done t (tables_to n key to t) rel own.place own.line x st.sound st.own own.stands own.is own.on unused

  -- the shared step: behind these writes the index is that of the rows behind
  pub index_goes : (new : Over) (writes : List Write) → Stands new first → laid_over new.lines first ≡ laid_all writes (laid_over old.lines first) → AllByRecursion (λ (w : Write). (w.key).area ≡ x.root.area) writes →
      IsSoundIndex (laid_all writes (laid_over old.lines first)) x (Some (with_rows (rows_to key to rel.rows) rel)) → Underway c n rel t key was to new first (x.area ∷ done)
  index_goes new writes stands laid within index = record {
    stands = stands;
    sound = subst (λ (l : Lines). IsSoundFor l c (tables_to n key to t) (tables_for rel.area (x.area ∷ done) t (tables_to n key to t))) (sym laid)
        (index_changed (laid_over old.lines first) c done t n rel (rows_to key to) own.place own.line x writes st.sound st.named own.stands own.is own.on within index);
    named = st.named;
    own = st.own;
    sorted = st.sorted;
    found = st.found;
  }

-- ---- a row stored

module _ (old new : Over) (x : IndexLine) (row : Row) (key : Dbkey) (c : Catalog) (n : Name) (rel : Rows) (t : Tables) (first : Lines) (done : List ℕ) (st : Underway c n rel t key None (Some row) old first done) (own : IsIndexOn c rel.area x) (unused : is_used x.area done ≡ false) where
  pub index : IsSoundIndex (laid_over old.lines first) x (Some rel)
  index = waits old x None (Some row) key c n rel t first done st own unused

  -- the index has the key where another row has
  stored_taken : has_taken x row (pairs index.is.level index.is.tree) ≡ (x.unique && is_taken x.fields row key rel.rows)
  stored_taken = ap (λ b. x.unique && b) (ap (has_key (key_of x.fields row)) index.is.holds ∙ sym (taken_by_others x.fields row key rel.rows ∙ ap (λ r. has_key (key_of x.fields row) (pairs_of x.fields r)) (all_others key rel.rows st.found)))

  stored_here : (result : Result (Unit {0}) PairStop) → PairAdded old new x row key first index.is.level index.is.tree result → PairChanged c n rel t first done old new x None (Some row) key result
  stored_here (Ok u) added = (
    index_goes old x None (Some row) key c n rel t first done st own unused new added.0.writes added.0.stands added.0.laid added.0.leaves.in_area
        (index_put (laid_over old.lines first) x rel key row added.0.writes index st.found added.0.leaves added.1),
    sym stored_taken ∙ added.1,
  )
  stored_here (Err stop) added =
      let Taken = has_taken x row (pairs index.is.level index.is.tree) ≡ true in
      let Others = (x.unique && is_taken x.fields row key rel.rows) ≡ true in
      stops_for (Lacks (knows old.base)) (λ at. ⊥) (PairRefused Taken (IsLongKey x row) (CanNotGrow old.base first x)) (PairRefused Others (IsLongKey x row) (CanNotGrow old.base first x))
      (refused_for Taken Others (IsLongKey x row) (CanNotGrow old.base first x) (λ taken. sym stored_taken ∙ taken)) stop added

  pub fresh : IsNew (pair_of (key_of x.fields row) key) (pairs index.is.level index.is.tree)
  fresh = subst (IsNew (pair_of (key_of x.fields row) key)) (sym index.is.holds) (new_pair x.fields (key_of x.fields row) key rel.rows st.found)

  stored_so : (result : Result (Unit {0}) PairStop) → AddsPair old new x row key result → PairChanged c n rel t first done old new x None (Some row) key result
  stored_so result adds = stored_here result (adds first index.is.level index.is.tree st.stands index.is.is fresh)

pub stored : (old new : Over) (x : IndexLine) (row : Row) (key : Dbkey) (result : Result (Unit {0}) PairStop) → AddsPair old new x row key result → ChangesPair old new x None (Some row) key result
stored old new x row key result adds = λ c n rel t first done st own unused. stored_so old new x row key c n rel t first done st own unused result adds

-- ---- a row erased

-- taking the pair out stops as the change does
pub taking_fails : (old new : Over) (x : IndexLine) (was : Row) (to : Option Row) (key : Dbkey) (stop : PairStop) → TakesPair old new x was key (Err stop) → ChangesPair old new x (Some was) to key (Err stop)
taking_fails old new x was to key stop takes = λ c n rel t first done st own unused.
    let index = waits old x (Some was) to key c n rel t first done st own unused in
    stops_for (Lacks (knows old.base)) (λ at. ⊥) (λ refusal. ⊥) (RefusesPair old.base first to x ((x.unique && is_key_taken rel key to x.fields) ≡ true)) (λ r no. absurd no) stop
    (takes first index.is.level index.is.tree st.stands index.is.is)

pub erased : (old new : Over) (x : IndexLine) (was : Row) (key : Dbkey) (result : Result (Unit {0}) PairStop) → TakesPair old new x was key result → ChangesPair old new x (Some was) None key result
erased old new x was key (Ok u) takes = λ c n rel t first done st own unused.
    let index = waits old x (Some was) None key c n rel t first done st own unused in
    let gone = takes first index.is.level index.is.tree st.stands index.is.is in (
      index_goes old x (Some was) None key c n rel t first done st own unused new gone.writes gone.stands gone.laid gone.leaves.in_area
          (index_without (laid_over old.lines first) x rel key was gone.writes index st.sorted st.found gone.leaves),
      unless x.unique false (λ unique. refl),
    )
erased old new x was key (Err stop) takes = taking_fails old new x was None key stop takes

-- ---- a row changed

pub kept : (old : Over) (x : IndexLine) (was row : Row) (key : Dbkey) → key_of x.fields was ≡ key_of x.fields row → ChangesPair old old x (Some was) (Some row) key (Ok tt)
kept old x was row key same = λ c n rel t first done st own unused.
    let index = waits old x (Some was) (Some row) key c n rel t first done st own unused in (
      index_goes old x (Some was) (Some row) key c n rel t first done st own unused old [] st.stands refl tt
          (index_kept (laid_over old.lines first) x rel key was row index st.sorted st.found same),
      unless x.unique (is_taken x.fields row key rel.rows) (λ unique. key_stays x.fields was row key rel.rows (index.unique unique) st.found same),
    )

module _ (old mid new : Over) (x : IndexLine) (was row : Row) (key : Dbkey) (c : Catalog) (n : Name) (rel : Rows) (t : Tables) (first : Lines) (done : List ℕ) (st : Underway c n rel t key (Some was) (Some row) old first done) (own : IsIndexOn c rel.area x) (unused : is_used x.area done ≡ false) (takes : TakesPair old mid x was key (Ok tt)) (base : mid.base ≡ old.base) where
  pub held : IsSoundIndex (laid_over old.lines first) x (Some rel)
  held = waits old x (Some was) (Some row) key c n rel t first done st own unused

  pub gone : Turned old mid first x.root held.is.level held.is.tree (without_pair (pair_of (key_of x.fields was) key) (pairs held.is.level held.is.tree))
  gone = takes first held.is.level held.is.tree st.stands held.is.is

  pub left_index : IsIndex (laid_over mid.lines first) x.root gone.leaves.level gone.leaves.tree
  left_index = subst (λ (l : Lines). IsIndex l x.root gone.leaves.level gone.leaves.tree) (sym gone.laid) gone.leaves.index

  -- the pairs that are left are those of the other rows
  left_are : pairs gone.leaves.level gone.leaves.tree ≡ pairs_of x.fields (left key rel.rows)
  left_are = gone.leaves.pairs_are ∙ ap (without_pair (pair_of (key_of x.fields was) key)) held.is.holds ∙ pairs_out x.fields key was rel.rows (are_at key was rel.rows st.sorted st.found)

  pub left_fresh : IsNew (pair_of (key_of x.fields row) key) (pairs gone.leaves.level gone.leaves.tree)
  left_fresh = subst (IsNew (pair_of (key_of x.fields row) key)) (sym left_are) (new_pair x.fields (key_of x.fields row) key (left key rel.rows) (none_left key rel.rows))

  left_taken : has_taken x row (pairs gone.leaves.level gone.leaves.tree) ≡ (x.unique && is_taken x.fields row key rel.rows)
  left_taken = ap (λ b. x.unique && b) (ap (has_key (key_of x.fields row)) left_are ∙ sym (taken_by_others x.fields row key rel.rows))

  moved_here : (result : Result (Unit {0}) PairStop) → PairAdded mid new x row key first gone.leaves.level gone.leaves.tree result → PairChanged c n rel t first done old new x (Some was) (Some row) key result
  moved_here (Ok u) added = (
    index_goes old x (Some was) (Some row) key c n rel t first done st own unused new (gone.writes ++ added.0.writes) added.0.stands
        (added.0.laid ∙ ap (λ (l : Lines). laid_all added.0.writes l) gone.laid ∙ sym (laid_in_turn gone.writes added.0.writes (laid_over old.lines first)))
        (all_append (λ (w : Write). (w.key).area ≡ x.root.area) gone.writes added.0.writes gone.leaves.in_area added.0.leaves.in_area)
        (subst (λ (l : Lines). IsSoundIndex l x (Some (with_rows (put dbkey_order key row rel.rows) rel))) (sym (laid_in_turn gone.writes added.0.writes (laid_over old.lines first)))
        (index_moved (laid_over old.lines first) x rel key was row gone.writes added.0.writes held st.sorted st.found gone.leaves
        (subst (λ (l : Lines). Leaves l x.root gone.leaves.level gone.leaves.tree added.0.writes (with_pair (pair_of (key_of x.fields row) key) (pairs gone.leaves.level gone.leaves.tree))) gone.laid added.0.leaves)
        added.1)),
    sym left_taken ∙ added.1,
  )
  moved_here (Err stop) added =
      let Taken = has_taken x row (pairs gone.leaves.level gone.leaves.tree) ≡ true in
      let Others = (x.unique && is_taken x.fields row key rel.rows) ≡ true in
      stops_for (Lacks (knows old.base)) (λ at. ⊥) (PairRefused Taken (IsLongKey x row) (CanNotGrow old.base first x)) (PairRefused Others (IsLongKey x row) (CanNotGrow old.base first x))
      (refused_for Taken Others (IsLongKey x row) (CanNotGrow old.base first x) (λ taken. sym left_taken ∙ taken)) stop
      (subst (λ (h : Held). Stops (Lacks (knows h)) (λ at. ⊥) (PairRefused Taken (IsLongKey x row) (CanNotGrow h first x)) stop) base added)

  moved_so : (result : Result (Unit {0}) PairStop) → AddsPair mid new x row key result → PairChanged c n rel t first done old new x (Some was) (Some row) key result
  moved_so result adds = moved_here result (adds first gone.leaves.level gone.leaves.tree gone.stands left_index left_fresh)

pub moved : (old mid new : Over) (x : IndexLine) (was row : Row) (key : Dbkey) (result : Result (Unit {0}) PairStop) → TakesPair old mid x was key (Ok tt) → mid.base ≡ old.base → AddsPair mid new x row key result → ChangesPair old new x (Some was) (Some row) key result
moved old mid new x was row key result takes base adds = λ c n rel t first done st own unused. moved_so old mid new x was row key c n rel t first done st own unused takes base result adds
