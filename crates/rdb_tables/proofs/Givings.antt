-- Which Dbkeys may be given, by what is kept of the start of the statement.
use Rattle.std.proofs.Common.{◌≡◌, Bool, true, false, not, ◌&&◌, cond, List, [], ◌∷◌, map, filter, Option, Some, None, Result, Ok, Err, refl, sym, ap, ◌∙◌}
use Rattle.std.specs.Prelude.{IfOk, is_some, ◌==◌}
use Rattle.rdb_types.specs.declared.memory.NoMemory.{NoMemory}
use Rattle.std.specs.Ordering.{is_eq}
use Rattle.std.specs.FinMap.Entries.{find, find-put, find_tied}
use Rattle.std.proofs.lemmas.Map.Lookups.{exact_bytes}
use Rattle.std.proofs.lemmas.Option.{none-some}
use Rattle.rdb_types.specs.declared.keys.Dbkey.{Dbkey}
use Rattle.rdo_ast.specs.Tree.{Name}
use Rattle.rdb_meaning.specs.declared.tables.Relation.{Relation}
use Rattle.rdb_meaning.specs.declared.tables.Tables.{Tables}
use Rattle.rdb_meaning.specs.Contents.{Row, same_name, relation_named, row_at}
use Rattle.rdb_types.specs.Order.{chars_order, dbkey_order}
use Rattle.rdb_meaning.specs.Execution.{area_of, may_be_given}
use Rattle.rdb_tables.specs.declared.undo.Change.{Change}
use Rattle.rdb_tables.specs.declared.undo.Undo.{Undo}
use Rattle.rdb_tables.specs.Rooms.{is_absent, may_take}
use Rattle.rdb_tables.specs.Undoing.{Rows, put_where, undo_row, undone, saved_as, began, start_of, beginning}
use Rattle.rdb_tables.proofs.SortedEntries.{equal}
use Rattle.rdb_tables.proofs.Beginnings.{keys_total}

-- ---- a relation at the start of the statement

found_start : (n : Name) (undo : Undo) (es : List (Name × Relation)) (r : Relation) → find chars_order n es ≡ Some r → find chars_order n (map (λ e. (e.0, start_of e.0 undo e.1)) es) ≡ Some (start_of n undo r)
found_start n undo [] r is = absurd (cc)
found_start n undo (e ∷ es) r is =
    elim (is_eq (chars_order n e.0)) as (λ b. is_eq (chars_order n e.0) ≡ b → cond b (Some e.1) (find chars_order n es) ≡ Some r → cond b (Some (start_of e.0 undo e.1)) (find chars_order n (map (λ x. (x.0, start_of x.0 undo x.1)) es)) ≡ Some (start_of n undo r)) [
      | true ↦ λ p h.
          let one : n ≡ e.0 = exact_bytes n e.0 (equal (chars_order n e.0) p) in
          let same : e.1 ≡ r = cc in
          ap (λ m. Some (start_of m undo e.1)) (sym one) ∙ ap (λ (x : Relation). Some (start_of n undo x)) same
      | false ↦ λ p h. found_start n undo es r h
    ] refl is

pub relation_start : (n : Name) (t : Tables) (undo : Undo) (r : Relation) → relation_named n t ≡ Some r → relation_named n (beginning t undo) ≡ Some (start_of n undo r)
relation_start n t undo r is = found_start n undo t.relations r is

-- ---- what isn't there now was not there before the changes

absent_without : (k q : Dbkey) (rows : Rows) → find dbkey_order k rows ≡ None → find dbkey_order k (filter (λ e. not (is_eq (dbkey_order q e.0))) rows) ≡ None
absent_without k q [] h = refl
absent_without k q (e ∷ rows) h =
    elim (is_eq (dbkey_order k e.0)) as (λ b. is_eq (dbkey_order k e.0) ≡ b → cond b (Some e.1) (find dbkey_order k rows) ≡ None → find dbkey_order k (cond (not (is_eq (dbkey_order q e.0))) (e ∷ filter (λ x. not (is_eq (dbkey_order q x.0))) rows) (filter (λ x. not (is_eq (dbkey_order q x.0))) rows)) ≡ None) [
      | true ↦ λ p h. absurd (cc)
      | false ↦ λ p h.
          let rest = absent_without k q rows h in
          elim (not (is_eq (dbkey_order q e.0))) as (λ b. find dbkey_order k (cond b (e ∷ filter (λ x. not (is_eq (dbkey_order q x.0))) rows) (filter (λ x. not (is_eq (dbkey_order q x.0))) rows)) ≡ None) [
            | true ↦ ap (λ b. cond b (Some e.1) (find dbkey_order k (filter (λ x. not (is_eq (dbkey_order q x.0))) rows))) p ∙ rest
            | false ↦ rest
          ]
    ] refl h

-- a key that ties with one that is there is there
absent_apart : (k q : Dbkey) (rows : Rows) (there : Row) → find dbkey_order k rows ≡ None → find dbkey_order q rows ≡ Some there → is_eq (dbkey_order k q) ≡ false
absent_apart k q rows there none some =
    elim (is_eq (dbkey_order k q)) as (λ b. is_eq (dbkey_order k q) ≡ b → b ≡ false) [
      | true ↦ λ p. absurd (none-some there (sym none ∙ sym (find_tied dbkey_order keys_total k q (equal (dbkey_order k q) p) rows) ∙ some))
      | false ↦ λ p. refl
    ] refl

absent_put : (k q : Dbkey) (row : Row) (rows : Rows) (now : Option Row) → find dbkey_order q rows ≡ now → find dbkey_order k rows ≡ None → find dbkey_order k (put_where now q row rows) ≡ None
absent_put k q row rows None is h = h
absent_put k q row rows (Some there) is h =
    find-put dbkey_order keys_total k q row rows ∙ ap (λ b. cond b (Some row) (find dbkey_order k rows)) (absent_apart k q rows there h is) ∙ h

absent_undo : (k q : Dbkey) (before : Option Row) (rows : Rows) → find dbkey_order k rows ≡ None → find dbkey_order k (undo_row q before rows) ≡ None
absent_undo k q (Some row) rows h = absent_put k q row rows (find dbkey_order q rows) refl h
absent_undo k q None rows h = absent_without k q rows h

pub absent_undone : (n : Name) (k : Dbkey) (cs : List Change) (rows : Rows) → find dbkey_order k rows ≡ None → find dbkey_order k (undone n cs rows) ≡ None
absent_undone n k [] rows h = h
absent_undone n k (c ∷ cs) rows h =
    let rest = absent_undone n k cs rows h in
    elim (same_name n c.relation) as (λ b. find dbkey_order k (cond b (undo_row c.key c.before (undone n cs rows)) (undone n cs rows)) ≡ None) [
      | true ↦ absent_undo k c.key c.before (undone n cs rows) rest
      | false ↦ rest
    ]

-- ---- what may be given

pub may_begin : (n : Name) (k : Dbkey) (t : Tables) (undo : Undo) (r : Relation) → relation_named n t ≡ Some r → may_be_given n k (beginning t undo) t ≡ may_take k r (saved_as n undo.saved)
may_begin n k t undo r is =
    ap (λ (o : Option Relation). (k.area == area_of o) && not (is_some (row_at k o)) && not (is_some (row_at k (relation_named n (beginning t undo))))) is
    ∙ ap (λ (o : Option Relation). (k.area == r.area) && not (is_some (find dbkey_order k r.rows)) && not (is_some (row_at k o))) (relation_start n t undo r is)
    ∙ by_saved (saved_as n undo.saved)
  where
    both : (a : Bool) (o : Option Row) (x y : Bool) → (o ≡ None → x ≡ y) → (a && not (is_some o) && x) ≡ (a && not (is_some o) && y)
    both a None x y h = ap (λ b. a && true && b) (h refl)
    both true (Some row) x y h = refl
    both false (Some row) x y h = refl

    by_saved : (o : Option Relation) → ((k.area == r.area) && not (is_some (find dbkey_order k r.rows)) && not (is_some (find dbkey_order k (began o (undone n undo.changes r.rows) r).rows))) ≡ ((k.area == r.area) && not (is_some (find dbkey_order k r.rows)) && is_absent k o)
    by_saved (Some before) = refl
    by_saved None =
        both (k.area == r.area) (find dbkey_order k r.rows) (not (is_some (find dbkey_order k (undone n undo.changes r.rows)))) true
        (λ h. ap (λ (o : Option Row). not (is_some o)) (absent_undone n k undo.changes r.rows h))

module _ (n : Name) (t : Tables) (undo : Undo) (r : Relation) (saved : Option Relation) (is : relation_named n t ≡ Some r) (same : saved ≡ saved_as n undo.saved) where
  takes : (k : Dbkey) → may_be_given n k (beginning t undo) t ≡ may_take k r saved
  takes k = may_begin n k t undo r is ∙ ap (may_take k r) (sym same)

  pub free_at_start : (res : Result Dbkey NoMemory) → IfOk res (λ k. may_take k r saved ≡ true) → IfOk res (λ k. may_be_given n k (beginning t undo) t ≡ true)
  free_at_start (Ok k) h = takes k ∙ h
  free_at_start (Err e) h = tt

  pub chosen_at_start : (res : Result Dbkey NoMemory) (choice next : Option Dbkey) → choice ≡ next → IfOk res (λ k. (c : Dbkey) → choice ≡ Some c → may_take c r saved ≡ true → k ≡ c) → IfOk res (λ k. (c : Dbkey) → next ≡ Some c → may_be_given n c (beginning t undo) t ≡ true → k ≡ c)
  chosen_at_start (Ok k) choice next e h = λ c is may. h c (e ∙ is) (sym (takes c) ∙ may)
  chosen_at_start (Err x) choice next e h = tt
