-- What the start of a statement is after a row is written or erased, and how it is brought back.
use Rattle.std.proofs.Common.{◌≡◌, true, false, not, cond, List, [], ◌∷◌, ◌++◌, map, filter, Option, Some, None, Result, Ok, Err, refl, sym, ap, ◌∙◌, take, ℕ, ◌+◌, ◌<◌, length}
use Rattle.std.specs.Prelude.{is_some, IsSome, IsNone, OnSome, OnOk, OnErr, slice_index_or}
use Rattle.rdb_types.specs.declared.memory.NoMemory.{NoMemory}
use Rattle.std.specs.Ordering.{is_eq}
use Rattle.std.specs.FinMap.Entries.{find, put, is_sorted}
use Rattle.std.proofs.lemmas.List.{take_more}
use Rattle.rdb_types.specs.declared.keys.Dbkey.{Dbkey}
use Rattle.rdo_ast.specs.Tree.{Name}
use Rattle.rdb_meaning.specs.declared.tables.Relation.{Relation}
use Rattle.rdb_meaning.specs.declared.tables.Tables.{Tables}
use Rattle.rdb_meaning.specs.Contents.{Row, same_name, with_rows, relation_named, row_at, change_rows, with_row, without_row}
use Rattle.rdb_types.specs.Order.{chars_order, dbkey_order}
use Rattle.rdb_tables.specs.declared.undo.Change.{Change}
use Rattle.rdb_tables.specs.declared.undo.Saved.{Saved}
use Rattle.rdb_tables.specs.declared.undo.Undo.{Undo}
use Rattle.rdb_tables.specs.Undoing.{Rows, undo_row, undo_in, undone, saved_as, began, start_of, beginning, logged, IsInOrder}
use Rattle.rdb_tables.proofs.Beginnings.{beginning_put, beginning_none, beginning_changed, beginning_same, off_change, on_change, saved_push, or_saved, undone_push, undo_put, undo_unwritten, same_itself}

-- ---- a row is written

module _ (n : Name) (k : Dbkey) (t : Tables) (undo : Undo) (ordered : IsInOrder n t) where
  abbrev before : Option Row
  before = row_at k (relation_named n t)

  abbrev pushed : Undo
  pushed = record undo { changes = undo.changes ++ record { relation = n; key = k; before = before } ∷ [] }

  -- rows that come back by what was logged
  on_pushed : (f : Rows → Rows) → saved_as n undo.saved ≡ None → (x : Relation) → relation_named n t ≡ Some x → undo_row k (find dbkey_order k x.rows) (f x.rows) ≡ x.rows → start_of n pushed (with_rows (f x.rows) x) ≡ start_of n undo x
  on_pushed f free x is back =
      on_change n k before undo (with_rows (f x.rows) x)
      ∙ ap (λ (o : Option Relation). began o (undone n undo.changes (undo_row k before (f x.rows))) (with_rows (f x.rows) x)) free
      ∙ ap (λ (o : Option Relation). with_rows (undone n undo.changes (undo_row k (row_at k o) (f x.rows))) x) is
      ∙ ap (λ (rows : Rows). with_rows (undone n undo.changes rows) x) back
      ∙ ap (λ (o : Option Relation). began o (undone n undo.changes x.rows) x) (sym free)

  pub write_kept : (row : Row) → beginning (with_row n k row t) (logged n k before undo) ≡ beginning t undo
  write_kept row =
      elim (saved_as n undo.saved) as (λ o. saved_as n undo.saved ≡ o → beginning (with_row n k row t) (cond (is_some o) undo pushed) ≡ beginning t undo) [
        | Some r ↦ λ p. beginning_changed n t undo undo ordered.relations (λ m r h. refl) (put dbkey_order k row)
            (λ x is. ap (λ (o : Option Relation). began o (undone n undo.changes (put dbkey_order k row x.rows)) (with_rows (put dbkey_order k row x.rows) x)) p ∙ ap (λ (o : Option Relation). began o (undone n undo.changes x.rows) x) (sym p))
        | None ↦ λ p. beginning_changed n t undo pushed ordered.relations (λ m r h. off_change n m k before undo r h) (put dbkey_order k row)
            (λ x is. on_pushed (put dbkey_order k row) p x is (undo_put k row x.rows (ordered.rows x is)))
      ] refl

  pub unwritten_kept : beginning t (logged n k before undo) ≡ beginning t undo
  unwritten_kept =
      elim (saved_as n undo.saved) as (λ o. saved_as n undo.saved ≡ o → beginning t (cond (is_some o) undo pushed) ≡ beginning t undo) [
        | Some r ↦ λ p. refl
        | None ↦ λ p. beginning_same n t undo pushed ordered.relations (λ m r h. off_change n m k before undo r h)
            (λ x is. on_pushed (λ rows. rows) p x is (undo_unwritten k x.rows (ordered.rows x is)))
      ] refl

  -- whether the row could be written or not
  pub either_kept : (res : Result (Unit {0}) NoMemory) (row : Row) (t' : Tables) (undo' : Undo) → undo' ≡ logged n k before undo → OnOk res (t' ≡ with_row n k row t) → OnErr res (t' ≡ t) → beginning t' undo' ≡ beginning t undo
  either_kept (Ok _) row t' undo' is ok err = ap (λ (u : Undo). beginning t' u) is ∙ ap (λ (x : Tables). beginning x (logged n k before undo)) ok ∙ write_kept row
  either_kept (Err e) row t' undo' is ok err = ap (λ (u : Undo). beginning t' u) is ∙ ap (λ (x : Tables). beginning x (logged n k before undo)) err ∙ unwritten_kept

-- ---- a relation is saved, and a row erased

pub save_kept : (n : Name) (t : Tables) (undo : Undo) (x before : Relation) (ss' : List Saved) → is_sorted chars_order t.relations ≡ true → relation_named n t ≡ Some x → is_some (saved_as n undo.saved) ≡ false → before ≡ with_rows (undone n undo.changes x.rows) x → ss' ≡ undo.saved ++ record { relation = n; before = before } ∷ [] → beginning t (record undo { saved = ss' }) ≡ beginning t undo
save_kept n t undo x before ss' sorted is unsaved made added =
    let free : saved_as n undo.saved ≡ None = nothing (saved_as n undo.saved) unsaved in
    let s : Saved = record { relation = n; before = before } in
    let undo' : Undo = record undo { saved = undo.saved ++ s ∷ [] } in
    ap (λ (l : List Saved). beginning t (record undo { saved = l })) added
    ∙ beginning_same n t undo undo' sorted
    (λ m r h. ap (λ (o : Option Relation). began o (undone m undo.changes r.rows) r)
    (saved_push m undo.saved s ∙ ap (λ b. or_saved (saved_as m undo.saved) (cond b (Some before) None)) h ∙ or_none (saved_as m undo.saved)))
    (λ y is'.
    let same : x ≡ y = one x y (sym is ∙ is') in
    ap (λ (o : Option Relation). began o (undone n undo.changes y.rows) y)
    (saved_push n undo.saved s ∙ ap (λ (o : Option Relation). or_saved o (cond (same_name n n) (Some before) None)) free ∙ ap (λ b. cond b (Some before) None) (same_itself n))
    ∙ made ∙ ap (λ (z : Relation). with_rows (undone n undo.changes z.rows) z) same
    ∙ ap (λ (o : Option Relation). began o (undone n undo.changes y.rows) y) (sym free))
  where
    or_none : (o : Option Relation) → or_saved o None ≡ o
    or_none (Some r) = refl
    or_none None = refl

    one : (x y : Relation) → Some x ≡ Some y → x ≡ y
    one x y e = cc

    nothing : (o : Option Relation) → is_some o ≡ false → o ≡ None
    nothing (Some r) e = absurd (cc)
    nothing None e = refl

pub is_saved : (n : Name) (ss ss' : List Saved) (before : Relation) → ss' ≡ ss ++ record { relation = n; before = before } ∷ [] → IsSome (saved_as n ss')
is_saved n ss ss' before e =
    ap (λ (l : List Saved). is_some (saved_as n l)) e ∙ ap is_some (saved_push n ss (record { relation = n; before = before }))
    ∙ ap (λ b. is_some (or_saved (saved_as n ss) (cond b (Some before) None))) (same_itself n) ∙ or_some (saved_as n ss)
  where
    or_some : (o : Option Relation) → is_some (or_saved o (Some before)) ≡ true
    or_some (Some r) = refl
    or_some None = refl

pub erase_kept : (n : Name) (k : Dbkey) (t : Tables) (undo : Undo) → is_sorted chars_order t.relations ≡ true → (IsSome (relation_named n t) → IsSome (saved_as n undo.saved)) → beginning (without_row n k t) undo ≡ beginning t undo
erase_kept n k t undo sorted saved =
    beginning_changed n t undo undo sorted (λ m r h. refl) (filter (λ e. not (is_eq (dbkey_order k e.0))))
    (λ x is. whole (saved_as n undo.saved) (undone n undo.changes (filter (λ e. not (is_eq (dbkey_order k e.0))) x.rows)) (undone n undo.changes x.rows) (with_rows (filter (λ e. not (is_eq (dbkey_order k e.0))) x.rows) x) x (saved (ap is_some is)))
  where
    whole : (o : Option Relation) (rows rows' : Rows) (r r' : Relation) → is_some o ≡ true → began o rows r ≡ began o rows' r'
    whole (Some s) rows rows' r r' h = refl
    whole None rows rows' r r' h = absurd (cc)

-- ---- a relation's first version

pub undone_more : (n : Name) (cs : List Change) (i j : ℕ) (c : Change) (rows rows' : Rows) → j ≡ i + 1 → i < length cs → c ≡ slice_index_or cs i c → rows' ≡ undo_in n c rows → undone n (take i cs) rows' ≡ undone n (take j cs) rows
undone_more n cs i j c rows rows' next within read is =
    ap (undone n (take i cs)) is
    ∙ sym (undone_push n (take i cs) c rows)
    ∙ ap (λ (x : Change). undone n (take i cs ++ x ∷ []) rows) read
    ∙ ap (λ (l : List Change). undone n l rows) (sym (take_more cs i c within))
    ∙ ap (λ m. undone n (take m cs) rows) (sym next)

-- a change of the relation, and one of another
pub undone_here : (n : Name) (c : Change) (k : Dbkey) (row : Option Row) (rows rows' : Rows) → same_name n c.relation ≡ true → k ≡ c.key → row ≡ c.before → rows' ≡ undo_row k row rows → rows' ≡ undo_in n c rows
undone_here n c k row rows rows' same key before is =
    is ∙ ap (λ (x : Dbkey). undo_row x row rows) key ∙ ap (λ (o : Option Row). undo_row c.key o rows) before ∙ sym (ap (λ b. cond b (undo_row c.key c.before rows) rows) same)

pub undone_elsewhere : (n : Name) (c : Change) (rows : Rows) → same_name n c.relation ≡ false → rows ≡ undo_in n c rows
undone_elsewhere n c rows other = sym (ap (λ b. cond b (undo_row c.key c.before rows) rows) other)

-- ---- the tables are brought back

abbrev pub undo_with : List Change → List Saved → Undo
undo_with cs ss = record { changes = cs; saved = ss }

-- the last change is undone
pub change_undone : (c : Change) (cs cs' : List Change) (ss : List Saved) (t t' : Tables) → is_sorted chars_order t.relations ≡ true → cs' ≡ cs ++ c ∷ [] → t' ≡ change_rows c.relation (undo_row c.key c.before) t → beginning t' (undo_with cs ss) ≡ beginning t (undo_with cs' ss)
change_undone c cs cs' ss t t' sorted last is =
    ap (λ (x : Tables). beginning x (undo_with cs ss)) is
    ∙ beginning_changed c.relation t (undo_with (cs ++ c ∷ []) ss) (undo_with cs ss) sorted
    (λ m r h. sym (off_change c.relation m c.key c.before (undo_with cs ss) r h)) (undo_row c.key c.before)
    (λ x there. same_rows (saved_as c.relation ss) (undone c.relation cs (undo_row c.key c.before x.rows)) (undo_row c.key c.before x.rows) x ∙ sym (on_change c.relation c.key c.before (undo_with cs ss) x))
    ∙ ap (λ (l : List Change). beginning t (undo_with l ss)) (sym last)
  where
    same_rows : (o : Option Relation) (rows rows' : Rows) (r : Relation) → began o rows (with_rows rows' r) ≡ began o rows r
    same_rows (Some s) rows rows' r = refl
    same_rows None rows rows' r = refl

-- the last relation that was saved stands again
pub relation_back : (s : Saved) (ss ss' : List Saved) (t : Tables) (es : List (Name × Relation)) (found : Option Relation) → is_sorted chars_order t.relations ≡ true → ss' ≡ ss ++ s ∷ [] → found ≡ relation_named s.relation t → OnSome found (es ≡ put chars_order s.relation s.before t.relations) → (IsNone found → es ≡ t.relations) → beginning (record t { relations = es }) (undo_with [] ss) ≡ beginning t (undo_with [] ss')
relation_back s ss ss' t es found sorted last is some none =
    stands found is some none ∙ ap (λ (l : List Saved). beginning t (undo_with [] l)) (sym last)
  where
    off : (m : Name) (r : Relation) → same_name m s.relation ≡ false → start_of m (undo_with [] ss) r ≡ start_of m (undo_with [] (ss ++ s ∷ [])) r
    off m r h =
        sym (ap (λ (o : Option Relation). began o r.rows r)
        (saved_push m ss s ∙ ap (λ b. or_saved (saved_as m ss) (cond b (Some s.before) None)) h ∙ or_none (saved_as m ss)))
      where
        or_none : (o : Option Relation) → or_saved o None ≡ o
        or_none (Some r) = refl
        or_none None = refl

    on : (o : Option Relation) (x : Relation) → began o s.before.rows s.before ≡ began (or_saved o (Some s.before)) x.rows x
    on (Some r) x = refl
    on None x = refl

    on_start : (x : Relation) → start_of s.relation (undo_with [] ss) s.before ≡ start_of s.relation (undo_with [] (ss ++ s ∷ [])) x
    on_start x =
        on (saved_as s.relation ss) x
        ∙ sym (ap (λ (o : Option Relation). began o x.rows x)
        (saved_push s.relation ss s ∙ ap (λ b. or_saved (saved_as s.relation ss) (cond b (Some s.before) None)) (same_itself s.relation)))

    stands : (found : Option Relation) → found ≡ relation_named s.relation t → OnSome found (es ≡ put chars_order s.relation s.before t.relations) → (IsNone found → es ≡ t.relations) → beginning (record t { relations = es }) (undo_with [] ss) ≡ beginning t (undo_with [] (ss ++ s ∷ []))
    stands (Some x) is some none =
        ap (λ (l : List (Name × Relation)). beginning (record t { relations = l }) (undo_with [] ss)) some
        ∙ beginning_put s.relation t (undo_with [] (ss ++ s ∷ [])) (undo_with [] ss) sorted off x s.before (sym is) (on_start x)
    stands None is some none =
        ap (λ (l : List (Name × Relation)). beginning (record t { relations = l }) (undo_with [] ss)) (none refl)
        ∙ beginning_none s.relation t (undo_with [] (ss ++ s ∷ [])) (undo_with [] ss) sorted off (sym is)

pub beginning_nothing : (t : Tables) → beginning t (undo_with [] []) ≡ t
beginning_nothing t = ap (λ (l : List (Name × Relation)). record t { relations = l }) (same t.relations)
  where
    same : (es : List (Name × Relation)) → map (λ e. (e.0, start_of e.0 (undo_with [] []) e.1)) es ≡ es
    same [] = refl
    same (e ∷ es) = ap (λ l. e ∷ l) (same es)
