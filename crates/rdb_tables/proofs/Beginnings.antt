-- The start of a statement stays the same while its relations change, where what undoes the changes is kept.
use Rattle.std.proofs.Common.{◌≡◌, true, false, cond, List, [], ◌∷◌, ◌++◌, map, Option, Some, None, refl, sym, ap, ◌∙◌}
use Rattle.std.specs.declared.cmp.Ordering.{Ordering}
use Rattle.std.specs.declared.cmp.Ordering.TheVariants.{Less, Equal, Greater}
use Rattle.std.specs.Ordering.{is_eq, ordering_reverse}
use Rattle.std.specs.Cmp.{IsTotalOrder, nat_cmp_total, on_total, then_total, tied_itself}
use Rattle.std.specs.Cmp.Lexicographic.{lists_total}
use Rattle.std.specs.FinMap.Entries.{find, put, is_sorted, below_all, by_order}
use Rattle.std.proofs.lemmas.Bool.{and_parts}
use Rattle.std.proofs.lemmas.Option.{none-some, same_Some}
use Rattle.std.proofs.lemmas.Map.Text.{is_eq-slice_cmp}
use Rattle.std.proofs.lemmas.Map.Lookups.{exact_bytes}
use Rattle.rdb_tables.proofs.SortedEntries.{equal, less, none_below, without_none}
use Rattle.ordered_entries.proofs.Laws.{put-put, find-put_same, filter-put, put_found}
use Rattle.rdb_types.specs.declared.keys.Dbkey.{Dbkey}
use Rattle.rdo_ast.specs.Tree.{Name}
use Rattle.rdb_meaning.specs.declared.tables.Relation.{Relation}
use Rattle.rdb_meaning.specs.declared.tables.Tables.{Tables}
use Rattle.rdb_meaning.specs.Contents.{Row, same_name, with_rows, relation_named, change_rows, rows_changed}
use Rattle.rdb_types.specs.Order.{chars_order, dbkey_order}
use Rattle.rdb_tables.specs.declared.undo.Change.{Change}
use Rattle.rdb_tables.specs.declared.undo.Saved.{Saved}
use Rattle.rdb_tables.specs.declared.undo.Undo.{Undo}
use Rattle.rdb_tables.specs.Undoing.{Rows, put_where, undo_row, undo_in, undone, saved_as, began, start_of, beginning}

-- ---- names

pub names_total : IsTotalOrder chars_order
names_total = lists_total nat_cmp_total

pub keys_total : IsTotalOrder dbkey_order
keys_total = then_total (on_total (λ k. k.area) nat_cmp_total) (then_total (on_total (λ k. k.page) nat_cmp_total) (on_total (λ k. k.line) nat_cmp_total))

pub same_is : (m n : Name) → same_name m n ≡ true → m ≡ n
same_is m n e = exact_bytes m n (equal (chars_order m n) (is_eq-slice_cmp m n ∙ e))

pub same_itself : (n : Name) → same_name n n ≡ true
same_itself n = sym (is_eq-slice_cmp n n) ∙ ap is_eq (tied_itself names_total n)

-- names that the order tells apart are not the same, whichever is first
apart : (n m : Name) → is_eq (chars_order n m) ≡ false → same_name m n ≡ false
apart n m e = sym (is_eq-slice_cmp m n) ∙ turned (chars_order n m) (chars_order m n) (names_total.antisymm m n) e
  where
    turned : (r s : Ordering) → s ≡ ordering_reverse r → is_eq r ≡ false → is_eq s ≡ false
    turned Less s e h = ap is_eq e
    turned Equal s e h = absurd (cc)
    turned Greater s e h = ap is_eq e

-- ---- relations that are seen through a function of their names

abbrev seen : (Name → Relation → Relation) → List (Name × Relation) → List (Name × Relation)
seen F es = map (λ e. (e.0, F e.0 e.1)) es

-- two functions that differ at one name alone
module _ (F G : Name → Relation → Relation) (n : Name) (off : (m : Name) (r : Relation) → same_name m n ≡ false → F m r ≡ G m r) where
  seen_above : (x : Name) (es : List (Name × Relation)) → ((m : Name) → chars_order x m ≡ Less → chars_order n m ≡ Less) → below_all chars_order x es ≡ true → seen F es ≡ seen G es
  seen_above x [] up h = refl
  seen_above x (e ∷ es) up h =
      let parts = and_parts _ _ h in
      let here : F e.0 e.1 ≡ G e.0 e.1 = off e.0 e.1 (apart n e.0 (ap is_eq (up e.0 (less _ parts.0)))) in
      ap (λ (r : Relation). (e.0, r) ∷ seen F es) here ∙ ap (λ l. (e.0, G e.0 e.1) ∷ l) (seen_above x es up parts.1)

  seen_none : (es : List (Name × Relation)) → find chars_order n es ≡ None → seen F es ≡ seen G es
  seen_none [] h = refl
  seen_none (e ∷ es) h =
      elim (is_eq (chars_order n e.0)) as (λ b. is_eq (chars_order n e.0) ≡ b → cond b (Some e.1) (find chars_order n es) ≡ None → seen F (e ∷ es) ≡ seen G (e ∷ es)) [
        | true ↦ λ p h. absurd (cc)
        | false ↦ λ p h. ap (λ (r : Relation). (e.0, r) ∷ seen F es) (off e.0 e.1 (apart n e.0 p)) ∙ ap (λ l. (e.0, G e.0 e.1) ∷ l) (seen_none es h)
      ] refl h

  seen_put : (x x' : Relation) (es : List (Name × Relation)) → is_sorted chars_order es ≡ true → find chars_order n es ≡ Some x → F n x' ≡ G n x → seen F (put chars_order n x' es) ≡ seen G es
  seen_put x x' [] sorted is on = absurd (cc)
  seen_put x x' (e ∷ es) sorted is on =
      let parts = and_parts _ _ sorted in
      elim (chars_order n e.0) as (λ o. chars_order n e.0 ≡ o → cond (is_eq o) (Some e.1) (find chars_order n es) ≡ Some x → seen F (by_order o ((n, x') ∷ e ∷ es) ((e.0, x') ∷ es) (e ∷ put chars_order n x' es)) ≡ seen G (e ∷ es)) [
        | Less ↦ λ p h. absurd (none-some x (sym (none_below chars_order names_total e.0 n es p parts.0) ∙ h))
        | Equal ↦ λ p h.
            let one : n ≡ e.0 = exact_bytes n e.0 p in
            let here : F e.0 x' ≡ G e.0 e.1 = ap (λ m. F m x') (sym one) ∙ on ∙ ap (λ m. G m x) one ∙ ap (G e.0) (sym (same_Some _ _ h)) in
            ap (λ (r : Relation). (e.0, r) ∷ seen F es) here
            ∙ ap (λ l. (e.0, G e.0 e.1) ∷ l) (seen_above e.0 es (λ m l. ap (λ k. chars_order k m) one ∙ l) parts.0)
        | Greater ↦ λ p h.
            ap (λ (r : Relation). (e.0, r) ∷ seen F (put chars_order n x' es)) (off e.0 e.1 (apart n e.0 (ap is_eq p)))
            ∙ ap (λ l. (e.0, G e.0 e.1) ∷ l) (seen_put x x' es parts.1 h on)
      ] refl is

-- ---- the start of a statement

module _ (n : Name) (t : Tables) (undo undo' : Undo) (sorted : is_sorted chars_order t.relations ≡ true) (off : (m : Name) (r : Relation) → same_name m n ≡ false → start_of m undo' r ≡ start_of m undo r) where
  abbrev now_start : Name → Relation → Relation
  now_start m r = start_of m undo' r

  abbrev then_start : Name → Relation → Relation
  then_start m r = start_of m undo r

  -- another relation stands at the name
  pub beginning_put : (x x' : Relation) → relation_named n t ≡ Some x → start_of n undo' x' ≡ start_of n undo x → beginning (record t { relations = put chars_order n x' t.relations }) undo' ≡ beginning t undo
  beginning_put x x' is on =
      ap (λ (es : List (Name × Relation)). record t { relations = es }) (seen_put now_start then_start n off x x' t.relations sorted is on)

  -- none stands there
  pub beginning_none : relation_named n t ≡ None → beginning t undo' ≡ beginning t undo
  beginning_none is = ap (λ (es : List (Name × Relation)). record t { relations = es }) (seen_none now_start then_start n off t.relations is)

  -- the relation's rows change
  pub beginning_changed : (f : Rows → Rows) → ((x : Relation) → relation_named n t ≡ Some x → start_of n undo' (with_rows (f x.rows) x) ≡ start_of n undo x) → beginning (change_rows n f t) undo' ≡ beginning t undo
  beginning_changed f on =
      elim (relation_named n t) as (λ o. relation_named n t ≡ o → beginning (rows_changed n f o t) undo' ≡ beginning t undo) [
        | None ↦ λ p. beginning_none p
        | Some x ↦ λ p. beginning_put x (with_rows (f x.rows) x) p (on x p)
      ] refl

  -- nothing changes but what is kept
  pub beginning_same : ((x : Relation) → relation_named n t ≡ Some x → start_of n undo' x ≡ start_of n undo x) → beginning t undo' ≡ beginning t undo
  beginning_same on =
      elim (relation_named n t) as (λ o. relation_named n t ≡ o → beginning t undo' ≡ beginning t undo) [
        | None ↦ λ p. beginning_none p
        | Some x ↦ λ p. ap (λ (es : List (Name × Relation)). beginning (record t { relations = es }) undo') (sym (put_found chars_order names_total n x t.relations sorted p)) ∙ beginning_put x x p (on x p)
      ] refl

-- ---- changes and saved relations

pub undone_push : (m : Name) (cs : List Change) (c : Change) (rows : Rows) → undone m (cs ++ c ∷ []) rows ≡ undone m cs (undo_in m c rows)
undone_push m [] c rows = refl
undone_push m (d ∷ cs) c rows = ap (undo_in m d) (undone_push m cs c rows)

-- a change of another relation
pub off_change : (n m : Name) (k : Dbkey) (before : Option Row) (undo : Undo) (r : Relation) → same_name m n ≡ false → start_of m (record undo { changes = undo.changes ++ record { relation = n; key = k; before = before } ∷ [] }) r ≡ start_of m undo r
off_change n m k before undo r h =
    ap (λ (rows : Rows). began (saved_as m undo.saved) rows r)
    (undone_push m undo.changes (record { relation = n; key = k; before = before }) r.rows
    ∙ ap (λ b. undone m undo.changes (cond b (undo_row k before r.rows) r.rows)) h)

-- a change of this one, where it isn't saved
pub on_change : (n : Name) (k : Dbkey) (before : Option Row) (undo : Undo) (r : Relation) → start_of n (record undo { changes = undo.changes ++ record { relation = n; key = k; before = before } ∷ [] }) r ≡ began (saved_as n undo.saved) (undone n undo.changes (undo_row k before r.rows)) r
on_change n k before undo r =
    ap (λ (rows : Rows). began (saved_as n undo.saved) rows r)
    (undone_push n undo.changes (record { relation = n; key = k; before = before }) r.rows
    ∙ ap (λ b. undone n undo.changes (cond b (undo_row k before r.rows) r.rows)) (same_itself n))

abbrev pub or_saved : Option Relation → Option Relation → Option Relation
or_saved (Some r) later = Some r
or_saved None later = later

pub saved_push : (m : Name) (ss : List Saved) (s : Saved) → saved_as m (ss ++ s ∷ []) ≡ or_saved (saved_as m ss) (cond (same_name m s.relation) (Some s.before) None)
saved_push m [] s = refl
saved_push m (x ∷ ss) s =
    elim (same_name m x.relation) as (λ b. cond b (Some x.before) (saved_as m (ss ++ s ∷ [])) ≡ or_saved (cond b (Some x.before) (saved_as m ss)) (cond (same_name m s.relation) (Some s.before) None)) [
      | true ↦ refl
      | false ↦ saved_push m ss s
    ]

-- ---- rows

-- a row that is written and taken back
pub undo_put : (k : Dbkey) (row : Row) (rows : Rows) → is_sorted dbkey_order rows ≡ true → undo_row k (find dbkey_order k rows) (put dbkey_order k row rows) ≡ rows
undo_put k row rows sorted =
    elim (find dbkey_order k rows) as (λ o. find dbkey_order k rows ≡ o → undo_row k o (put dbkey_order k row rows) ≡ rows) [
      | None ↦ λ p. filter-put dbkey_order keys_total k row rows p
      | Some before ↦ λ p.
          ap (λ (o : Option Row). put_where o k before (put dbkey_order k row rows)) (find-put_same dbkey_order keys_total k row rows)
          ∙ put-put dbkey_order keys_total k row before rows ∙ put_found dbkey_order keys_total k before rows sorted p
    ] refl

-- one that was not written
pub undo_unwritten : (k : Dbkey) (rows : Rows) → is_sorted dbkey_order rows ≡ true → undo_row k (find dbkey_order k rows) rows ≡ rows
undo_unwritten k rows sorted =
    elim (find dbkey_order k rows) as (λ o. find dbkey_order k rows ≡ o → undo_row k o rows ≡ rows) [
      | None ↦ λ p. without_none dbkey_order keys_total k rows p
      | Some before ↦ λ p. ap (λ (o : Option Row). put_where o k before rows) p ∙ put_found dbkey_order keys_total k before rows sorted p
    ] refl
