-- Which Dbkeys are free for a row, and which keys are taken.
use Rattle.std.proofs.Common.{◌≡◌, ◌==◌, ℕ, true, false, cond, not, ◌&&◌, List, [], ◌∷◌, map, Option, Some, None, refl, sym, ap, ◌∙◌, arith}
use Rattle.std.specs.Prelude.{◌||◌, is_some}
use Rattle.std.specs.List.{list_any}
use Rattle.std.specs.Ordering.{is_eq, eq_by_cmp}
use Rattle.std.specs.FinMap.Entries.{find, is_some-find, find-where_key}
use Rattle.std.proofs.lemmas.Bool.{eq-eqb, ne_eqb}
use Rattle.std.proofs.lemmas.Option.{none-some}
use Rattle.rdb_types.specs.declared.keys.Dbkey.{Dbkey}
use Rattle.rdb_types.specs.Order.{dbkey_order, row_order}
use Rattle.rdo_ast.specs.Tree.{Name}
use Rattle.rdb_meaning.specs.declared.tables.Relation.{Relation as Rows}
use Rattle.rdb_meaning.specs.declared.tables.Tables.{Tables}
use Rattle.rdb_meaning.specs.Contents.{Row, relation_named, row_at, key_of, is_taken, has_key as rows_have}
use Rattle.rdb_meaning.specs.Execution.{area_of, may_be_given, nowhere}
use Rattle.line_view.specs.Knowledge.{Lines, line_in, lines_in, keys_of}
use Rattle.catalog_lines.specs.declared.line.CatalogLine.{CatalogLine}
use Rattle.catalog_lines.specs.Lines.{IsRelationArea}
use Rattle.sound_lines.specs.catalog.declared.reading.Catalog.{Catalog}
use Rattle.sorted_index_laws.specs.Changes.{has_key}
use Rattle.sound_lines.specs.Contents.{versions_in}
use Rattle.sound_changes.specs.Standing.{IsSoundFor, IsSoundAs}
use Rattle.sound_changes.proofs.Changed.{row_keys, rows_in}
use Rattle.sound_changes.proofs.RowLaid.{stored_in, found}
use Rattle.sound_changes.proofs.Pairs.{keys_held}
use Rattle.sound_lines.specs.relation_rows.Indexed.{pairs_of}
use Rattle.rdb_types.specs.OrderLaws.{same_dbkey}
use Rattle.sound_changes.proofs.PairsOut.{left}

none_of : {X : Type 0} (o : Option X) → is_some o ≡ false → o ≡ None
none_of None h = refl
none_of (Some x) h = let bad : ⊥ = cc in absurd bad

-- a row's line stands in the area of its relation
row_at_line : (all : Lines) (c : Catalog) (t : Tables) (n : Name) (rel : Rows) (seen : CatalogLine → Tables) (key : Dbkey) → IsSoundFor all c t seen → relation_named n t ≡ Some rel → cond (key.area == rel.area) (line_in key all) None ≡ None → find dbkey_order key rel.rows ≡ None
row_at_line all c t n rel seen key sound is none =
    let lines = lines_in rel.area all in
    let keys : keys_of lines ≡ map (λ (e : Dbkey × Row). e.0) rel.rows = row_keys (stored_in c n rel) lines rel.rows (rows_in all (versions_in c.lines) n rel c.tables.relations t.relations sound.are.relations is) in
    let gone : find dbkey_order key lines ≡ None =
    find-where_key dbkey_order (λ k. k.area == rel.area) key (λ x tie. ap (λ (k : Dbkey). k.area == rel.area) (sym (same_dbkey key x tie))) all ∙ none in
    none_of (find dbkey_order key rel.rows)
    (is_some-find dbkey_order key rel.rows ∙ ap (list_any (eq_by_cmp dbkey_order key)) (sym keys) ∙ sym (is_some-find dbkey_order key lines) ∙ ap is_some gone)

-- a line that isn't present is that of no row
pub no_row : (all : Lines) (c : Catalog) (t : Tables) (n : Name) (rel : Rows) (seen : CatalogLine → Tables) (key : Dbkey) → IsSoundFor all c t seen → relation_named n t ≡ Some rel → line_in key all ≡ None → find dbkey_order key rel.rows ≡ None
no_row all c t n rel seen key sound is free =
    row_at_line all c t n rel seen key sound is
    (ap (λ o. cond (key.area == rel.area) o None) free
    ∙ elim (key.area == rel.area) as (λ b. cond b (let o : Option (List ℕ) = None in o) None ≡ None) [ true ↦ refl | false ↦ refl ])

-- nor is one of another area
no_row_beside : (all : Lines) (c : Catalog) (t : Tables) (n : Name) (rel : Rows) (seen : CatalogLine → Tables) (key : Dbkey) → IsSoundFor all c t seen → relation_named n t ≡ Some rel → (key.area == rel.area) ≡ false → find dbkey_order key rel.rows ≡ None
no_row_beside all c t n rel seen key sound is off = row_at_line all c t n rel seen key sound is (ap (λ b. cond b (line_in key all) None) off)

row_none : (key : Dbkey) (o : Option Rows) → ((rel : Rows) → o ≡ Some rel → find dbkey_order key rel.rows ≡ None) → is_some (row_at key o) ≡ false
row_none key None none = refl
row_none key (Some rel) none = ap is_some (none rel refl)

-- a room of the relation's area that was free at the start of the statement and is free now may be given
pub may_be : (first now : Lines) (c : Catalog) (start t : Tables) (n : Name) (rel : Rows) (one two : CatalogLine → Tables) (key : Dbkey) → IsSoundFor first c start one → IsSoundFor now c t two → relation_named n t ≡ Some rel → key.area ≡ rel.area →
    line_in key first ≡ None → line_in key now ≡ None → may_be_given n key start t ≡ true
may_be first now c start t n rel one two key began sound is at free still =
    let here : (key.area == area_of (relation_named n t)) ≡ true = ap (λ o. key.area == area_of o) is ∙ eq-eqb key.area rel.area at in
    let unused : is_some (row_at key (relation_named n t)) ≡ false = row_none key (relation_named n t) (λ r named. no_row now c t n r two key sound named still) in
    let unused_first : is_some (row_at key (relation_named n start)) ≡ false = row_none key (relation_named n start) (λ r named. no_row first c start n r one key began named free) in
    λ i. (here i && not (unused i)) && not (unused_first i)

-- ---- keys that are taken

any_left : (positions : List ℕ) (row : Row) (own : Dbkey) (rows : List (Dbkey × Row)) → is_taken positions row own rows ≡ rows_have positions row (left own rows)
any_left positions row own [] = refl
any_left positions row own (e ∷ es) =
    elim (is_eq (dbkey_order own e.0)) as (λ b. ((not b && is_eq (row_order (key_of positions row) (key_of positions e.1))) || is_taken positions row own es) ≡ rows_have positions row (cond (not b) (e ∷ left own es) (left own es))) [
      | true ↦ any_left positions row own es
      | false ↦ ap (λ b. is_eq (row_order (key_of positions row) (key_of positions e.1)) || b) (any_left positions row own es)
    ]

-- another row has the key where the index of the others has it
pub taken_by_others : (positions : List ℕ) (row : Row) (own : Dbkey) (rows : List (Dbkey × Row)) → is_taken positions row own rows ≡ has_key (key_of positions row) (pairs_of positions (left own rows))
taken_by_others positions row own rows = any_left positions row own rows ∙ sym (keys_held positions row (left own rows))

-- where no row has the Dbkey, all rows are others
pub all_others : (own : Dbkey) (rows : List (Dbkey × Row)) → find dbkey_order own rows ≡ None → left own rows ≡ rows
all_others own [] none = refl
all_others own (e ∷ es) none =
    elim (is_eq (dbkey_order own e.0)) as (λ b. cond b (Some e.1) (find dbkey_order own es) ≡ None → cond (not b) (e ∷ left own es) (left own es) ≡ e ∷ es) [
      | true ↦ λ h. absurd (none-some e.1 (sym h))
      | false ↦ λ h. ap (λ l. e ∷ l) (all_others own es h)
    ] none

-- to a new row it is one whether its own Dbkey or that of no row is left out
pub nowhere_is_other : (all : Lines) (c : Catalog) (t : Tables) (n : Name) (rel : Rows) (positions : List ℕ) (row : Row) (key : Dbkey) → IsSoundAs all c t → relation_named n t ≡ Some rel → find dbkey_order key rel.rows ≡ None →
    is_taken positions row nowhere rel.rows ≡ is_taken positions row key rel.rows
nowhere_is_other all c t n rel positions row key sound is none =
    let bounds : IsRelationArea rel.area = (found all c t n rel sound.decodes sound.are is).area in
    let off : (nowhere.area == rel.area) ≡ false = ne_eqb nowhere.area rel.area (λ same. omega (arith, same, bounds.0)) in
    let nobody = no_row_beside all c t n rel (λ l. t) nowhere sound is off in
    taken_by_others positions row nowhere rel.rows
    ∙ ap (λ rows. has_key (key_of positions row) (pairs_of positions rows)) (all_others nowhere rel.rows nobody ∙ sym (all_others key rel.rows none))
    ∙ sym (taken_by_others positions row key rel.rows)
