-- What is found of the indexes of a catalog.
use Rattle.std.proofs.Common.{◌≡◌, ◌++◌, ◌∷◌, ◌==◌, [], ℕ, Bool, true, false, cond, List, map, Option, Some, None, refl, sym, ap, subst, ◌∙◌}
use Rattle.std.specs.Prelude.{if◌then◌else◌}
use Rattle.std.specs.List.{AllByRecursion}
use Rattle.std.specs.List.Sorted.{IsStrictlySortedBy}
use Rattle.std.proofs.lemmas.List.{append_assoc, append-nil}
use Rattle.std.proofs.lemmas.Bool.{and_parts, eqb-true}
use Rattle.std.proofs.lemmas.Option.{none-some, same_Some}
use Rattle.rdb_types.specs.declared.keys.Dbkey.{Dbkey}
use Rattle.rdo_ast.specs.Tree.{Name}
use Rattle.rdb_meaning.specs.declared.tables.Relation.{Relation as Rows}
use Rattle.rdb_meaning.specs.declared.tables.Tables.{Tables}
use Rattle.rdb_meaning.specs.Contents.{Row}
use Rattle.index_node.specs.declared.entry.NodeEntry.{NodeEntry}
use Rattle.index_node.specs.Order.{entry_order}
use Rattle.line_view.specs.Knowledge.{Lines, lines_in}
use Rattle.sorted_index_laws.specs.Tree.{pairs}
use Rattle.sorted_index_laws.proofs.Ordered.{pairs_ascend, sorted}
use Rattle.catalog_lines.specs.declared.line.IndexLine.{IndexLine}
use Rattle.catalog_lines.specs.declared.line.CatalogLine.{CatalogLine}
use Rattle.catalog_lines.specs.declared.line.CatalogLine.TheVariants.{Relation, Global, Field as FieldOf, Index}
use Rattle.catalog.specs.declared.directory.PlacedLine.{PlacedLine}
use Rattle.catalog.specs.declared.directory.Directory.{Directory}
use Rattle.catalog.specs.declared.reading.Catalog.{Catalog}
use Rattle.catalog.specs.Directory.{directory}
use Rattle.catalog.specs.Schema.{stands, misfit_from, catalog_tables}
use Rattle.catalog.specs.Reading.{IsWhole}
use Rattle.relation_rows.specs.declared.stored.StoredRelation.{StoredRelation}
use Rattle.relation_rows.specs.Stored.{AreRowsOf}
use Rattle.relation_rows.specs.Relations.{stored_row}
use Rattle.sound_lines.proofs.RowsRead.{rows_alike}
use Rattle.index_faults.specs.Walks.{IsInOrderWith}
use Rattle.index_faults.specs.Contents.{HasTheRows, HoldsRows}
use Rattle.verified_lines.specs.Relations.{entry_in, IsJudged, holds, differs, FindsIndex, FindsIndexes}
use Rattle.rmu_verify.specs.Added.{IsRooted}

-- ---- one index

pub ascends : (all : Lines) (root : Dbkey) (held : List NodeEntry) → IsInOrderWith all root held → IsStrictlySortedBy entry_order held
ascends all root held is = subst (IsStrictlySortedBy entry_order) (sym is.holds) (sorted (pairs is.level is.tree) (pairs_ascend all root.area is.level is.tree is.index.stands))

-- a relation as it was read, and as the catalog has it
pub record IsRead (read r : StoredRelation) : Type 0 where
  pub area : r.area ≡ read.area
  pub version : r.version ≡ read.version
  pub fields : r.fields.now ≡ read.fields.now

the_rows : (read r : StoredRelation) (all : Lines) (rows : List (Dbkey × Row)) → IsRead read r → HasTheRows r all rows → HasTheRows read all rows
the_rows read r all rows is has = subst (λ (a : ℕ). AreRowsOf read (lines_in a all) (map stored_row rows)) is.area (rows_alike r read (lines_in r.area all) (map stored_row rows) is.version is.fields has)

pub holds_of : (all : Lines) (read r : StoredRelation) (x : IndexLine) (held : List NodeEntry) → IsRead read r → IsInOrderWith all x.root held
    → ((rows : List (Dbkey × Row)) → HasTheRows read all rows → IsStrictlySortedBy entry_order held → HoldsRows x.fields x.unique held rows) → IsJudged all r x [] []
holds_of all read r x held is order says = holds held refl refl order (λ rows has. says rows (the_rows read r all rows is has) (ascends all x.root held order))

pub differs_of : (all : Lines) (read r : StoredRelation) (x : IndexLine) (held : List NodeEntry) → IsRead read r → IsInOrderWith all x.root held
    → ((rows : List (Dbkey × Row)) → HasTheRows read all rows → IsStrictlySortedBy entry_order held → HoldsRows x.fields x.unique held rows → ⊥) → IsJudged all r x [] (x.name ∷ [])
differs_of all read r x held is order says = differs held refl refl order (λ rows has. says rows (the_rows read r all rows is has) (ascends all x.root held order))

pub unjudged_of : (all : Lines) (read r : StoredRelation) (x : IndexLine) (held : List NodeEntry) → IsRead read r → IsInOrderWith all x.root held
    → ((rows : List (Dbkey × Row)) → HasTheRows read all rows → ⊥) → IsJudged all r x [] []
unjudged_of all read r x held is order says = holds held refl refl order (λ rows has. absurd (says rows (the_rows read r all rows is has)))

-- ---- the relation of an area

pub entry_area : (area : ℕ) (es : List (Name × Rows)) (e : Name × Rows) → entry_in area es ≡ Some e → e.1.area ≡ area
entry_area area [] e is = absurd (none-some e is)
entry_area area (x ∷ xs) e is = elim (x.1.area == area) as (λ b. (x.1.area == area) ≡ b → (if b then Some x else entry_in area xs) ≡ Some e → e.1.area ≡ area) [
  | true ↦ λ same found. ap (λ (y : Name × Rows). y.1.area) (sym (same_Some x e found)) ∙ eqb-true x.1.area area same
  | false ↦ λ other found. entry_area area xs e found
] refl is

-- ---- the root of an index

first_fits : (b : Bool) (rest : Option Dbkey) (key : Dbkey) → cond b rest (Some key) ≡ None → (b ≡ true) × (rest ≡ None)
first_fits true rest key none = (refl, none)
first_fits false rest key none = let bad : ⊥ = cc in absurd bad

rooted_line : (d : Directory) (t : Tables) (key : Dbkey) (line : CatalogLine) → stands d t key line ≡ true → IsRooted line
rooted_line d t key (Relation r) is = tt
rooted_line d t key (Global g) is = tt
rooted_line d t key (FieldOf f) is = tt
rooted_line d t key (Index x) is = eqb-true _ _ (and_parts _ (x.root.area == x.area) is).1

rooted_from : (d : Directory) (t : Tables) (ps : List PlacedLine) → misfit_from d t ps ≡ None → AllByRecursion (λ (p : PlacedLine). IsRooted p.line) ps
rooted_from d t [] fit = tt
rooted_from d t (p ∷ ps) fit =
    let parts = first_fits (stands d t p.key p.line) (misfit_from d t ps) p.key fit in
    (rooted_line d t p.key p.line parts.0, rooted_from d t ps parts.1)

pub all_rooted : (c : Catalog) → IsWhole c → AllByRecursion (λ (p : PlacedLine). IsRooted p.line) c.lines
all_rooted c whole = rooted_from (directory c.lines) (catalog_tables c.lines) c.lines whole.fit

-- ---- of all indexes

pub indexes_more : (all : Lines) (versions : List (Name × ℕ)) (t : Tables) (ps : List PlacedLine) (p : PlacedLine) (nodes ns : List Dbkey) (names ws : List Name)
    → FindsIndexes all versions t ps nodes names → FindsIndex all versions t p.line ns ws → FindsIndexes all versions t (ps ++ p ∷ []) (nodes ++ ns) (names ++ ws)
indexes_more all versions t [] p nodes ns names ws finds here =
    (ns, [], ws, [], ap (λ (l : List Dbkey). l ++ ns) finds.0 ∙ sym (append-nil ns), ap (λ (l : List Name). l ++ ws) finds.1 ∙ sym (append-nil ws), here, (refl, refl))
indexes_more all versions t (q ∷ qs) p nodes ns names ws finds here = (
  finds.0,
  finds.1 ++ ns,
  finds.2,
  finds.3 ++ ws,
  ap (λ (l : List Dbkey). l ++ ns) finds.4 ∙ append_assoc finds.0 finds.1 ns,
  ap (λ (l : List Name). l ++ ws) finds.5 ∙ append_assoc finds.2 finds.3 ws,
  finds.6,
  indexes_more all versions t qs p finds.1 ns finds.3 ws finds.7 here,
)

-- what was added of some lines, and of one more
pub record Adds (Are : List Dbkey → List Name → Type 0) (nodes : List Dbkey) (names : List Name) (new_nodes : List Dbkey) (new_names : List Name) : Type 0 where
  pub more : List Dbkey
  pub others : List Name
  pub nodes_are : new_nodes ≡ nodes ++ more
  pub names_are : new_names ≡ names ++ others
  pub are : Are more others
