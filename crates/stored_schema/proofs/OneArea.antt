-- Index lines of a catalog: each is an index of its tables, and there is one for an area.
use Rattle.std.proofs.Common.{◌≡◌, ℕ, ◌≤◌, Bool, true, false, cond, ◌&&◌, List, [], ◌∷◌, Option, Some, None, refl, sym, ap, subst, ◌∙◌, arith}
use Rattle.std.specs.List.{AllByRecursion}
use Rattle.std.specs.declared.cmp.Ordering.TheVariants.{Less, Equal, Greater}
use Rattle.std.specs.Ordering.{is_eq}
use Rattle.std.specs.FinMap.Entries.{find, put, by_order}
use Rattle.std.proofs.lemmas.Option.{none-some, same_Some}
use Rattle.rdb_types.specs.declared.keys.Dbkey.{Dbkey}
use Rattle.rdb_types.specs.Order.{chars_order}
use Rattle.rdb_types.specs.OrderLaws.{same_chars}
use Rattle.rdo_ast.specs.Tree.{Name}
use Rattle.rdb_meaning.specs.declared.tables.Index.{Index as IndexOf}
use Rattle.rdb_meaning.specs.declared.tables.Tables.{Tables}
use Rattle.rdb_meaning.specs.Contents.{no_tables}
use Rattle.line_view.specs.Knowledge.{Lines}
use Rattle.catalog_lines.specs.declared.line.IndexLine.{IndexLine}
use Rattle.catalog_lines.specs.declared.line.CatalogLine.{CatalogLine}
use Rattle.catalog_lines.specs.declared.line.CatalogLine.TheVariants.{Relation, Global, Field as FieldOf, Index}
use Rattle.catalog_lines.specs.Lines.{IsIndexLine}
use Rattle.catalog.specs.declared.directory.PlacedLine.{PlacedLine}
use Rattle.catalog.specs.declared.directory.Directory.{Directory}
use Rattle.catalog.specs.Directory.{area_order, numbered, directory}
use Rattle.catalog.specs.Schema.{with_thing, tables_from, catalog_tables, index_area, stands}
use Rattle.catalog.specs.Reading.{IsPresent}
use Rattle.catalog.proofs.Differences.{index_parts, one_key}
use Rattle.row_writes.proofs.of_sound_changes.Basics.{equal}
use Rattle.row_writes.proofs.of_sound_changes.Named.{Fits}
use Rattle.row_writes.proofs.of_sound_changes.Listed.{one_placed}
use Rattle.row_writes.specs.Target.{named_index}

abbrev pub index_of : IndexLine → IndexOf
index_of x = (named_index x).1

-- A line that is present and goes with the others has this index.
pub record Stood (all : Lines) (d : Directory) (u : Tables) (x : IndexLine) : Type 0 where
  pub key : Dbkey
  pub present : IsPresent all (record { key = key; line = Index x })
  pub stood : stands d u key (Index x) ≡ true

pub stood_line : (all : Lines) (d : Directory) (u : Tables) (q : PlacedLine) (x : IndexLine) → q.line ≡ Index x → Fits all d u q → Stood all d u x
stood_line all d u q x is fits =
    let same : q ≡ record { key = q.key; line = Index x } = λ i. record { key = q.key; line = is i } in
    record { key = q.key; present = subst (IsPresent all) same fits.present; stood = ap (λ l. stands d u q.key l) (sym is) ∙ fits.stood }

pub one_index : (all : Lines) (d : Directory) (u : Tables) (x y : IndexLine) → Stood all d u x → Stood all d u y → x.area ≡ y.area → x ≡ y
one_index all d u x y a b same =
    let here = index_parts d u a.key x a.stood in
    let there = index_parts d u b.key y b.stood in
    let key : a.key ≡ b.key = one_key a.key b.key _ _ here.1 there.1 (ap (λ (n : ℕ). find area_order (numbered n) d.areas) same) in
    let line : Index x ≡ Index y = ap (λ (p : PlacedLine). p.line) (one_placed all (record { key = a.key; line = Index x }) (record { key = b.key; line = Index y }) key a.present b.present) in
    cc

-- ---- the indexes of the tables come from lines

pub record FromLine (Q : IndexLine → Type 0) (n : Name) (v : IndexOf) : Type 0 where
  pub line : IndexLine
  pub named : n ≡ line.name
  pub is : v ≡ index_of line
  pub holds : Q line

abbrev pub EachLine : (IndexLine → Type 0) → CatalogLine → Type 0
EachLine Q (Relation r) = Unit {0}
EachLine Q (Global g) = Unit {0}
EachLine Q (FieldOf f) = Unit {0}
EachLine Q (Index x) = Q x

module _ (Q : IndexLine → Type 0) where
  abbrev pub AreFrom : List (Name × IndexOf) → Type 0
  AreFrom es = AllByRecursion (λ (e : Name × IndexOf). FromLine Q e.0 e.1) es

  put_from : (n : Name) (v : IndexOf) (es : List (Name × IndexOf)) → FromLine Q n v → AreFrom es → AreFrom (put chars_order n v es)
  put_from n v [] is each = (is, tt)
  put_from n v (e ∷ es) is each =
      elim (chars_order n e.0) as (λ r. chars_order n e.0 ≡ r → AreFrom (by_order r ((n, v) ∷ e ∷ es) ((e.0, v) ∷ es) (e ∷ put chars_order n v es))) [
        | Less ↦ λ p. (is, each)
        | Equal ↦ λ p. (subst (λ (m : Name). FromLine Q m v) (same_chars n e.0 p) is, each.1)
        | Greater ↦ λ p. (each.0, put_from n v es is each.1)
      ] refl

  line_from : (d : Directory) (line : CatalogLine) (t : Tables) → EachLine Q line → AreFrom t.indexes → AreFrom (with_thing d line t).indexes
  line_from d (Relation r) t is each = each
  line_from d (Global g) t is each = each
  line_from d (FieldOf f) t is each = each
  line_from d (Index x) t is each = put_from x.name (index_of x) t.indexes (record { line = x; named = refl; is = refl; holds = is }) each

  pub lines_from : (d : Directory) (ps : List PlacedLine) (t : Tables) → AllByRecursion (λ (p : PlacedLine). EachLine Q p.line) ps → AreFrom t.indexes → AreFrom (tables_from d t ps).indexes
  lines_from d [] t of each = each
  lines_from d (p ∷ ps) t of each = lines_from d ps (with_thing d p.line t) of.1 (line_from d p.line t of.0 each)

  pub found_from : (n : Name) (v : IndexOf) (es : List (Name × IndexOf)) → AreFrom es → find chars_order n es ≡ Some v → FromLine Q n v
  found_from n v [] each found = absurd (none-some v found)
  found_from n v (e ∷ es) each found =
      elim (is_eq (chars_order n e.0)) as (λ b. is_eq (chars_order n e.0) ≡ b → cond b (Some e.1) (find chars_order n es) ≡ Some v → FromLine Q n v) [
        | true ↦ λ tie h. subst (FromLine Q n) (same_Some e.1 v h) (subst (λ (m : Name). FromLine Q m e.1) (sym (same_chars n e.0 (equal _ tie))) each.0)
        | false ↦ λ tie h. found_from n v es each.1 h
      ] refl found

-- ---- each line is an index of the tables

no_area : (n : ℕ) → 17 ≤ n → 0 ≡ n → ⊥
no_area n low e = omega arith

pub in_tables : (all : Lines) (d : Directory) (u : Tables) (x : IndexLine) → AreFrom (Stood all d u) u.indexes → Stood all d u x → find chars_order x.name u.indexes ≡ Some (index_of x)
in_tables all d u x each stood =
    let here = index_parts d u stood.key x stood.stood in
    let allowed : IsIndexLine x = stood.present.decodes.allowed in
    elim (find chars_order x.name u.indexes) as (λ o. find chars_order x.name u.indexes ≡ o → o ≡ Some (index_of x)) [
      | None ↦ λ e. absurd (no_area x.area allowed.area.0 (ap index_area (sym e) ∙ here.0))
      | Some v ↦ λ e.
          let from = found_from (Stood all d u) x.name v u.indexes each e in
          let area : (from.line).area ≡ x.area = ap (λ (i : IndexOf). i.area) (sym from.is) ∙ ap index_area (sym e) ∙ here.0 in
          ap Some (from.is ∙ ap index_of (one_index all d u from.line x from.holds stood area))
    ] refl
