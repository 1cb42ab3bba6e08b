-- What DELETE INDEX leaves of the catalog.
use Rattle.std.proofs.Common.{◌≡◌, ℕ, ◌%◌, true, false, cond, not, List, [], ◌∷◌, Some, None, refl, sym, ap, ◌∙◌, arith}
use Rattle.std.specs.List.{AllByRecursion, filter}
use Rattle.std.specs.declared.cmp.Ordering.TheVariants.{Less, Equal, Greater}
use Rattle.std.specs.Ordering.{is_eq, nat_cmp}
use Rattle.std.specs.FinMap.Entries.{find, put, by_order}
use Rattle.std.proofs.lemmas.Map.Text.{is_eq-slice_cmp}
use Rattle.rdb_types.specs.OrderLaws.{chars_total}
use Rattle.rdo_ast.specs.Tree.{Name}
use Rattle.rdb_meaning.specs.declared.tables.Tables.{Tables}
use Rattle.rdb_meaning.specs.Contents.{no_tables}
use Rattle.rdb_types.specs.Order.{chars_order}
use Rattle.rdb_meaning.specs.Defining.{without, without_index}
use Rattle.line_view.specs.Knowledge.{Lines, IsInOrder}
use Rattle.catalog_lines.specs.declared.line.CatalogLine.{CatalogLine}
use Rattle.catalog_lines.specs.declared.line.CatalogLine.TheVariants.{Relation, Global, Field as FieldOf, Index}
use Rattle.catalog.specs.declared.directory.PlacedLine.{PlacedLine}
use Rattle.catalog.specs.declared.directory.Directory.{Directory}
use Rattle.catalog.specs.declared.reading.Catalog.{Catalog}
use Rattle.catalog.specs.Deletions.{is_index_named, keys_where}
use Rattle.catalog.specs.Directory.{directory}
use Rattle.catalog.specs.Schema.{with_thing, tables_from, catalog_tables}
use Rattle.catalog.specs.Reading.{IsCatalogOf}
use Rattle.catalog_definitions.specs.Leaving.{Leaves, erasures}
use Rattle.catalog_definitions.proofs.FreeAreas.{numbers_differ}
use Rattle.catalog_definitions.proofs.Erasing.{kept}
use Rattle.catalog_definitions.proofs.Pairwise.{gone}
use Rattle.catalog_definitions.proofs.Remaining.{IsNoIndex, indexes_past}
use Rattle.catalog_definitions.proofs.Remains.{Says, KeepsAway, remains}
use Rattle.catalog_definitions.proofs.Basics.{equal}

-- ---- entries of a name

module _ {V : Type 0} where
  pub without_tied : (n : Name) (es : List (Name × V)) → without n es ≡ filter (λ e. not (is_eq (chars_order n e.0))) es
  without_tied n es = λ i. filter (λ e. not (sym (is_eq-slice_cmp n e.0) i)) es

  abbrev untied : Name → List (Name × V) → List (Name × V)
  untied n es = filter (λ e. not (is_eq (chars_order n e.0))) es

  untied_put : (n m : Name) (v : V) (es : List (Name × V)) → chars_order n m ≡ Equal → untied n (put chars_order m v es) ≡ untied n es
  untied_put n m v [] tie = ap (λ r. cond (not (is_eq r)) ((m, v) ∷ []) []) tie
  untied_put n m v (e ∷ es) tie =
      elim (chars_order m e.0) as (λ r. chars_order m e.0 ≡ r → untied n (by_order r ((m, v) ∷ e ∷ es) ((e.0, v) ∷ es) (e ∷ put chars_order m v es)) ≡ untied n (e ∷ es)) [
        | Less ↦ λ p. ap (λ r. cond (not (is_eq r)) ((m, v) ∷ untied n (e ∷ es)) (untied n (e ∷ es))) tie
        | Equal ↦ λ p.
            let own : chars_order n e.0 ≡ Equal = chars_total.congr n m e.0 tie ∙ p in
            ap (λ r. cond (not (is_eq r)) ((e.0, v) ∷ untied n es) (untied n es)) own ∙ sym (ap (λ r. cond (not (is_eq r)) (e ∷ untied n es) (untied n es)) own)
        | Greater ↦ λ p. ap (λ l. cond (not (is_eq (chars_order n e.0))) (e ∷ l) l) (untied_put n m v es tie)
      ] refl

  untied_none : (n : Name) (es : List (Name × V)) → find chars_order n es ≡ None → untied n es ≡ es
  untied_none n [] none = refl
  untied_none n (e ∷ es) none =
      elim (is_eq (chars_order n e.0)) as (λ b. cond b (Some e.1) (find chars_order n es) ≡ None → cond (not b) (e ∷ untied n es) (untied n es) ≡ e ∷ es) [
        | true ↦ λ h. let bad : ⊥ = cc in absurd bad
        | false ↦ λ h. ap (λ l. e ∷ l) (untied_none n es h)
      ] none

  pub without_put : (n m : Name) (v : V) (es : List (Name × V)) → is_eq (chars_order n m) ≡ true → without n (put chars_order m v es) ≡ without n es
  without_put n m v es tie = without_tied n (put chars_order m v es) ∙ untied_put n m v es (equal (chars_order n m) tie) ∙ sym (without_tied n es)

  pub without_none : (n : Name) (es : List (Name × V)) → find chars_order n es ≡ None → without n es ≡ es
  without_none n es none = without_tied n es ∙ untied_none n es none

-- ---- which lines are away

pub areas_apart : (even odd : ℕ) → even % 2 ≡ 0 → odd % 2 ≡ 1 → is_eq (nat_cmp even odd) ≡ false
areas_apart even odd p q = numbers_differ even odd (λ same. omega (arith, p, q, ap (λ (n : ℕ). n % 2) same))

away : (name : Name) → KeepsAway (is_index_named name)
away name (Relation r) (Index x) allowed other isnt does apart = (tt, apart, tt)
away name (Global g) (Index x) allowed other isnt does apart = tt
away name (FieldOf f) (Index x) allowed other isnt does apart = (areas_apart f.relation x.area allowed.relation.1 other.area.1, tt)
away name (Index y) (Index x) allowed other isnt does apart = (apart.0, apart.1, areas_apart y.relation x.area allowed.relation.1 other.area.1, tt)
away name x (Relation s) allowed other isnt does apart = let bad : ⊥ = cc in absurd bad
away name x (Global h) allowed other isnt does apart = let bad : ⊥ = cc in absurd bad
away name x (FieldOf f) allowed other isnt does apart = let bad : ⊥ = cc in absurd bad

-- ---- the tables

record Same (name : Name) (t u : Tables) : Type 0 where
  globals : u.globals ≡ t.globals
  relations : u.relations ≡ t.relations
  indexes : without name u.indexes ≡ without name t.indexes

same_line : (e : Directory) (name : Name) (line : CatalogLine) (t : Tables) → is_index_named name line ≡ true → Same name t (with_thing e line t)
same_line e name (Relation r) t named = let bad : ⊥ = cc in absurd bad
same_line e name (Global g) t named = let bad : ⊥ = cc in absurd bad
same_line e name (FieldOf f) t named = let bad : ⊥ = cc in absurd bad
same_line e name (Index x) t named = record { globals = refl; relations = refl; indexes = without_put name x.name _ t.indexes (is_eq-slice_cmp name x.name ∙ named) }

same_lines : (all : Lines) (d : Directory) (s : Tables) (e : Directory) (name : Name) (ns : List PlacedLine) (t : Tables) → AllByRecursion (Says all d s (is_index_named name) true) ns → Same name t (tables_from e t ns)
same_lines all d s e name [] t go = record { globals = refl; relations = refl; indexes = refl }
same_lines all d s e name (n ∷ ns) t go =
    let rest = same_lines all d s e name ns (with_thing e n.line t) go.1 in
    let here = same_line e name n.line t go.0.says in
    record { globals = rest.globals ∙ here.globals; relations = rest.relations ∙ here.relations; indexes = rest.indexes ∙ here.indexes }

not_named : (name : Name) (line : CatalogLine) → is_index_named name line ≡ false → IsNoIndex name line
not_named name (Relation r) isnt = tt
not_named name (Global g) isnt = tt
not_named name (FieldOf f) isnt = tt
not_named name (Index x) isnt = is_eq-slice_cmp name x.name ∙ isnt

none_named : (all : Lines) (d : Directory) (s : Tables) (name : Name) (qs : List PlacedLine) → AllByRecursion (Says all d s (is_index_named name) false) qs → AllByRecursion (λ q. IsNoIndex name q.line) qs
none_named all d s name [] stay = tt
none_named all d s name (q ∷ qs) stay = (not_named name q.line stay.0.says, none_named all d s name qs stay.1)

pub index_goes : (all : Lines) (c : Catalog) (name : Name) → IsInOrder all → IsCatalogOf all c → Leaves all (erasures (keys_where (is_index_named name) c.lines)) (without_index name c.tables)
index_goes all c name sorted is =
    let holds = is_index_named name in
    let ps = c.lines in
    let left = kept holds ps in
    let u = catalog_tables left in
    let r = remains all c holds (away name) sorted is in
    let same = same_lines all (directory ps) (catalog_tables ps) (directory ps) name (gone holds ps) u r.go in
    let none : find chars_order name u.indexes ≡ None = indexes_past (directory left) name left no_tables (none_named all (directory ps) (catalog_tables ps) name left r.stay) in
    let globals = ap (λ (t : Tables). t.globals) r.tables ∙ same.globals in
    let relations = ap (λ (t : Tables). t.relations) r.tables ∙ same.relations in
    let indexes = ap (λ (t : Tables). without name t.indexes) r.tables ∙ same.indexes ∙ without_none name u.indexes none in
    record {
      after = record { lines = left; tables = u };
      catalog = r.catalog;
      tables = sym (λ i. record { globals = globals i; relations = relations i; indexes = indexes i });
    }
