-- What DELETE RELATION leaves of the catalog.
use Rattle.std.proofs.Common.{◌≡◌, ℕ, Bool, true, false, cond, not, ◌==◌, List, [], ◌∷◌, Some, None, ◌⊎◌, inl, inr, refl, sym, ap, subst, ◌∙◌}
use Rattle.std.specs.List.{AllByRecursion, filter}
use Rattle.std.specs.declared.cmp.Ordering.TheVariants.{Less, Equal, Greater}
use Rattle.std.specs.Ordering.{is_eq, nat_cmp}
use Rattle.std.specs.Cmp.{tied_itself}
use Rattle.std.specs.FinMap.Entries.{find, put, by_order, find-put}
use Rattle.rdb_types.specs.declared.keys.Dbkey.{Dbkey}
use Rattle.rdb_types.specs.Order.{dbkey_order, chars_order}
use Rattle.rdb_types.specs.OrderLaws.{chars_total, dbkey_total}
use Rattle.rdo_ast.specs.Tree.{Name}
use Rattle.rdb_meaning.specs.declared.tables.Relation.{Relation as RelationOf}
use Rattle.rdb_meaning.specs.declared.tables.Index.{Index as IndexOf}
use Rattle.rdb_meaning.specs.declared.tables.Tables.{Tables}
use Rattle.rdb_meaning.specs.Contents.{no_tables, relation_named}
use Rattle.rdb_meaning.specs.Checks.{needs_some}
use Rattle.rdb_meaning.specs.Defining.{without, without_relation}
use Rattle.rdb_meaning.specs.Execution.{area_of}
use Rattle.line_view.specs.Knowledge.{Lines, IsInOrder}
use Rattle.catalog_lines.specs.declared.line.RelationLine.{RelationLine}
use Rattle.catalog_lines.specs.declared.line.CatalogLine.{CatalogLine}
use Rattle.catalog_lines.specs.declared.line.CatalogLine.TheVariants.{Relation, Global, Field as FieldOf, Index}
use Rattle.catalog.specs.declared.directory.PlacedLine.{PlacedLine}
use Rattle.catalog.specs.declared.directory.Directory.{Directory}
use Rattle.catalog.specs.declared.reading.Catalog.{Catalog}
use Rattle.catalog.specs.Deletions.{is_of_relation, keys_where}
use Rattle.catalog.specs.Directory.{area_order, numbered, directory}
use Rattle.catalog.specs.Schema.{with_thing, tables_from, catalog_tables, relation_fields, stands}
use Rattle.catalog.specs.Reading.{IsCatalogOf}
use Rattle.catalog.proofs.Differences.{relation_parts, one_key}
use Rattle.catalog_definitions.specs.Leaving.{Leaves, erasures}
use Rattle.catalog_definitions.proofs.Growth.{Apart, DifferentNames}
use Rattle.catalog_definitions.proofs.FreeAreas.{numbers_differ, eq_is, eq_itself}
use Rattle.catalog_definitions.proofs.Puts.{find-put_other, untied_back}
use Rattle.catalog_definitions.proofs.Erasing.{same_there, kept}
use Rattle.catalog_definitions.proofs.Pairwise.{gone, AllPairs, chosen_pairs, lines_apart, name_is}
use Rattle.catalog_definitions.proofs.Remaining.{IsNoRelation, IsNoIndex, relations_past, indexes_past}
use Rattle.catalog_definitions.proofs.Remains.{Fits, Says, KeepsAway, remains, keys_differ}
use Rattle.catalog_definitions.proofs.DeletedIndexes.{areas_apart, without_put, without_none}
use Rattle.catalog_definitions.proofs.Basics.{some_named}

-- ---- which lines are away

unequal : (m n area : ℕ) → (m == area) ≡ false → (n == area) ≡ true → is_eq (nat_cmp m n) ≡ false
unequal m n area other own = numbers_differ m n (λ same. let moved = ap (λ (x : ℕ). x == area) same in let bad : ⊥ = cc in bad)

away : (area : ℕ) → KeepsAway (is_of_relation area)
away area (Relation r) (Relation s) allowed other isnt does apart = (apart.0, apart.1, tt)
away area (Relation r) (FieldOf e) allowed other isnt does apart = (tt, tt, unequal r.area e.relation area isnt does)
away area (Relation r) (Index x) allowed other isnt does apart = (tt, apart, tt)
away area (Global g) (Relation s) allowed other isnt does apart = tt
away area (Global g) (FieldOf e) allowed other isnt does apart = tt
away area (Global g) (Index x) allowed other isnt does apart = tt
away area (FieldOf f) (Relation s) allowed other isnt does apart = (unequal f.relation s.area area isnt does, tt)
away area (FieldOf f) (FieldOf e) allowed other isnt does apart = (tt, unequal f.relation e.relation area isnt does)
away area (FieldOf f) (Index x) allowed other isnt does apart = (areas_apart f.relation x.area allowed.relation.1 other.area.1, tt)
away area (Index y) (Relation s) allowed other isnt does apart = (tt, apart, unequal y.relation s.area area isnt does, tt)
away area (Index y) (FieldOf e) allowed other isnt does apart = (tt, tt, tt, unequal y.relation e.relation area isnt does)
away area (Index y) (Index x) allowed other isnt does apart = (apart.0, apart.1, areas_apart y.relation x.area allowed.relation.1 other.area.1, tt)
away area x (Global h) allowed other isnt does apart = let bad : ⊥ = cc in absurd bad

-- ---- the line of the relation

record NamedLine (all : Lines) (d : Directory) (t : Tables) (n : Name) (rel : RelationOf) : Type 0 where
  pub q : PlacedLine
  pub r : RelationLine
  pub fits : Fits all d t q
  pub line : q.line ≡ Relation r
  pub name : is_eq (chars_order n r.name) ≡ true
  pub area : rel.area ≡ r.area

named_line : (all : Lines) (e d : Directory) (s : Tables) (n : Name) (rel : RelationOf) (q : PlacedLine) (line : CatalogLine) (t : Tables) → q.line ≡ line → Fits all d s q → find chars_order n (with_thing e line t).relations ≡ Some rel → (find chars_order n t.relations ≡ Some rel) ⊎ NamedLine all d s n rel
named_line all e d s n rel q (Relation r) t is fits found =
    elim (is_eq (chars_order n r.name)) as (λ b. is_eq (chars_order n r.name) ≡ b → cond b (Some (let v : RelationOf = record { area = r.area; fields = relation_fields r.area e; rows = [] } in v)) (find chars_order n t.relations) ≡ Some rel → (find chars_order n t.relations ≡ Some rel) ⊎ NamedLine all d s n rel) [
      | true ↦ λ tie h. inr (record { q = q; r = r; fits = fits; line = is; name = tie; area = (let v : record { area = r.area; fields = relation_fields r.area e; rows = [] } ≡ rel = cc in ap (λ (x : RelationOf). x.area) (sym v)) })
      | false ↦ λ tie h. inl h
    ] refl (sym (find-put chars_order chars_total n r.name _ t.relations) ∙ found)
named_line all e d s n rel q (Global g) t is fits found = inl found
named_line all e d s n rel q (FieldOf f) t is fits found = inl found
named_line all e d s n rel q (Index x) t is fits found = inl found

named_lines : (all : Lines) (e d : Directory) (s : Tables) (n : Name) (rel : RelationOf) (ps : List PlacedLine) (t : Tables) → AllByRecursion (Fits all d s) ps → find chars_order n (tables_from e t ps).relations ≡ Some rel → (find chars_order n t.relations ≡ Some rel) ⊎ NamedLine all d s n rel
named_lines all e d s n rel [] t fits found = inl found
named_lines all e d s n rel (q ∷ ps) t fits found =
    elim (named_lines all e d s n rel ps (with_thing e q.line t) fits.1 found) [
      | inl h ↦ named_line all e d s n rel q q.line t refl fits.0 h
      | inr r ↦ inr r
    ]

-- ---- the lines that go

-- a relation that goes has the name, and an index that goes is on the area
abbrev Goes : Name → ℕ → CatalogLine → Type 0
Goes n area (Relation r) = is_eq (chars_order n r.name) ≡ true
Goes n area (Global g) = ⊥
Goes n area (FieldOf f) = Unit {0}
Goes n area (Index x) = (x.relation == area) ≡ true

same_relation : (r s : RelationLine) (x y : CatalogLine) → x ≡ Relation r → y ≡ Relation s → x ≡ y → r ≡ s
same_relation r s x y is too same = let both : r ≡ s = cc in both

goes : (all : Lines) (d : Directory) (t : Tables) (n : Name) (rel : RelationOf) (named : NamedLine all d t n rel) (area : ℕ) (q : PlacedLine) (line : CatalogLine) → rel.area ≡ area → q.line ≡ line → Fits all d t q → is_of_relation area line ≡ true → Goes n area line
goes all d t n rel named area q (Relation s) on is fits does =
    let own : named.r.area ≡ s.area = sym named.area ∙ on ∙ sym (eq_is s.area area does) in
    let here = relation_parts d t named.q.key named.r (ap (λ l. stands d t named.q.key l) (sym named.line) ∙ named.fits.stood) in
    let there = relation_parts d t q.key s (ap (λ l. stands d t q.key l) (sym is) ∙ fits.stood) in
    let key : named.q.key ≡ q.key = one_key named.q.key q.key _ _ here.1 there.1 (ap (λ (a : ℕ). find area_order (numbered a) d.areas) own) in
    let tie : is_eq (dbkey_order named.q.key q.key) ≡ true = ap (λ k. is_eq (dbkey_order named.q.key k)) (sym key) ∙ ap is_eq (tied_itself dbkey_total named.q.key) in
    let same : named.r ≡ s = same_relation named.r s named.q.line q.line named.line is (same_there all named.q q named.fits.present fits.present tie) in
    ap (λ (r : RelationLine). is_eq (chars_order n r.name)) (sym same) ∙ named.name
goes all d t n rel named area q (Global g) on is fits does = let bad : ⊥ = cc in bad
goes all d t n rel named area q (FieldOf f) on is fits does = tt
goes all d t n rel named area q (Index x) on is fits does = does

all_go : (all : Lines) (d : Directory) (t : Tables) (n : Name) (rel : RelationOf) (named : NamedLine all d t n rel) (area : ℕ) (ns : List PlacedLine) → rel.area ≡ area → AllByRecursion (Says all d t (is_of_relation area) true) ns → AllByRecursion (λ q. Goes n area q.line) ns
all_go all d t n rel named area [] on go = tt
all_go all d t n rel named area (q ∷ ns) on go = (goes all d t n rel named area q q.line on refl go.0.fits go.0.says, all_go all d t n rel named area ns on go.1)

-- ---- the tables

globals_same : (e : Directory) (n : Name) (area : ℕ) (line : CatalogLine) (t : Tables) → Goes n area line → (with_thing e line t).globals ≡ t.globals
globals_same e n area (Relation r) t go = refl
globals_same e n area (Global g) t go = absurd go
globals_same e n area (FieldOf f) t go = refl
globals_same e n area (Index x) t go = refl

relations_same : (e : Directory) (n : Name) (area : ℕ) (line : CatalogLine) (t : Tables) → Goes n area line → without n (with_thing e line t).relations ≡ without n t.relations
relations_same e n area (Relation r) t go = without_put n r.name _ t.relations go
relations_same e n area (Global g) t go = absurd go
relations_same e n area (FieldOf f) t go = refl
relations_same e n area (Index x) t go = refl

all_globals : (e : Directory) (n : Name) (area : ℕ) (ns : List PlacedLine) (t : Tables) → AllByRecursion (λ q. Goes n area q.line) ns → (tables_from e t ns).globals ≡ t.globals
all_globals e n area [] t go = refl
all_globals e n area (q ∷ ns) t go = all_globals e n area ns (with_thing e q.line t) go.1 ∙ globals_same e n area q.line t go.0

all_relations : (e : Directory) (n : Name) (area : ℕ) (ns : List PlacedLine) (t : Tables) → AllByRecursion (λ q. Goes n area q.line) ns → without n (tables_from e t ns).relations ≡ without n t.relations
all_relations e n area [] t go = refl
all_relations e n area (q ∷ ns) t go = all_relations e n area ns (with_thing e q.line t) go.1 ∙ relations_same e n area q.line t go.0

-- indexes on other relations
abbrev elsewhere : ℕ → List (Name × IndexOf) → List (Name × IndexOf)
elsewhere area es = filter (λ e. not (e.1.relation == area)) es

elsewhere_put : (area : ℕ) (m : Name) (v : IndexOf) (es : List (Name × IndexOf)) → (v.relation == area) ≡ true → find chars_order m es ≡ None → elsewhere area (put chars_order m v es) ≡ elsewhere area es
elsewhere_put area m v [] on none = ap (λ b. cond (not b) ((m, v) ∷ []) []) on
elsewhere_put area m v (e ∷ es) on none =
    elim (chars_order m e.0) as (λ r. cond (is_eq r) (Some e.1) (find chars_order m es) ≡ None → elsewhere area (by_order r ((m, v) ∷ e ∷ es) ((e.0, v) ∷ es) (e ∷ put chars_order m v es)) ≡ elsewhere area (e ∷ es)) [
      | Less ↦ λ h. ap (λ b. cond (not b) ((m, v) ∷ elsewhere area (e ∷ es)) (elsewhere area (e ∷ es))) on
      | Equal ↦ λ h. let bad : ⊥ = cc in absurd bad
      | Greater ↦ λ h. ap (λ l. cond (not (e.1.relation == area)) (e ∷ l) l) (elsewhere_put area m v es on h)
    ] none

-- no index of the tables has the name of a line
abbrev IsNewIndex : Tables → CatalogLine → Type 0
IsNewIndex t (Relation r) = Unit {0}
IsNewIndex t (Global g) = Unit {0}
IsNewIndex t (FieldOf f) = Unit {0}
IsNewIndex t (Index x) = find chars_order x.name t.indexes ≡ None

index_elsewhere : (e : Directory) (n : Name) (area : ℕ) (line : CatalogLine) (t : Tables) → Goes n area line → IsNewIndex t line → elsewhere area (with_thing e line t).indexes ≡ elsewhere area t.indexes
index_elsewhere e n area (Relation r) t go new = refl
index_elsewhere e n area (Global g) t go new = refl
index_elsewhere e n area (FieldOf f) t go new = refl
index_elsewhere e n area (Index x) t go new = elsewhere_put area x.name _ t.indexes go new

still_new : (e : Directory) (line other : CatalogLine) (t : Tables) → Apart other line → IsNewIndex t other → IsNewIndex (with_thing e line t) other
still_new e line (Relation r) t apart new = tt
still_new e line (Global g) t apart new = tt
still_new e line (FieldOf f) t apart new = tt
still_new e (Relation r) (Index y) t apart new = new
still_new e (Global g) (Index y) t apart new = new
still_new e (FieldOf f) (Index y) t apart new = new
still_new e (Index x) (Index y) t apart new = find-put_other chars_order chars_total y.name x.name _ t.indexes apart.0 ∙ new

all_still_new : (e : Directory) (line : CatalogLine) (ns : List PlacedLine) (t : Tables) → AllByRecursion (λ q. Apart q.line line) ns → AllByRecursion (λ q. IsNewIndex t q.line) ns → AllByRecursion (λ q. IsNewIndex (with_thing e line t) q.line) ns
all_still_new e line [] t apart new = tt
all_still_new e line (q ∷ ns) t apart new = (still_new e line q.line t apart.0 new.0, all_still_new e line ns t apart.1 new.1)

all_elsewhere : (e : Directory) (n : Name) (area : ℕ) (ns : List PlacedLine) (t : Tables) → AllByRecursion (λ q. Goes n area q.line) ns → AllPairs ns → AllByRecursion (λ q. IsNewIndex t q.line) ns → elsewhere area (tables_from e t ns).indexes ≡ elsewhere area t.indexes
all_elsewhere e n area [] t go pairs new = refl
all_elsewhere e n area (q ∷ ns) t go pairs new =
    all_elsewhere e n area ns (with_thing e q.line t) go.1 pairs.2 (all_still_new e q.line ns t pairs.1 new.1) ∙ index_elsewhere e n area q.line t go.0 new.0

-- ---- the lines that stay

apart_each : (all : Lines) (d : Directory) (t : Tables) (holds : CatalogLine → Bool) (n : PlacedLine) (qs : List PlacedLine) → Says all d t holds true n → AllByRecursion (Says all d t holds false) qs → AllByRecursion (λ q. Apart q.line n.line) qs
apart_each all d t holds n [] goes stay = tt
apart_each all d t holds n (q ∷ qs) goes stay =
    let s = stay.0 in (
      lines_apart d t q.key n.key (keys_differ all holds q n s.fits.present goes.fits.present s.says goes.says) q.line n.line s.fits.stood goes.fits.stood,
      apart_each all d t holds n qs goes stay.1,
    )

abbrev IsIndexOf : Name → CatalogLine → Type 0
IsIndexOf name (Relation r) = ⊥
IsIndexOf name (Global g) = ⊥
IsIndexOf name (FieldOf f) = ⊥
IsIndexOf name (Index x) = name ≡ x.name

-- no line that stays has the name of an index that goes
index_other : (name : Name) (y x : CatalogLine) → Apart y x → IsIndexOf name x → IsNoIndex name y
index_other name (Relation r) x apart is = tt
index_other name (Global g) x apart is = tt
index_other name (FieldOf f) x apart is = tt
index_other name (Index y) (Index x) apart is = subst (λ n. DifferentNames n y.name) (sym is) (untied_back chars_order chars_total y.name x.name apart.0)
index_other name (Index y) (Relation s) apart is = absurd is
index_other name (Index y) (Global h) apart is = absurd is
index_other name (Index y) (FieldOf f) apart is = absurd is

all_other : (name : Name) (x : CatalogLine) (qs : List PlacedLine) → IsIndexOf name x → AllByRecursion (λ q. Apart q.line x) qs → AllByRecursion (λ q. IsNoIndex name q.line) qs
all_other name x [] is apart = tt
all_other name x (q ∷ qs) is apart = (index_other name q.line x apart.0 is, all_other name x qs is apart.1)

new_line : (e : Directory) (qs : List PlacedLine) (line : CatalogLine) → AllByRecursion (λ q. Apart q.line line) qs → IsNewIndex (tables_from e no_tables qs) line
new_line e qs (Relation r) apart = tt
new_line e qs (Global g) apart = tt
new_line e qs (FieldOf f) apart = tt
new_line e qs (Index x) apart = indexes_past e x.name qs no_tables (all_other x.name (Index x) qs refl apart)

all_new : (all : Lines) (d : Directory) (t : Tables) (holds : CatalogLine → Bool) (e : Directory) (qs ns : List PlacedLine) → AllByRecursion (Says all d t holds false) qs → AllByRecursion (Says all d t holds true) ns → AllByRecursion (λ n. IsNewIndex (tables_from e no_tables qs) n.line) ns
all_new all d t holds e qs [] stay go = tt
all_new all d t holds e qs (n ∷ ns) stay go = (new_line e qs n.line (apart_each all d t holds n qs go.0 stay), all_new all d t holds e qs ns stay go.1)

-- a relation that stays has another name
relation_other : (d : Directory) (t : Tables) (n : Name) (area : ℕ) (key : Dbkey) (line : CatalogLine) → area_of (relation_named n t) ≡ area → stands d t key line ≡ true → is_of_relation area line ≡ false → IsNoRelation n line
relation_other d t n area key (Relation r) on stood isnt =
    elim (is_eq (chars_order n r.name)) as (λ b. is_eq (chars_order n r.name) ≡ b → b ≡ false) [
      | true ↦ λ tie.
          let own : r.area ≡ area = sym (relation_parts d t key r stood).0 ∙ ap (λ m. area_of (relation_named m t)) (sym (name_is n r.name tie)) ∙ on in
          let here : (r.area == area) ≡ true = ap (λ (a : ℕ). a == area) own ∙ eq_itself area in
          let bad : ⊥ = cc in
          absurd bad
      | false ↦ λ _. refl
    ] refl
relation_other d t n area key (Global g) on stood isnt = tt
relation_other d t n area key (FieldOf f) on stood isnt = tt
relation_other d t n area key (Index x) on stood isnt = tt

all_relations_other : (all : Lines) (d : Directory) (t : Tables) (n : Name) (area : ℕ) (qs : List PlacedLine) → area_of (relation_named n t) ≡ area → AllByRecursion (Says all d t (is_of_relation area) false) qs → AllByRecursion (λ q. IsNoRelation n q.line) qs
all_relations_other all d t n area [] on stay = tt
all_relations_other all d t n area (q ∷ qs) on stay = (relation_other d t n area q.key q.line on stay.0.fits.stood stay.0.says, all_relations_other all d t n area qs on stay.1)

-- an index that stays is on another relation
abbrev IsElsewhere : ℕ → Name × IndexOf → Type 0
IsElsewhere area e = (e.1.relation == area) ≡ false

put_elsewhere : (area : ℕ) (m : Name) (v : IndexOf) (es : List (Name × IndexOf)) → (v.relation == area) ≡ false → AllByRecursion (IsElsewhere area) es → AllByRecursion (IsElsewhere area) (put chars_order m v es)
put_elsewhere area m v [] off each = (off, tt)
put_elsewhere area m v (e ∷ es) off each =
    elim (chars_order m e.0) as (λ r. AllByRecursion (IsElsewhere area) (by_order r ((m, v) ∷ e ∷ es) ((e.0, v) ∷ es) (e ∷ put chars_order m v es))) [
      | Less ↦ (off, each)
      | Equal ↦ (off, each.1)
      | Greater ↦ (each.0, put_elsewhere area m v es off each.1)
    ]

line_elsewhere : (e : Directory) (area : ℕ) (line : CatalogLine) (t : Tables) → is_of_relation area line ≡ false → AllByRecursion (IsElsewhere area) t.indexes → AllByRecursion (IsElsewhere area) (with_thing e line t).indexes
line_elsewhere e area (Relation r) t isnt each = each
line_elsewhere e area (Global g) t isnt each = each
line_elsewhere e area (FieldOf f) t isnt each = each
line_elsewhere e area (Index x) t isnt each = put_elsewhere area x.name _ t.indexes isnt each

lines_elsewhere : (all : Lines) (d : Directory) (s : Tables) (e : Directory) (area : ℕ) (qs : List PlacedLine) (t : Tables) → AllByRecursion (Says all d s (is_of_relation area) false) qs → AllByRecursion (IsElsewhere area) t.indexes → AllByRecursion (IsElsewhere area) (tables_from e t qs).indexes
lines_elsewhere all d s e area [] t stay each = each
lines_elsewhere all d s e area (q ∷ qs) t stay each = lines_elsewhere all d s e area qs (with_thing e q.line t) stay.1 (line_elsewhere e area q.line t stay.0.says each)

elsewhere_all : (area : ℕ) (es : List (Name × IndexOf)) → AllByRecursion (IsElsewhere area) es → elsewhere area es ≡ es
elsewhere_all area [] each = refl
elsewhere_all area (e ∷ es) each = ap (λ b. cond (not b) (e ∷ elsewhere area es) (elsewhere area es)) each.0 ∙ ap (λ l. e ∷ l) (elsewhere_all area es each.1)

-- ---- the catalog

the_line : (all : Lines) (c : Catalog) (n : Name) (rel : RelationOf) → AllByRecursion (Fits all (directory c.lines) (catalog_tables c.lines)) c.lines → relation_named n (catalog_tables c.lines) ≡ Some rel → NamedLine all (directory c.lines) (catalog_tables c.lines) n rel
the_line all c n rel fits found =
    elim (named_lines all (directory c.lines) (directory c.lines) (catalog_tables c.lines) n rel c.lines no_tables fits found) [
      | inl h ↦ let bad : ⊥ = cc in absurd bad
      | inr r ↦ r
    ]

pub relation_goes : (all : Lines) (c : Catalog) (n : Name) → IsInOrder all → IsCatalogOf all c → needs_some n (relation_named n c.tables) ≡ None → Leaves all (erasures (keys_where (is_of_relation (area_of (relation_named n c.tables))) c.lines)) (without_relation n c.tables)
relation_goes all c n sorted is none =
    let some = some_named n (relation_named n c.tables) none in
    let rel = some.0 in
    let area = area_of (relation_named n c.tables) in
    let on : rel.area ≡ area = sym (ap area_of some.1) in
    let holds = is_of_relation area in
    let ps = c.lines in
    let d = directory ps in
    let t = catalog_tables ps in
    let left = kept holds ps in
    let u = catalog_tables left in
    let e = directory left in
    let r = remains all c holds (away area) sorted is in
    let found : relation_named n t ≡ Some rel = ap (relation_named n) (sym is.tables) ∙ some.1 in
    let go = all_go all d t n rel (the_line all c n rel r.fits found) area (gone holds ps) on r.go in
    let globals = ap (λ (v : Tables). v.globals) r.tables ∙ all_globals d n area (gone holds ps) u go in
    let same_name : find chars_order n u.relations ≡ None = relations_past e n left no_tables (all_relations_other all d t n area left (ap (λ v. area_of (relation_named n v)) (sym is.tables)) r.stay) in
    let relations = ap (λ (v : Tables). without n v.relations) r.tables ∙ all_relations d n area (gone holds ps) u go ∙ without_none n u.relations same_name in
    let new = all_new all d t holds e left (gone holds ps) r.stay r.go in
    let indexes = ap (λ (v : Tables). elsewhere area v.indexes) r.tables ∙ all_elsewhere d n area (gone holds ps) u go (chosen_pairs (λ p. holds p.line) ps r.pairs) new ∙ elsewhere_all area u.indexes (lines_elsewhere all d t e area left no_tables r.stay tt) in
    record {
      after = record { lines = left; tables = u };
      catalog = r.catalog;
      tables = sym (λ i. record { globals = globals i; relations = relations i; indexes = indexes i });
    }
