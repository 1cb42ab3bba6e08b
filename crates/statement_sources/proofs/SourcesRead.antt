-- The sources of the relations of a catalog, put in one after another.
use Rattle.std.proofs.Common.{◌≡◌, ◌⊎◌, inl, inr, ℕ, zero, suc, Bool, true, false, cond, List, [], ◌∷◌, map, drop, Option, Some, None, refl, sym, ap, subst, ◌∙◌, nat_eq}
use Rattle.std.specs.Prelude.{IsSome, is_some, option_map}
use Rattle.std.specs.Ordering.{is_eq, is_lt, ordering_reverse}
use Rattle.std.specs.FinMap.Entries.{find, is_sorted, below_all}
use Rattle.indexmap.specs.IndexMap.{insert_entry}
use Rattle.std.proofs.lemmas.Bool.{and_parts, eqb-true}
use Rattle.std.proofs.lemmas.Cmp.{tied_itself}
use Rattle.std.proofs.lemmas.Option.{none-some, same_Some}
use Rattle.rdb_types.specs.Order.{chars_order}
use Rattle.rdb_types.specs.OrderLaws.{chars_total}
use Rattle.rdo_ast.specs.Tree.{Name}
use Rattle.rdb_meaning.specs.declared.tables.Relation.{Relation as Rows}
use Rattle.rdb_meaning.specs.declared.tables.Tables.{Tables}
use Rattle.rdb_meaning.specs.Contents.{relation_named}
use Rattle.line_view.specs.Knowledge.{Lines}
use Rattle.catalog.specs.declared.reading.Catalog.{Catalog}
use Rattle.sound_lines.specs.Sound.{relation_in}
use Rattle.schema_alone.specs.Schema.{bare}
use Rattle.sound_changes.specs.Standing.{IsSoundAs}
use Rattle.sound_changes.proofs.Basics.{less, number_tests}
use Rattle.sound_changes.proofs.Schemas.{catalogs_schema}
use Rattle.sound_changes.proofs.PairPut.{own_relation}
use Rattle.rdo_select.specs.declared.source.Source.{Source}
use Rattle.rdo_select.specs.Sources.{Listed, source_at, IsSourceOf, HasSource, AreSourcesOf}
use Rattle.stored_schema.specs.Indexes.{lines_on, path_of}
use Rattle.stored_schema.specs.Targets.{IsStoredAs}
use Rattle.statement_sources.specs.Sources.{AreOfTables, AreIndexed}
use Rattle.stored_schema.proofs.Written.{in_catalog}
use Rattle.statement_sources.proofs.Read.{is_source}

-- ---- one source more

shadowed : {X : Type 0} (b : Bool) (x y z : X) → cond b x z ≡ cond b x (cond b y z)
shadowed true x y z = refl
shadowed false x y z = refl

swapped : {X : Type 0} (b c : Bool) (x y z : X) → (b ≡ true → c ≡ true → ⊥) → cond b x (cond c y z) ≡ cond c y (cond b x z)
swapped true true x y z h = absurd (h refl refl)
swapped true false x y z h = refl
swapped false true x y z h = refl
swapped false false x y z h = refl

source_put : (a k : ℕ) (v : Source) (es : Listed) → source_at a (insert_entry nat_eq es k v) ≡ cond (nat_eq a k) (Some v) (source_at a es)
source_put a k v [] = refl
source_put a k v (e ∷ es) =
    elim (nat_eq k e.0) as (λ b. nat_eq k e.0 ≡ b → source_at a (cond b ((e.0, v) ∷ es) (e ∷ insert_entry nat_eq es k v)) ≡ cond (nat_eq a k) (Some v) (cond (nat_eq a e.0) (Some e.1) (source_at a es))) [
      | true ↦ λ same.
          let key : k ≡ e.0 = eqb-true k e.0 same in
          shadowed (nat_eq a e.0) (Some v) (Some e.1) (source_at a es) ∙ ap (λ (m : ℕ). cond (nat_eq a m) (Some v) (cond (nat_eq a e.0) (Some e.1) (source_at a es))) (sym key)
      | false ↦ λ other.
          ap (cond (nat_eq a e.0) (Some e.1)) (source_put a k v es)
          ∙ swapped (nat_eq a e.0) (nat_eq a k) (Some e.1) (Some v) (source_at a es) (λ p q. let bad : ⊥ = cc (number_tests k e.0 (sym (eqb-true a k q) ∙ eqb-true a e.0 p)) in bad)
    ] refl

-- ---- entries in order, by their places

drop_nothing : {e : Name × Rows} {rest : List (Name × Rows)} (i : ℕ) → drop i [] ≡ e ∷ rest → [] ≡ e ∷ rest
drop_nothing zero h = h
drop_nothing (suc i) h = h

above : (x y : Name) → is_lt (chars_order x y) ≡ true → is_eq (chars_order y x) ≡ false
above x y low = ap is_eq (chars_total.antisymm y x ∙ ap ordering_reverse (less _ low))

below_later : (x : Name) (i : ℕ) (es rest : List (Name × Rows)) (e : Name × Rows) → below_all chars_order x es ≡ true → drop i es ≡ e ∷ rest → is_lt (chars_order x e.0) ≡ true
below_later x i [] rest e low at = let bad : ⊥ = cc (drop_nothing i at) in absurd bad
below_later x zero (f ∷ fs) rest e low at =
    let same : f ≡ e = cc in
    ap (λ (g : Name × Rows). is_lt (chars_order x g.0)) (sym same) ∙ (and_parts (is_lt (chars_order x f.0)) (below_all chars_order x fs) low).0
below_later x (suc i) (f ∷ fs) rest e low at = below_later x i fs rest e (and_parts (is_lt (chars_order x f.0)) (below_all chars_order x fs) low).1 at

named_at : (i : ℕ) (es rest : List (Name × Rows)) (e : Name × Rows) → is_sorted chars_order es ≡ true → drop i es ≡ e ∷ rest → find chars_order e.0 es ≡ Some e.1
named_at i [] rest e sorted at = let bad : ⊥ = cc (drop_nothing i at) in absurd bad
named_at zero (f ∷ fs) rest e sorted at =
    let same : f ≡ e = cc in
    ap (λ (g : Name × Rows). find chars_order e.0 (g ∷ fs)) same ∙ ap (λ r. cond (is_eq r) (Some e.1) (find chars_order e.0 fs)) (tied_itself chars_total e.0)
named_at (suc i) (f ∷ fs) rest e sorted at =
    let parts = and_parts (below_all chars_order f.0 fs) (is_sorted chars_order fs) sorted in
    let low = below_later f.0 i fs rest e parts.0 at in
    ap (λ b. cond b (Some f.1) (find chars_order e.0 fs)) (above f.0 e.0 low) ∙ named_at i fs rest e parts.1 at

-- ---- the sources of a catalog

-- This source is that of a relation of the catalog in this logical area.
pub record IsSourceIn (c : Catalog) (area : ℕ) (s : Source) : Type 0 where
  pub name : Name
  pub rel : Rows
  pub named : relation_named name c.tables ≡ Some rel
  pub placed : rel.area ≡ area
  pub stored : IsStoredAs c name rel s.relation
  pub indexes : s.indexes.now ≡ map path_of (lines_on rel.area c.lines)

-- Each source is that of a relation of the catalog; and each relation has one, or comes later.
pub record AreRead (c : Catalog) (left : List (Name × Rows)) (sources : Listed) : Type 0 where
  pub each : (area : ℕ) (s : Source) → source_at area sources ≡ Some s → IsSourceIn c area s
  pub there : (n : Name) (rel : Rows) → relation_named n c.tables ≡ Some rel → IsSome (source_at rel.area sources) ⊎ (find chars_order n left ≡ Some rel)

none_read : (c : Catalog) → AreRead c c.tables.relations []
none_read c = record { each = λ area s found. absurd (none-some s found); there = λ n rel named. inr named }

still : (b : Bool) (s : Source) (o : Option Source) → IsSome o → IsSome (cond b (Some s) o)
still true s o some = refl
still false s o some = some

one_read : (c : Catalog) (e : Name × Rows) (left : List (Name × Rows)) (sources : Listed) (s : Source) → relation_named e.0 c.tables ≡ Some e.1 → IsStoredAs c e.0 e.1 s.relation → s.indexes.now ≡ map path_of (lines_on e.1.area c.lines)
    → AreRead c (e ∷ left) sources → AreRead c left (insert_entry nat_eq sources e.1.area s)
one_read c e left sources s named stored indexes read = record {
  each = λ area s' found.
      elim (nat_eq area e.1.area) as (λ b. nat_eq area e.1.area ≡ b → cond b (Some s) (source_at area sources) ≡ Some s' → IsSourceIn c area s') [
        | true ↦ λ tie h. subst (IsSourceIn c area) (same_Some s s' h) (record { name = e.0; rel = e.1; named = named; placed = sym (eqb-true area e.1.area tie); stored = stored; indexes = indexes })
        | false ↦ λ tie h. read.each area s' h
      ] refl (sym (source_put area e.1.area s sources) ∙ found);
  there = λ n rel is.
      elim (read.there n rel is) [
        | inl some ↦ inl (ap is_some (source_put rel.area e.1.area s sources) ∙ still (nat_eq rel.area e.1.area) s (source_at rel.area sources) some)
        | inr later ↦
            elim (is_eq (chars_order n e.0)) as (λ b. cond b (Some e.1) (find chars_order n left) ≡ Some rel → IsSome (source_at rel.area (insert_entry nat_eq sources e.1.area s)) ⊎ (find chars_order n left ≡ Some rel)) [
              | true ↦ λ h. inl (ap is_some (source_put rel.area e.1.area s sources ∙ ap (λ b. cond b (Some s) (source_at rel.area sources)) (number_tests rel.area e.1.area (ap (λ (r : Rows). r.area) (sym (same_Some e.1 rel h))))))
              | false ↦ λ h. inr h
            ] later
      ];
}

-- the loop's beginning
pub start_read : (c : Catalog) (items : List (Name × Rows)) (sources : Listed) → items ≡ c.tables.relations → sources ≡ [] → AreRead c items sources
start_read c items sources are none = subst (AreRead c items) (sym none) (subst (λ (l : List (Name × Rows)). AreRead c l []) (sym are) (none_read c))

pub item_named : (c : Catalog) (items rest : List (Name × Rows)) (i : ℕ) (e : Name × Rows) → items ≡ c.tables.relations → is_sorted chars_order items ≡ true → drop i items ≡ e ∷ rest → relation_named e.0 c.tables ≡ Some e.1
item_named c items rest i e are sorted at = ap (λ (l : List (Name × Rows)). find chars_order e.0 l) (sym are) ∙ named_at i items rest e sorted at

-- the loop's step
pub next_read : (c : Catalog) (items rest : List (Name × Rows)) (i : ℕ) (e : Name × Rows) (before after : Listed) (s : Source) → items ≡ c.tables.relations → is_sorted chars_order items ≡ true → drop i items ≡ e ∷ rest
    → IsStoredAs c e.0 e.1 s.relation → s.indexes.now ≡ map path_of (lines_on s.relation.area c.lines) → after ≡ insert_entry nat_eq before s.relation.area s → AreRead c (drop i items) before → AreRead c rest after
next_read c items rest i e before after s are sorted at stored indexes put read =
    subst (AreRead c rest) (sym (put ∙ ap (λ (a : ℕ). insert_entry nat_eq before a s) stored.area))
    (one_read c e rest before s (item_named c items rest i e are sorted at) stored (indexes ∙ ap (λ (a : ℕ). map path_of (lines_on a c.lines)) stored.area)
    (subst (λ (l : List (Name × Rows)). AreRead c l before) at read))

pub all_read : (c : Catalog) (sources : Listed) → AreRead c [] sources → (n : Name) (rel : Rows) → relation_named n c.tables ≡ Some rel → IsSome (source_at rel.area sources)
all_read c sources read n rel named = elim (read.there n rel named) [ inl some ↦ some | inr later ↦ absurd (none-some rel later) ]

pub all_indexed : (c : Catalog) (sources : Listed) → AreRead c [] sources → AreIndexed c sources
all_indexed c sources read = λ area s found.
    let from = read.each area s found in
    from.indexes ∙ ap (λ (a : ℕ). map path_of (lines_on a c.lines)) from.placed

-- ---- over a sound map

module _ (all : Lines) (c : Catalog) (t : Tables) (sound : IsSoundAs all c t) where
  -- the relation of the tables that one of the catalog is without rows
  in_tables : (n : Name) (b : Rows) → relation_named n c.tables ≡ Some b → (rel : Rows) × (relation_named n t ≡ Some rel)
  in_tables n b named =
      elim (relation_named n t) as (λ o. relation_named n t ≡ o → (rel : Rows) × (relation_named n t ≡ Some rel)) [
        | None ↦ λ e. let bad : ⊥ = cc (catalogs_schema all c t sound.are n, ap (option_map bare) named, ap (option_map bare) e) in absurd bad
        | Some rel ↦ λ e. (rel, e)
      ] refl

  pub source_is : (area : ℕ) (s : Source) → IsSourceIn c area s → (rel : Rows) × (rel.area ≡ area) × (relation_in area t.relations ≡ Some rel) × IsSourceOf all rel s
  source_is area s from =
      let there = in_tables from.name from.rel from.named in
      let rel = there.0 in
      let before = in_catalog all c t from.name rel sound there.1 in
      let same : before.before ≡ from.rel = same_Some before.before from.rel (sym before.named ∙ from.named) in
      let place : from.rel.area ≡ rel.area = ap (λ (r : Rows). r.area) (sym same) ∙ before.area in
      let fields : from.rel.fields ≡ rel.fields = ap (λ (r : Rows). r.fields) (sym same) ∙ before.fields in
      let stored = from.stored in
      let here : rel.area ≡ area = sym place ∙ from.placed in (
        rel,
        here,
        ap (λ (a : ℕ). relation_in a t.relations) (sym here) ∙ own_relation all c t from.name rel (λ line. t) sound there.1,
        is_source all c t from.name rel sound there.1 s stored.version (stored.area ∙ place) (stored.fields ∙ fields) (from.indexes ∙ ap (λ (a : ℕ). map path_of (lines_on a c.lines)) place),
      )

  pub of_tables : (sources : Listed) → AreRead c [] sources → AreOfTables all t sources
  of_tables sources read = λ area s found. let is = source_is area s (read.each area s found) in (is.0, is.3)

  has_source : (rel : Rows) (o : Option Source) → IsSome o → ((s : Source) → o ≡ Some s → IsSourceOf all rel s) → HasSource all rel o
  has_source rel None some is = let bad : ⊥ = cc in absurd bad
  has_source rel (Some s) some is = is s refl

  pub are_sources : (sources : Listed) → AreRead c [] sources → AreSourcesOf all t sources
  are_sources sources read = λ n rel named.
      let before = in_catalog all c t n rel sound named in
      let some : IsSome (source_at rel.area sources) = ap (λ (a : ℕ). is_some (source_at a sources)) (sym before.area) ∙ all_read c sources read n before.before before.named in
      has_source rel (source_at rel.area sources) some (λ s found.
      let is = source_is rel.area s (read.each rel.area s found) in
      let same : is.0 ≡ rel = same_Some is.0 rel (sym is.2 ∙ own_relation all c t n rel (λ line. t) sound named) in
      subst (λ (r : Rows). IsSourceOf all r s) same is.3)
