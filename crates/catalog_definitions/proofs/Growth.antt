-- Lines of the catalog put among others.
use Rattle.std.proofs.Common.{◌≡◌, ℕ, false, List, [], ◌∷◌, ◌++◌, refl, sym, ap, subst, ◌∙◌}
use Rattle.std.specs.List.{AllByRecursion}
use Rattle.std.specs.Ordering.{is_eq}
use Rattle.std.specs.Cmp.{IsTotalOrder, nat_cmp_total, on_total, then_total}
use Rattle.std.specs.FinMap.Entries.{put}
use Rattle.rdb_types.specs.declared.keys.Dbkey.{Dbkey}
use Rattle.rdb_types.specs.OrderLaws.{chars_total}
use Rattle.rdb_meaning.specs.declared.tables.Tables.{Tables}
use Rattle.rdb_types.specs.Order.{chars_order}
use Rattle.catalog_lines.specs.declared.line.CatalogLine.{CatalogLine}
use Rattle.catalog_lines.specs.declared.line.CatalogLine.TheVariants.{Relation, Global, Field as FieldOf, Index}
use Rattle.catalog.specs.declared.directory.LogicalArea.{LogicalArea}
use Rattle.catalog.specs.declared.directory.FieldPlace.{FieldPlace}
use Rattle.catalog.specs.declared.directory.PlacedLine.{PlacedLine}
use Rattle.catalog.specs.declared.directory.Directory.{Directory}
use Rattle.catalog.specs.Directory.{area_order, place_order, numbered, place, noted, directory_from}
use Rattle.catalog.specs.Schema.{with_thing, tables_from}
use Rattle.catalog_definitions.proofs.Puts.{put_either}

pub area_total : IsTotalOrder area_order
area_total = on_total (λ (a : LogicalArea). a.number) nat_cmp_total

pub place_total : IsTotalOrder place_order
place_total = then_total (on_total (λ (p : FieldPlace). p.relation) nat_cmp_total) (on_total (λ (p : FieldPlace). p.position) nat_cmp_total)

-- ---- lines of different things

abbrev pub DifferentNames : List ℕ → List ℕ → Type 0
DifferentNames m n = is_eq (chars_order m n) ≡ false

abbrev pub DifferentAreas : ℕ → ℕ → Type 0
DifferentAreas a b = is_eq (area_order (numbered a) (numbered b)) ≡ false

abbrev pub Apart : CatalogLine → CatalogLine → Type 0
Apart (Relation r) (Relation s) = DifferentNames r.name s.name × DifferentAreas r.area s.area
Apart (Relation r) (Index y) = DifferentAreas r.area y.area
Apart (Relation r) (Global h) = Unit {0}
Apart (Relation r) (FieldOf f) = Unit {0}
Apart (Global g) (Global h) = DifferentNames g.name h.name
Apart (Global g) (Relation s) = Unit {0}
Apart (Global g) (FieldOf f) = Unit {0}
Apart (Global g) (Index y) = Unit {0}
Apart (FieldOf e) (FieldOf f) = is_eq (place_order (place e.relation e.position) (place f.relation f.position)) ≡ false
Apart (FieldOf e) (Relation s) = Unit {0}
Apart (FieldOf e) (Global h) = Unit {0}
Apart (FieldOf e) (Index y) = Unit {0}
Apart (Index x) (Index y) = DifferentNames x.name y.name × DifferentAreas x.area y.area
Apart (Index x) (Relation s) = DifferentAreas x.area s.area
Apart (Index x) (Global h) = Unit {0}
Apart (Index x) (FieldOf f) = Unit {0}

areas_either : (k l : Dbkey) (a b : ℕ) (d : Directory) → DifferentAreas a b →
    (let t : Directory = record d { areas = put area_order (numbered a) k (put area_order (numbered b) l d.areas) } in t)
    ≡ record d { areas = put area_order (numbered b) l (put area_order (numbered a) k d.areas) }
areas_either k l a b d apart = ap (λ m. let e : Directory = record d { areas = m } in e) (put_either area_order area_total (numbered a) (numbered b) k l d.areas apart)

noted_either : (k l : Dbkey) (a b : CatalogLine) (d : Directory) → Apart a b → noted k a (noted l b d) ≡ noted l b (noted k a d)
noted_either k l (Relation r) (Relation s) d apart = areas_either k l r.area s.area d apart.1
noted_either k l (Relation r) (Index y) d apart = areas_either k l r.area y.area d apart
noted_either k l (Relation r) (Global h) d apart = refl
noted_either k l (Relation r) (FieldOf f) d apart = refl
noted_either k l (Global g) (Global h) d apart = ap (λ m. let e : Directory = record d { globals = m } in e) (put_either chars_order chars_total g.name h.name k l d.globals apart)
noted_either k l (Global g) (Relation s) d apart = refl
noted_either k l (Global g) (FieldOf f) d apart = refl
noted_either k l (Global g) (Index y) d apart = refl
noted_either k l (FieldOf e) (FieldOf f) d apart =
    ap (λ m. let x : Directory = record d { fields = m } in x)
    (put_either place_order place_total (place e.relation e.position) (place f.relation f.position) (record { key = k; field = e.field }) (record { key = l; field = f.field }) d.fields apart)
noted_either k l (FieldOf e) (Relation s) d apart = refl
noted_either k l (FieldOf e) (Global h) d apart = refl
noted_either k l (FieldOf e) (Index y) d apart = refl
noted_either k l (Index x) (Index y) d apart = areas_either k l x.area y.area d apart.1
noted_either k l (Index x) (Relation s) d apart = areas_either k l x.area s.area d apart
noted_either k l (Index x) (Global h) d apart = refl
noted_either k l (Index x) (FieldOf f) d apart = refl

thing_either : (d : Directory) (a b : CatalogLine) (t : Tables) → Apart a b → with_thing d a (with_thing d b t) ≡ with_thing d b (with_thing d a t)
thing_either d (Relation r) (Relation s) t apart = ap (λ m. let u : Tables = record t { relations = m } in u) (put_either chars_order chars_total r.name s.name _ _ t.relations apart.0)
thing_either d (Relation r) (Index y) t apart = refl
thing_either d (Relation r) (Global h) t apart = refl
thing_either d (Relation r) (FieldOf f) t apart = refl
thing_either d (Global g) (Global h) t apart = ap (λ m. let u : Tables = record t { globals = m } in u) (put_either chars_order chars_total g.name h.name _ _ t.globals apart)
thing_either d (Global g) (Relation s) t apart = refl
thing_either d (Global g) (FieldOf f) t apart = refl
thing_either d (Global g) (Index y) t apart = refl
thing_either d (FieldOf e) b t apart = refl
thing_either d (Index x) (Index y) t apart = ap (λ m. let u : Tables = record t { indexes = m } in u) (put_either chars_order chars_total x.name y.name _ _ t.indexes apart.0)
thing_either d (Index x) (Relation s) t apart = refl
thing_either d (Index x) (Global h) t apart = refl
thing_either d (Index x) (FieldOf f) t apart = refl

-- ---- one line more

-- the line stands somewhere among the others
pub record Step (n : PlacedLine) (ps qs : List PlacedLine) : Type 0 where
  pub before : List PlacedLine
  pub behind : List PlacedLine
  pub was : ps ≡ before ++ behind
  pub now : qs ≡ before ++ n ∷ behind

abbrev pub AllApart : PlacedLine → List PlacedLine → Type 0
AllApart n = AllByRecursion (λ q. Apart n.line q.line)

note_last : (n : PlacedLine) (ps : List PlacedLine) (d : Directory) → AllApart n ps → directory_from (noted n.key n.line d) ps ≡ noted n.key n.line (directory_from d ps)
note_last n [] d apart = refl
note_last n (q ∷ qs) d apart = ap (λ e. directory_from e qs) (sym (noted_either n.key q.key n.line q.line d apart.0)) ∙ note_last n qs (noted q.key q.line d) apart.1

note_among : (n : PlacedLine) (before behind : List PlacedLine) (d : Directory) → AllApart n (before ++ behind) → directory_from d (before ++ n ∷ behind) ≡ noted n.key n.line (directory_from d (before ++ behind))
note_among n [] behind d apart = note_last n behind d apart
note_among n (b ∷ before) behind d apart = note_among n before behind (noted b.key b.line d) apart.1

thing_last : (d : Directory) (n : PlacedLine) (ps : List PlacedLine) (t : Tables) → AllApart n ps → tables_from d (with_thing d n.line t) ps ≡ with_thing d n.line (tables_from d t ps)
thing_last d n [] t apart = refl
thing_last d n (q ∷ qs) t apart = ap (λ u. tables_from d u qs) (sym (thing_either d n.line q.line t apart.0)) ∙ thing_last d n qs (with_thing d q.line t) apart.1

thing_among : (d : Directory) (n : PlacedLine) (before behind : List PlacedLine) (t : Tables) → AllApart n (before ++ behind) → tables_from d t (before ++ n ∷ behind) ≡ with_thing d n.line (tables_from d t (before ++ behind))
thing_among d n [] behind t apart = thing_last d n behind t apart
thing_among d n (b ∷ before) behind t apart = thing_among d n before behind (with_thing d b.line t) apart.1

all_among : (P : PlacedLine → Type 0) (n : PlacedLine) (before behind : List PlacedLine) → P n → AllByRecursion P (before ++ behind) → AllByRecursion P (before ++ n ∷ behind)
all_among P n [] behind one each = (one, each)
all_among P n (b ∷ before) behind one each = (each.0, all_among P n before behind one each.1)

pub note_step : (n : PlacedLine) (ps qs : List PlacedLine) (d : Directory) → Step n ps qs → AllApart n ps → directory_from d qs ≡ noted n.key n.line (directory_from d ps)
note_step n ps qs d s apart =
    ap (directory_from d) s.now ∙ note_among n s.before s.behind d (subst (AllApart n) s.was apart) ∙ ap (λ l. noted n.key n.line (directory_from d l)) (sym s.was)

pub thing_step : (d : Directory) (n : PlacedLine) (ps qs : List PlacedLine) (t : Tables) → Step n ps qs → AllApart n ps → tables_from d t qs ≡ with_thing d n.line (tables_from d t ps)
thing_step d n ps qs t s apart =
    ap (tables_from d t) s.now ∙ thing_among d n s.before s.behind t (subst (AllApart n) s.was apart) ∙ ap (λ l. with_thing d n.line (tables_from d t l)) (sym s.was)

pub all_step : (P : PlacedLine → Type 0) (n : PlacedLine) (ps qs : List PlacedLine) → Step n ps qs → P n → AllByRecursion P ps → AllByRecursion P qs
all_step P n ps qs s one each = subst (AllByRecursion P) (sym s.now) (all_among P n s.before s.behind one (subst (AllByRecursion P) s.was each))

-- ---- several lines more

-- each of the lines is put among those that are there then
abbrev pub Grows : List PlacedLine → List PlacedLine → List PlacedLine → Type 0
Grows [] ps rs = ps ≡ rs
Grows (n ∷ news) ps rs = (qs : List PlacedLine) × Step n ps qs × Grows news qs rs

-- the lines of different things
abbrev pub GrowsApart : List PlacedLine → List PlacedLine → List PlacedLine → Type 0
GrowsApart [] ps rs = ps ≡ rs
GrowsApart (n ∷ news) ps rs = (qs : List PlacedLine) × Step n ps qs × AllApart n ps × GrowsApart news qs rs

pub note_grown : (news ps rs : List PlacedLine) (d : Directory) → GrowsApart news ps rs → directory_from d rs ≡ directory_from (directory_from d ps) news
note_grown [] ps rs d grows = ap (directory_from d) (sym grows)
note_grown (n ∷ news) ps rs d grows =
    note_grown news grows.0 rs d grows.3 ∙ ap (λ e. directory_from e news) (note_step n ps grows.0 d grows.1 grows.2)

pub thing_grown : (d : Directory) (news ps rs : List PlacedLine) (t : Tables) → GrowsApart news ps rs → tables_from d t rs ≡ tables_from d (tables_from d t ps) news
thing_grown d [] ps rs t grows = ap (tables_from d t) (sym grows)
thing_grown d (n ∷ news) ps rs t grows =
    thing_grown d news grows.0 rs t grows.3 ∙ ap (λ u. tables_from d u news) (thing_step d n ps grows.0 t grows.1 grows.2)

pub all_grown : (P : PlacedLine → Type 0) (news ps rs : List PlacedLine) → GrowsApart news ps rs → AllByRecursion P news → AllByRecursion P ps → AllByRecursion P rs
all_grown P [] ps rs grows new each = subst (AllByRecursion P) grows each
all_grown P (n ∷ news) ps rs grows new each = all_grown P news grows.0 rs grows.3 new.1 (all_step P n ps grows.0 grows.1 new.0 each)
