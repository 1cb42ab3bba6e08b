-- Catalogs that have grown.
use Rattle.std.proofs.Common.{◌≡◌, ℕ, Bool, true, false, List, [], ◌∷◌, length, Option, Some, None, refl, sym, ap, subst, ◌∙◌, arith, if◌then◌else◌}
use Rattle.std.specs.List.{AllByRecursion}
use Rattle.rdb_types.specs.declared.keys.Dbkey.{Dbkey}
use Rattle.rdb_meaning.specs.declared.tables.Tables.{Tables}
use Rattle.rdb_meaning.specs.Contents.{no_tables}
use Rattle.rdb_types.specs.Order.{chars_order}
use Rattle.line_view.specs.Knowledge.{Lines}
use Rattle.catalog_lines.specs.declared.line.CatalogLine.{CatalogLine}
use Rattle.catalog_lines.specs.declared.line.CatalogLine.TheVariants.{Relation, Global, Field as FieldOf, Index}
use Rattle.std.specs.FinMap.Entries.{put}
use Rattle.catalog.specs.declared.directory.PlacedLine.{PlacedLine}
use Rattle.catalog.specs.declared.directory.Directory.{Directory}
use Rattle.catalog.specs.Directory.{directory, directory_from, no_directory}
use Rattle.catalog.specs.Schema.{with_thing, relation_fields, fields_from, tables_from, catalog_tables, stands, misfit_from}
use Rattle.catalog.specs.Reading.{AreCatalogLines, IsCatalogOf}
use Rattle.catalog_definitions.proofs.Growth.{Step, Grows, GrowsApart, AllApart, note_grown, thing_grown, all_grown}
use Rattle.catalog_definitions.proofs.Laying.{placed_at, LaidAll}

-- the line goes with the others
abbrev pub Stands : Directory → Tables → PlacedLine → Type 0
Stands d t q = stands d t q.key q.line ≡ true

first_fits : (b : Bool) (rest : Option Dbkey) (key : Dbkey) → (if b then rest else Some key) ≡ None → (b ≡ true) × (rest ≡ None)
first_fits true rest key none = (refl, none)
first_fits false rest key none = let bad : ⊥ = cc in absurd bad

pub fit_all : (d : Directory) (t : Tables) (ps : List PlacedLine) → misfit_from d t ps ≡ None → AllByRecursion (Stands d t) ps
fit_all d t [] fit = tt
fit_all d t (p ∷ ps) fit =
    let parts = first_fits (stands d t p.key p.line) (misfit_from d t ps) p.key fit in
    (parts.0, fit_all d t ps parts.1)

pub all_fit : (d : Directory) (t : Tables) (ps : List PlacedLine) → AllByRecursion (Stands d t) ps → misfit_from d t ps ≡ None
all_fit d t [] each = refl
all_fit d t (p ∷ ps) each = ap (λ b. if b then misfit_from d t ps else Some p.key) each.0 ∙ all_fit d t ps each.1

pub all_pairs : (P Q S : PlacedLine → Type 0) → ((q : PlacedLine) → P q → Q q → S q) → (ps : List PlacedLine) → AllByRecursion P ps → AllByRecursion Q ps → AllByRecursion S ps
all_pairs P Q S both [] ps qs = tt
all_pairs P Q S both (x ∷ xs) ps qs = (both x ps.0 qs.0, all_pairs P Q S both xs ps.1 qs.1)

-- ---- the fields of relations

pub fields_by : (d e : Directory) (area : ℕ) → d.fields ≡ e.fields → relation_fields area d ≡ relation_fields area e
unfolding relation_fields
fields_by d e area same = ap (fields_from 50 area 0) same

-- the relation of a line has these fields in both
abbrev pub HasFields : Directory → Directory → CatalogLine → Type 0
HasFields d e (Relation r) = relation_fields r.area d ≡ relation_fields r.area e
HasFields d e (Global g) = Unit {0}
HasFields d e (FieldOf f) = Unit {0}
HasFields d e (Index x) = Unit {0}

thing_on : (d e : Directory) (line : CatalogLine) (t : Tables) → HasFields d e line → with_thing d line t ≡ with_thing e line t
thing_on d e (Relation r) t same =
    ap (λ fs. let u : Tables = record t { relations = put chars_order r.name (record { area = r.area; fields = fs; rows = [] }) t.relations } in u) same
thing_on d e (Global g) t same = refl
thing_on d e (FieldOf f) t same = refl
thing_on d e (Index x) t same = refl

pub tables_on : (d e : Directory) (ps : List PlacedLine) (t : Tables) → AllByRecursion (λ q. HasFields d e q.line) ps → tables_from d t ps ≡ tables_from e t ps
tables_on d e [] t same = refl
tables_on d e (q ∷ ps) t same = tables_on d e ps (with_thing d q.line t) same.1 ∙ ap (λ u. tables_from e u ps) (thing_on d e q.line t same.0)

line_by : (d e : Directory) (line : CatalogLine) → d.fields ≡ e.fields → HasFields d e line
line_by d e (Relation r) same = fields_by d e r.area same
line_by d e (Global g) same = tt
line_by d e (FieldOf f) same = tt
line_by d e (Index x) same = tt

lines_by : (d e : Directory) (ps : List PlacedLine) → d.fields ≡ e.fields → AllByRecursion (λ q. HasFields d e q.line) ps
lines_by d e [] same = tt
lines_by d e (q ∷ ps) same = (line_by d e q.line same, lines_by d e ps same)

pub tables_by : (d e : Directory) (ps : List PlacedLine) (t : Tables) → d.fields ≡ e.fields → tables_from d t ps ≡ tables_from e t ps
tables_by d e ps t same = tables_on d e ps t (lines_by d e ps same)

-- ---- catalogs

-- lines of other things among which all stand make a catalog
pub grown_catalog : (all : Lines) (news ps rs : List PlacedLine) (d : Directory) (t : Tables) → GrowsApart news ps rs → AreCatalogLines all rs
    → d ≡ directory_from (directory ps) news → tables_from d no_tables ps ≡ catalog_tables ps → t ≡ tables_from d (catalog_tables ps) news
    → AllByRecursion (Stands d t) ps → AllByRecursion (Stands d t) news
    → IsCatalogOf all (record { lines = rs; tables = t })
grown_catalog all news ps rs d t grows are dir same tables old new =
    let dirs : directory rs ≡ d = note_grown news ps rs no_directory grows ∙ sym dir in
    let things : tables_from d no_tables rs ≡ t = thing_grown d news ps rs no_tables grows ∙ ap (λ u. tables_from d u news) same ∙ sym tables in
    let made : catalog_tables rs ≡ t = ap (λ e. tables_from e no_tables rs) dirs ∙ things in
    record {
      lines = are;
      fit = (λ i. misfit_from (dirs i) (made i) rs) ∙ all_fit d t rs (all_grown (Stands d t) news ps rs grows new old);
      tables = sym made;
    }

-- ---- one line

pub record LaidOne (all : Lines) (line : CatalogLine) (ps : List PlacedLine) : Type 0 where
  pub key : Dbkey
  pub rs : List PlacedLine
  pub step : Step (record { key = key; line = line }) ps rs
  pub lines : AreCatalogLines all rs

at_one : (all : Lines) (line : CatalogLine) (ps : List PlacedLine) (keys : List Dbkey) (rs : List PlacedLine) → length keys ≡ 1 → Grows (placed_at keys (line ∷ [])) ps rs → AreCatalogLines all rs → LaidOne all line ps
at_one all line ps [] rs count grows are = absurd (omega (arith, count))
at_one all line ps (k ∷ []) rs count grows are = record { key = k; rs = rs; step = subst (Step (record { key = k; line = line }) ps) grows.2 grows.1; lines = are }
at_one all line ps (k ∷ l ∷ keys) rs count grows are = absurd (omega (arith, count))

pub laid_one : (all : Lines) (line : CatalogLine) (ps : List PlacedLine) → LaidAll all (line ∷ []) ps → LaidOne all line ps
laid_one all line ps l = at_one all line ps l.keys l.rs l.count l.grows l.lines

pub one_grows : (n : PlacedLine) (ps rs : List PlacedLine) → Step n ps rs → AllApart n ps → GrowsApart (n ∷ []) ps rs
one_grows n ps rs step apart = (rs, step, apart, refl)
