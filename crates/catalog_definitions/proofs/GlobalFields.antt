-- A global field more.
use Rattle.std.proofs.Common.{◌≡◌, true, List, [], ◌∷◌, None, refl, sym, ap, ◌∙◌}
use Rattle.std.specs.List.{AllByRecursion}
use Rattle.std.specs.Ordering.{is_eq}
use Rattle.std.specs.Cmp.{tied_itself}
use Rattle.std.specs.FinMap.Entries.{find}
use Rattle.rdb_types.specs.declared.keys.Dbkey.{Dbkey}
use Rattle.ordered_entries.proofs.Laws.{find-put_same}
use Rattle.rdb_types.specs.OrderLaws.{chars_total, dbkey_total}
use Rattle.rdb_meaning.specs.declared.tables.Tables.{Tables}
use Rattle.rdb_meaning.specs.Contents.{no_tables}
use Rattle.rdb_types.specs.Order.{chars_order}
use Rattle.rdb_meaning.specs.Defining.{with_field}
use Rattle.line_view.specs.Knowledge.{Knowledge, Lines}
use Rattle.line_view.specs.declared.writes.Write.{Write}
use Rattle.line_view.specs.Writes.{laid_all}
use Rattle.catalog_lines.specs.declared.line.GlobalLine.{GlobalLine}
use Rattle.catalog_lines.specs.declared.line.CatalogLine.{CatalogLine}
use Rattle.catalog_lines.specs.declared.line.CatalogLine.TheVariants.{Relation, Global, Field as FieldOf, Index}
use Rattle.catalog.specs.declared.directory.PlacedLine.{PlacedLine}
use Rattle.catalog.specs.declared.directory.Directory.{Directory}
use Rattle.catalog.specs.declared.reading.Catalog.{Catalog}
use Rattle.catalog.specs.Directory.{noted, directory}
use Rattle.catalog.specs.Schema.{with_thing, tables_from, catalog_tables, is_key, stands}
use Rattle.catalog.specs.Reading.{IsPresent, IsCatalogOf, IsWhole}
use Rattle.catalog_lines.specs.Lines.{IsAllowedLine}
use Rattle.std.proofs.lemmas.List.Elements.{recursion_from_All}
use Rattle.catalog_definitions.specs.Written.{AreWritten}
use Rattle.catalog_definitions.specs.Leaving.{Leaves, Turns}
use Rattle.catalog_definitions.proofs.Puts.{none_put, untied_back, find-put_other}
use Rattle.catalog_definitions.proofs.Growth.{Apart, AllApart}
use Rattle.catalog_definitions.proofs.Laying.{LaidAll, laid_lines, rooms_apart, rooms_free}
use Rattle.catalog_definitions.proofs.Fitting.{Stands, fit_all, all_pairs, tables_by, grown_catalog, laid_one, one_grows}

allowed_lines : (all : Lines) (ps : List PlacedLine) → AllByRecursion (IsPresent all) ps → AllByRecursion (λ p. IsAllowedLine p.line) ps
allowed_lines all [] each = tt
allowed_lines all (p ∷ ps) each = (each.0.decodes.allowed, allowed_lines all ps each.1)

pub whole_of : (all : Lines) (c : Catalog) → IsCatalogOf all c → IsWhole c
whole_of all c is = record { allowed = allowed_lines all c.lines (recursion_from_All (IsPresent all) c.lines is.lines.images); fit = is.fit; tables = is.tables }

-- ---- another name

line_apart : (d : Directory) (g : GlobalLine) (line : CatalogLine) (t : Tables) → find chars_order g.name (with_thing d line t).globals ≡ None → (find chars_order g.name t.globals ≡ None) × Apart (Global g) line
line_apart d g (Relation r) t none = (none, tt)
line_apart d g (Global h) t none = let parts = none_put chars_order chars_total g.name h.name h.kind t.globals none in (parts.1, parts.0)
line_apart d g (FieldOf f) t none = (none, tt)
line_apart d g (Index x) t none = (none, tt)

lines_apart : (d : Directory) (k : Dbkey) (g : GlobalLine) (ps : List PlacedLine) (t : Tables) → find chars_order g.name (tables_from d t ps).globals ≡ None → (find chars_order g.name t.globals ≡ None) × AllApart (record { key = k; line = Global g }) ps
lines_apart d k g [] t none = (none, tt)
lines_apart d k g (q ∷ ps) t none =
    let rest = lines_apart d k g ps (with_thing d q.line t) none in
    let here = line_apart d g q.line t rest.0 in
    (here.0, (here.1, rest.1))

-- ---- the other lines

abbrev noted_global : Dbkey → GlobalLine → Directory → Directory
noted_global k g d = noted k (Global g) d

still_stands : (d : Directory) (t : Tables) (k key : Dbkey) (g : GlobalLine) (line : CatalogLine) → Apart (Global g) line → stands d t key line ≡ true → stands (noted_global k g d) (with_field g.name g.kind t) key line ≡ true
still_stands d t k key g (Relation r) apart stood = stood
still_stands d t k key g (Global h) apart stood =
    ap (is_key key) (find-put_other chars_order chars_total h.name g.name k d.globals (untied_back chars_order chars_total g.name h.name apart)) ∙ stood
still_stands d t k key g (FieldOf f) apart stood = stood
still_stands d t k key g (Index x) apart stood = stood

pub global_leaves : (all : Lines) (writes : List Write) (c : Catalog) (g : GlobalLine) → LaidAll (laid_all writes all) (Global g ∷ []) c.lines → IsCatalogOf all c → find chars_order g.name c.tables.globals ≡ None → Leaves all writes (with_field g.name g.kind c.tables)
global_leaves all writes c g laid is none =
    let ps = c.lines in
    let d = directory ps in
    let t = catalog_tables ps in
    let one = laid_one (laid_all writes all) (Global g) ps laid in
    let n : PlacedLine = record { key = one.key; line = Global g } in
    let apart : AllApart n ps = (lines_apart d one.key g ps no_tables (ap (λ u. find chars_order g.name u.globals) (sym is.tables) ∙ none)).1 in
    let e = noted_global one.key g d in
    let u = with_field g.name g.kind t in
    let old = all_pairs (Stands d t) (λ q. Apart (Global g) q.line) (Stands e u) (λ q stood other. still_stands d t one.key q.key g q.line other stood) ps (fit_all d t ps is.fit) apart in
    let new : Stands e u n = ap (is_key one.key) (find-put_same chars_order chars_total g.name one.key d.globals) ∙ ap is_eq (tied_itself dbkey_total one.key) in
    record {
      after = record { lines = one.rs; tables = u };
      catalog = grown_catalog (laid_all writes all) (n ∷ []) ps one.rs e u (one_grows n ps one.rs one.step apart) one.lines refl (tables_by e d ps no_tables refl) refl old (new, tt);
      tables = ap (with_field g.name g.kind) (sym is.tables);
    }

pub turns : (known : Knowledge) (c : Catalog) (g : GlobalLine) (writes : List Write) → AreWritten known 0 (Global g ∷ []) writes → find chars_order g.name c.tables.globals ≡ None → Turns known c (with_field g.name g.kind c.tables) writes
turns known c g writes written none all sorted agrees is =
    global_leaves all writes c g (laid_lines known 0 (Global g ∷ []) writes written (rooms_apart known all agrees) all sorted (rooms_free known all agrees) c.lines is.lines) is none
