-- What is left of a catalog where lines are erased.
use Rattle.std.proofs.Common.{◌≡◌, Bool, true, false, cond, not, List, [], ◌∷◌, refl, sym, ap, subst, ◌∙◌}
use Rattle.std.specs.List.{AllByRecursion}
use Rattle.std.specs.Ordering.{is_eq}
use Rattle.std.proofs.lemmas.List.Elements.{recursion_from_All}
use Rattle.rdb_types.specs.Order.{dbkey_order}
use Rattle.rdb_meaning.specs.declared.tables.Tables.{Tables}
use Rattle.rdb_meaning.specs.Contents.{no_tables}
use Rattle.line_view.specs.Knowledge.{Lines, IsInOrder}
use Rattle.line_view.specs.Writes.{laid_all}
use Rattle.catalog_lines.specs.declared.line.CatalogLine.{CatalogLine}
use Rattle.catalog_lines.specs.Lines.{IsAllowedLine}
use Rattle.catalog.specs.declared.directory.PlacedLine.{PlacedLine}
use Rattle.catalog.specs.declared.directory.Directory.{Directory}
use Rattle.catalog.specs.declared.reading.Catalog.{Catalog}
use Rattle.catalog.specs.Deletions.{keys_where}
use Rattle.catalog.specs.Directory.{directory, directory_from, no_directory}
use Rattle.catalog.specs.Schema.{tables_from, catalog_tables, stands}
use Rattle.catalog.specs.Reading.{catalog_area, IsPresent, IsCatalogOf}
use Rattle.catalog_definitions.specs.Leaving.{erasures}
use Rattle.catalog_definitions.proofs.Growth.{Apart, note_grown, thing_grown}
use Rattle.catalog_definitions.proofs.Fitting.{Stands, fit_all, all_fit, HasFields, tables_on}
use Rattle.catalog_definitions.proofs.Erasing.{kept, same_there, erased_lines}
use Rattle.catalog_definitions.proofs.Pairwise.{lines_apart, distinct_lines, AllPairs, all_pairs_apart, gone, put_back}
use Rattle.catalog_definitions.proofs.Remaining.{IsAway, still_stands, fields_stay}

-- a present line that goes with the others
pub record Fits (all : Lines) (d : Directory) (t : Tables) (q : PlacedLine) : Type 0 where
  pub present : IsPresent all q
  pub stood : Stands d t q

both_fit : (all : Lines) (d : Directory) (t : Tables) (ps : List PlacedLine) → AllByRecursion (IsPresent all) ps → AllByRecursion (Stands d t) ps → AllByRecursion (Fits all d t) ps
both_fit all d t [] present stood = tt
both_fit all d t (p ∷ ps) present stood = (record { present = present.0; stood = stood.0 }, both_fit all d t ps present.1 stood.1)

-- with what the test says of it
pub record Says (all : Lines) (d : Directory) (t : Tables) (holds : CatalogLine → Bool) (b : Bool) (q : PlacedLine) : Type 0 where
  pub fits : Fits all d t q
  pub says : holds q.line ≡ b

all_say : (all : Lines) (d : Directory) (t : Tables) (holds : CatalogLine → Bool) (ps : List PlacedLine) → AllByRecursion (Fits all d t) ps → AllByRecursion (Says all d t holds false) (kept holds ps) × AllByRecursion (Says all d t holds true) (gone holds ps)
all_say all d t holds [] each = (tt, tt)
all_say all d t holds (p ∷ ps) each =
    let rest = all_say all d t holds ps each.1 in
    elim (holds p.line) as (λ b. holds p.line ≡ b → AllByRecursion (Says all d t holds false) (cond (not b) (p ∷ kept holds ps) (kept holds ps)) × AllByRecursion (Says all d t holds true) (cond b (p ∷ gone holds ps) (gone holds ps))) [
      | true ↦ λ does. (rest.0, (record { fits = each.0; says = does }, rest.1))
      | false ↦ λ isnt. ((record { fits = each.0; says = isnt }, rest.0), rest.1)
    ] refl

pub keys_differ : (all : Lines) (holds : CatalogLine → Bool) (q n : PlacedLine) → IsPresent all q → IsPresent all n → holds q.line ≡ false → holds n.line ≡ true → is_eq (dbkey_order q.key n.key) ≡ false
keys_differ all holds q n is too isnt does =
    elim (is_eq (dbkey_order q.key n.key)) as (λ b. is_eq (dbkey_order q.key n.key) ≡ b → b ≡ false) [
      | true ↦ λ tie. let moved = ap holds (same_there all q n is too tie) in let bad : ⊥ = cc in absurd bad
      | false ↦ λ _. refl
    ] refl

-- a line that stays is away from one that goes, where their kinds say so
abbrev pub KeepsAway : (CatalogLine → Bool) → Type 0
KeepsAway holds = (x y : CatalogLine) → IsAllowedLine x → IsAllowedLine y → holds x ≡ false → holds y ≡ true → Apart x y → IsAway x y

abbrev AllAway : List PlacedLine → PlacedLine → Type 0
AllAway ns q = AllByRecursion (λ n. IsAway q.line n.line) ns

module _ (all : Lines) (d : Directory) (t : Tables) (holds : CatalogLine → Bool) (away : KeepsAway holds) where
  away_from : (q : PlacedLine) (ns : List PlacedLine) → Says all d t holds false q → AllByRecursion (Says all d t holds true) ns → AllAway ns q
  away_from q [] stays goes = tt
  away_from q (n ∷ ns) stays goes =
      let is = stays.fits.present in
      let too = goes.0.fits.present in (
        away q.line n.line is.decodes.allowed too.decodes.allowed stays.says goes.0.says
            (lines_apart d t q.key n.key (keys_differ all holds q n is too stays.says goes.0.says) q.line n.line stays.fits.stood goes.0.fits.stood),
        away_from q ns stays goes.1,
      )

  all_away : (qs ns : List PlacedLine) → AllByRecursion (Says all d t holds false) qs → AllByRecursion (Says all d t holds true) ns → AllByRecursion (AllAway ns) qs
  all_away [] ns stay goes = tt
  all_away (q ∷ qs) ns stay goes = (away_from q ns stay.0 goes, all_away qs ns stay.1 goes)

all_fields : (d e : Directory) (ns qs : List PlacedLine) → d ≡ directory_from e ns → AllByRecursion (AllAway ns) qs → AllByRecursion (λ q. HasFields d e q.line) qs
all_fields d e ns [] dirs away = tt
all_fields d e ns (q ∷ qs) dirs away = (subst (λ x. HasFields x e q.line) (sym dirs) (fields_stay ns e q.line away.0), all_fields d e ns qs dirs away.1)

all_stand : (d e : Directory) (t u : Tables) (ns qs : List PlacedLine) → d ≡ directory_from e ns → t ≡ tables_from d u ns → AllByRecursion (AllAway ns) qs → AllByRecursion (λ q. Stands d t q) qs → AllByRecursion (Stands e u) qs
all_stand d e t u ns [] dirs things away stood = tt
all_stand d e t u ns (q ∷ qs) dirs things away stood = (
  still_stands ns e d u q.key q.line away.0 (sym (λ i. stands (dirs i) (things i) q.key q.line) ∙ stood.0),
  all_stand d e t u ns qs dirs things away.1 stood.1,
)

all_stood : (all : Lines) (d : Directory) (t : Tables) (holds : CatalogLine → Bool) (b : Bool) (qs : List PlacedLine) → AllByRecursion (Says all d t holds b) qs → AllByRecursion (Stands d t) qs
all_stood all d t holds b [] each = tt
all_stood all d t holds b (q ∷ qs) each = (each.0.fits.stood, all_stood all d t holds b qs each.1)

pub record Remains (all : Lines) (c : Catalog) (holds : CatalogLine → Bool) : Type 0 where
  pub catalog : IsCatalogOf (laid_all (erasures (keys_where holds c.lines)) all) (record { lines = kept holds c.lines; tables = catalog_tables (kept holds c.lines) })
  pub tables : c.tables ≡ tables_from (directory c.lines) (catalog_tables (kept holds c.lines)) (gone holds c.lines)
  pub stay : AllByRecursion (Says all (directory c.lines) (catalog_tables c.lines) holds false) (kept holds c.lines)
  pub go : AllByRecursion (Says all (directory c.lines) (catalog_tables c.lines) holds true) (gone holds c.lines)
  pub fits : AllByRecursion (Fits all (directory c.lines) (catalog_tables c.lines)) c.lines
  pub pairs : AllPairs c.lines

pub remains : (all : Lines) (c : Catalog) (holds : CatalogLine → Bool) → KeepsAway holds → IsInOrder all → IsCatalogOf all c → Remains all c holds
remains all c holds away sorted is =
    let ps = c.lines in
    let d = directory ps in
    let t = catalog_tables ps in
    let left = kept holds ps in
    let e = directory left in
    let u = catalog_tables left in
    let each = recursion_from_All (IsPresent all) ps is.lines.images in
    let stood = fit_all d t ps is.fit in
    let fits = both_fit all d t ps each stood in
    let says = all_say all d t holds ps fits in
    let pairs = all_pairs_apart d t ps (distinct_lines catalog_area all ps sorted is.lines.keys) stood in
    let grows = put_back holds ps pairs in
    let far = all_away all d t holds away left (gone holds ps) says.0 says.1 in
    let dirs : d ≡ directory_from e (gone holds ps) = note_grown (gone holds ps) left ps no_directory grows in
    let same : tables_from d no_tables left ≡ u = tables_on d e left no_tables (all_fields d e (gone holds ps) left dirs far) in
    let things : t ≡ tables_from d u (gone holds ps) = thing_grown d (gone holds ps) left ps no_tables grows ∙ ap (λ v. tables_from d v (gone holds ps)) same in
    record {
      catalog = record {
        lines = erased_lines all holds ps is.lines;
        fit = all_fit e u left (all_stand d e t u (gone holds ps) left dirs things far (all_stood all d t holds false left says.0));
        tables = refl;
      };
      tables = is.tables ∙ things;
      stay = says.0;
      go = says.1;
      fits = fits;
      pairs = pairs;
    }
