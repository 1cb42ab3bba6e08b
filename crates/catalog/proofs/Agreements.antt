-- Catalogs that are read in views.
use Rattle.std.proofs.Common.{ℕ, ◌≡◌, List, [], ◌∷◌, ◌++◌, Option, Some, None, refl, sym, ap, subst, ◌∙◌}
use Rattle.std.specs.Prelude.{IsSome}
use Rattle.std.specs.List.{All, AllByRecursion}
use Rattle.std.proofs.lemmas.List.Elements.{All-head, All-tail, All-push, All-weaker}
use Rattle.rdb_types.specs.declared.keys.Dbkey.{Dbkey}
use Rattle.rdb_definitions.specs.rdb_meaning.declared.tables.Tables.{Tables}
use Rattle.rdb_definitions.specs.rdb_meaning.Contents.{no_tables}
use Rattle.line_view.specs.declared.stop.Stop.{Stop}
use Rattle.line_view.specs.declared.stop.Stop.TheVariants.{Missing, Bad, NoMemory, Own}
use Rattle.line_view.specs.declared.stop.Never.{Never}
use Rattle.line_view.specs.Knowledge.{Knowledge, Lines, line_in, Agrees}
use Rattle.catalog_lines.specs.declared.line.CatalogLine.{CatalogLine}
use Rattle.catalog_lines.specs.Lines.{IsAllowedLine, IsCatalogLine}
use Rattle.catalog_lines.proofs.Lines.{one_line}
use Rattle.catalog.specs.declared.directory.PlacedLine.{PlacedLine}
use Rattle.catalog.specs.declared.directory.Directory.{Directory}
use Rattle.catalog.specs.declared.reading.Catalog.{Catalog}
use Rattle.catalog.specs.Directory.{directory}
use Rattle.catalog.specs.Schema.{tables_from, misfit, misfit_from, catalog_tables}
use Rattle.catalog.specs.Reading.{catalog_area, line_keys, IsPresent, IsCatalogOf, IsKnown, AreKnown, ReadsTo, IsSpoiled, IsBad, IsNext, StopsAt, StopsReading}
use Rattle.catalog.specs.Reading.IsBad.{spoiled, unfit}

-- ---- line by line

pub keys_more : (ps : List PlacedLine) (p : PlacedLine) (rest : List Dbkey) → line_keys (ps ++ p ∷ []) ++ rest ≡ line_keys ps ++ p.key ∷ rest
keys_more [] p rest = refl
keys_more (q ∷ ps) p rest = ap (λ ks. q.key ∷ ks) (keys_more ps p rest)

pub known_more : (known : Knowledge) (ps : List PlacedLine) (p : PlacedLine) → AreKnown known ps → IsKnown known p.key p.line → AreKnown known (ps ++ p ∷ [])
known_more known ps p each one = All-push (λ (q : PlacedLine). IsKnown known q.key q.line) ps p each one

-- ---- a map with which the view agrees

present_of : (known : Knowledge) (all : Lines) → Agrees known all → (p : PlacedLine) → IsKnown known p.key p.line → IsPresent all p
present_of known all agrees p is = record { image = is.image; present = sym (agrees.line p.key (Some is.image) is.present); decodes = is.decodes }

each_present : (known : Knowledge) (all : Lines) → Agrees known all → (ps : List PlacedLine) → AreKnown known ps → All (IsPresent all) ps
each_present known all agrees ps each = All-weaker (λ (q : PlacedLine). IsKnown known q.key q.line) (IsPresent all) (present_of known all agrees) ps each

same_image : (all : Lines) (key other : Dbkey) (image also : List ℕ) → line_in key all ≡ Some image → line_in other all ≡ Some also → key ≡ other → image ≡ also
same_image all key other image also is too same = cc (ap (λ k. line_in k all) same)

-- ---- lines that may be laid out

pub allowed_lines : (known : Knowledge) (ps : List PlacedLine) → AreKnown known ps → AllByRecursion (λ p. IsAllowedLine p.line) ps
allowed_lines known [] each = tt
allowed_lines known (p ∷ ps) each =
    let Is : PlacedLine → Type 0 = λ q. IsKnown known q.key q.line in
    ((All-head Is p ps each).decodes.allowed, allowed_lines known ps (All-tail Is p ps each))

-- ---- a map has one catalog

same_present : (all : Lines) (p q : PlacedLine) → p.key ≡ q.key → IsPresent all p → IsPresent all q → p ≡ q
same_present all p q key is too =
    let image : is.image ≡ too.image = same_image all p.key q.key is.image too.image is.present too.present key in
    let line : p.line ≡ q.line = one_line too.image p.line q.line (subst (λ bytes. IsCatalogLine bytes p.line) image is.decodes) too.decodes in
    λ i. record { key = key i; line = line i }

all_present : (all : Lines) (ps qs : List PlacedLine) → line_keys ps ≡ line_keys qs → All (IsPresent all) ps → All (IsPresent all) qs → ps ≡ qs
all_present all [] [] same each too = refl
all_present all [] (q ∷ qs) same each too = cc
all_present all (p ∷ ps) [] same each too = cc
all_present all (p ∷ ps) (q ∷ qs) same each too =
    let first : p.key ≡ q.key = cc in
    let rest : line_keys ps ≡ line_keys qs = cc in
    let head = same_present all p q first (All-head (IsPresent all) p ps each) (All-head (IsPresent all) q qs too) in
    let tail = all_present all ps qs rest (All-tail (IsPresent all) p ps each) (All-tail (IsPresent all) q qs too) in
    λ i. head i ∷ tail i

pub one_catalog : (all : Lines) (a b : Catalog) → IsCatalogOf all a → IsCatalogOf all b → a ≡ b
one_catalog all a b x y =
    let lines : a.lines ≡ b.lines = all_present all a.lines b.lines (x.lines.keys ∙ sym y.lines.keys) x.lines.images y.lines.images in
    let tables : a.tables ≡ b.tables = x.tables ∙ ap catalog_tables lines ∙ sym y.tables in
    λ i. record { lines = lines i; tables = tables i }

-- ---- where there is no catalog

record Found (all : Lines) (key : Dbkey) : Type 0 where
  pub p : PlacedLine
  pub at : p.key ≡ key
  pub is : IsPresent all p

found_at : (all : Lines) (key : Dbkey) (before behind : List Dbkey) (ps : List PlacedLine) → All (IsPresent all) ps → line_keys ps ≡ before ++ key ∷ behind → Found all key
found_at all key [] behind [] each same = absurd (let bad : ⊥ = cc in bad)
found_at all key [] behind (p ∷ ps) each same = record { p = p; at = (let first : p.key ≡ key = cc in first); is = All-head (IsPresent all) p ps each }
found_at all key (k ∷ before) behind [] each same = absurd (let bad : ⊥ = cc in bad)
found_at all key (k ∷ before) behind (p ∷ ps) each same =
    let rest : line_keys ps ≡ before ++ key ∷ behind = cc in
    found_at all key before behind ps (All-tail (IsPresent all) p ps each) rest

not_spoiled : (known : Knowledge) (all : Lines) (key : Dbkey) → Agrees known all → (what : Option (Option (List ℕ))) → known.line key ≡ what → IsSome what → ((line : CatalogLine) → IsKnown known key line → ⊥) → Found all key → ⊥
not_spoiled known all key agrees None is some none found = let bad : ⊥ = cc in bad
not_spoiled known all key agrees (Some None) is some none found =
    let absent = agrees.line key None is in
    let there = ap (λ k. line_in k all) found.at in
    let present = found.is.present in
    let bad : ⊥ = cc in bad
not_spoiled known all key agrees (Some (Some image)) is some none found =
    let here = agrees.line key (Some image) is in
    let same : found.is.image ≡ image = same_image all found.p.key key found.is.image image found.is.present (sym here) found.at in
    none found.p.line (record { image = image; present = is; decodes = subst (λ bytes. IsCatalogLine bytes found.p.line) same found.is.decodes })

pub no_catalog : (known : Knowledge) (all : Lines) (key : Dbkey) (c : Catalog) → Agrees known all → IsBad known key → IsCatalogOf all c → ⊥
no_catalog known all key c agrees (spoiled to spoil) is =
    let keys = agrees.area catalog_area (line_keys to.before ++ key ∷ to.behind) to.keys in
    not_spoiled known all key agrees (known.line key) refl spoil.0 spoil.1 (found_at all key (line_keys to.before) to.behind c.lines is.lines.images (is.lines.keys ∙ sym keys))
no_catalog known all key c agrees (unfit ps reads misfits) is =
    let keys = agrees.area catalog_area (line_keys ps) reads.keys in
    let same : ps ≡ c.lines = all_present all ps c.lines (keys ∙ sym is.lines.keys) (each_present known all agrees ps reads.lines) is.lines.images in
    let none = ap misfit same ∙ is.fit in
    let bad : ⊥ = cc in bad

-- ---- what was made of the lines

pub misfit_is : (ps a b e : List PlacedLine) (d : Directory) (t : Tables) (r : Option Dbkey) → a ≡ ps → b ≡ ps → e ≡ ps → d ≡ directory a → t ≡ tables_from d no_tables b → r ≡ misfit_from d t e → misfit ps ≡ r
misfit_is ps a b e d t r same_a same_b same_e made built is =
    let dir : d ≡ directory ps = made ∙ ap directory same_a in
    let tables : t ≡ catalog_tables ps = built ∙ (λ i. tables_from (dir i) no_tables (same_b i)) in
    sym (is ∙ (λ i. misfit_from (dir i) (tables i) (same_e i)))

-- ---- the next line

pub stops : (known : Knowledge) (ps : List PlacedLine) (key : Dbkey) (rest : List Dbkey) (stop : Stop Never) → known.area catalog_area ≡ Some (line_keys ps ++ key ∷ rest) → AreKnown known ps → StopsAt known key stop → StopsReading known stop
stops known ps key rest (Missing need) keys lines at = subst (IsNext known) (sym at.0) (record { before = ps; behind = rest; keys = keys; lines = lines }, at.1)
stops known ps key rest (Bad bad) keys lines at = subst (λ k. ReadsTo known k × IsSpoiled known k) (sym at.0) (record { before = ps; behind = rest; keys = keys; lines = lines }, at.1)
stops known ps key rest NoMemory keys lines at = tt
stops known ps key rest (Own never) keys lines at = at
