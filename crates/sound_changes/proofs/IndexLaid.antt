-- The map behind the writes of one index.
use Rattle.std.proofs.Common.{◌≡◌, ◌==◌, ℕ, zero, suc, ◌%◌, Bool, true, false, cond, not, ◌&&◌, nat_eq, List, [], ◌∷◌, Option, Some, refl, sym, ap, subst, ◌∙◌, arith}
use Rattle.std.specs.Prelude.{◌||◌}
use Rattle.std.specs.List.{AllByRecursion, slice_get}
use Rattle.std.specs.FinMap.Entries.{find}
use Rattle.std.proofs.lemmas.Bool.{ne_eqb}
use Rattle.std.proofs.lemmas.Option.{none-some, same_Some}
use Rattle.rdb_types.specs.declared.keys.Dbkey.{Dbkey}
use Rattle.rdo_ast.specs.Tree.{Name}
use Rattle.rdb_meaning.specs.declared.tables.Relation.{Relation as Rows}
use Rattle.rdb_meaning.specs.declared.tables.Tables.{Tables}
use Rattle.rdb_meaning.specs.Contents.{no_tables, is_used}
use Rattle.line_view.specs.Knowledge.{Lines, IsInOrder, line_in, laid}
use Rattle.line_view.specs.declared.writes.Write.{Write}
use Rattle.line_view.specs.Writes.{laid_all}
use Rattle.catalog_lines.specs.declared.line.IndexLine.{IndexLine}
use Rattle.catalog_lines.specs.declared.line.CatalogLine.{CatalogLine}
use Rattle.catalog_lines.specs.declared.line.CatalogLine.TheVariants.{Relation, Global, Field as FieldOf, Index}
use Rattle.catalog_lines.specs.Lines.{IsCatalogLine, IsIndexArea, IsAllowedLine}
use Rattle.catalog_lines.proofs.Lines.{one_line}
use Rattle.sound_lines.specs.catalog.declared.directory.PlacedLine.{PlacedLine}
use Rattle.sound_lines.specs.catalog.declared.directory.Directory.{Directory}
use Rattle.sound_lines.specs.catalog.declared.reading.Catalog.{Catalog}
use Rattle.sound_lines.specs.catalog.Directory.{area_order, numbered, directory}
use Rattle.sound_lines.specs.catalog.Schema.{catalog_tables, stands}
use Rattle.sound_lines.specs.catalog.Reading.{catalog_area, IsCatalogOf}
use Rattle.sound_lines.proofs.of_catalog.Differences.{index_parts, one_key}
use Rattle.sound_lines.specs.Contents.{versions_in, version_of, stored, HaveRows, AreTablesWith}
use Rattle.sound_lines.specs.Sound.{relation_in, IsSoundIndex, IsSoundLine, IsOwned}
use Rattle.sound_changes.specs.Standing.{IsSoundFor, tables_for}
use Rattle.sound_changes.proofs.Basics.{number_is, number_tests}
use Rattle.sound_changes.proofs.Frames.{catalog_beside, rows_beside, sound_index_beside}
use Rattle.sound_changes.proofs.Named.{Fits, all_fit, root_area, AreOf, lines_of}
use Rattle.sound_changes.proofs.Changed.{have_of}
use Rattle.sound_changes.proofs.RowLaid.{owned_laid, sorted_laid}

-- ---- what the writes on an odd area leave

pub record IsKept (all : Lines) (c : Catalog) (t : Tables) : Type 0 where
  pub sorted : IsInOrder all
  pub decodes : IsCatalogOf all c
  pub are : AreTablesWith all c t
  pub owned : AllByRecursion (IsOwned t) all

have_beside : (all : Lines) (d : Directory) (u : Tables) (key : Dbkey) (what : Option (List ℕ)) (versions : List (Name × ℕ)) (bs ws : List (Name × Rows)) → key.area % 2 ≡ 1 → AreOf all d u ws → HaveRows all versions bs ws → HaveRows (laid key what all) versions bs ws
have_beside all d u key what versions [] [] odd each have = tt
have_beside all d u key what versions [] (w ∷ ws) odd each have = absurd have
have_beside all d u key what versions (b ∷ bs) [] odd each have = absurd have
have_beside all d u key what versions (b ∷ bs) (w ∷ ws) odd each have =
    let is = each.0 in
    let even = is.present.decodes.allowed.area.1 in
    let off : (key.area == b.1.area) ≡ false = ne_eqb key.area b.1.area (λ same. omega (arith, odd, even, ap (λ (k : ℕ). k % 2) (same ∙ have.1.area ∙ is.placed))) in
    (have.0, rows_beside all key what (stored (version_of b.0 versions) b.1) w.1 off have.1, have_beside all d u key what versions bs ws odd each.1 have.2)

kept_one : (all : Lines) (c : Catalog) (t : Tables) (key : Dbkey) (what : Option (List ℕ)) → IsIndexArea key.area → IsKept all c t → IsKept (laid key what all) c t
kept_one all c t key what index kept =
    let d = directory c.lines in
    let u = catalog_tables c.lines in
    let bare : AreOf all d u c.tables.relations = subst (λ (v : Tables). AreOf all d u v.relations) (sym kept.decodes.tables) (lines_of all d u d c.lines no_tables (all_fit all c kept.decodes) tt) in
    let each = have_of all d u (versions_in c.lines) c.tables.relations t.relations kept.are.relations bare in
    let off : (key.area == catalog_area) ≡ false = ne_eqb key.area catalog_area (λ same. omega (arith, same, index.0)) in
    record {
      sorted = sorted_laid key what all kept.sorted;
      decodes = catalog_beside all key what c off kept.decodes;
      are = record { globals = kept.are.globals; relations = have_beside all d u key what (versions_in c.lines) c.tables.relations t.relations index.1 each kept.are.relations; indexes = kept.are.indexes };
      owned = owned_laid t key what all (λ even. let bad : ⊥ = omega (arith, even, index.1) in absurd bad) kept.owned;
    }

abbrev pub AreOn : ℕ → List Write → Type 0
AreOn area = AllByRecursion (λ (w : Write). (w.key).area ≡ area)

pub kept_all : (c : Catalog) (t : Tables) (area : ℕ) (writes : List Write) (all : Lines) → IsIndexArea area → AreOn area writes → IsKept all c t → IsKept (laid_all writes all) c t
kept_all c t area [] all index on kept = kept
kept_all c t area (w ∷ ws) all index on kept = kept_all c t area ws (laid w.key w.image all) index on.1 (kept_one all c t w.key w.image (subst IsIndexArea (sym on.0) index) kept)

pub index_stays : (x : IndexLine) (r : Option Rows) (area : ℕ) (writes : List Write) (all : Lines) → (area == x.root.area) ≡ false → AreOn area writes → IsSoundIndex all x r → IsSoundIndex (laid_all writes all) x r
index_stays x r area [] all off on sound = sound
index_stays x r area (w ∷ ws) all off on sound =
    index_stays x r area ws (laid w.key w.image all) off on.1 (sound_index_beside all w.key w.image x r (ap (λ (k : ℕ). k == x.root.area) on.0 ∙ off) sound)

-- ---- one area has one index

pub same_index : (all : Lines) (d : Directory) (u : Tables) (p q : PlacedLine) (x y : IndexLine) → Fits all d u p → Fits all d u q → p.line ≡ Index x → q.line ≡ Index y → x.area ≡ y.area → x ≡ y
same_index all d u p q x y one two is too same =
    let here = index_parts d u p.key x (ap (λ l. stands d u p.key l) (sym is) ∙ one.stood) in
    let there = index_parts d u q.key y (ap (λ l. stands d u q.key l) (sym too) ∙ two.stood) in
    let key : p.key ≡ q.key = one_key p.key q.key _ _ here.1 there.1 (ap (λ (k : ℕ). find area_order (numbered k) d.areas) same) in
    let found : line_in p.key all ≡ line_in q.key all = ap (λ k. line_in k all) key in
    let first = one.present.present in
    let second = two.present.present in
    let image : one.present.image ≡ two.present.image = cc in
    let line : p.line ≡ q.line = one_line two.present.image p.line q.line (subst (λ bytes. IsCatalogLine bytes p.line) image one.present.decodes) two.present.decodes in
    let both : Index x ≡ Index y = sym is ∙ line ∙ too in
    let v : x ≡ y = cc in v

pub at_place : (P : PlacedLine → Type 0) (ps : List PlacedLine) (i : ℕ) (q : PlacedLine) → AllByRecursion P ps → slice_get ps i ≡ Some q → P q
at_place P [] i q each is = absurd (none-some q is)
at_place P (p ∷ ps) zero q each is = subst P (same_Some p q is) each.0
at_place P (p ∷ ps) (suc j) q each is = at_place P ps j q each.1 is

-- ---- the index is done

and_false : (b : Bool) → (b && false) ≡ false
and_false true = refl
and_false false = refl

module _ (all : Lines) (c : Catalog) (area : ℕ) (done : List ℕ) (t after : Tables) (p : PlacedLine) (x : IndexLine) (writes : List Write)
    (on : AreOn x.area writes) (fits : Fits all (directory c.lines) (catalog_tables c.lines) p) (is : p.line ≡ Index x)
    (new : IsSoundIndex (laid_all writes all) x (relation_in x.relation after.relations)) where
  abbrev d : Directory
  d = directory c.lines

  abbrev u : Tables
  u = catalog_tables c.lines

  thing : (q : PlacedLine) (line : CatalogLine) → q.line ≡ line → Fits all d u q → IsSoundLine all (tables_for area done t after line) line → IsSoundLine (laid_all writes all) (tables_for area (x.area ∷ done) t after line) line
  thing q (Relation r) of fit sound = sound
  thing q (Global g) of fit sound = tt
  thing q (FieldOf f) of fit sound = tt
  thing q (Index y) of fit sound =
      elim (nat_eq y.area x.area) as (λ b. nat_eq y.area x.area ≡ b → IsSoundIndex (laid_all writes all) y (relation_in y.relation (cond (y.relation == area && not (b || is_used y.area done)) t after).relations)) [
        | true ↦ λ same.
            let one : x ≡ y = same_index all d u p q x y fits fit is of (sym (number_is y.area x.area same)) in
            subst (λ (z : IndexLine). IsSoundIndex (laid_all writes all) z (relation_in z.relation (cond (z.relation == area && false) t after).relations)) one
            (subst (λ b. IsSoundIndex (laid_all writes all) x (relation_in x.relation (cond b t after).relations)) (sym (and_false (x.relation == area))) new)
        | false ↦ λ other.
            let root = root_area d u q.key y (ap (λ l. stands d u q.key l) (sym of) ∙ fit.stood) in
            let off : (x.area == y.root.area) ≡ false = ne_eqb x.area y.root.area (λ same. let back : nat_eq y.area x.area ≡ true = number_tests y.area x.area (sym (same ∙ root)) in let bad : ⊥ = cc in bad) in
            index_stays y (relation_in y.relation (cond (y.relation == area && not (is_used y.area done)) t after).relations) x.area writes all off on sound
      ] refl

  things : (ps : List PlacedLine) → AllByRecursion (Fits all d u) ps → AllByRecursion (λ (q : PlacedLine). IsSoundLine all (tables_for area done t after q.line) q.line) ps → AllByRecursion (λ (q : PlacedLine). IsSoundLine (laid_all writes all) (tables_for area (x.area ∷ done) t after q.line) q.line) ps
  things [] fit sound = tt
  things (q ∷ ps) fit sound = (thing q q.line refl fit.0 sound.0, things ps fit.1 sound.1)

pub index_done : (all : Lines) (c : Catalog) (area : ℕ) (done : List ℕ) (t after : Tables) (i : ℕ) (p : PlacedLine) (x : IndexLine) (writes : List Write) →
    IsSoundFor all c after (tables_for area done t after) → slice_get c.lines i ≡ Some p → p.line ≡ Index x → AreOn x.area writes → IsSoundIndex (laid_all writes all) x (relation_in x.relation after.relations) →
    IsSoundFor (laid_all writes all) c after (tables_for area (x.area ∷ done) t after)
index_done all c area done t after i p x writes sound at is on new =
    let d = directory c.lines in
    let u = catalog_tables c.lines in
    let fit = all_fit all c sound.decodes in
    let fits = at_place (Fits all d u) c.lines i p fit at in
    let index : IsIndexArea x.area = (subst IsAllowedLine is fits.present.decodes.allowed).area in
    let kept = kept_all c after x.area writes all index on (record { sorted = sound.sorted; decodes = sound.decodes; are = sound.are; owned = sound.owned }) in
    record {
      sorted = kept.sorted;
      decodes = kept.decodes;
      are = kept.are;
      things = things all c area done t after p x writes on fits is new c.lines fit sound.things;
      owned = kept.owned;
    }
