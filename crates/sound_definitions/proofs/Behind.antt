-- What writes leave of lines, of relations and of the catalog.
use Rattle.std.proofs.Common.{◌≡◌, ◌==◌, ℕ, ◌%◌, ◌≤◌, true, false, cond, List, [], ◌∷◌, map, Option, Some, None, ◌⊎◌, inl, inr, refl, sym, ap, subst, ◌∙◌, arith}
use Rattle.std.specs.Prelude.{IsSome}
use Rattle.std.specs.List.{AllByRecursion}
use Rattle.std.specs.Ordering.{is_eq}
use Rattle.std.proofs.lemmas.Bool.{ne_eqb}
use Rattle.std.proofs.lemmas.Option.{none-some}
use Rattle.rdb_types.specs.Order.{dbkey_order}
use Rattle.rdo_ast.specs.Tree.{Name}
use Rattle.rdb_meaning.specs.declared.tables.Relation.{Relation as Rows}
use Rattle.rdb_meaning.specs.declared.tables.Tables.{Tables}
use Rattle.rdb_meaning.specs.Contents.{no_tables}
use Rattle.line_view.specs.Knowledge.{Lines, IsInOrder, line_in, lines_in, laid}
use Rattle.line_view.specs.declared.writes.Write.{Write}
use Rattle.line_view.specs.Writes.{laid_all}
use Rattle.line_view.proofs.FullMap.{laid_found, other_area}
use Rattle.catalog_lines.specs.declared.line.RelationLine.{RelationLine}
use Rattle.catalog_lines.specs.declared.line.IndexLine.{IndexLine}
use Rattle.catalog_lines.specs.declared.line.CatalogLine.{CatalogLine}
use Rattle.catalog_lines.specs.declared.line.CatalogLine.TheVariants.{Relation, Global, Field as FieldOf, Index}
use Rattle.catalog_lines.specs.Lines.{IsCatalogLine, IsAllowedLine, IsIndexArea}
use Rattle.catalog.specs.declared.directory.PlacedLine.{PlacedLine}
use Rattle.catalog.specs.declared.reading.Catalog.{Catalog}
use Rattle.catalog.specs.Directory.{directory}
use Rattle.catalog.specs.Schema.{catalog_tables, stands}
use Rattle.catalog.specs.Reading.{catalog_area, IsPresent, IsCatalogOf}
use Rattle.relation_rows.specs.Stored.{AreRowsOf}
use Rattle.relation_rows.specs.Relations.{stored_row, HasRows}
use Rattle.sound_lines.specs.Contents.{versions_in, version_of, stored, HaveRows, AreTablesWith}
use Rattle.sound_lines.specs.Sound.{relation_in, IsSoundIndex, IsSoundLine, IsOwned}
use Rattle.sound_changes.specs.Standing.{IsSoundAs}
use Rattle.sound_changes.proofs.Basics.{all_of, both_of}
use Rattle.sound_changes.proofs.Frames.{sound_index_beside}
use Rattle.sound_changes.proofs.Named.{Fits, all_fit, root_area, IsOf, AreOf, lines_of}
use Rattle.sound_changes.proofs.IndexLaid.{AreOn}
use Rattle.sound_changes.proofs.RowLaid.{owned_laid, sorted_laid}
use Rattle.sound_changes.proofs.Listed.{behind_all}
use Rattle.sound_changes.proofs.Versions.{version_is}

-- ---- lines

-- no write is on this area
abbrev pub AreOff : ℕ → List Write → Type 0
AreOff area = AllByRecursion (λ (w : Write). ((w.key).area == area) ≡ false)

abbrev pub AreErased : List Write → Type 0
AreErased = AllByRecursion (λ (w : Write). w.image ≡ None)

-- writes on one area are off each other
pub on_off : (a b : ℕ) (writes : List Write) → (a == b) ≡ false → AreOn a writes → AreOff b writes
on_off a b writes off on = all_of (λ (w : Write). (w.key).area ≡ a) (λ (w : Write). ((w.key).area == b) ≡ false) (λ w own. ap (λ (k : ℕ). k == b) own ∙ off) writes on

pub lines_apart : (a : ℕ) (writes : List Write) (cur : Lines) → AreOff a writes → lines_in a (laid_all writes cur) ≡ lines_in a cur
lines_apart a [] cur off = refl
lines_apart a (w ∷ ws) cur off = lines_apart a ws (laid w.key w.image cur) off.1 ∙ other_area w.key w.image a cur off.0

pub index_apart : (x : IndexLine) (r : Option Rows) (writes : List Write) (cur : Lines) → AreOff x.root.area writes → IsSoundIndex cur x r → IsSoundIndex (laid_all writes cur) x r
index_apart x r [] cur off sound = sound
index_apart x r (w ∷ ws) cur off sound = index_apart x r ws (laid w.key w.image cur) off.1 (sound_index_beside cur w.key w.image x r off.0 sound)

pub sorted_all : (writes : List Write) (cur : Lines) → IsInOrder cur → IsInOrder (laid_all writes cur)
sorted_all [] cur sorted = sorted
sorted_all (w ∷ ws) cur sorted = sorted_all ws (laid w.key w.image cur) (sorted_laid w.key w.image cur sorted)

-- ---- lines of the catalog

-- a line that no write is on is still present
pub still_all : (p : PlacedLine) (writes : List Write) (cur : Lines) → AllByRecursion (λ (w : Write). is_eq (dbkey_order p.key w.key) ≡ false) writes → IsPresent cur p → IsPresent (laid_all writes cur) p
still_all p [] cur apart present = present
still_all p (w ∷ ws) cur apart present =
    still_all p ws (laid w.key w.image cur) apart.1
    (record { image = present.image; present = laid_found p.key w.key w.image cur ∙ ap (λ b. cond b w.image (line_in p.key cur)) apart.0 ∙ present.present; decodes = present.decodes })

-- one of the writes is of this line
abbrev pub From : List Write → CatalogLine → Type 0
From [] line = ⊥
From (w ∷ ws) line = ((bytes : List ℕ) × (w.image ≡ Some bytes) × IsCatalogLine bytes line) ⊎ From ws line

-- a line that is present was, or one of the writes is of it
pub old_or_from : (p : PlacedLine) (writes : List Write) (cur : Lines) → IsPresent (laid_all writes cur) p → IsPresent cur p ⊎ From writes p.line
old_or_from p [] cur present = inl present
old_or_from p (w ∷ ws) cur present =
    elim (old_or_from p ws (laid w.key w.image cur) present) [
      | inl here ↦ elim (is_eq (dbkey_order p.key w.key)) as (λ b. cond b w.image (line_in p.key cur) ≡ Some here.image → IsPresent cur p ⊎ From (w ∷ ws) p.line) [
        | true ↦ λ h. inr (inl (here.image, h, here.decodes))
        | false ↦ λ h. inl (record { image = here.image; present = h; decodes = here.decodes })
      ] (sym (laid_found p.key w.key w.image cur) ∙ here.present)
      | inr there ↦ inr (inr there)
    ]

none_from : (writes : List Write) (line : CatalogLine) → AreErased writes → From writes line → ⊥
none_from [] line gone from = from
none_from (w ∷ ws) line gone (inl here) = none-some here.0 (sym gone.0 ∙ here.1)
none_from (w ∷ ws) line gone (inr there) = none_from ws line gone.1 there

-- where lines are erased, those that are present were
pub old_all : (p : PlacedLine) (writes : List Write) (cur : Lines) → AreErased writes → IsPresent (laid_all writes cur) p → IsPresent cur p
old_all p writes cur gone present = elim (old_or_from p writes cur present) [ inl old ↦ old | inr from ↦ absurd (none_from writes p.line gone from) ]

-- ---- relations

-- the catalog's line of a relation of this area stays, and so do the lines of its rows
pub record Stays (all now : Lines) (area : ℕ) : Type 0 where
  pub line : (p : PlacedLine) (r : RelationLine) → p.line ≡ Relation r → (p.key.area == catalog_area) ≡ true → r.area ≡ area → IsPresent all p → IsPresent now p
  pub rows : lines_in area now ≡ lines_in area all

module _ (all now : Lines) (c after : Catalog) (is : IsCatalogOf all c) (too : IsCatalogOf now after) where
  same_version : (b : Name × Rows) → IsOf all (directory c.lines) (catalog_tables c.lines) b.0 b.1.area → Stays all now b.1.area → version_of b.0 (versions_in c.lines) ≡ version_of b.0 (versions_in after.lines)
  same_version b of stay =
      let p : PlacedLine = record { key = of.key; line = Relation of.r } in
      ap (λ (n : Name). version_of n (versions_in c.lines)) of.named
      ∙ version_is all c p of.r is of.inside of.present refl
      ∙ sym (version_is now after p of.r too of.inside (stay.line p of.r refl of.inside (sym of.placed) of.present) refl)
      ∙ ap (λ (n : Name). version_of n (versions_in after.lines)) (sym of.named)

  -- the relation has its rows in its version
  pub rows_stay : (b w : Name × Rows) → IsOf all (directory c.lines) (catalog_tables c.lines) b.0 b.1.area → Stays all now b.1.area → HasRows all (stored (version_of b.0 (versions_in c.lines)) b.1) w.1 → HasRows now (stored (version_of b.0 (versions_in after.lines)) b.1) w.1
  rows_stay b w of stay has =
      let old = stored (version_of b.0 (versions_in c.lines)) b.1 in
      subst (λ (v : ℕ). HasRows now (stored v b.1) w.1) (same_version b of stay)
      (record { area = has.area; fields = has.fields; rows = subst (λ (l : Lines). AreRowsOf old l (map stored_row w.1.rows)) (sym stay.rows) has.rows })

  all_stay : (bs ws : List (Name × Rows)) → AreOf all (directory c.lines) (catalog_tables c.lines) bs → ((area : ℕ) → 16 ≤ area → area % 2 ≡ 0 → Stays all now area) → HaveRows all (versions_in c.lines) bs ws → HaveRows now (versions_in after.lines) bs ws
  all_stay [] [] of stay have = tt
  all_stay [] (w ∷ ws) of stay have = absurd have
  all_stay (b ∷ bs) [] of stay have = absurd have
  all_stay (b ∷ bs) (w ∷ ws) of stay have =
      let bounds = of.0.present.decodes.allowed.area in
      (have.0, rows_stay b w of.0 (stay b.1.area (omega (arith, bounds.0, of.0.placed)) (ap (λ (k : ℕ). k % 2) of.0.placed ∙ bounds.1)) have.1, all_stay bs ws of.1 stay have.2)

-- ---- writes on the catalog's area

bare_of : (all : Lines) (c : Catalog) → IsCatalogOf all c → AreOf all (directory c.lines) (catalog_tables c.lines) c.tables.relations
bare_of all c is =
    let d = directory c.lines in
    let u = catalog_tables c.lines in
    subst (λ (t : Tables). AreOf all d u t.relations) (sym is.tables) (lines_of all d u d c.lines no_tables (all_fit all c is) tt)

owned_all : (t : Tables) (writes : List Write) (cur : Lines) → AreOn catalog_area writes → AllByRecursion (IsOwned t) cur → AllByRecursion (IsOwned t) (laid_all writes cur)
owned_all t [] cur on owned = owned
owned_all t (w ∷ ws) cur on owned = owned_all t ws (laid w.key w.image cur) on.1 (owned_laid t w.key w.image cur (λ even. let bad : ⊥ = omega (arith, even, on.0) in absurd bad) owned)

module _ (all : Lines) (c after : Catalog) (writes : List Write) (on : AreOn catalog_area writes) (is : IsCatalogOf all c) (too : IsCatalogOf (laid_all writes all) after)
    (still : (p : PlacedLine) (r : RelationLine) → p.line ≡ Relation r → IsPresent all p → IsPresent (laid_all writes all) p) where
  -- relations whose lines stay keep their rows
  pub have_still : (ws : List (Name × Rows)) → HaveRows all (versions_in c.lines) c.tables.relations ws → HaveRows (laid_all writes all) (versions_in after.lines) c.tables.relations ws
  have_still ws =
      all_stay all (laid_all writes all) c after is too c.tables.relations ws (bare_of all c is)
      (λ area bound even. record {
        line = λ p r of inside same present. still p r of present;
        rows = lines_apart area writes all (on_off catalog_area area writes (ne_eqb catalog_area area (λ same. omega (arith, same, bound))) on);
      })

  thing_still : (t : Tables) (q : PlacedLine) (line : CatalogLine) → q.line ≡ line → Fits all (directory c.lines) (catalog_tables c.lines) q → IsSoundLine all t line → IsSoundLine (laid_all writes all) t line
  thing_still t q (Relation r) at fits sound = sound
  thing_still t q (Global g) at fits sound = tt
  thing_still t q (FieldOf f) at fits sound = tt
  thing_still t q (Index x) at fits sound =
      let root : x.root.area ≡ x.area = root_area (directory c.lines) (catalog_tables c.lines) q.key x (ap (λ l. stands (directory c.lines) (catalog_tables c.lines) q.key l) (sym at) ∙ fits.stood) in
      let index : IsIndexArea x.area = (subst IsAllowedLine at fits.present.decodes.allowed).area in
      let off : (catalog_area == x.root.area) ≡ false = ne_eqb catalog_area x.root.area (λ same. omega (arith, index.0, same, root)) in
      index_apart x (relation_in x.relation t.relations) writes all (on_off catalog_area x.root.area writes off on) sound

  -- Where these are the tables behind the writes, and with them each line of the catalog that is left and each that is new is sound, the map is sound.
  pub catalog_written : (t now : Tables) → IsSoundAs all c t → AreTablesWith (laid_all writes all) after now → ((area : ℕ) → IsSome (relation_in area t.relations) → IsSome (relation_in area now.relations)) →
      AllByRecursion (λ (p : PlacedLine). IsSoundLine all now p.line) c.lines → ((p : PlacedLine) → IsPresent (laid_all writes all) p → IsPresent all p ⊎ IsSoundLine (laid_all writes all) now p.line) → IsSoundAs (laid_all writes all) after now
  catalog_written t now sound are relations old new =
      let d = directory c.lines in
      let u = catalog_tables c.lines in
      let P : PlacedLine → Type 0 = λ p. IsSoundLine (laid_all writes all) now p.line in
      record {
        sorted = sorted_all writes all sound.sorted;
        decodes = too;
        are = are;
        things = behind_all all (laid_all writes all) c after P is too
            (both_of (Fits all d u) (λ (p : PlacedLine). IsSoundLine all now p.line) P (λ p fits line. thing_still now p p.line refl fits line) c.lines (all_fit all c is) old)
            new;
        owned = owned_all now writes all on (all_of (IsOwned t) (IsOwned now) (λ e own even. relations e.0.area (own even)) all sound.owned);
      }
