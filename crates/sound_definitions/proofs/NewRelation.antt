-- The lines of a new relation in the catalog.
use Rattle.std.proofs.Common.{◌≡◌, ◌==◌, ℕ, ◌%◌, ◌≤◌, true, false, cond, List, [], ◌∷◌, map, Option, Some, None, inl, inr, refl, sym, ap, subst, ◌∙◌, arith}
use Rattle.std.specs.Prelude.{IsSome}
use Rattle.std.specs.List.{AllByRecursion}
use Rattle.std.specs.declared.cmp.Ordering.TheVariants.{Less, Equal, Greater}
use Rattle.std.specs.Ordering.{is_eq}
use Rattle.std.specs.FinMap.Entries.{find, put, by_order}
use Rattle.std.proofs.lemmas.Bool.{ne_eqb}
use Rattle.std.proofs.lemmas.Option.{none-some}
use Rattle.rdb_types.specs.declared.keys.Dbkey.{Dbkey}
use Rattle.rdb_types.specs.declared.values.Value.{Value}
use Rattle.rdb_types.specs.Order.{dbkey_order, chars_order}
use Rattle.rdo_ast.specs.Tree.{Name}
use Rattle.rdb_meaning.specs.declared.tables.Relation.{Relation as Rows}
use Rattle.rdb_meaning.specs.declared.tables.Tables.{Tables}
use Rattle.rdb_meaning.specs.Contents.{fields_of}
use Rattle.line_view.specs.Knowledge.{Lines, line_in, lines_in}
use Rattle.line_view.specs.declared.writes.Write.{Write}
use Rattle.line_view.specs.Writes.{laid_all}
use Rattle.catalog_lines.specs.declared.line.RelationLine.{RelationLine}
use Rattle.catalog_lines.specs.declared.line.CatalogLine.{CatalogLine}
use Rattle.catalog_lines.specs.declared.line.CatalogLine.TheVariants.{Relation, Global, Field as FieldOf, Index}
use Rattle.catalog_lines.specs.Lines.{IsCatalogLine}
use Rattle.catalog_lines.proofs.Lines.{one_line}
use Rattle.catalog.specs.declared.directory.PlacedLine.{PlacedLine}
use Rattle.catalog.specs.declared.reading.Catalog.{Catalog}
use Rattle.catalog.specs.Reading.{catalog_area, IsPresent, IsCatalogOf}
use Rattle.relation_rows.specs.Stored.{AreRowsOf}
use Rattle.relation_rows.specs.Relations.{stored_row, HasRows}
use Rattle.sound_lines.specs.Contents.{versions_in, version_of, stored, HaveRows}
use Rattle.sound_lines.specs.Sound.{relation_in, IsSoundRelation, IsSoundIndex, IsSoundLine, IsOwned}
use Rattle.sound_changes.specs.Standing.{IsSoundAs}
use Rattle.sound_changes.proofs.Basics.{fails, equal, all_of, both_of, number_is}
use Rattle.sound_changes.proofs.IndexLaid.{AreOn}
use Rattle.sound_definitions.proofs.Behind.{still_all, From, old_or_from, on_off, lines_apart, have_still, catalog_written}
use Rattle.sound_definitions.specs.Apart.{IsUnused, IsNewLine}
use Rattle.rdb_types.specs.OrderLaws.{same_dbkey, same_chars}

-- ---- a new relation among the others

module _ (n : Name) (v : Rows) where
  more_in : (a : ℕ) (es : List (Name × Rows)) → find chars_order n es ≡ None → IsSome (relation_in a es) → IsSome (relation_in a (put chars_order n v es))
  more_in a [] none some = let bad : ⊥ = cc in absurd bad
  more_in a (e ∷ es) none some =
      elim (chars_order n e.0) as (λ r. cond (is_eq r) (Some e.1) (find chars_order n es) ≡ None → IsSome (relation_in a (by_order r ((n, v) ∷ e ∷ es) ((e.0, v) ∷ es) (e ∷ put chars_order n v es)))) [
        | Less ↦ λ h. elim (v.area == a) as (λ b. IsSome (cond b (Some v) (relation_in a (e ∷ es)))) [ true ↦ refl | false ↦ some ]
        | Equal ↦ λ h. absurd (none-some e.1 (sym h))
        | Greater ↦ λ h. elim (e.1.area == a) as (λ b. IsSome (cond b (Some e.1) (relation_in a es)) → IsSome (cond b (Some e.1) (relation_in a (put chars_order n v es)))) [ true ↦ λ s. refl | false ↦ λ s. more_in a es h s ] some
      ] none

  same_in : (a : ℕ) (es : List (Name × Rows)) → (v.area == a) ≡ false → find chars_order n es ≡ None → relation_in a (put chars_order n v es) ≡ relation_in a es
  same_in a [] off none = ap (λ b. cond b (Some v) (let o : Option Rows = None in o)) off
  same_in a (e ∷ es) off none =
      elim (chars_order n e.0) as (λ r. cond (is_eq r) (Some e.1) (find chars_order n es) ≡ None → relation_in a (by_order r ((n, v) ∷ e ∷ es) ((e.0, v) ∷ es) (e ∷ put chars_order n v es)) ≡ relation_in a (e ∷ es)) [
        | Less ↦ λ h. ap (λ b. cond b (Some v) (relation_in a (e ∷ es))) off
        | Equal ↦ λ h. absurd (none-some e.1 (sym h))
        | Greater ↦ λ h. ap (λ l. cond (e.1.area == a) (Some e.1) l) (same_in a es off h)
      ] none

have_new : (now : Lines) (versions : List (Name × ℕ)) (n : Name) (b v : Rows) (bs ws : List (Name × Rows)) → HasRows now (stored (version_of n versions) b) v → HaveRows now versions bs ws → HaveRows now versions (put chars_order n b bs) (put chars_order n v ws)
have_new now versions n b v [] [] has have = (refl, has, tt)
have_new now versions n b v [] (w ∷ ws) has have = absurd have
have_new now versions n b v (e ∷ bs) [] has have = absurd have
have_new now versions n b v (e ∷ bs) (w ∷ ws) has have =
    subst (λ (m : Name). HaveRows now versions (put chars_order n b (e ∷ bs)) (by_order (chars_order n m) ((n, v) ∷ w ∷ ws) ((w.0, v) ∷ ws) (w ∷ put chars_order n v ws))) (sym have.0)
    (elim (chars_order n e.0) as (λ r. chars_order n e.0 ≡ r → HaveRows now versions (by_order r ((n, b) ∷ e ∷ bs) ((e.0, b) ∷ bs) (e ∷ put chars_order n b bs)) (by_order r ((n, v) ∷ w ∷ ws) ((w.0, v) ∷ ws) (w ∷ put chars_order n v ws))) [
      | Less ↦ λ p. (refl, has, have)
      | Equal ↦ λ p. (have.0, subst (λ (m : Name). HasRows now (stored (version_of m versions) b) v) (same_chars n e.0 p) has, have.2)
      | Greater ↦ λ p. (have.0, have.1, have_new now versions n b v bs ws has have.2)
    ] refl)

-- no line stands in an area of no relation
none_in : (t : Tables) (a : ℕ) (es : Lines) → a % 2 ≡ 0 → relation_in a t.relations ≡ None → AllByRecursion (IsOwned t) es → lines_in a es ≡ []
none_in t a [] even none owned = refl
none_in t a (e ∷ es) even none owned =
    elim (e.0.area == a) as (λ b. e.0.area == a ≡ b → cond b (e ∷ lines_in a es) (lines_in a es) ≡ []) [
      | true ↦ λ own.
          let here : e.0.area ≡ a = number_is e.0.area a own in
          let some : IsSome (relation_in e.0.area t.relations) = owned.0 (ap (λ (k : ℕ). k % 2) here ∙ even) in
          absurd (not_some (relation_in a t.relations) none (subst (λ (k : ℕ). IsSome (relation_in k t.relations)) here some))
      | false ↦ λ other. none_in t a es even none owned.1
    ] refl
  where
    not_some : (o : Option Rows) → o ≡ None → IsSome o → ⊥
    not_some None is some = let bad : ⊥ = cc in bad
    not_some (Some r) is some = none-some r (sym is)

-- ---- DEFINE RELATION

abbrev pub with_new : Name → Rows → Tables → Tables
with_new n v t = record t { relations = put chars_order n v t.relations }

-- the lines of the catalog that were there are sound with the new relation
line_more : (all : Lines) (t : Tables) (n : Name) (v : Rows) (line : CatalogLine) → find chars_order n t.relations ≡ None → IsUnused v.area line → IsSoundLine all t line → IsSoundLine all (with_new n v t) line
line_more all t n v (Relation r) none off sound = subst (IsSoundRelation r) (sym (ap fields_of (same_in n v r.area t.relations (ne_eqb v.area r.area off) none))) sound
line_more all t n v (Global g) none off sound = tt
line_more all t n v (FieldOf f) none off sound = tt
line_more all t n v (Index x) none off sound = subst (IsSoundIndex all x) (sym (same_in n v x.relation t.relations (ne_eqb v.area x.relation off) none)) sound

-- a line that one of the writes is of is sound
of_new : (now : Lines) (t : Tables) (line : CatalogLine) (ws : List Write) → AllByRecursion (IsNewLine now t) ws → From ws line → IsSoundLine now t line
of_new now t line [] news from = absurd from
of_new now t line (w ∷ ws) news (inl here) =
    let first = here.1 in
    let second = news.0.written in
    let image : here.0 ≡ news.0.bytes = cc in
    let same : line ≡ news.0.line = one_line news.0.bytes line news.0.line (subst (λ bytes. IsCatalogLine bytes line) image here.2) news.0.decodes in
    subst (IsSoundLine now t) (sym same) news.0.sound
of_new now t line (w ∷ ws) news (inr there) = of_new now t line ws news.1 there

pub relation_defined : (all : Lines) (c after : Catalog) (t : Tables) (writes : List Write) (n : Name) (v : Rows) → IsSoundAs all c t → AreOn catalog_area writes → AllByRecursion (λ (w : Write). line_in w.key all ≡ None) writes →
    IsCatalogOf (laid_all writes all) after → after.tables ≡ with_new n v c.tables → v.rows ≡ [] → (16 ≤ v.area) × (v.area % 2 ≡ 0) → find chars_order n t.relations ≡ None → relation_in v.area t.relations ≡ None →
    AllByRecursion (λ (p : PlacedLine). IsUnused v.area p.line) c.lines → AllByRecursion (IsNewLine (laid_all writes all) (with_new n v t)) writes → IsSoundAs (laid_all writes all) after (with_new n v t)
relation_defined all c after t writes n v sound on free too tables bare bounds none unused apart news =
    let now = laid_all writes all in
    let behind = with_new n v t in
    let off : (catalog_area == v.area) ≡ false = ne_eqb catalog_area v.area (λ same. omega (arith, same, bounds.0)) in
    let empty : lines_in v.area now ≡ [] = lines_apart v.area writes all (on_off catalog_area v.area writes off on) ∙ none_in t v.area all bounds.1 unused sound.owned in
    let has : (version : ℕ) → HasRows now (stored version v) v = λ version. record { area = refl; fields = refl; rows = subst (λ (l : Lines). AreRowsOf (stored version v) l (map stored_row v.rows)) (sym empty) (subst (λ (rows : List (Dbkey × List Value)). AreRowsOf (stored version v) [] (map stored_row rows)) (sym bare) tt) } in
    let kept : HaveRows now (versions_in after.lines) c.tables.relations t.relations = have_still all c after writes on sound.decodes too still t.relations sound.are.relations in
    catalog_written all c after writes on sound.decodes too still t behind sound
    (record {
      globals = sound.are.globals ∙ sym (ap (λ (x : Tables). x.globals) tables);
      relations = subst (λ (x : Tables). HaveRows now (versions_in after.lines) x.relations behind.relations) (sym tables) (have_new now (versions_in after.lines) n v v c.tables.relations t.relations (has (version_of n (versions_in after.lines))) kept);
      indexes = sound.are.indexes ∙ sym (ap (λ (x : Tables). x.indexes) tables);
    })
    (λ area some. more_in n v area t.relations none some)
    (both_of (λ (p : PlacedLine). IsUnused v.area p.line) (λ (p : PlacedLine). IsSoundLine all t p.line) (λ (p : PlacedLine). IsSoundLine all behind p.line) (λ p. line_more all t n v p.line none) c.lines apart sound.things)
    (λ p present. elim (old_or_from p writes all present) [ inl old ↦ inl old | inr from ↦ inr (of_new now behind p.line writes news from) ])
  where
    still : (p : PlacedLine) (r : RelationLine) → p.line ≡ Relation r → IsPresent all p → IsPresent (laid_all writes all) p
    still p r at present =
        still_all p writes all
        (all_of (λ (w : Write). line_in w.key all ≡ None) (λ (w : Write). is_eq (dbkey_order p.key w.key) ≡ false)
        (λ w absent. fails _ (λ tie. none-some present.image (sym (ap (λ k. line_in k all) (same_dbkey p.key w.key (equal _ tie)) ∙ absent) ∙ present.present)))
        writes free)
        present
