-- A relation goes with its rows, its fields and its indexes.
use Rattle.std.proofs.Common.{◌≡◌, ◌==◌, ℕ, ◌%◌, ◌≤◌, true, false, cond, not, List, [], ◌∷◌, Option, Some, None, inl, refl, sym, ap, subst, ◌∙◌, arith}
use Rattle.std.specs.Prelude.{IsSome}
use Rattle.std.specs.List.{AllByRecursion, filter}
use Rattle.std.specs.Ordering.{is_eq}
use Rattle.std.proofs.lemmas.Bool.{eq-eqb, ne_eqb}
use Rattle.rdb_types.specs.declared.keys.Dbkey.{Dbkey}
use Rattle.rdb_types.specs.Order.{dbkey_order, chars_order}
use Rattle.std.specs.Cmp.{tied_itself}
use Rattle.std.proofs.lemmas.Map.Text.{is_eq-slice_cmp}
use Rattle.rdo_ast.specs.Tree.{Name}
use Rattle.rdb_meaning.specs.declared.tables.Relation.{Relation as Rows}
use Rattle.rdb_meaning.specs.declared.tables.Tables.{Tables}
use Rattle.rdb_meaning.specs.declared.tables.Index.{Index as IndexOf}
use Rattle.rdb_meaning.specs.Contents.{same_name, no_tables, fields_of, relation_named}
use Rattle.rdb_meaning.specs.Execution.{area_of}
use Rattle.rdb_meaning.specs.Defining.{without}
use Rattle.line_view.specs.Knowledge.{Lines, lines_in, laid}
use Rattle.line_view.specs.declared.writes.Write.{Write}
use Rattle.line_view.specs.Writes.{laid_all}
use Rattle.catalog_lines.specs.declared.line.RelationLine.{RelationLine}
use Rattle.catalog_lines.specs.declared.line.CatalogLine.{CatalogLine}
use Rattle.catalog_lines.specs.declared.line.CatalogLine.TheVariants.{Relation, Global, Field as FieldOf, Index}
use Rattle.catalog.specs.declared.directory.PlacedLine.{PlacedLine}
use Rattle.catalog.specs.declared.directory.Directory.{Directory}
use Rattle.catalog.specs.declared.reading.Catalog.{Catalog}
use Rattle.catalog.specs.Directory.{directory}
use Rattle.catalog.specs.Schema.{catalog_tables}
use Rattle.catalog.proofs.Differences.{relation_parts}
use Rattle.catalog.specs.Reading.{catalog_area, IsPresent, IsCatalogOf}
use Rattle.sound_lines.specs.Contents.{versions_in, HaveRows}
use Rattle.sound_lines.specs.Sound.{relation_in, IsSoundRelation, IsSoundIndex, IsSoundLine, IsOwned}
use Rattle.sound_changes.specs.Standing.{IsSoundAs}
use Rattle.sound_changes.proofs.Basics.{equal, both_of}
use Rattle.sound_changes.proofs.Named.{all_fit, IsOf, AreOf, lines_of, one_name}
use Rattle.sound_changes.proofs.RowLaid.{found}
use Rattle.sound_definitions.specs.Apart.{IsLeft}
use Rattle.sound_changes.proofs.Listed.{behind_all}
use Rattle.sound_definitions.proofs.Behind.{AreErased, Stays, old_all, lines_apart, index_apart, still_all, sorted_all, rows_stay}
use Rattle.rdb_types.specs.OrderLaws.{same_chars, chars_total}

-- ---- lines that are erased

owned_left : (t : Tables) (writes : List Write) (cur : Lines) → AreErased writes → AllByRecursion (IsOwned t) cur → AllByRecursion (IsOwned t) (laid_all writes cur)
owned_left t [] cur gone owned = owned
owned_left t (w ∷ ws) cur gone owned =
    owned_left t ws (laid w.key w.image cur) gone.1
    (subst (λ (what : Option (List ℕ)). AllByRecursion (IsOwned t) (laid w.key what cur)) (sym gone.0) (left_one w.key cur owned))
  where
    left_one : (k : Dbkey) (es : Lines) → AllByRecursion (IsOwned t) es → AllByRecursion (IsOwned t) (laid k None es)
    left_one k [] each = tt
    left_one k (e ∷ es) each = elim (not (is_eq (dbkey_order k e.0))) as (λ b. AllByRecursion (IsOwned t) (cond b (e ∷ laid k None es) (laid k None es))) [ true ↦ (each.0, left_one k es each.1) | false ↦ left_one k es each.1 ]

none_there : (a : ℕ) (es : Lines) → lines_in a es ≡ [] → AllByRecursion (λ (e : Dbkey × List ℕ). (e.0.area == a) ≡ false) es
none_there a [] none = tt
none_there a (e ∷ es) none =
    elim (e.0.area == a) as (λ b. cond b (e ∷ lines_in a es) (lines_in a es) ≡ [] → (b ≡ false) × AllByRecursion (λ (e : Dbkey × List ℕ). (e.0.area == a) ≡ false) es) [
      | true ↦ λ h. let bad : ⊥ = cc in absurd bad
      | false ↦ λ h. (refl, none_there a es h)
    ] none

-- ---- the other relations

-- one name has one area
one_area : (all : Lines) (d : Directory) (u : Tables) (n m : Name) (a b : ℕ) → IsOf all d u n a → IsOf all d u m b → n ≡ m → a ≡ b
one_area all d u n m a b x y same =
    let here = relation_parts d u x.key x.r x.stood in
    let there = relation_parts d u y.key y.r y.stood in
    x.placed ∙ sym here.0 ∙ ap (λ (k : Name). area_of (relation_named k u)) (sym x.named ∙ same ∙ y.named) ∙ there.0 ∙ sym y.placed

module _ (all : Lines) (d : Directory) (u : Tables) (n : Name) (rel : Rows) (own : IsOf all d u n rel.area) where
  named_area : (e : Name × Rows) → IsOf all d u e.0 e.1.area → same_name n e.0 ≡ true → rel.area ≡ e.1.area
  named_area e of tie = one_area all d u n e.0 rel.area e.1.area own of (same_chars n e.0 (equal (chars_order n e.0) (is_eq-slice_cmp n e.0 ∙ tie)))

  other_area_of : (e : Name × Rows) → IsOf all d u e.0 e.1.area → same_name n e.0 ≡ false → (rel.area == e.1.area) ≡ false
  other_area_of e of apart = ne_eqb rel.area e.1.area (λ same.
      let name : n ≡ e.0 = one_name all d u n e.0 rel.area e.1.area own of same in
      let tie : same_name n e.0 ≡ true = sym (is_eq-slice_cmp n e.0) ∙ ap (λ m. is_eq (chars_order n m)) (sym name) ∙ ap is_eq (tied_itself chars_total n) in
      let bad : ⊥ = cc in
      bad)

  still_in : (a : ℕ) (es : List (Name × Rows)) → (rel.area == a) ≡ false → AreOf all d u es → relation_in a (without n es) ≡ relation_in a es
  still_in a [] off each = refl
  still_in a (e ∷ es) off each =
      elim (same_name n e.0) as (λ b. same_name n e.0 ≡ b → relation_in a (cond (not b) (e ∷ without n es) (without n es)) ≡ relation_in a (e ∷ es)) [
        | true ↦ λ tie.
            let out : (e.1.area == a) ≡ false = ap (λ (k : ℕ). k == a) (sym (named_area e each.0 tie)) ∙ off in
            still_in a es off each.1 ∙ sym (ap (λ b. cond b (Some e.1) (relation_in a es)) out)
        | false ↦ λ apart. ap (λ l. cond (e.1.area == a) (Some e.1) l) (still_in a es off each.1)
      ] refl

-- ---- DELETE RELATION

abbrev pub without_all : Name → Rows → Tables → Tables
without_all n rel t = record { globals = t.globals; relations = without n t.relations; indexes = filter (λ e. not (e.1.relation == rel.area)) t.indexes }

pub relation_deleted : (all : Lines) (c after : Catalog) (t : Tables) (writes : List Write) (n : Name) (rel : Rows) → IsSoundAs all c t → relation_named n t ≡ Some rel → AreErased writes →
    lines_in rel.area (laid_all writes all) ≡ [] →
    ((a : ℕ) → 16 ≤ a → a % 2 ≡ 0 → (rel.area == a) ≡ false → AllByRecursion (λ (w : Write). (w.key.area == a) ≡ false) writes) →
    ((p : PlacedLine) (r : RelationLine) → p.line ≡ Relation r → (p.key.area == catalog_area) ≡ true → (rel.area == r.area) ≡ false → IsPresent all p → AllByRecursion (λ (w : Write). is_eq (dbkey_order p.key w.key) ≡ false) writes) →
    IsCatalogOf (laid_all writes all) after → after.tables ≡ without_all n rel c.tables → AllByRecursion (λ (p : PlacedLine). IsLeft writes rel.area p.line) after.lines → IsSoundAs (laid_all writes all) after (without_all n rel t)
relation_deleted all c after t writes n rel sound named gone empty areas kept too tables left =
    let now = laid_all writes all in
    let is = sound.decodes in
    let d = directory c.lines in
    let u = catalog_tables c.lines in
    let known = found all c t n rel is sound.are named in
    let t' = without_all n rel t in
    let bare : AreOf all d u c.tables.relations = subst (λ (x : Tables). AreOf all d u x.relations) (sym is.tables) (lines_of all d u d c.lines no_tables (all_fit all c is) tt) in
    let old : AllByRecursion (λ (p : PlacedLine). IsSoundLine all t p.line) after.lines = behind_all all now c after (λ p. IsSoundLine all t p.line) is too sound.things (λ p present. inl (old_all p writes all gone present)) in
    record {
      sorted = sorted_all writes all sound.sorted;
      decodes = too;
      are = record {
        globals = sound.are.globals ∙ sym (ap (λ (x : Tables). x.globals) tables);
        relations = subst (λ (x : Tables). HaveRows now (versions_in after.lines) x.relations t'.relations) (sym tables) (rows_left is known.own c.tables.relations t.relations bare sound.are.relations);
        indexes = ap (filter (λ (e : Name × IndexOf). not (e.1.relation == rel.area))) sound.are.indexes ∙ sym (ap (λ (x : Tables). x.indexes) tables);
      };
      things = both_of (λ (p : PlacedLine). IsLeft writes rel.area p.line) (λ (p : PlacedLine). IsSoundLine all t p.line) (λ (p : PlacedLine). IsSoundLine now t' p.line) (λ p here was. thing known.own known.each p.line here was) after.lines left old;
      owned = owned_now known.own known.each now (none_there rel.area now empty) (owned_left t writes all gone sound.owned);
    }
  where
    rows_left : IsCatalogOf all c → IsOf all (directory c.lines) (catalog_tables c.lines) n rel.area → (bs ws : List (Name × Rows)) → AreOf all (directory c.lines) (catalog_tables c.lines) bs → HaveRows all (versions_in c.lines) bs ws → HaveRows (laid_all writes all) (versions_in after.lines) (without n bs) (without n ws)
    rows_left is own [] [] of have = tt
    rows_left is own [] (w ∷ ws) of have = absurd have
    rows_left is own (b ∷ bs) [] of have = absurd have
    rows_left is own (b ∷ bs) (w ∷ ws) of have =
        let rest = rows_left is own bs ws of.1 have.2 in
        subst (λ (m : Name). HaveRows (laid_all writes all) (versions_in after.lines) (without n (b ∷ bs)) (cond (not (same_name n m)) (w ∷ without n ws) (without n ws))) (sym have.0)
        (elim (same_name n b.0) as (λ t. same_name n b.0 ≡ t → HaveRows (laid_all writes all) (versions_in after.lines) (cond (not t) (b ∷ without n bs) (without n bs)) (cond (not t) (w ∷ without n ws) (without n ws))) [
          | true ↦ λ tie. rest
          | false ↦ λ apart.
              let off : (rel.area == b.1.area) ≡ false = other_area_of all (directory c.lines) (catalog_tables c.lines) n rel own b of.0 apart in
              let bounds = of.0.present.decodes.allowed.area in
              let area : (16 ≤ b.1.area) × (b.1.area % 2 ≡ 0) = (omega (arith, bounds.0, of.0.placed), ap (λ (k : ℕ). k % 2) of.0.placed ∙ bounds.1) in
              let stay : Stays all (laid_all writes all) b.1.area = record {
                line = λ p r at inside same present. still_all p writes all (kept p r at inside (ap (λ (k : ℕ). rel.area == k) same ∙ off) present) present;
                rows = lines_apart b.1.area writes all (areas b.1.area area.0 area.1 off);
              } in
              (have.0, rows_stay all (laid_all writes all) c after is too b w of.0 stay have.1, rest)
        ] refl)

    thing : IsOf all (directory c.lines) (catalog_tables c.lines) n rel.area → AreOf all (directory c.lines) (catalog_tables c.lines) t.relations → (line : CatalogLine) → IsLeft writes rel.area line → IsSoundLine all t line → IsSoundLine (laid_all writes all) (without_all n rel t) line
    thing own each (Relation r) off sound = subst (IsSoundRelation r) (sym (ap fields_of (still_in all (directory c.lines) (catalog_tables c.lines) n rel own r.area t.relations off each))) sound
    thing own each (Global g) off sound = tt
    thing own each (FieldOf f) off sound = tt
    thing own each (Index x) off sound =
        subst (IsSoundIndex (laid_all writes all) x) (sym (still_in all (directory c.lines) (catalog_tables c.lines) n rel own x.relation t.relations off.0 each)) (index_apart x (relation_in x.relation t.relations) writes all off.1 sound)

    turned : (a : ℕ) → (a == rel.area) ≡ false → (rel.area == a) ≡ false
    turned a off = ne_eqb rel.area a (λ same. let back : (a == rel.area) ≡ true = eq-eqb a rel.area (sym same) in let bad : ⊥ = cc in bad)

    owned_now : IsOf all (directory c.lines) (catalog_tables c.lines) n rel.area → AreOf all (directory c.lines) (catalog_tables c.lines) t.relations → (es : Lines) → AllByRecursion (λ (e : Dbkey × List ℕ). (e.0.area == rel.area) ≡ false) es → AllByRecursion (IsOwned t) es → AllByRecursion (IsOwned (without_all n rel t)) es
    owned_now own each [] off owned = tt
    owned_now own each (e ∷ es) off owned =
        (λ even. subst IsSome (sym (still_in all (directory c.lines) (catalog_tables c.lines) n rel own e.0.area t.relations (turned e.0.area off.0) each)) (owned.0 even), owned_now own each es off.1 owned.1)
