-- DELETE RELATION.
use Rattle.std.proofs.Common.{◌≡◌, ◌==◌, ℕ, ◌≤◌, ◌%◌, Bool, true, false, cond, not, List, [], ◌∷◌, ◌++◌, Option, Some, None, inl, inr, refl, sym, ap, subst, ◌∙◌, arith}
use Rattle.std.specs.Prelude.{◌||◌, option_map}
use Rattle.std.specs.List.{AllByRecursion, filter, slice_get}
use Rattle.std.specs.Ordering.{is_eq}
use Rattle.std.specs.Cmp.{tied_itself}
use Rattle.std.proofs.lemmas.Bool.{eq-eqb, ne_eqb}
use Rattle.std.proofs.lemmas.Option.{same_Some}
use Rattle.std.proofs.lemmas.List.Elements.{recursion_from_All}
use Rattle.rdb_types.specs.declared.keys.Dbkey.{Dbkey}
use Rattle.rdb_types.specs.Order.{dbkey_order}
use Rattle.rdb_types.specs.OrderLaws.{dbkey_total, same_dbkey}
use Rattle.rdo_ast.specs.Tree.{Name}
use Rattle.rdb_meaning.specs.declared.tables.Relation.{Relation as Rows}
use Rattle.rdb_meaning.specs.declared.tables.Index.{Index as IndexOf}
use Rattle.rdb_meaning.specs.declared.tables.Tables.{Tables}
use Rattle.rdb_meaning.specs.Contents.{relation_named}
use Rattle.rdb_meaning.specs.Checks.{needs_some}
use Rattle.rdb_meaning.specs.Execution.{area_of}
use Rattle.rdb_meaning.specs.Defining.{without, without_relation}
use Rattle.line_view.specs.Knowledge.{Lines, lines_in, keys_of, laid}
use Rattle.line_view.specs.declared.writes.Write.{Write}
use Rattle.line_view.specs.Writes.{laid_all}
use Rattle.line_view.proofs.Written.{laid_in_turn}
use Rattle.catalog_lines.specs.declared.line.RelationLine.{RelationLine}
use Rattle.catalog_lines.specs.declared.line.IndexLine.{IndexLine}
use Rattle.catalog_lines.specs.declared.line.CatalogLine.{CatalogLine}
use Rattle.catalog_lines.specs.declared.line.CatalogLine.TheVariants.{Relation, Global, Field as FieldOf, Index}
use Rattle.catalog_lines.specs.Lines.{IsAllowedLine, IsIndexArea, IsRelationArea}
use Rattle.catalog.specs.declared.directory.PlacedLine.{PlacedLine}
use Rattle.catalog.specs.declared.reading.Catalog.{Catalog}
use Rattle.catalog.specs.Directory.{directory}
use Rattle.catalog.specs.Schema.{catalog_tables, stands}
use Rattle.catalog.specs.Deletions.{is_of_relation, keys_where}
use Rattle.catalog.specs.Reading.{catalog_area, line_keys, IsPresent, IsCatalogOf}
use Rattle.catalog_definitions.specs.Leaving.{Leaves, erasures}
use Rattle.catalog_definitions.proofs.DeletedRelations.{relation_goes}
use Rattle.catalog_definitions.proofs.Erasing.{is_among, kept, erased_lines}
use Rattle.catalog_definitions.proofs.Basics.{or_true}
use Rattle.sound_changes.specs.Standing.{IsSoundAs}
use Rattle.sound_changes.proofs.Basics.{all_of, both_of, fails, equal, number_is}
use Rattle.sound_changes.proofs.Frames.{keys_in, in_area}
use Rattle.sound_changes.proofs.Named.{Fits, all_fit, root_area}
use Rattle.sound_changes.proofs.IndexLaid.{at_place, same_index}
use Rattle.sound_changes.proofs.Listed.{one_placed, listed}
use Rattle.sound_changes.proofs.RowLaid.{found}
use Rattle.sound_changes.proofs.Schemas.{catalogs_schema}
use Rattle.schema_alone.specs.Schema.{bare}
use Rattle.sound_definitions.specs.Apart.{IsLeft}
use Rattle.sound_definitions.proofs.Behind.{AreOff, AreErased, lines_apart, old_all}
use Rattle.sound_definitions.proofs.GoneRelation.{without_all, relation_deleted as lines_deleted}
use Rattle.sound_statements.specs.Owned.{IsOfIndex, IsOfRelation}
use Rattle.sound_statements.proofs.Common.{are_erased, writes_of, none_kept, same_line, catalog_alike}

-- ---- erasures

both_erased : (xs ys : List Dbkey) → AreErased (erasures xs ++ erasures ys)
both_erased [] ys = are_erased ys
both_erased (x ∷ xs) ys = (refl, both_erased xs ys)

-- what holds of writes of these keys and of those holds of both
both_writes : (P : Dbkey → Type 0) (xs ys : List Dbkey) → AllByRecursion P xs → AllByRecursion P ys → AllByRecursion (λ (w : Write). P w.key) (erasures xs ++ erasures ys)
both_writes P [] [] each also = tt
both_writes P [] (y ∷ ys) each also = (also.0, both_writes P [] ys tt also.1)
both_writes P (x ∷ xs) ys each also = (each.0, both_writes P xs ys each.1 also)

-- ---- the lines that go

-- what holds of the keys of all lines for which a test holds
keys_of_all : (holds : CatalogLine → Bool) (P : PlacedLine → Type 0) (Q : Dbkey → Type 0) → ((p : PlacedLine) → holds p.line ≡ true → P p → Q p.key) → (ps : List PlacedLine) → AllByRecursion P ps → AllByRecursion Q (keys_where holds ps)
keys_of_all holds P Q f [] each = tt
keys_of_all holds P Q f (p ∷ ps) each =
    let rest = keys_of_all holds P Q f ps each.1 in
    let left = filter (λ (q : PlacedLine). holds q.line) ps in
    elim (holds p.line) as (λ b. holds p.line ≡ b → AllByRecursion Q (line_keys (cond b (p ∷ left) left))) [
      | true ↦ λ is. (f p is each.0, rest)
      | false ↦ λ is. rest
    ] refl

turned : (a b : ℕ) → (a == b) ≡ false → (b == a) ≡ false
turned a b off = ne_eqb b a (λ same. let back : (a == b) ≡ true = eq-eqb a b (sym same) in let bad : ⊥ = cc in bad)

-- ---- the statement

module _ (all : Lines) (c : Catalog) (t : Tables) (n : Name) (rel : Rows) (keys : List Dbkey) (sound : IsSoundAs all c t) (named : relation_named n t ≡ Some rel) (owned : AllByRecursion (IsOfRelation c rel.area) keys) where
  abbrev gone : List Dbkey
  gone = keys_where (is_of_relation rel.area) c.lines

  abbrev writes : List Write
  writes = erasures gone ++ erasures keys

  abbrev fits : AllByRecursion (Fits all (directory c.lines) (catalog_tables c.lines)) c.lines
  fits = all_fit all c sound.decodes

  area : IsRelationArea rel.area
  area = (found all c t n rel sound.decodes sound.are named).area

  -- the area of an index of the catalog
  index_area : (i : ℕ) (p : PlacedLine) (x : IndexLine) → slice_get c.lines i ≡ Some p → p.line ≡ Index x → IsIndexArea x.area
  index_area i p x at is = (subst IsAllowedLine is (at_place (Fits all (directory c.lines) (catalog_tables c.lines)) c.lines i p fits at).present.decodes.allowed).area

  -- no row and no node stands in the catalog's area
  outside : (k : Dbkey) → IsOfRelation c rel.area k → (k.area == catalog_area) ≡ false
  outside k (inl own) = ne_eqb k.area catalog_area (λ same. omega (arith, same, own, area.0))
  outside k (inr x) = ne_eqb k.area catalog_area (λ same. omega (arith, same, x.within, (index_area x.place x.line x.index x.stands x.is).0))

  gone_in : AllByRecursion (λ (k : Dbkey). k.area ≡ catalog_area) gone
  gone_in = keys_of_all (is_of_relation rel.area) (λ (p : PlacedLine). (p.key.area == catalog_area) ≡ true) (λ (k : Dbkey). k.area ≡ catalog_area) (λ p is own. number_is p.key.area catalog_area own) c.lines (in_area all c sound.decodes)

  -- the lines of another relation's area
  off_area : (a : ℕ) → 16 ≤ a → a % 2 ≡ 0 → (rel.area == a) ≡ false → AreOff a writes
  off_area a bound even off =
      both_writes (λ (k : Dbkey). (k.area == a) ≡ false) gone keys
      (all_of (λ (k : Dbkey). k.area ≡ catalog_area) (λ (k : Dbkey). (k.area == a) ≡ false) (λ k own. ne_eqb k.area a (λ same. omega (arith, same, own, bound))) gone gone_in)
      (all_of (IsOfRelation c rel.area) (λ (k : Dbkey). (k.area == a) ≡ false) (off_one a even off) keys owned)
    where
      off_one : (a : ℕ) → a % 2 ≡ 0 → (rel.area == a) ≡ false → (k : Dbkey) → IsOfRelation c rel.area k → (k.area == a) ≡ false
      off_one a even off k (inl own) = ap (λ (b : ℕ). b == a) own ∙ off
      off_one a even off k (inr x) = ne_eqb k.area a (λ same. omega (arith, even, (index_area x.place x.line x.index x.stands x.is).1, ap (λ (b : ℕ). b % 2) (sym same ∙ x.within)))

  -- the line of another relation
  off_line : (p : PlacedLine) (r : RelationLine) → p.line ≡ Relation r → (p.key.area == catalog_area) ≡ true → (rel.area == r.area) ≡ false → IsPresent all p → AllByRecursion (λ (w : Write). is_eq (dbkey_order p.key w.key) ≡ false) writes
  off_line p r at inside off present =
      both_writes (λ (k : Dbkey). is_eq (dbkey_order p.key k) ≡ false) gone keys
      (keys_of_all (is_of_relation rel.area) (IsPresent all) (λ (k : Dbkey). is_eq (dbkey_order p.key k) ≡ false)
      (λ q is here. fails _ (λ tie.
      let same : p.line ≡ q.line = ap (λ (x : PlacedLine). x.line) (one_placed all p q (same_dbkey p.key q.key (equal _ tie)) present here) in
      let own : (r.area == rel.area) ≡ true = ap (is_of_relation rel.area) (sym at ∙ same) ∙ is in
      let other : (r.area == rel.area) ≡ false = turned rel.area r.area off in
      let bad : ⊥ = cc in bad)) c.lines (recursion_from_All (IsPresent all) c.lines sound.decodes.lines.images))
      (all_of (IsOfRelation c rel.area) (λ (k : Dbkey). is_eq (dbkey_order p.key k) ≡ false)
      (λ k own. fails _ (λ tie. let moved = ap (λ (x : Dbkey). x.area == catalog_area) (same_dbkey p.key k (equal _ tie)) in let out = outside k own in let bad : ⊥ = cc in bad)) keys owned)

  -- a line that is left
  left_line : (p : PlacedLine) (line : CatalogLine) → p.line ≡ line → Fits all (directory c.lines) (catalog_tables c.lines) p → is_of_relation rel.area line ≡ false → IsLeft writes rel.area line
  left_line p (Relation r) at fit other = turned r.area rel.area other
  left_line p (Global g) at fit other = tt
  left_line p (FieldOf f) at fit other = tt
  left_line p (Index x) at fit other =
      let root : x.root.area ≡ x.area = root_area (directory c.lines) (catalog_tables c.lines) p.key x (ap (λ l. stands (directory c.lines) (catalog_tables c.lines) p.key l) (sym at) ∙ fit.stood) in
      let bounds : IsIndexArea x.area = (subst IsAllowedLine at fit.present.decodes.allowed).area in (
        turned x.relation rel.area other,
        both_writes (λ (k : Dbkey). (k.area == x.root.area) ≡ false) gone keys
            (all_of (λ (k : Dbkey). k.area ≡ catalog_area) (λ (k : Dbkey). (k.area == x.root.area) ≡ false) (λ k own. ne_eqb k.area x.root.area (λ same. omega (arith, same, own, root, bounds.0))) gone gone_in)
            (all_of (IsOfRelation c rel.area) (λ (k : Dbkey). (k.area == x.root.area) ≡ false) (off_index x p at fit other root bounds) keys owned),
      )
    where
      off_index : (x : IndexLine) (p : PlacedLine) → p.line ≡ Index x → Fits all (directory c.lines) (catalog_tables c.lines) p → (x.relation == rel.area) ≡ false → x.root.area ≡ x.area → IsIndexArea x.area → (k : Dbkey) → IsOfRelation c rel.area k → (k.area == x.root.area) ≡ false
      off_index x p at fit other root bounds k (inl own) = ne_eqb k.area x.root.area (λ same. omega (arith, area.1, bounds.1, ap (λ (b : ℕ). b % 2) (sym own ∙ same ∙ root)))
      off_index x p at fit other root bounds k (inr y) =
          ne_eqb k.area x.root.area (λ same.
          let there = at_place (Fits all (directory c.lines) (catalog_tables c.lines)) c.lines y.place y.line fits y.stands in
          let one : x ≡ y.index = same_index all (directory c.lines) (catalog_tables c.lines) p y.line x y.index fit there at y.is (sym root ∙ sym same ∙ y.within) in
          let own : (x.relation == rel.area) ≡ true = eq-eqb x.relation rel.area (ap (λ (z : IndexLine). z.relation) one ∙ y.on) in
          let bad : ⊥ = cc in bad)

  pub relation_deleted : lines_in rel.area (laid_all writes all) ≡ [] → (after : Catalog) × IsSoundAs (laid_all writes all) after (without_relation n t)
  relation_deleted empty =
      let is = sound.decodes in
      let schema = catalogs_schema all c t sound.are n in
      let there : needs_some n (relation_named n c.tables) ≡ None = some_there (relation_named n c.tables) (schema ∙ ap (option_map bare) named) in
      let own : area_of (relation_named n c.tables) ≡ rel.area = area_there (relation_named n c.tables) (schema ∙ ap (option_map bare) named) in
      let left : Leaves all (erasures gone) (without_relation n c.tables) =
      subst (λ (a : ℕ). Leaves all (erasures (keys_where (is_of_relation a) c.lines)) (without_relation n c.tables)) own (relation_goes all c n sound.sorted is there) in
      let mid = laid_all (erasures gone) all in
      let now = laid_all (erasures keys) mid in
      let off : AreOff catalog_area (erasures keys) = writes_of (λ (k : Dbkey). (k.area == catalog_area) ≡ false) keys (all_of (IsOfRelation c rel.area) (λ (k : Dbkey). (k.area == catalog_area) ≡ false) outside keys owned) in
      let turn : laid_all writes all ≡ now = laid_in_turn (erasures gone) (erasures keys) all in
      let decodes : IsCatalogOf now left.after = catalog_alike mid now left.after (ap keys_of (lines_apart catalog_area (erasures keys) mid off)) (λ k inside. same_line k (erasures keys) mid off inside) left.catalog in
      let lines : AllByRecursion (λ (p : PlacedLine). IsLeft writes rel.area p.line) left.after.lines =
      both_of (λ (p : PlacedLine). (p.key.area == catalog_area) ≡ true) (IsPresent now) (λ (p : PlacedLine). IsLeft writes rel.area p.line)
      (λ p inside present.
      let before : IsPresent mid p = old_all p (erasures keys) mid (are_erased keys) present in
      let first : IsPresent all p = old_all p (erasures gone) all (are_erased gone) before in
      left_line p p.line refl (listed all c.lines (Fits all (directory c.lines) (catalog_tables c.lines)) p is.lines inside first fits)
      (listed mid (kept (is_of_relation rel.area) c.lines) (λ (q : PlacedLine). is_of_relation rel.area q.line ≡ false) p (erased_lines all (is_of_relation rel.area) c.lines is.lines) inside before (none_kept (is_of_relation rel.area) c.lines)))
      left.after.lines (in_area now left.after decodes) (recursion_from_All (IsPresent now) left.after.lines decodes.lines.images) in
      let tables : left.after.tables ≡ without_all n rel c.tables = left.tables ∙ (λ i. record { globals = c.tables.globals; relations = without n c.tables.relations; indexes = filter (λ (e : Name × IndexOf). not (e.1.relation == own i)) c.tables.indexes }) in (
        left.after,
        subst (IsSoundAs (laid_all writes all) left.after) (λ i. record { globals = t.globals; relations = without n t.relations; indexes = filter (λ (e : Name × IndexOf). not (e.1.relation == ap area_of (sym named) i)) t.indexes })
            (lines_deleted all c left.after t writes n rel sound named (both_erased gone keys) empty off_area off_line (subst (λ (l : Lines). IsCatalogOf l left.after) (sym turn) decodes) tables lines),
      )
    where
      some_there : (o : Option Rows) → option_map bare o ≡ Some (bare rel) → needs_some n o ≡ None
      some_there None same = let bad : ⊥ = cc in absurd bad
      some_there (Some r) same = refl

      area_there : (o : Option Rows) → option_map bare o ≡ Some (bare rel) → area_of o ≡ rel.area
      area_there None same = let bad : ⊥ = cc in absurd bad
      area_there (Some r) same = ap (λ (x : Rows). x.area) (same_Some (bare r) (bare rel) same)

-- ---- all lines of the relation's area are erased

filter_turn : {X : Type 0} (p q : X → Bool) (xs : List X) → filter p (filter q xs) ≡ filter q (filter p xs)
filter_turn p q [] = refl
filter_turn p q (x ∷ xs) =
    let rest = filter_turn p q xs in
    elim (p x) as (λ b. p x ≡ b → filter p (cond (q x) (x ∷ filter q xs) (filter q xs)) ≡ filter q (cond b (x ∷ filter p xs) (filter p xs))) [
      | true ↦ λ is. elim (q x) as (λ c. filter p (cond c (x ∷ filter q xs) (filter q xs)) ≡ cond c (x ∷ filter q (filter p xs)) (filter q (filter p xs))) [
        | true ↦ ap (λ b. cond b (x ∷ filter p (filter q xs)) (filter p (filter q xs))) is ∙ ap (λ l. x ∷ l) rest
        | false ↦ rest
      ]
      | false ↦ λ is. elim (q x) as (λ c. filter p (cond c (x ∷ filter q xs) (filter q xs)) ≡ filter q (filter p xs)) [
        | true ↦ ap (λ b. cond b (x ∷ filter p (filter q xs)) (filter p (filter q xs))) is ∙ rest
        | false ↦ rest
      ]
    ] refl

left_in : (a : ℕ) (keys : List Dbkey) (cur : Lines) → lines_in a (laid_all (erasures keys) cur) ≡ laid_all (erasures keys) (lines_in a cur)
left_in a [] cur = refl
left_in a (k ∷ ks) cur = left_in a ks (laid k None cur) ∙ ap (laid_all (erasures ks)) (filter_turn (λ (e : Dbkey × List ℕ). e.0.area == a) (λ (e : Dbkey × List ℕ). not (is_eq (dbkey_order k e.0))) cur)

abbrev AreAmong : List Dbkey → Lines → Type 0
AreAmong keys = AllByRecursion (λ (e : Dbkey × List ℕ). is_among keys e.0 ≡ true)

among_others : (k : Dbkey) (ks : List Dbkey) (cur : Lines) → AreAmong (k ∷ ks) cur → AreAmong ks (laid k None cur)
among_others k ks [] each = tt
among_others k ks (e ∷ es) each =
    let rest = among_others k ks es each.1 in
    elim (is_eq (dbkey_order k e.0)) as (λ b. (b || is_among ks e.0) ≡ true → AreAmong ks (cond (not b) (e ∷ laid k None es) (laid k None es))) [
      | true ↦ λ h. rest
      | false ↦ λ h. (h, rest)
    ] each.0

all_gone : (keys : List Dbkey) (cur : Lines) → AreAmong keys cur → laid_all (erasures keys) cur ≡ []
all_gone [] [] each = refl
all_gone [] (e ∷ es) each = let first = each.0 in let bad : ⊥ = cc in absurd bad
all_gone (k ∷ ks) cur each = all_gone ks (laid k None cur) (among_others k ks cur each)

among_own : (cur : Lines) (others : List Dbkey) → AreAmong (keys_of cur ++ others) cur
among_own [] others = tt
among_own (e ∷ es) others = (
  ap (λ r. is_eq r || is_among (keys_of es ++ others) e.0) (tied_itself dbkey_total e.0),
  all_of (λ (x : Dbkey × List ℕ). is_among (keys_of es ++ others) x.0 ≡ true) (λ (x : Dbkey × List ℕ). is_among (e.0 ∷ (keys_of es ++ others)) x.0 ≡ true)
      (λ x h. ap (λ b. is_eq (dbkey_order e.0 x.0) || b) h ∙ or_true (is_eq (dbkey_order e.0 x.0))) es (among_own es others),
)

all_append : (P : Dbkey → Type 0) (xs ys : List Dbkey) → AllByRecursion P xs → AllByRecursion P ys → AllByRecursion P (xs ++ ys)
all_append P [] ys each also = also
all_append P (x ∷ xs) ys each also = (each.0, all_append P xs ys each.1 also)

pub relation_deleted_whole : (all : Lines) (c : Catalog) (t : Tables) (n : Name) (rel : Rows) (nodes : List Dbkey) → IsSoundAs all c t → relation_named n t ≡ Some rel → AllByRecursion (IsOfIndex c rel.area) nodes →
    (after : Catalog) × IsSoundAs (laid_all (erasures (keys_where (is_of_relation rel.area) c.lines) ++ erasures (keys_of (lines_in rel.area all) ++ nodes)) all) after (without_relation n t)
relation_deleted_whole all c t n rel nodes sound named own =
    let keys = keys_of (lines_in rel.area all) in
    let rows : AllByRecursion (IsOfRelation c rel.area) keys = all_of (λ (k : Dbkey). (k.area == rel.area) ≡ true) (IsOfRelation c rel.area) (λ k is. inl (number_is k.area rel.area is)) keys (keys_in rel.area all) in
    let owned = all_append (IsOfRelation c rel.area) keys nodes rows (all_of (IsOfIndex c rel.area) (IsOfRelation c rel.area) (λ k is. inr is) nodes own) in
    let gone = keys_where (is_of_relation rel.area) c.lines in
    let mid = laid_all (erasures gone) all in
    let bounds : IsRelationArea rel.area = (found all c t n rel sound.decodes sound.are named).area in
    let inside = all_of (λ (p : PlacedLine). (p.key.area == catalog_area) ≡ true) (λ (p : PlacedLine). (p.key.area == rel.area) ≡ false) (λ p is. ne_eqb p.key.area rel.area (λ same. omega (arith, same, number_is p.key.area catalog_area is, bounds.0))) c.lines (in_area all c sound.decodes) in
    let off : AreOff rel.area (erasures gone) = writes_of (λ (k : Dbkey). (k.area == rel.area) ≡ false) gone (keys_of_all (is_of_relation rel.area) (λ (p : PlacedLine). (p.key.area == rel.area) ≡ false) (λ (k : Dbkey). (k.area == rel.area) ≡ false) (λ p is other. other) c.lines inside) in
    let empty : lines_in rel.area (laid_all (erasures gone ++ erasures (keys ++ nodes)) all) ≡ [] =
    ap (lines_in rel.area) (laid_in_turn (erasures gone) (erasures (keys ++ nodes)) all)
    ∙ left_in rel.area (keys ++ nodes) mid
    ∙ ap (laid_all (erasures (keys ++ nodes))) (lines_apart rel.area (erasures gone) all off)
    ∙ all_gone (keys ++ nodes) (lines_in rel.area all) (among_own (lines_in rel.area all) nodes) in
    relation_deleted all c t n rel (keys ++ nodes) sound named owned empty
