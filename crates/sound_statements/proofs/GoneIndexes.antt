-- DELETE INDEX.
use Rattle.std.proofs.Common.{◌≡◌, ◌==◌, ℕ, true, false, cond, List, [], ◌∷◌, ◌++◌, Some, None, refl, sym, ap, subst, ◌∙◌}
use Rattle.std.specs.List.{AllByRecursion, filter, slice_get}
use Rattle.std.proofs.lemmas.List.Elements.{recursion_from_All}
use Rattle.rdb_types.specs.declared.keys.Dbkey.{Dbkey}
use Rattle.rdo_ast.specs.Tree.{Name}
use Rattle.rdb_meaning.specs.declared.tables.Tables.{Tables}
use Rattle.rdb_meaning.specs.Defining.{without_index}
use Rattle.line_view.specs.Knowledge.{Lines}
use Rattle.line_view.specs.Writes.{laid_all}
use Rattle.line_view.proofs.Written.{laid_in_turn}
use Rattle.catalog_lines.specs.declared.line.IndexLine.{IndexLine}
use Rattle.catalog_lines.specs.Lines.{IsAllowedLine, IsIndexArea}
use Rattle.catalog_lines.specs.declared.line.CatalogLine.{CatalogLine}
use Rattle.catalog_lines.specs.declared.line.CatalogLine.TheVariants.{Relation, Global, Field as FieldOf, Index}
use Rattle.catalog.specs.declared.directory.PlacedLine.{PlacedLine}
use Rattle.catalog.specs.declared.reading.Catalog.{Catalog}
use Rattle.catalog.specs.Directory.{directory}
use Rattle.catalog.specs.Schema.{catalog_tables}
use Rattle.catalog.specs.Deletions.{is_index_named, keys_where}
use Rattle.catalog.specs.Reading.{catalog_area, line_keys, IsPresent}
use Rattle.catalog_definitions.specs.Leaving.{Leaves, erasures}
use Rattle.catalog_definitions.proofs.DeletedIndexes.{index_goes}
use Rattle.catalog_definitions.proofs.Erasing.{kept, erased_lines}
use Rattle.sound_changes.specs.Standing.{IsSoundAs}
use Rattle.sound_changes.proofs.Basics.{both_of, number_is}
use Rattle.sound_changes.proofs.Frames.{in_area}
use Rattle.sound_changes.proofs.Named.{Fits, all_fit}
use Rattle.sound_changes.proofs.IndexLaid.{at_place, same_index}
use Rattle.sound_changes.proofs.Listed.{listed}
use Rattle.sound_definitions.specs.Apart.{IsNoIndexIn, IsIndexErased}
use Rattle.sound_definitions.proofs.Behind.{old_all}
use Rattle.sound_definitions.proofs.Filling.{aside}
use Rattle.sound_definitions.proofs.GoneIndexes.{indexes_deleted}
use Rattle.sound_statements.proofs.Common.{are_erased, writes_of, none_kept}

-- a line that stands in the catalog's area of the map
record Stands (all : Lines) (p : PlacedLine) : Type 0 where
  pub inside : (p.key.area == catalog_area) ≡ true
  pub present : IsPresent all p

one_erased : (all : Lines) (n : Name) (p : PlacedLine) (line : CatalogLine) → p.line ≡ line → is_index_named n line ≡ true → Stands all p → IsIndexErased all (record { key = p.key; image = None })
one_erased all n p (Relation r) at is stands = let bad : ⊥ = cc in absurd bad
one_erased all n p (Global g) at is stands = let bad : ⊥ = cc in absurd bad
one_erased all n p (FieldOf f) at is stands = let bad : ⊥ = cc in absurd bad
one_erased all n p (Index x) at is stands =
    let same : p ≡ record { key = p.key; line = Index x } = λ i. record { key = p.key; line = at i } in
    record { erased = refl; inside = number_is p.key.area catalog_area stands.inside; index = x; present = subst (IsPresent all) same stands.present }

all_erased : (all : Lines) (n : Name) (ps : List PlacedLine) → AllByRecursion (Stands all) ps → AllByRecursion (IsIndexErased all) (erasures (keys_where (is_index_named n) ps))
all_erased all n [] stand = tt
all_erased all n (p ∷ ps) stand =
    let rest = all_erased all n ps stand.1 in
    let left = filter (λ (q : PlacedLine). is_index_named n q.line) ps in
    elim (is_index_named n p.line) as (λ b. is_index_named n p.line ≡ b → AllByRecursion (IsIndexErased all) (erasures (line_keys (cond b (p ∷ left) left)))) [
      | true ↦ λ is. (one_erased all n p p.line refl is stand.0, rest)
      | false ↦ λ is. rest
    ] refl

pub index_deleted : (all : Lines) (c : Catalog) (t : Tables) (n : Name) → IsSoundAs all c t → (after : Catalog) × IsSoundAs (laid_all (erasures (keys_where (is_index_named n) c.lines)) all) after (without_index n t)
index_deleted all c t n sound =
    let is = sound.decodes in
    let left : Leaves all (erasures (keys_where (is_index_named n) c.lines)) (without_index n c.tables) = index_goes all c n sound.sorted is in
    let stand = both_of (λ (p : PlacedLine). (p.key.area == catalog_area) ≡ true) (IsPresent all) (Stands all) (λ p inside present. record { inside = inside; present = present }) c.lines (in_area all c is) (recursion_from_All (IsPresent all) c.lines is.lines.images) in
    (left.after, indexes_deleted all c left.after t (erasures (keys_where (is_index_named n) c.lines)) n sound (all_erased all n c.lines stand) left.catalog left.tables)

-- ---- its nodes

-- no line that is left is of an index of this area
left_line : (all : Lines) (c : Catalog) (n : Name) (p q : PlacedLine) (x : IndexLine) (line : CatalogLine) → Fits all (directory c.lines) (catalog_tables c.lines) p → Fits all (directory c.lines) (catalog_tables c.lines) q →
    p.line ≡ Index x → is_index_named n (Index x) ≡ true → q.line ≡ line → is_index_named n line ≡ false → IsNoIndexIn x.area line
left_line all c n p q x (Relation r) one two at named also other = tt
left_line all c n p q x (Global g) one two at named also other = tt
left_line all c n p q x (FieldOf f) one two at named also other = tt
left_line all c n p q x (Index y) one two at named also other = λ same.
    let index : x ≡ y = same_index all (directory c.lines) (catalog_tables c.lines) p q x y one two at also same in
    let moved : is_index_named n (Index y) ≡ true = ap (λ (z : IndexLine). is_index_named n (Index z)) (sym index) ∙ named in
    let bad : ⊥ = cc in bad

pub index_deleted_whole : (all : Lines) (c : Catalog) (t : Tables) (n : Name) (i : ℕ) (p : PlacedLine) (x : IndexLine) (keys : List Dbkey) → IsSoundAs all c t → slice_get c.lines i ≡ Some p → p.line ≡ Index x → is_index_named n (Index x) ≡ true → AllByRecursion (λ (k : Dbkey). k.area ≡ x.area) keys →
    (after : Catalog) × IsSoundAs (laid_all (erasures (keys_where (is_index_named n) c.lines) ++ erasures keys) all) after (without_index n t)
index_deleted_whole all c t n i p x keys sound at line named own =
    let d = directory c.lines in
    let u = catalog_tables c.lines in
    let is = sound.decodes in
    let gone = erasures (keys_where (is_index_named n) c.lines) in
    let mid = laid_all gone all in
    let fits = all_fit all c is in
    let fit = at_place (Fits all d u) c.lines i p fits at in
    let area : IsIndexArea x.area = (subst IsAllowedLine line fit.present.decodes.allowed).area in
    let done = index_deleted all c t n sound in
    let none : AllByRecursion (λ (q : PlacedLine). IsNoIndexIn x.area q.line) done.0.lines =
    both_of (λ (q : PlacedLine). (q.key.area == catalog_area) ≡ true) (IsPresent mid) (λ (q : PlacedLine). IsNoIndexIn x.area q.line)
    (λ q inside present.
    left_line all c n p q x q.line fit
    (listed all c.lines (Fits all d u) q is.lines inside (old_all q gone all (are_erased (keys_where (is_index_named n) c.lines)) present) fits) line named refl
    (listed mid (kept (is_index_named n) c.lines) (λ (r : PlacedLine). is_index_named n r.line ≡ false) q (erased_lines all (is_index_named n) c.lines is.lines) inside present (none_kept (is_index_named n) c.lines)))
    done.0.lines (in_area mid done.0 done.1.decodes) (recursion_from_All (IsPresent mid) done.0.lines done.1.decodes.lines.images) in (
      done.0,
      subst (λ (l : Lines). IsSoundAs l done.0 (without_index n t)) (sym (laid_in_turn gone (erasures keys) all))
          (aside mid done.0 (without_index n t) x.area (erasures keys) done.1 area none (writes_of (λ (k : Dbkey). k.area ≡ x.area) keys own)),
    )
