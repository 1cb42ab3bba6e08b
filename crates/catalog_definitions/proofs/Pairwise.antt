-- The lines of a catalog are of different things.
use Rattle.std.proofs.Common.{◌≡◌, ℕ, Bool, true, false, cond, not, ◌==◌, List, [], ◌∷◌, refl, sym, ap, subst, ◌∙◌, T}
use Rattle.std.specs.List.{AllByRecursion, filter}
use Rattle.std.specs.declared.cmp.Ordering.{Ordering}
use Rattle.std.specs.declared.cmp.Ordering.TheVariants.{Less, Equal, Greater}
use Rattle.std.specs.Ordering.{is_eq, is_lt, nat_cmp, ordering_then}
use Rattle.std.specs.Cmp.{tied_itself}
use Rattle.std.specs.FinMap.Entries.{find, is_sorted, below_all, is_sorted-where_key}
use Rattle.std.proofs.lemmas.Bool.{and_parts}
use Rattle.std.proofs.lemmas.Cmp.{ranked}
use Rattle.rdb_types.specs.declared.keys.Dbkey.{Dbkey}
use Rattle.rdb_types.specs.Order.{dbkey_order, chars_order}
use Rattle.rdb_types.specs.OrderLaws.{same_chars, dbkey_total}
use Rattle.rdb_meaning.specs.declared.tables.Tables.{Tables}
use Rattle.rdb_meaning.specs.Contents.{relation_named}
use Rattle.rdb_meaning.specs.Execution.{area_of}
use Rattle.line_view.specs.Knowledge.{Lines, IsInOrder, lines_in, keys_of}
use Rattle.catalog_lines.specs.declared.line.CatalogLine.{CatalogLine}
use Rattle.catalog_lines.specs.declared.line.CatalogLine.TheVariants.{Relation, Global, Field as FieldOf, Index}
use Rattle.catalog.specs.declared.directory.PlacedLine.{PlacedLine}
use Rattle.catalog.specs.declared.directory.Directory.{Directory}
use Rattle.catalog.specs.Directory.{area_order, place_order, numbered, place}
use Rattle.catalog.specs.Schema.{is_key, index_area, stands}
use Rattle.catalog.specs.Reading.{line_keys}
use Rattle.catalog.proofs.Differences.{relation_parts, index_parts, field_part, one_key, one_field_key}
use Rattle.catalog_definitions.proofs.Puts.{untied_back}
use Rattle.catalog_definitions.proofs.Growth.{Step, GrowsApart, Apart, AllApart}
use Rattle.catalog_definitions.proofs.Fitting.{Stands}
use Rattle.catalog_definitions.proofs.Erasing.{kept}
use Rattle.catalog_definitions.proofs.Basics.{equal, true_from_T}

-- a test that leads to one key fails at different keys
differs : (a b : Dbkey) (test : Bool) → is_eq (dbkey_order a b) ≡ false → (test ≡ true → a ≡ b) → test ≡ false
differs a b false apart same = refl
differs a b true apart same =
    let tie : is_eq (dbkey_order a b) ≡ true = ap (λ k. is_eq (dbkey_order a k)) (sym (same refl)) ∙ ap is_eq (tied_itself dbkey_total a) in
    let bad : ⊥ = cc in absurd bad

pub name_is : (m n : List ℕ) → is_eq (chars_order m n) ≡ true → m ≡ n
name_is m n is = same_chars m n (equal (chars_order m n) is)

number_is : (m n : ℕ) → is_eq (nat_cmp m n) ≡ true → m ≡ n
number_is m n is = ranked m n Equal (sym (equal (nat_cmp m n) is))

both_eq : (r s : Ordering) → is_eq (ordering_then r s) ≡ true → (is_eq r ≡ true) × (is_eq s ≡ true)
both_eq Less s is = let bad : ⊥ = cc in absurd bad
both_eq Equal s is = (refl, is)
both_eq Greater s is = let bad : ⊥ = cc in absurd bad

module _ (d : Directory) (t : Tables) (a b : Dbkey) (apart : is_eq (dbkey_order a b) ≡ false) where
  one_area : (m n : ℕ) → is_key a (find area_order (numbered m) d.areas) ≡ true → is_key b (find area_order (numbered n) d.areas) ≡ true → is_eq (nat_cmp m n) ≡ false
  one_area m n here there = differs a b (is_eq (nat_cmp m n)) apart (λ tie. one_key a b _ _ here there (ap (λ (x : ℕ). find area_order (numbered x) d.areas) (number_is m n tie)))

  pub lines_apart : (x y : CatalogLine) → stands d t a x ≡ true → stands d t b y ≡ true → Apart x y
  lines_apart (Relation r) (Relation s) here there =
      let p = relation_parts d t a r here in
      let q = relation_parts d t b s there in (
        differs a b (is_eq (chars_order r.name s.name)) apart (λ tie. one_key a b _ _ p.1 q.1 (ap (λ (x : ℕ). find area_order (numbered x) d.areas) (sym p.0 ∙ ap (λ n. area_of (relation_named n t)) (name_is r.name s.name tie) ∙ q.0))),
        one_area r.area s.area p.1 q.1,
      )
  lines_apart (Relation r) (Index y) here there = one_area r.area y.area (relation_parts d t a r here).1 (index_parts d t b y there).1
  lines_apart (Relation r) (Global h) here there = tt
  lines_apart (Relation r) (FieldOf f) here there = tt
  lines_apart (Global g) (Global h) here there = differs a b (is_eq (chars_order g.name h.name)) apart (λ tie. one_key a b _ _ here there (ap (λ n. find chars_order n d.globals) (name_is g.name h.name tie)))
  lines_apart (Global g) (Relation s) here there = tt
  lines_apart (Global g) (FieldOf f) here there = tt
  lines_apart (Global g) (Index y) here there = tt
  lines_apart (FieldOf e) (FieldOf f) here there =
      differs a b (is_eq (place_order (place e.relation e.position) (place f.relation f.position))) apart (λ tie.
      let parts = both_eq (nat_cmp e.relation f.relation) (nat_cmp e.position f.position) tie in
      let relation = number_is e.relation f.relation parts.0 in
      let position = number_is e.position f.position parts.1 in
      one_field_key a b (find place_order (place e.relation e.position) d.fields) (find place_order (place f.relation f.position) d.fields) (field_part d t a e here) (field_part d t b f there) (λ i. find place_order (place (relation i) (position i)) d.fields))
  lines_apart (FieldOf e) (Relation s) here there = tt
  lines_apart (FieldOf e) (Global h) here there = tt
  lines_apart (FieldOf e) (Index y) here there = tt
  lines_apart (Index x) (Index y) here there =
      let p = index_parts d t a x here in
      let q = index_parts d t b y there in (
        differs a b (is_eq (chars_order x.name y.name)) apart (λ tie. one_key a b _ _ p.1 q.1 (ap (λ (n : ℕ). find area_order (numbered n) d.areas) (sym p.0 ∙ ap (λ n. index_area (find chars_order n t.indexes)) (name_is x.name y.name tie) ∙ q.0))),
        one_area x.area y.area p.1 q.1,
      )
  lines_apart (Index x) (Relation s) here there = one_area x.area s.area (index_parts d t a x here).1 (relation_parts d t b s there).1
  lines_apart (Index x) (Global h) here there = tt
  lines_apart (Index x) (FieldOf f) here there = tt

-- ---- keys differ

abbrev Differs : PlacedLine → PlacedLine → Type 0
Differs p q = is_eq (dbkey_order p.key q.key) ≡ false

-- each line has another key than those behind it
abbrev pub Distinct : List PlacedLine → Type 0
Distinct [] = Unit {0}
Distinct (p ∷ ps) = AllByRecursion (Differs p) ps × Distinct ps

not_equal : (r : Ordering) → is_lt r ≡ true → is_eq r ≡ false
not_equal Less h = refl
not_equal Equal h = let bad : ⊥ = cc in absurd bad
not_equal Greater h = refl

below_differs : (p : PlacedLine) (ps : List PlacedLine) (es : Lines) → line_keys ps ≡ keys_of es → below_all dbkey_order p.key es ≡ true → AllByRecursion (Differs p) ps
below_differs p [] es same below = tt
below_differs p (q ∷ ps) [] same below = let bad : ⊥ = cc in absurd bad
below_differs p (q ∷ ps) (e ∷ es) same below =
    let key : q.key ≡ e.0 = cc in
    let rest : line_keys ps ≡ keys_of es = cc in
    let parts = and_parts (is_lt (dbkey_order p.key e.0)) (below_all dbkey_order p.key es) below in
    (ap (λ k. is_eq (dbkey_order p.key k)) key ∙ not_equal (dbkey_order p.key e.0) parts.0, below_differs p ps es rest parts.1)

distinct_in : (ps : List PlacedLine) (es : Lines) → line_keys ps ≡ keys_of es → is_sorted dbkey_order es ≡ true → Distinct ps
distinct_in [] es same sorted = tt
distinct_in (p ∷ ps) [] same sorted = let bad : ⊥ = cc in absurd bad
distinct_in (p ∷ ps) (e ∷ es) same sorted =
    let key : p.key ≡ e.0 = cc in
    let rest : line_keys ps ≡ keys_of es = cc in
    let parts = and_parts (below_all dbkey_order e.0 es) (is_sorted dbkey_order es) sorted in
    (below_differs p ps es rest (ap (λ k. below_all dbkey_order k es) key ∙ parts.0), distinct_in ps es rest parts.1)

pub distinct_lines : (a : ℕ) (all : Lines) (ps : List PlacedLine) → IsInOrder all → line_keys ps ≡ keys_of (lines_in a all) → Distinct ps
distinct_lines a all ps sorted same =
    distinct_in ps (lines_in a all) same (true_from_T _ (is_sorted-where_key dbkey_order (λ k. k.area == a) all (subst T (sym sorted) tt)))

-- ---- the lines that go are put back among those that stay

-- different lines, each before the others
abbrev pub AllPairs : List PlacedLine → Type 0
AllPairs [] = Unit {0}
AllPairs (p ∷ ps) = AllApart p ps × AllByRecursion (λ q. Apart q.line p.line) ps × AllPairs ps

pair_lines : (d : Directory) (t : Tables) (p : PlacedLine) (ps : List PlacedLine) → Stands d t p → AllByRecursion (Differs p) ps → AllByRecursion (Stands d t) ps → AllApart p ps × AllByRecursion (λ q. Apart q.line p.line) ps
pair_lines d t p [] stood other each = (tt, tt)
pair_lines d t p (q ∷ ps) stood other each =
    let rest = pair_lines d t p ps stood other.1 each.1 in (
      (lines_apart d t p.key q.key other.0 p.line q.line stood each.0, rest.0),
      (lines_apart d t q.key p.key (untied_back dbkey_order dbkey_total p.key q.key other.0) q.line p.line each.0 stood, rest.1),
    )

pub all_pairs_apart : (d : Directory) (t : Tables) (ps : List PlacedLine) → Distinct ps → AllByRecursion (Stands d t) ps → AllPairs ps
all_pairs_apart d t [] distinct each = tt
all_pairs_apart d t (p ∷ ps) distinct each =
    let here = pair_lines d t p ps each.0 distinct.0 each.1 in
    (here.0, here.1, all_pairs_apart d t ps distinct.1 each.1)

lifted_step : (q n : PlacedLine) (ps rs : List PlacedLine) → Step n ps rs → Step n (q ∷ ps) (q ∷ rs)
lifted_step q n ps rs s = record { before = q ∷ s.before; behind = s.behind; was = ap (λ l. q ∷ l) s.was; now = ap (λ l. q ∷ l) s.now }

lifted : (q : PlacedLine) (news ps rs : List PlacedLine) → AllByRecursion (λ n. Apart n.line q.line) news → GrowsApart news ps rs → GrowsApart news (q ∷ ps) (q ∷ rs)
lifted q [] ps rs apart grows = ap (λ l. q ∷ l) grows
lifted q (n ∷ news) ps rs apart grows =
    (q ∷ grows.0, lifted_step q n ps grows.0 grows.1, (apart.0, grows.2), lifted q news grows.0 rs apart.1 grows.3)

pub all_chosen : (P : PlacedLine → Type 0) (test : PlacedLine → Bool) (ps : List PlacedLine) → AllByRecursion P ps → AllByRecursion P (filter test ps)
all_chosen P test [] each = tt
all_chosen P test (p ∷ ps) each =
    let rest = all_chosen P test ps each.1 in
    elim (test p) as (λ b. AllByRecursion P (cond b (p ∷ filter test ps) (filter test ps))) [ true ↦ (each.0, rest) | false ↦ rest ]

-- the lines that go
abbrev pub gone : (CatalogLine → Bool) → List PlacedLine → List PlacedLine
gone holds = filter (λ p. holds p.line)

pub put_back : (holds : CatalogLine → Bool) (ps : List PlacedLine) → AllPairs ps → GrowsApart (gone holds ps) (kept holds ps) ps
put_back holds [] pairs = refl
put_back holds (p ∷ ps) pairs =
    let rest = put_back holds ps pairs.2 in
    let behind = all_chosen (λ q. Apart q.line p.line) (λ q. holds q.line) ps pairs.1 in
    let grown = lifted p (gone holds ps) (kept holds ps) ps behind rest in
    elim (holds p.line) as (λ b. GrowsApart (cond b (p ∷ gone holds ps) (gone holds ps)) (cond (not b) (p ∷ kept holds ps) (kept holds ps)) (p ∷ ps)) [
      | true ↦ (
        p ∷ kept holds ps,
        record { before = []; behind = kept holds ps; was = refl; now = refl },
        all_chosen (λ q. Apart p.line q.line) (λ q. not (holds q.line)) ps pairs.0,
        grown,
      )
      | false ↦ grown
    ]

pub chosen_pairs : (test : PlacedLine → Bool) (ps : List PlacedLine) → AllPairs ps → AllPairs (filter test ps)
chosen_pairs test [] pairs = tt
chosen_pairs test (p ∷ ps) pairs =
    let rest = chosen_pairs test ps pairs.2 in
    elim (test p) as (λ b. AllPairs (cond b (p ∷ filter test ps) (filter test ps))) [
      | true ↦ (all_chosen (λ q. Apart p.line q.line) test ps pairs.0, all_chosen (λ q. Apart q.line p.line) test ps pairs.1, rest)
      | false ↦ rest
    ]
