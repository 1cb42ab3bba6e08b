-- The nodes of indexes, before they are erased and behind that.
use Rattle.std.proofs.Common.{◌≡◌, ◌==◌, ℕ, zero, suc, ◌+◌, true, false, cond, List, [], ◌∷◌, ◌++◌, drop, Option, Some, None, inl, inr, refl, sym, ap, subst, ◌∙◌}
use Rattle.std.specs.Prelude.{◌||◌, is_some}
use Rattle.std.specs.List.{AllByRecursion, slice_get}
use Rattle.std.specs.Ordering.{is_eq}
use Rattle.std.proofs.lemmas.Bool.{eq-eqb}
use Rattle.std.proofs.lemmas.List.{append_assoc}
use Rattle.std.proofs.lemmas.List.Elements.{recursion_from_All}
use Rattle.std.proofs.lemmas.Option.{none-some, same_Some}
use Rattle.rdb_types.specs.declared.keys.Dbkey.{Dbkey}
use Rattle.rdb_types.specs.Order.{dbkey_order}
use Rattle.rdb_types.specs.OrderLaws.{same_dbkey}
use Rattle.rdo_ast.specs.Tree.{Name}
use Rattle.line_view.specs.Knowledge.{Knowledge, Agrees, Lines, line_in, lines_in, keys_of, laid}
use Rattle.line_view.specs.Writes.{laid_all}
use Rattle.line_view.proofs.FullMap.{laid_found}
use Rattle.line_view.proofs.Written.{laid_in_turn}
use Rattle.catalog_lines.specs.declared.line.IndexLine.{IndexLine}
use Rattle.catalog_lines.specs.declared.line.CatalogLine.{CatalogLine}
use Rattle.catalog_lines.specs.declared.line.CatalogLine.TheVariants.{Relation, Global, Field as FieldOf, Index}
use Rattle.catalog.specs.declared.directory.PlacedLine.{PlacedLine}
use Rattle.catalog.specs.declared.reading.Catalog.{Catalog}
use Rattle.catalog.specs.Deletions.{is_of_relation, is_index_named}
use Rattle.catalog.specs.Reading.{IsPresent, IsCatalogOf}
use Rattle.catalog.proofs.Differences.{things_differ}
use Rattle.catalog_definitions.specs.Leaving.{erasures}
use Rattle.catalog_definitions.proofs.Erasing.{is_among}
use Rattle.catalog_definitions.proofs.Basics.{or_true}
use Rattle.catalog_definitions.proofs.KeyPlaces.{names_are}
use Rattle.sorted_index_laws.proofs.Lines.{other_way}
use Rattle.sound_changes.proofs.Basics.{all_of, equal, number_is}
use Rattle.sound_changes.proofs.Frames.{keys_in}
use Rattle.sound_changes.proofs.IndexLaid.{at_place}
use Rattle.sound_changes.proofs.Listed.{one_placed}
use Rattle.sound_statements.specs.Owned.{IsOfIndex}
use Rattle.schema_writes.specs.Deletions.{AreNodes, keys_or_none, nodes_at, nodes_in, AreNodesKnown, HasNoNodes}

-- ---- erased lines

-- a line that is absent stays so
stays_absent : (keys : List Dbkey) (q : Dbkey) (all : Lines) → line_in q all ≡ None → line_in q (laid_all (erasures keys) all) ≡ None
stays_absent [] q all none = none
stays_absent (k ∷ ks) q all none =
    stays_absent ks q (laid k None all)
    (laid_found q k None all ∙ elim (is_eq (dbkey_order q k)) as (λ b. cond b None (line_in q all) ≡ None) [ true ↦ refl | false ↦ none ])

-- a line that is among them is absent behind the erasures
is_erased : (keys : List Dbkey) (q : Dbkey) (all : Lines) → is_among keys q ≡ true → line_in q (laid_all (erasures keys) all) ≡ None
is_erased [] q all among = let bad : ⊥ = cc in absurd bad
is_erased (k ∷ ks) q all among =
    elim (is_eq (dbkey_order k q)) as (λ b. is_eq (dbkey_order k q) ≡ b → (b || is_among ks q) ≡ true → line_in q (laid_all (erasures ks) (laid k None all)) ≡ None) [
      | true ↦ λ tie h. stays_absent ks q (laid k None all) (laid_found q k None all ∙ ap (λ b. cond b None (line_in q all)) (other_way q k ∙ tie))
      | false ↦ λ tie h. is_erased ks q (laid k None all) h
    ] refl among

-- a present line of an area is among its keys
among_area : (a : ℕ) (q : Dbkey) (image : List ℕ) (all : Lines) → (q.area == a) ≡ true → line_in q all ≡ Some image → is_among (keys_of (lines_in a all)) q ≡ true
among_area a q image [] own present = absurd (none-some image present)
among_area a q image (e ∷ es) own present =
    elim (is_eq (dbkey_order q e.0)) as (λ b. is_eq (dbkey_order q e.0) ≡ b → cond b (Some e.1) (line_in q es) ≡ Some image → is_among (keys_of (cond (e.0.area == a) (e ∷ lines_in a es) (lines_in a es))) q ≡ true) [
      | true ↦ λ tie h.
          let same : q ≡ e.0 = same_dbkey q e.0 (equal _ tie) in
          let here : (e.0.area == a) ≡ true = ap (λ (k : Dbkey). k.area == a) (sym same) ∙ own in
          ap (λ b. is_among (keys_of (cond b (e ∷ lines_in a es) (lines_in a es))) q) here ∙ ap (λ b. b || is_among (keys_of (lines_in a es)) q) (other_way e.0 q ∙ tie)
      | false ↦ λ tie h.
          let rest = among_area a q image es own h in
          elim (e.0.area == a) as (λ b. is_among (keys_of (cond b (e ∷ lines_in a es) (lines_in a es))) q ≡ true) [
            | true ↦ ap (λ b. is_eq (dbkey_order e.0 q) || b) rest ∙ or_true (is_eq (dbkey_order e.0 q))
            | false ↦ rest
          ]
    ] refl present

among_first : (xs ys : List Dbkey) (q : Dbkey) → is_among xs q ≡ true → is_among (xs ++ ys) q ≡ true
among_first [] ys q among = let bad : ⊥ = cc in absurd bad
among_first (x ∷ xs) ys q among =
    elim (is_eq (dbkey_order x q)) as (λ b. (b || is_among xs q) ≡ true → (b || is_among (xs ++ ys) q) ≡ true) [
      | true ↦ λ h. refl
      | false ↦ λ h. among_first xs ys q h
    ] among

among_rest : (xs ys : List Dbkey) (q : Dbkey) → is_among ys q ≡ true → is_among (xs ++ ys) q ≡ true
among_rest [] ys q among = among
among_rest (x ∷ xs) ys q among = ap (λ b. is_eq (dbkey_order x q) || b) (among_rest xs ys q among) ∙ or_true (is_eq (dbkey_order x q))

-- behind both erasures no line is present in an area of which all present lines are among the keys
pub area_emptied : (gone keys own : List Dbkey) (a : ℕ) (all : Lines) → own ≡ keys_of (lines_in a all) → ((q : Dbkey) → is_among own q ≡ true → is_among keys q ≡ true) → (q : Dbkey) → q.area ≡ a → line_in q (laid_all (erasures gone ++ erasures keys) all) ≡ None
area_emptied gone keys own a all are each q at =
    let mid = laid_all (erasures gone) all in
    ap (line_in q) (laid_in_turn (erasures gone) (erasures keys) all)
    ∙ elim (line_in q all) as (λ o. line_in q all ≡ o → line_in q (laid_all (erasures keys) mid) ≡ None) [
      | Some image ↦ λ is. is_erased keys q mid (each q (ap (λ (ks : List Dbkey). is_among ks q) are ∙ among_area a q image all (eq-eqb q.area a at) is))
      | None ↦ λ is. stays_absent keys q mid (stays_absent gone q all is)
    ] refl

-- ---- the nodes of a relation's indexes

pub keys_on : (a : ℕ) (all : Lines) → AllByRecursion (λ (k : Dbkey). k.area ≡ a) (keys_of (lines_in a all))
keys_on a all = all_of (λ (k : Dbkey). (k.area == a) ≡ true) (λ (k : Dbkey). k.area ≡ a) (λ k is. number_is k.area a is) (keys_of (lines_in a all)) (keys_in a all)

all_behind : (P : Dbkey → Type 0) (xs ys : List Dbkey) → AllByRecursion P xs → AllByRecursion P ys → AllByRecursion P (xs ++ ys)
all_behind P [] ys each also = also
all_behind P (x ∷ xs) ys each also = (each.0, all_behind P xs ys each.1 also)

-- each of these lines is one of those
abbrev AreWithin : List PlacedLine → List PlacedLine → Type 0
AreWithin ps qs = (i : ℕ) (p : PlacedLine) → slice_get ps i ≡ Some p → (j : ℕ) × (slice_get qs j ≡ Some p)

module _ (known : Knowledge) (c : Catalog) (relation : ℕ) (all : Lines) (agrees : Agrees known all) where
  -- the known lines in the area of an index
  known_nodes : (x : IndexLine) (o : Option (List Dbkey)) → known.area x.area ≡ o → AllByRecursion (λ (k : Dbkey). k.area ≡ x.area) (keys_or_none o)
  known_nodes x None is = tt
  known_nodes x (Some keys) is = subst (AllByRecursion (λ (k : Dbkey). k.area ≡ x.area)) (sym (agrees.area x.area keys is)) (keys_on x.area all)

  one_owned : (p : PlacedLine) (line : CatalogLine) (j : ℕ) → p.line ≡ line → slice_get c.lines j ≡ Some p → AllByRecursion (IsOfIndex c relation) (nodes_at known relation line)
  one_owned p (Relation r) j is at = tt
  one_owned p (Global g) j is at = tt
  one_owned p (FieldOf f) j is at = tt
  one_owned p (Index x) j is at =
      elim (x.relation == relation) as (λ b. x.relation == relation ≡ b → AllByRecursion (IsOfIndex c relation) (cond b (keys_or_none (known.area x.area)) [])) [
        | true ↦ λ own.
            all_of (λ (k : Dbkey). k.area ≡ x.area) (IsOfIndex c relation)
            (λ k within. record { place = j; line = p; stands = at; index = x; is = is; on = number_is x.relation relation own; within = within })
            (keys_or_none (known.area x.area)) (known_nodes x (known.area x.area) refl)
        | false ↦ λ own. tt
      ] refl

  some_owned : (ps : List PlacedLine) → AreWithin ps c.lines → AllByRecursion (IsOfIndex c relation) (nodes_in known relation ps)
  some_owned [] within = tt
  some_owned (p ∷ ps) within =
      let here = within 0 p refl in
      all_behind (IsOfIndex c relation) (nodes_at known relation p.line) (nodes_in known relation ps) (one_owned p p.line here.0 refl here.1) (some_owned ps (λ i q at. within (suc i) q at))

  pub nodes_owned : AllByRecursion (IsOfIndex c relation) (nodes_in known relation c.lines)
  nodes_owned = some_owned c.lines (λ i p at. (i, at))

known_is : (o : Option (List Dbkey)) → is_some o ≡ true → (own : List Dbkey) × (o ≡ Some own)
known_is (Some own) is = (own, refl)
known_is None is = let bad : ⊥ = cc in absurd bad

module _ (known : Knowledge) (relation : ℕ) (x : IndexLine) (on : (x.relation == relation) ≡ true) where
  pub node_known : (ps : List PlacedLine) (i : ℕ) (p : PlacedLine) → AllByRecursion (λ (q : PlacedLine). AreNodesKnown known relation q.line) ps → slice_get ps i ≡ Some p → p.line ≡ Index x → (own : List Dbkey) × (known.area x.area ≡ Some own)
  node_known [] i p each at is = absurd (none-some p at)
  node_known (q ∷ ps) zero p each at is = known_is (known.area x.area) (subst (AreNodesKnown known relation) (ap (λ (r : PlacedLine). r.line) (same_Some q p at) ∙ is) each.0 on)
  node_known (q ∷ ps) (suc j) p each at is = node_known ps j p each.1 at is

  pub among_nodes : (own : List Dbkey) (q : Dbkey) → known.area x.area ≡ Some own → is_among own q ≡ true → (ps : List PlacedLine) (i : ℕ) (p : PlacedLine) → slice_get ps i ≡ Some p → p.line ≡ Index x → is_among (nodes_in known relation ps) q ≡ true
  among_nodes own q told among [] i p at is = absurd (none-some p at)
  among_nodes own q told among (r ∷ ps) zero p at is =
      let nodes : nodes_at known relation r.line ≡ own =
      ap (nodes_at known relation) (ap (λ (s : PlacedLine). s.line) (same_Some r p at) ∙ is) ∙ ap (λ b. cond b (keys_or_none (known.area x.area)) []) on ∙ ap keys_or_none told in
      among_first (nodes_at known relation r.line) (nodes_in known relation ps) q (ap (λ (ks : List Dbkey). is_among ks q) nodes ∙ among)
  among_nodes own q told among (r ∷ ps) (suc j) p at is = among_rest (nodes_at known relation r.line) (nodes_in known relation ps) q (among_nodes own q told among ps j p at is)

-- ---- what erases all nodes

-- behind the erasures of a relation's lines no index of it has a line
pub nodes_gone : (known : Knowledge) (all : Lines) (c : Catalog) (relation : ℕ) (gone rows : List Dbkey) → Agrees known all → AllByRecursion (λ (p : PlacedLine). AreNodesKnown known relation p.line) c.lines →
    HasNoNodes (is_of_relation relation) c (laid_all (erasures gone ++ erasures (rows ++ nodes_in known relation c.lines)) all)
nodes_gone known all c relation gone rows agrees each = λ place line x at is on.
    let own = node_known known relation x on c.lines place line each at is in
    area_emptied gone (rows ++ nodes_in known relation c.lines) own.0 x.area all (agrees.area x.area own.0 own.1)
    (λ q among. among_rest rows (nodes_in known relation c.lines) q (among_nodes known relation x on own.0 q own.1 among c.lines place line at is))

-- one name has one index
one_index : (all : Lines) (c : Catalog) (n : Name) (i j : ℕ) (p q : PlacedLine) (x y : IndexLine) → IsCatalogOf all c → slice_get c.lines i ≡ Some p → slice_get c.lines j ≡ Some q → p.line ≡ Index x → q.line ≡ Index y → is_index_named n (Index x) ≡ true → is_index_named n (Index y) ≡ true → x ≡ y
one_index all c n i j p q x y is at also of too named so =
    let name : x.name ≡ y.name = sym (names_are n x.name named) ∙ names_are n y.name so in
    let key : p.key ≡ q.key = (things_differ c.lines is.fit).index_names i j p q x y at also of too name in
    let present = recursion_from_All (IsPresent all) c.lines is.lines.images in
    let same : p ≡ q = one_placed all p q key (at_place (IsPresent all) c.lines i p present at) (at_place (IsPresent all) c.lines j q present also) in
    let both : Index x ≡ Index y = sym of ∙ ap (λ (r : PlacedLine). r.line) same ∙ too in
    let v : x ≡ y = cc in
    v

-- behind the erasures of an index's lines it has none
pub index_emptied : (known : Knowledge) (all : Lines) (c : Catalog) (n : Name) (gone nodes : List Dbkey) → Agrees known all → IsCatalogOf all c → AreNodes known c.lines n nodes →
    HasNoNodes (is_index_named n) c (laid_all (erasures gone ++ erasures nodes) all)
index_emptied known all c n gone nodes agrees is (inl none) = λ place line x at of named.
    let other : is_index_named n (Index x) ≡ false = ap (is_index_named n) (sym of) ∙ at_place (λ (p : PlacedLine). is_index_named n p.line ≡ false) c.lines place line none.1 at in
    let bad : ⊥ = cc in
    absurd bad
index_emptied known all c n gone nodes agrees is (inr own) = λ place line x at of named.
    let one : x ≡ own.index = one_index all c n place own.place line own.line x own.index is at own.stands of own.is named own.named in
    area_emptied gone nodes nodes x.area all (subst (λ (y : IndexLine). nodes ≡ keys_of (lines_in y.area all)) (sym one) (agrees.area own.index.area nodes own.told)) (λ q among. among)

-- ---- one line of the catalog after another

-- the nodes of one more line are put behind the others
pub nodes_more : (known : Knowledge) (relation i : ℕ) (p : PlacedLine) (lines : List PlacedLine) (old new whole : List Dbkey) → drop i lines ≡ p ∷ drop (i + 1) lines → new ≡ old ++ nodes_at known relation p.line → old ++ nodes_in known relation (drop i lines) ≡ whole → new ++ nodes_in known relation (drop (i + 1) lines) ≡ whole
nodes_more known relation i p lines old new whole next grown held =
    ap (λ (ks : List Dbkey). ks ++ nodes_in known relation (drop (i + 1) lines)) grown
    ∙ append_assoc old (nodes_at known relation p.line) (nodes_in known relation (drop (i + 1) lines))
    ∙ ap (λ (ls : List PlacedLine). old ++ nodes_in known relation ls) (sym next)
    ∙ held
