-- A tree without a pair stands in the map in which its lines are written.
use Rattle.std.proofs.Common.{◌≡◌, ℕ, zero, suc, true, false, cond, List, [], ◌∷◌, ◌++◌, Option, Some, None, refl, sym, ap, subst, ◌∙◌}
use Rattle.std.specs.Ordering.{is_eq}
use Rattle.std.specs.List.{AllByRecursion, flat_map}
use Rattle.rdb_types.specs.declared.keys.Dbkey.{Dbkey}
use Rattle.rdb_types.specs.Order.{dbkey_order}
use Rattle.index_node.specs.declared.entry.NodeEntry.{NodeEntry}
use Rattle.line_view.specs.Knowledge.{Lines, line_in, laid}
use Rattle.line_view.proofs.FullMap.{laid_found}
use Rattle.line_view.specs.declared.writes.Write.{Write}
use Rattle.line_view.specs.Writes.{laid_all}
use Rattle.line_view.proofs.Written.{WriteOn, written_last}
use Rattle.sorted_index_laws.specs.Tree.{Tree, place, node_of, pairs, places, Bears, AreParted, Stands, IsIndex, has_nothing}
use Rattle.sorted_index_laws.specs.Changes.{goes_on, without_pair, chosen, has_line, path_below, path, Leaves, ErasesOthers}
use Rattle.sorted_index_laws.proofs.Frame.{IsApart, all_beside, stands_beside}
use Rattle.sorted_index_laws.proofs.Lines.{equal_eq, Distinct, all_front, all_rest, parts, flipped, head_apart, tail_distinct, none_distinct, one_distinct, keys_of, written_more, stands_beside_all}
use Rattle.sorted_index_laws.proofs.Ordered.{all_append, StandsBelow}
use Rattle.sorted_index_laws.specs.Inner.Removal.{keep, replaced, without, Choose, IsLeft, WroteIn, Wrote}
use Rattle.sorted_index_laws.proofs.Without.{same_place, Entries}
use Rattle.sorted_index_laws.proofs.Filled.{still_filled}
use Rattle.sorted_index_laws.proofs.Erased.{others_erased, lines_there, or_left}
use Rattle.sorted_index_laws.proofs.Removed.{PlacesOf, all_replaced, all_within, still_distinct, pairs_left, still_parted}

-- ---- what is written

own : (Q : Dbkey → Type 0) (level : ℕ) (tree : Tree level) → AllByRecursion Q (places level tree) → Q (place level tree)
own Q zero tree h = h.0
own Q (suc level) tree h = h.0

with_own : (Q : Dbkey → Type 0) (writes before : List Write) (key : Dbkey) (image : Option (List ℕ)) → writes ≡ before ++ record { key = key; image = image } ∷ [] → WriteOn Q before → Q key → WriteOn Q writes
with_own Q writes before key image is h k = subst (WriteOn Q) (sym is) (all_append (λ w. Q w.key) before (record { key = key; image = image } ∷ []) h (k, tt))

keys_in : (Q : Dbkey → Type 0) (pair : NodeEntry) (level : ℕ) → ((tree : Tree level) (writes : List Write) → AllByRecursion Q (places level tree) → Wrote pair level tree writes → WriteOn Q writes) → (children : List (NodeEntry × Tree level)) (writes : List Write) → AllByRecursion Q (PlacesOf level children) → WroteIn pair level (Wrote pair level) children writes → WriteOn Q writes
keys_in Q pair level inner [] writes h wrote = subst (WriteOn Q) (sym wrote) tt
keys_in Q pair level inner (child ∷ children) writes h wrote =
    let first = all_front Q (places level child.1) (PlacesOf level children) h in
    elim (goes_on pair (Entries level children)) as (λ b. Choose b (WroteIn pair level (Wrote pair level) children writes)
    ((before : List Write) × ((image : Option (List ℕ)) × ((writes ≡ before ++ record { key = place level child.1; image = image } ∷ []) × Wrote pair level child.1 before × IsLeft level (without pair level child.1) image))) → WriteOn Q writes) [
      | true ↦ λ w. keys_in Q pair level inner children writes (all_rest Q (places level child.1) (PlacesOf level children) h) w
      | false ↦ λ w. with_own Q writes w.0 (place level child.1) w.1.0 w.1.1.0 (inner child.1 w.0 first w.1.1.1) (own Q level child.1 first)
    ] wrote

pub keys_within : (Q : Dbkey → Type 0) (pair : NodeEntry) (level : ℕ) (tree : Tree level) (writes : List Write) → AllByRecursion Q (places level tree) → Wrote pair level tree writes → WriteOn Q writes
keys_within Q pair zero tree writes h wrote = subst (WriteOn Q) (sym wrote) tt
keys_within Q pair (suc level) tree writes h wrote = keys_in Q pair level (keys_within Q pair level) tree.entries writes h.1 wrote

-- ---- they are on the way to the pair

way_in : (Q : Dbkey → Type 0) (pair : NodeEntry) (level : ℕ) → ((tree : Tree level) (writes : List Write) → AllByRecursion Q (path_below pair level tree) → Wrote pair level tree writes → WriteOn Q writes)
    → (children : List (NodeEntry × Tree level)) (writes : List Write) → AllByRecursion Q (flat_map (λ child. place level child ∷ path_below pair level child) (chosen pair children)) → WroteIn pair level (Wrote pair level) children writes → WriteOn Q writes
way_in Q pair level inner [] writes h wrote = subst (WriteOn Q) (sym wrote) tt
way_in Q pair level inner (child ∷ children) writes h wrote =
    elim (goes_on pair (Entries level children)) as (λ b. AllByRecursion Q (flat_map (λ child. place level child ∷ path_below pair level child) (cond b (chosen pair children) (child.1 ∷ []))) → Choose b (WroteIn pair level (Wrote pair level) children writes)
    ((before : List Write) × ((image : Option (List ℕ)) × ((writes ≡ before ++ record { key = place level child.1; image = image } ∷ []) × Wrote pair level child.1 before × IsLeft level (without pair level child.1) image))) → WriteOn Q writes) [
      | true ↦ λ h w. way_in Q pair level inner children writes h w
      | false ↦ λ h w. let on = all_front Q (place level child.1 ∷ path_below pair level child.1) [] h in with_own Q writes w.0 (place level child.1) w.1.0 w.1.1.0 (inner child.1 w.0 on.1 w.1.1.1) on.0
    ] h wrote

keys_on_way : (Q : Dbkey → Type 0) (pair : NodeEntry) (level : ℕ) (tree : Tree level) (writes : List Write) → AllByRecursion Q (path_below pair level tree) → Wrote pair level tree writes → WriteOn Q writes
keys_on_way Q pair zero tree writes h wrote = subst (WriteOn Q) (sym wrote) tt
keys_on_way Q pair (suc level) tree writes h wrote = way_in Q pair level (keys_on_way Q pair level) tree.entries writes h wrote

-- with the root's line behind them
pub lines_on_way : (root : Dbkey) (pair : NodeEntry) (level : ℕ) (tree : Tree level) (writes before : List Write) (image : Option (List ℕ)) → place level tree ≡ root → Wrote pair level tree before → writes ≡ before ++ record { key = root; image = image } ∷ [] → WriteOn (λ key. has_line (path pair level tree) key ≡ true) writes
lines_on_way root pair level tree writes before image rooted wrote written =
    let there = lines_there (path pair level tree) in
    with_own (λ key. has_line (path pair level tree) key ≡ true) writes before root image written (keys_on_way (λ key. has_line (path pair level tree) key ≡ true) pair level tree before there.1 wrote)
    (subst (λ (k : Dbkey). has_line (path pair level tree) k ≡ true) rooted there.0)

-- ---- below a node

abbrev pub Inner : Lines → ℕ → (level : ℕ) → Tree level → Type 0
Inner lines area zero tree = Unit {0}
Inner lines area (suc level) tree = AllByRecursion (StandsBelow lines area level) tree.entries × AreParted level tree.entries

abbrev pub inner_places : (level : ℕ) → Tree level → List Dbkey
inner_places zero tree = []
inner_places (suc level) tree = PlacesOf level tree.entries

-- the lines that are written are each written once
all_keys : (Q : Dbkey → Type 0) (writes : List Write) → WriteOn Q writes → AllByRecursion Q (keys_of writes)
all_keys Q [] h = tt
all_keys Q (w ∷ writes) h = (h.0, all_keys Q writes h.1)

keys_inside : (Q : Dbkey → Type 0) (pair : NodeEntry) (level : ℕ) (tree : Tree level) (writes : List Write) → AllByRecursion Q (inner_places level tree) → Wrote pair level tree writes → WriteOn Q writes
keys_inside Q pair zero tree writes h wrote = subst (WriteOn Q) (sym wrote) tt
keys_inside Q pair (suc level) tree writes h wrote = keys_in Q pair level (keys_within Q pair level) tree.entries writes h wrote

apart_inside : (level : ℕ) (tree : Tree level) → Distinct (places level tree) → IsApart (place level tree) (inner_places level tree)
apart_inside zero tree h = tt
apart_inside (suc level) tree h = head_apart tree.at (PlacesOf level tree.entries) h

once_with_own : (pair : NodeEntry) (level : ℕ) (tree : Tree level) (writes before : List Write) (image : Option (List ℕ)) → Distinct (places level tree) → Wrote pair level tree before → writes ≡ before ++ record { key = place level tree; image = image } ∷ [] → Distinct (keys_of before) → Distinct (keys_of writes)
once_with_own pair level tree writes before image distinct wrote is once =
    let at = place level tree in
    let apart : IsApart at (keys_of before) = all_keys (λ k. is_eq (dbkey_order k at) ≡ false) before (keys_inside (λ k. is_eq (dbkey_order k at) ≡ false) pair level tree before (apart_inside level tree distinct) wrote) in
    subst (λ (ws : List Write). Distinct (keys_of ws)) (sym is) (written_more before (record { key = at; image = image } ∷ []) once (one_distinct at) (apart, tt))

once_in : (pair : NodeEntry) (level : ℕ) → ((tree : Tree level) (writes : List Write) → Distinct (places level tree) → Wrote pair level tree writes → Distinct (keys_of writes))
    → (children : List (NodeEntry × Tree level)) (writes : List Write) → Distinct (PlacesOf level children) → WroteIn pair level (Wrote pair level) children writes → Distinct (keys_of writes)
once_in pair level inner [] writes distinct wrote = subst (λ (ws : List Write). Distinct (keys_of ws)) (sym wrote) none_distinct
once_in pair level inner (child ∷ children) writes distinct wrote =
    let both = parts (places level child.1) (PlacesOf level children) distinct in
    elim (goes_on pair (Entries level children)) as (λ b. Choose b (WroteIn pair level (Wrote pair level) children writes)
    ((before : List Write) × ((image : Option (List ℕ)) × ((writes ≡ before ++ record { key = place level child.1; image = image } ∷ []) × Wrote pair level child.1 before × IsLeft level (without pair level child.1) image))) → Distinct (keys_of writes)) [
      | true ↦ λ w. once_in pair level inner children writes both.rest w
      | false ↦ λ w. once_with_own pair level child.1 writes w.0 w.1.0 both.front w.1.1.1 w.1.1.0 (inner child.1 w.0 both.front w.1.1.1)
    ] wrote

written_once : (pair : NodeEntry) (level : ℕ) (tree : Tree level) (writes : List Write) → Distinct (places level tree) → Wrote pair level tree writes → Distinct (keys_of writes)
written_once pair zero tree writes distinct wrote = subst (λ (ws : List Write). Distinct (keys_of ws)) (sym wrote) none_distinct
written_once pair (suc level) tree writes distinct wrote = once_in pair level (written_once pair level) tree.entries writes (tail_distinct tree.at (PlacesOf level tree.entries) distinct) wrote

pub stands_whole : (lines : Lines) (area level : ℕ) (tree : Tree level) → (place level tree).area ≡ area → Bears (line_in (place level tree) lines) (node_of level tree) → Inner lines area level tree → Stands lines area level tree
stands_whole lines area zero tree a b i = (a, b)
stands_whole lines area (suc level) tree a b i = (a, b, i.0, i.1)

pub inner_beside : (lines : Lines) (key : Dbkey) (image : Option (List ℕ)) (area level : ℕ) (tree : Tree level) → IsApart key (inner_places level tree) → Inner lines area level tree → Inner (laid key image lines) area level tree
inner_beside lines key image area zero tree apart i = tt
inner_beside lines key image area (suc level) tree apart i = (all_beside lines key image area level (stands_beside lines key image area level) tree.entries apart i.0, i.1)

inner_apart : (pair : NodeEntry) (level : ℕ) (tree : Tree level) → Distinct (places level tree) → IsApart (place level tree) (inner_places level (without pair level tree))
inner_apart pair zero tree h = tt
inner_apart pair (suc level) tree h =
    all_replaced (λ k. is_eq (dbkey_order k tree.at) ≡ false) pair level (without pair level) (all_within (λ k. is_eq (dbkey_order k tree.at) ≡ false) pair level) tree.entries (head_apart tree.at (PlacesOf level tree.entries) h)

pub children_beside : (lines : Lines) (writes : List Write) (area level : ℕ) (children : List (NodeEntry × Tree level)) → WriteOn (λ key. IsApart key (PlacesOf level children)) writes → AllByRecursion (StandsBelow lines area level) children → AllByRecursion (StandsBelow (laid_all writes lines) area level) children
children_beside lines [] area level children apart is = is
children_beside lines (w ∷ writes) area level children apart is = children_beside (laid w.key w.image lines) writes area level children apart.1 (all_beside lines w.key w.image area level (stands_beside lines w.key w.image area level) children apart.0 is)

pub area_of : (lines : Lines) (area level : ℕ) (tree : Tree level) → Stands lines area level tree → (place level tree).area ≡ area
area_of lines area zero tree is = is.0
area_of lines area (suc level) tree is = is.0

-- a node that is written behind what is below it
pub rewritten : (lines : Lines) (area : ℕ) (pair : NodeEntry) (level : ℕ) (tree : Tree level) (before : List Write) (image : Option (List ℕ)) → Stands lines area level tree → Distinct (places level tree) → Inner (laid_all before lines) area level (without pair level tree) → Bears image (node_of level (without pair level tree))
    → Stands (laid (place level tree) image (laid_all before lines)) area level (without pair level tree)
rewritten lines area pair level tree before image is distinct inner bears =
    let at = place level tree in
    let now = place level (without pair level tree) in
    let under = laid_all before lines in
    let found : line_in now (laid at image under) ≡ image = laid_found now at image under ∙ ap (λ b. cond b image (line_in now under)) (ap (λ (k : Dbkey). is_eq (dbkey_order k at)) (same_place pair level tree) ∙ equal_eq at) in
    stands_whole (laid at image under) area level (without pair level tree) (ap (λ (k : Dbkey). k.area) (same_place pair level tree) ∙ area_of lines area level tree is)
    (subst (λ what. Bears what (node_of level (without pair level tree))) (sym found) bears)
    (inner_beside under at image area level (without pair level tree) (inner_apart pair level tree distinct) inner)

after_children : (lines : Lines) (area : ℕ) (pair : NodeEntry) (level : ℕ) → ((tree : Tree level) (writes : List Write) → Stands lines area level tree → Distinct (places level tree) → Wrote pair level tree writes → Inner (laid_all writes lines) area level (without pair level tree))
    → (children : List (NodeEntry × Tree level)) (writes : List Write) → AllByRecursion (StandsBelow lines area level) children → Distinct (PlacesOf level children) → WroteIn pair level (Wrote pair level) children writes → AllByRecursion (StandsBelow (laid_all writes lines) area level) (replaced level pair (without pair level) children)
after_children lines area pair level inner [] writes is distinct wrote = tt
after_children lines area pair level inner (child ∷ children) writes is distinct wrote =
    let both = parts (places level child.1) (PlacesOf level children) distinct in
    elim (goes_on pair (Entries level children)) as (λ b. Choose b (WroteIn pair level (Wrote pair level) children writes)
    ((before : List Write) × ((image : Option (List ℕ)) × ((writes ≡ before ++ record { key = place level child.1; image = image } ∷ []) × Wrote pair level child.1 before × IsLeft level (without pair level child.1) image)))
    → AllByRecursion (StandsBelow (laid_all writes lines) area level) (cond b (child ∷ replaced level pair (without pair level) children) (keep level child.0 (without pair level child.1) children))) [
      | true ↦ λ w. (
        (is.0.0, stands_beside_all lines writes area level child.1 (keys_in (λ k. IsApart k (places level child.1)) pair level (keys_within (λ k. IsApart k (places level child.1)) pair level) children writes both.apart w) is.0.1),
        after_children lines area pair level inner children writes is.1 both.rest w,
      )
      | false ↦ λ w.
          let other = flipped (places level child.1) (PlacesOf level children) both.apart in
          let rest = children_beside lines writes area level children
          (with_own (λ k. IsApart k (PlacesOf level children)) writes w.0 (place level child.1) w.1.0 w.1.1.0 (keys_within (λ k. IsApart k (PlacesOf level children)) pair level child.1 w.0 other w.1.1.1) (own (λ k. IsApart k (PlacesOf level children)) level child.1 other)) is.1 in
          elim (has_nothing level (without pair level child.1)) as (λ b. Choose b (w.1.0 ≡ None) (Bears w.1.0 (node_of level (without pair level child.1))) → AllByRecursion (StandsBelow (laid_all writes lines) area level) (cond b children ((child.0, without pair level child.1) ∷ children))) [
            | true ↦ λ left. rest
            | false ↦ λ left. (
              (
                is.0.0 ∙ ap Some (sym (same_place pair level child.1)),
                subst (λ ls. Stands ls area level (without pair level child.1)) (sym (written_last writes w.0 (place level child.1) w.1.0 lines w.1.1.0))
                    (rewritten lines area pair level child.1 w.0 w.1.0 is.0.1 both.front (inner child.1 w.0 is.0.1 both.front w.1.1.1) left),
              ),
              rest,
            )
          ] w.1.1.2
    ] wrote

pub stands_after : (lines : Lines) (area : ℕ) (pair : NodeEntry) (level : ℕ) (tree : Tree level) (writes : List Write) → Stands lines area level tree → Distinct (places level tree) → Wrote pair level tree writes → Inner (laid_all writes lines) area level (without pair level tree)
stands_after lines area pair zero tree writes is distinct wrote = tt
stands_after lines area pair (suc level) tree writes is distinct wrote =
    (after_children lines area pair level (stands_after lines area pair level) tree.entries writes is.2 (tail_distinct tree.at (PlacesOf level tree.entries) distinct) wrote, still_parted lines area pair level tree is)

-- ---- the whole index

all_areas : (lines : Lines) (area level : ℕ) → ((tree : Tree level) → Stands lines area level tree → AllByRecursion (λ (k : Dbkey). k.area ≡ area) (places level tree)) → (children : List (NodeEntry × Tree level)) → AllByRecursion (StandsBelow lines area level) children → AllByRecursion (λ (k : Dbkey). k.area ≡ area) (PlacesOf level children)
all_areas lines area level inner [] h = tt
all_areas lines area level inner (child ∷ children) h = all_append (λ (k : Dbkey). k.area ≡ area) (places level child.1) (PlacesOf level children) (inner child.1 h.0.1) (all_areas lines area level inner children h.1)

pub areas : (lines : Lines) (area level : ℕ) (tree : Tree level) → Stands lines area level tree → AllByRecursion (λ (k : Dbkey). k.area ≡ area) (places level tree)
areas lines area zero tree is = (is.0, tt)
areas lines area (suc level) tree is = (is.0, all_areas lines area level (areas lines area level) tree.entries is.2)

pub index_left : (lines : Lines) (root : Dbkey) (pair : NodeEntry) (level : ℕ) (tree : Tree level) (writes before : List Write) (image : Option (List ℕ)) → IsIndex lines root level tree → Wrote pair level tree before → Bears image (node_of level (without pair level tree)) → writes ≡ before ++ record { key = root; image = image } ∷ []
    → (left : Leaves lines root level tree writes (without_pair pair (pairs level tree))) × ErasesOthers level tree left.level left.tree writes
index_left lines root pair level tree writes before image is wrote bears written =
    let after = rewritten lines root.area pair level tree before image is.stands is.once (stands_after lines root.area pair level tree before is.stands is.once wrote) bears in (
      record {
        level = level;
        tree = without pair level tree;
        index = record {
          rooted = same_place pair level tree ∙ is.rooted;
          stands = subst (λ ls. Stands ls root.area level (without pair level tree)) (sym (written_last writes before root image lines written))
              (subst (λ (k : Dbkey). Stands (laid k image (laid_all before lines)) root.area level (without pair level tree)) is.rooted after);
          once = still_distinct pair level tree is.once;
        };
        pairs_are = pairs_left lines root.area pair level tree is.stands;
        in_area = with_own (λ (k : Dbkey). k.area ≡ root.area) writes before root image written (keys_within (λ (k : Dbkey). k.area ≡ root.area) pair level tree before (areas lines root.area level tree is.stands) wrote) refl;
        once = once_with_own pair level tree writes before image is.once wrote (written ∙ ap (λ (k : Dbkey). before ++ record { key = k; image = image } ∷ []) (sym is.rooted)) (written_once pair level tree before is.once wrote);
        filled = still_filled pair level tree;
      },
      others_erased pair level tree writes before root image wrote written,
    )
