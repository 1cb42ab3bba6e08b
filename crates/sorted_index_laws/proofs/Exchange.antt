-- Children where one is exchanged for others.
use Rattle.std.proofs.Common.{◌≡◌, ◌≢◌, ℕ, suc, true, false, cond, List, [], ◌∷◌, ◌++◌, length, map, get_or, refl, sym, ap, subst, ◌∙◌}
use Rattle.std.specs.declared.cmp.Ordering.{Ordering}
use Rattle.std.specs.declared.cmp.Ordering.TheVariants.{Less, Equal, Greater}
use Rattle.std.specs.Ordering.{is_le}
use Rattle.std.specs.List.{AllByRecursion}
use Rattle.std.proofs.lemmas.Grind.{flat_map-append}
use Rattle.std.proofs.lemmas.List.{map-append}
use Rattle.rdb_types.specs.declared.keys.Dbkey.{Dbkey}
use Rattle.index_node.specs.declared.entry.NodeEntry.{NodeEntry}
use Rattle.index_node.specs.Order.{entry_order}
use Rattle.line_view.specs.Knowledge.{Lines, Knowledge}
use Rattle.line_view.specs.declared.writes.Write.{Write}
use Rattle.line_view.specs.Writes.{laid_all}
use Rattle.sorted_index_laws.specs.Tree.{Tree, pairs, places, AreParted, IsFilled}
use Rattle.sorted_index_laws.specs.Changes.{goes_on, chosen, with_pair}
use Rattle.sorted_index_laws.specs.Inner.Steps.{count_up_to, child_place}
use Rattle.sorted_index_laws.specs.Inner.Growth.{Among}
use Rattle.sorted_index_laws.proofs.Lines.{Distinct, all_front, all_rest, parts, joined, flipped}
use Rattle.sorted_index_laws.proofs.Ordered.{Lt, UpTo, Ascend, StandsBelow, all_append, less_all, less_upto, itself, begin, all_from}
use Rattle.sorted_index_laws.proofs.Without.{AllPairs, Entries}
use Rattle.sorted_index_laws.proofs.Removed.{PlacesOf}
use Rattle.sorted_index_laws.proofs.Filled.{IsFilledChild, AreFilled}
use Rattle.sorted_index_laws.proofs.After.{children_beside}
use Rattle.sorted_index_laws.proofs.Put.{less_turn, all_lt, all_below, all_put, put_past, put_before}
use Rattle.sorted_index_laws.proofs.Apart.{AreOther, among_apart, of_map}

-- what holds unless nothing stands before
abbrev pub Unless : {X : Type 0} → List X → Type 0 → Type 0
Unless [] P = Unit {0}
Unless (x ∷ xs) P = P

-- ---- the child that a pair belongs below

pub record IsWay (pair : NodeEntry) (level : ℕ) (children : List (NodeEntry × Tree level)) (at : ℕ) (before : List (NodeEntry × Tree level)) (child : NodeEntry × Tree level) (behind : List (NodeEntry × Tree level)) : Type 0 where
  pub is : children ≡ before ++ child ∷ behind
  pub long : length before ≡ at
  pub goes : Unless before (UpTo child.0 pair)
  pub stays : goes_on pair (Entries level behind) ≡ false
  pub one : chosen pair children ≡ child.1 ∷ []

abbrev pub HasWay : NodeEntry → (level : ℕ) → List (NodeEntry × Tree level) → ℕ → Type 0
HasWay pair level children at = (before : List (NodeEntry × Tree level)) × (child : NodeEntry × Tree level) × (behind : List (NodeEntry × Tree level)) × IsWay pair level children at before child behind

pub le_upto : (o : Ordering) → is_le o ≡ true → o ≢ Greater
le_upto Less h = λ g. cc
le_upto Equal h = λ g. cc
le_upto Greater h = absurd (cc)

pub not_le : (o : Ordering) → is_le o ≡ false → o ≡ Greater
not_le Less h = absurd (cc)
not_le Equal h = absurd (cc)
not_le Greater h = refl

goes_further : (pair : NodeEntry) (level : ℕ) (next : NodeEntry × Tree level) (children before : List (NodeEntry × Tree level)) (child : NodeEntry × Tree level) (behind : List (NodeEntry × Tree level)) → next ∷ children ≡ before ++ child ∷ behind → UpTo next.0 pair → Unless before (UpTo child.0 pair) → UpTo child.0 pair
goes_further pair level next children [] child behind is upto h = subst (λ (c : NodeEntry × Tree level). UpTo c.0 pair) (ap (λ cs. get_or cs 0 next) is) upto
goes_further pair level next children (b ∷ before) child behind is upto h = h

pub way : (pair : NodeEntry) (level : ℕ) (child : NodeEntry × Tree level) (children : List (NodeEntry × Tree level)) → HasWay pair level (child ∷ children) (child_place pair (Entries level (child ∷ children)))
way pair level child [] = ([], child, [], record { is = refl; long = refl; goes = tt; stays = refl; one = refl })
way pair level child (next ∷ children) =
    let es = Entries level children in
    elim (is_le (entry_order next.0 pair)) as (λ b. is_le (entry_order next.0 pair) ≡ b → HasWay pair level (child ∷ next ∷ children) (cond b (suc (count_up_to pair es)) 0)) [
      | true ↦ λ is. let rest = way pair level next children in (
        child ∷ rest.0,
        rest.1,
        rest.2,
        record {
          is = ap (λ cs. child ∷ cs) rest.3.is;
          long = ap suc rest.3.long;
          goes = goes_further pair level next children rest.0 rest.1 rest.2 rest.3.is (le_upto (entry_order next.0 pair) is) rest.3.goes;
          stays = rest.3.stays;
          one = ap (λ b. cond b (chosen pair (next ∷ children)) (child.1 ∷ [])) is ∙ rest.3.one;
        },
      )
      | false ↦ λ is. ([], child, next ∷ children, record { is = refl; long = refl; goes = tt; stays = is; one = ap (λ b. cond b (chosen pair (next ∷ children)) (child.1 ∷ [])) is })
    ] refl

-- ---- pairs before and behind

in_middle : (P : NodeEntry → Type 0) (level : ℕ) (before : List (NodeEntry × Tree level)) (child : NodeEntry × Tree level) (behind : List (NodeEntry × Tree level)) → AllByRecursion P (Entries level (before ++ child ∷ behind)) → P child.0
in_middle P level [] child behind h = h.0
in_middle P level (b ∷ before) child behind h = in_middle P level before child behind h.1

pub pairs_before : (level : ℕ) (before : List (NodeEntry × Tree level)) (child : NodeEntry × Tree level) (behind : List (NodeEntry × Tree level)) → AreParted level (before ++ child ∷ behind) → Ascend (Entries level (before ++ child ∷ behind)) → AllByRecursion (λ p. Lt p child.0) (AllPairs level before)
pairs_before level [] child behind parted ascend = tt
pairs_before level (a ∷ []) child behind parted ascend = all_append (λ p. Lt p child.0) (pairs level a.1) [] parted.0.0 tt
pairs_before level (a ∷ b ∷ before) child behind parted ascend =
    let lt : Lt b.0 child.0 = in_middle (Lt b.0) level before child behind ascend.1.0 in
    all_append (λ p. Lt p child.0) (pairs level a.1) (AllPairs level (b ∷ before)) (all_below b.0 child.0 (pairs level a.1) (less_upto (entry_order b.0 child.0) lt) parted.0.0) (pairs_before level (b ∷ before) child behind parted.1 ascend.1)

pub parted_rest : (level : ℕ) (before behind : List (NodeEntry × Tree level)) → AreParted level (before ++ behind) → AreParted level behind
parted_rest level [] behind h = h
parted_rest level (b ∷ before) behind h = parted_rest level before behind h.1

pub ascend_rest : (xs ys : List NodeEntry) → Ascend (xs ++ ys) → Ascend ys
ascend_rest [] ys h = h
ascend_rest (x ∷ xs) ys h = ascend_rest xs ys h.1

-- all pairs from this child on are at or above its entry, where a child stands before it
pub pairs_from : (level : ℕ) (before child : NodeEntry × Tree level) (behind : List (NodeEntry × Tree level)) → AreParted level (before ∷ child ∷ behind) → Ascend (Entries level (child ∷ behind)) → AllByRecursion (UpTo child.0) (AllPairs level (child ∷ behind))
pairs_from level before child behind parted ascend =
    all_from level child.0 (child ∷ behind) (itself child.0, less_all child.0 (Entries level behind) ascend.0) (begin level before (child ∷ behind) parted)

pairs_behind : (pair : NodeEntry) (level : ℕ) (child : NodeEntry × Tree level) (behind : List (NodeEntry × Tree level)) → goes_on pair (Entries level behind) ≡ false → AreParted level (child ∷ behind) → Ascend (Entries level behind) → AllByRecursion (Lt pair) (AllPairs level behind)
pairs_behind pair level child [] stays parted ascend = tt
pairs_behind pair level child (next ∷ behind) stays parted ascend =
    all_lt pair next.0 (AllPairs level (next ∷ behind)) (less_turn next.0 pair (not_le (entry_order next.0 pair) stays)) (pairs_from level child next behind parted ascend)

before_pair : (pair : NodeEntry) (level : ℕ) (before : List (NodeEntry × Tree level)) (child : NodeEntry × Tree level) → Unless before (UpTo child.0 pair) → AllByRecursion (λ p. Lt p child.0) (AllPairs level before) → AllByRecursion (λ p. Lt p pair) (AllPairs level before)
before_pair pair level [] child goes h = tt
before_pair pair level (b ∷ before) child goes h = all_below child.0 pair (AllPairs level (b ∷ before)) goes h

-- ---- the children behind an exchange

-- what a child is exchanged for
pub record IsExchange (known : Knowledge) (all : Lines) (area from to : ℕ) (pair : NodeEntry) (level : ℕ) (before : List (NodeEntry × Tree level)) (child first : NodeEntry × Tree level) (more : List (NodeEntry × Tree level)) (writes : List Write) : Type 0 where
  pub stand : AllByRecursion (StandsBelow (laid_all writes all) area level) (first ∷ more)
  pub parted : AreParted level (first ∷ more)
  pub once : Distinct (PlacesOf level (first ∷ more))
  pub among : Among known area from to (places level child.1) (PlacesOf level (first ∷ more))
  pub written : Among known area from to (places level child.1) (map (λ w. w.key) writes)
  pub written_once : Distinct (map (λ w. w.key) writes)
  pub with_it : AllPairs level (first ∷ more) ≡ with_pair pair (pairs level child.1)
  pub head : Unless before (first.0 ≡ child.0)
  pub filled : IsFilled level child.1 → AreFilled level (first ∷ more)

pub record HasChildren (known : Knowledge) (all : Lines) (area from to : ℕ) (pair : NodeEntry) (level : ℕ) (old new : List (NodeEntry × Tree level)) (writes : List Write) : Type 0 where
  pub stand : AllByRecursion (StandsBelow (laid_all writes all) area level) new
  pub parted : AreParted level new
  pub once : Distinct (PlacesOf level new)
  pub among : Among known area from to (PlacesOf level old) (PlacesOf level new)
  pub written : Among known area from to (PlacesOf level old) (map (λ w. w.key) writes)
  pub written_once : Distinct (map (λ w. w.key) writes)
  pub with_it : AllPairs level new ≡ with_pair pair (AllPairs level old)
  pub filled : AreFilled level old → AreFilled level new

abbrev pairs_of : (level : ℕ) → NodeEntry × Tree level → List NodeEntry
pairs_of level child = pairs level child.1

abbrev places_of : (level : ℕ) → NodeEntry × Tree level → List Dbkey
places_of level child = places level child.1

new_pairs : (pair : NodeEntry) (level : ℕ) (before : List (NodeEntry × Tree level)) (child : NodeEntry × Tree level) (behind mid : List (NodeEntry × Tree level)) → AllByRecursion (λ p. Lt p pair) (AllPairs level before) → AllByRecursion (Lt pair) (AllPairs level behind) → AllPairs level mid ≡ with_pair pair (pairs level child.1)
    → AllPairs level (before ++ (mid ++ behind)) ≡ with_pair pair (AllPairs level (before ++ child ∷ behind))
new_pairs pair level before child behind mid low high is =
    let f = pairs_of level in
    flat_map-append f before (mid ++ behind)
    ∙ (ap (λ ps. AllPairs level before ++ ps) (flat_map-append f mid behind ∙ (ap (λ ps. ps ++ AllPairs level behind) is ∙ sym (put_before pair (pairs level child.1) (AllPairs level behind) high)))
    ∙ (sym (put_past pair (AllPairs level before) (pairs level child.1 ++ AllPairs level behind) low)
    ∙ ap (with_pair pair) (sym (flat_map-append f before (child ∷ behind)))))

parted_join : (level : ℕ) (mid behind : List (NodeEntry × Tree level)) → AreParted level mid → AreParted level behind → ((b : NodeEntry × Tree level) (rest : List (NodeEntry × Tree level)) → behind ≡ b ∷ rest → AllByRecursion (λ p. Lt p b.0) (AllPairs level mid) × AllByRecursion (λ p. entry_order b.0 p ≢ Greater) (pairs level b.1)) → AreParted level (mid ++ behind)
parted_join level [] behind h k next = k
parted_join level (m ∷ []) [] h k next = (tt, tt)
parted_join level (m ∷ []) (b ∷ behind) h k next = let both = next b behind refl in ((all_front (λ p. Lt p b.0) (pairs level m.1) [] both.0, both.1), k)
parted_join level (m ∷ n ∷ mid) behind h k next = (h.0, parted_join level (n ∷ mid) behind h.1 k (λ b rest is. let both = next b rest is in (all_rest (λ p. Lt p b.0) (pairs level m.1) (AllPairs level (n ∷ mid)) both.0, both.1)))

parted_mid : (level : ℕ) (before : List (NodeEntry × Tree level)) (child : NodeEntry × Tree level) (behind : List (NodeEntry × Tree level)) (first : NodeEntry × Tree level) (rest : List (NodeEntry × Tree level)) → AreParted level (before ++ child ∷ behind) → Unless before (first.0 ≡ child.0) → Unless before (AllByRecursion (UpTo child.0) (pairs level first.1)) → AreParted level (first ∷ rest) → AreParted level (before ++ first ∷ rest)
parted_mid level [] child behind first rest parted same from h = h
parted_mid level (a ∷ []) child behind first rest parted same from h =
    ((subst (λ (e : NodeEntry). AllByRecursion (λ p. Lt p e) (pairs level a.1)) (sym same) parted.0.0, subst (λ (e : NodeEntry). AllByRecursion (UpTo e) (pairs level first.1)) (sym same) from), h)
parted_mid level (a ∷ b ∷ before) child behind first rest parted same from h = (parted.0, parted_mid level (b ∷ before) child behind first rest parted.1 same from h)

-- the pairs of a child with one before it are at or above its entry
own_from : (level : ℕ) (before : List (NodeEntry × Tree level)) (child : NodeEntry × Tree level) (behind : List (NodeEntry × Tree level)) → AreParted level (before ++ child ∷ behind) → Unless before (AllByRecursion (UpTo child.0) (pairs level child.1))
own_from level [] child behind parted = tt
own_from level (a ∷ []) child behind parted = parted.0.1
own_from level (a ∷ b ∷ before) child behind parted = own_from level (b ∷ before) child behind parted.1

unless_both : {X : Type 0} (xs : List X) (P Q R : Type 0) → (P → Q → R) → Unless xs P → Unless xs Q → Unless xs R
unless_both [] P Q R f p q = tt
unless_both (x ∷ xs) P Q R f p q = f p q

pub own_upto : (level : ℕ) (before : List (NodeEntry × Tree level)) (child : NodeEntry × Tree level) (behind : List (NodeEntry × Tree level)) → AreParted level (before ++ child ∷ behind) → Unless before (AllByRecursion (UpTo child.0) (pairs level child.1))
own_upto = own_from

-- all pairs of a child are below the next one's entry
pub below_next : (level : ℕ) (child b : NodeEntry × Tree level) (behind rest : List (NodeEntry × Tree level)) → AreParted level (child ∷ behind) → behind ≡ b ∷ rest → AllByRecursion (λ p. Lt p b.0) (pairs level child.1) × AllByRecursion (λ p. entry_order b.0 p ≢ Greater) (pairs level b.1)
below_next level child b behind rest parted is = (subst (λ bs. AreParted level (child ∷ bs)) is parted).0

pub pair_below_next : (pair : NodeEntry) (level : ℕ) (b : NodeEntry × Tree level) (behind rest : List (NodeEntry × Tree level)) → goes_on pair (Entries level behind) ≡ false → behind ≡ b ∷ rest → Lt pair b.0
pair_below_next pair level b behind rest stays is = less_turn b.0 pair (not_le (entry_order b.0 pair) (subst (λ bs. goes_on pair (Entries level bs) ≡ false) is stays))

distinct_mid : (known : Knowledge) (area from to : ℕ) (front old new behind : List Dbkey) → Distinct (front ++ (old ++ behind)) → Distinct new → Among known area from to old new → AreOther known area from to front → AreOther known area from to behind → Distinct (front ++ (new ++ behind))
distinct_mid known area from to front old new behind h once among other_front other_behind =
    let a = parts front (old ++ behind) h in
    let b = parts old behind a.rest in
    let low = among_apart known area from to old new front among (all_front _ old behind a.apart) other_front in
    let high = flipped behind new (among_apart known area from to old new behind among (flipped old behind b.apart) other_behind) in
    joined front (new ++ behind) a.front (joined new behind once b.rest high) (all_append _ new behind low (all_rest _ old behind a.apart))

among_mid : (known : Knowledge) (area from to : ℕ) (front old new behind : List Dbkey) → Among known area from to old new → Among known area from to (front ++ (old ++ behind)) (front ++ (new ++ behind))
among_mid known area from to front old new behind among q h rooms =
    let rest = all_rest (λ k. q k ≡ true) front (old ++ behind) h in
    all_append (λ k. q k ≡ true) front (new ++ behind) (all_front (λ k. q k ≡ true) front (old ++ behind) h)
    (all_append (λ k. q k ≡ true) new behind (among q (all_front (λ k. q k ≡ true) old behind rest) rooms) (all_rest (λ k. q k ≡ true) old behind rest))

among_in : (known : Knowledge) (area from to : ℕ) (front old new behind : List Dbkey) → Among known area from to old new → Among known area from to (front ++ (old ++ behind)) new
among_in known area from to front old new behind among q h rooms = among q (all_front (λ k. q k ≡ true) old behind (all_rest (λ k. q k ≡ true) front (old ++ behind) h)) rooms

split_places : (level : ℕ) (before : List (NodeEntry × Tree level)) (mid behind : List (NodeEntry × Tree level)) → PlacesOf level (before ++ (mid ++ behind)) ≡ PlacesOf level before ++ (PlacesOf level mid ++ PlacesOf level behind)
split_places level before mid behind = flat_map-append (places_of level) before (mid ++ behind) ∙ ap (λ ks. PlacesOf level before ++ ks) (flat_map-append (places_of level) mid behind)

old_places : (level : ℕ) (before : List (NodeEntry × Tree level)) (child : NodeEntry × Tree level) (behind : List (NodeEntry × Tree level)) → PlacesOf level (before ++ child ∷ behind) ≡ PlacesOf level before ++ (places level child.1 ++ PlacesOf level behind)
old_places level before child behind = flat_map-append (places_of level) before (child ∷ behind)

pub exchanged : (known : Knowledge) (all : Lines) (area from to : ℕ) (pair : NodeEntry) (level : ℕ) (before : List (NodeEntry × Tree level)) (child first : NodeEntry × Tree level) (behind more : List (NodeEntry × Tree level)) (writes : List Write)
    → AllByRecursion (StandsBelow all area level) (before ++ child ∷ behind) → AreParted level (before ++ child ∷ behind) → Distinct (PlacesOf level (before ++ child ∷ behind)) → Ascend (Entries level (before ++ child ∷ behind))
    → Unless before (UpTo child.0 pair) → goes_on pair (Entries level behind) ≡ false → AreOther known area from to (PlacesOf level before) → AreOther known area from to (PlacesOf level behind)
    → IsExchange known all area from to pair level before child first more writes → HasChildren known all area from to pair level (before ++ child ∷ behind) (before ++ (first ∷ more ++ behind)) writes
exchanged known all area from to pair level before child first behind more writes stand parted once ascend goes stays other_before other_behind x =
    let mid = first ∷ more in
    let pb = PlacesOf level before in
    let pc = places level child.1 in
    let pd = PlacesOf level behind in
    let old = old_places level before child behind in
    let new = split_places level before mid behind in
    let apart = parts pb (pc ++ pd) (subst Distinct old once) in
    let apart_too = parts pc pd apart.rest in
    let tail : AreParted level (child ∷ behind) = parted_rest level before (child ∷ behind) parted in
    let ups = ascend_rest (Entries level before) (Entries level (child ∷ behind)) (subst Ascend (map-append (λ (c : NodeEntry × Tree level). c.0) before (child ∷ behind)) ascend) in
    let keys = map (λ (w : Write). w.key) writes in
    let mid_pairs : (P : NodeEntry → Type 0) → P pair → AllByRecursion P (pairs level child.1) → AllByRecursion P (AllPairs level mid) = λ P h k. subst (AllByRecursion P) (sym x.with_it) (all_put P pair (pairs level child.1) h k) in
    record {
      stand =
          all_append (StandsBelow (laid_all writes all) area level) before (mid ++ behind)
          (children_beside all writes area level before (of_map (λ y. AllByRecursion _ pb) writes (among_apart known area from to pc keys pb x.written (all_front _ pc pd apart.apart) other_before)) (all_front (StandsBelow all area level) before (child ∷ behind) stand))
          (all_append (StandsBelow (laid_all writes all) area level) mid behind x.stand
          (children_beside all writes area level behind (of_map (λ y. AllByRecursion _ pd) writes (among_apart known area from to pc keys pd x.written (flipped pc pd apart_too.apart) other_behind)) (all_rest (StandsBelow all area level) before (child ∷ behind) stand).1));
      parted = parted_mid level before child behind first (more ++ behind) parted x.head
          (unless_both before (UpTo child.0 pair) (AllByRecursion (UpTo child.0) (pairs level child.1)) (AllByRecursion (UpTo child.0) (pairs level first.1)) (λ up own. all_front (UpTo child.0) (pairs level first.1) (AllPairs level more) (mid_pairs (UpTo child.0) up own)) goes (own_from level before child behind parted))
          (parted_join level mid behind x.parted tail.1 (λ b rest is. let both = below_next level child b behind rest tail is in (mid_pairs (λ p. Lt p b.0) (pair_below_next pair level b behind rest stays is) both.0, both.1)));
      once = subst Distinct (sym new) (distinct_mid known area from to pb pc (PlacesOf level mid) pd (subst Distinct old once) x.once x.among other_before other_behind);
      among = subst (λ ks. Among known area from to ks (PlacesOf level (before ++ (mid ++ behind)))) (sym old) (subst (λ ks. Among known area from to (pb ++ (pc ++ pd)) ks) (sym new) (among_mid known area from to pb pc (PlacesOf level mid) pd x.among));
      written = subst (λ ks. Among known area from to ks keys) (sym old) (among_in known area from to pb pc keys pd x.written);
      written_once = x.written_once;
      with_it = new_pairs pair level before child behind mid (before_pair pair level before child goes (pairs_before level before child behind parted ascend)) (pairs_behind pair level child behind stays tail ups.1) x.with_it;
      filled = λ h. let rest = all_rest (IsFilledChild level) before (child ∷ behind) h in all_append (IsFilledChild level) before (mid ++ behind) (all_front (IsFilledChild level) before (child ∷ behind) h) (all_append (IsFilledChild level) mid behind (x.filled rest.0.1) rest.1);
    }
