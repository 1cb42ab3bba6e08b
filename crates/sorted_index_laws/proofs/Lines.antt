-- Lists of lines, none twice, and the lines that are written one after another.
use Rattle.std.proofs.Common.{◌≡◌, ℕ, true, false, List, [], ◌∷◌, ◌++◌, map, refl, sym, ap, subst, ◌∙◌}
use Rattle.std.proofs.lemmas.List.{map-append}
use Rattle.std.specs.declared.cmp.Ordering.{Ordering}
use Rattle.std.specs.declared.cmp.Ordering.TheVariants.{Less, Equal, Greater}
use Rattle.std.specs.Ordering.{is_eq, ordering_reverse}
use Rattle.std.specs.List.{AllByRecursion, IsDistinct}
use Rattle.std.proofs.lemmas.Cmp.{tied_itself}
use Rattle.rdb_types.specs.declared.keys.Dbkey.{Dbkey}
use Rattle.rdb_types.specs.Order.{dbkey_order}
use Rattle.rdb_types.specs.OrderLaws.{dbkey_total}
use Rattle.line_view.specs.Knowledge.{Lines, laid}
use Rattle.line_view.specs.declared.writes.Write.{Write}
use Rattle.line_view.specs.Writes.{laid_all}
use Rattle.line_view.proofs.Written.{WriteOn}
use Rattle.sorted_index_laws.specs.Tree.{Tree, places, Stands}
use Rattle.sorted_index_laws.proofs.Frame.{IsApart, stands_beside}

abbrev pub Distinct : List Dbkey → Type 0
Distinct = IsDistinct (λ a b. is_eq (dbkey_order a b))

pub equal_eq : (key : Dbkey) → is_eq (dbkey_order key key) ≡ true
equal_eq key = ap is_eq (tied_itself dbkey_total key)

reversed : (o : Ordering) → is_eq (ordering_reverse o) ≡ is_eq o
reversed Less = refl
reversed Equal = refl
reversed Greater = refl

pub other_way : (a b : Dbkey) → is_eq (dbkey_order a b) ≡ is_eq (dbkey_order b a)
other_way a b = ap is_eq (dbkey_total.antisymm a b) ∙ reversed (dbkey_order b a)

pub map_all : {X : Type 0} (P Q : X → Type 0) → ((x : X) → P x → Q x) → (xs : List X) → AllByRecursion P xs → AllByRecursion Q xs
map_all P Q f [] h = tt
map_all P Q f (x ∷ xs) h = (f x h.0, map_all P Q f xs h.1)

pub all_front : {X : Type 0} (P : X → Type 0) (xs ys : List X) → AllByRecursion P (xs ++ ys) → AllByRecursion P xs
all_front P [] ys h = tt
all_front P (x ∷ xs) ys h = (h.0, all_front P xs ys h.1)

pub all_rest : {X : Type 0} (P : X → Type 0) (xs ys : List X) → AllByRecursion P (xs ++ ys) → AllByRecursion P ys
all_rest P [] ys h = h
all_rest P (x ∷ xs) ys h = all_rest P xs ys h.1

-- each of these lines is apart from each of those
abbrev pub AreApart : List Dbkey → List Dbkey → Type 0
AreApart xs ys = AllByRecursion (λ y. IsApart y xs) ys

apart_none : (ys : List Dbkey) → AreApart [] ys
apart_none [] = tt
apart_none (y ∷ ys) = (tt, apart_none ys)

pub apart_more : (x : Dbkey) (xs ys : List Dbkey) → AllByRecursion (λ y. is_eq (dbkey_order x y) ≡ false) ys → AreApart xs ys → AreApart (x ∷ xs) ys
apart_more x xs [] h k = tt
apart_more x xs (y ∷ ys) h k = ((h.0, k.0), apart_more x xs ys h.1 k.1)

apart_head : (x : Dbkey) (xs ys : List Dbkey) → AreApart (x ∷ xs) ys → AllByRecursion (λ y. is_eq (dbkey_order x y) ≡ false) ys
apart_head x xs [] h = tt
apart_head x xs (y ∷ ys) h = (h.0.0, apart_head x xs ys h.1)

apart_tail : (x : Dbkey) (xs ys : List Dbkey) → AreApart (x ∷ xs) ys → AreApart xs ys
apart_tail x xs [] h = tt
apart_tail x xs (y ∷ ys) h = (h.0.1, apart_tail x xs ys h.1)

pub turned : (x : Dbkey) (ys : List Dbkey) → AllByRecursion (λ y. is_eq (dbkey_order x y) ≡ false) ys → IsApart x ys
turned x [] h = tt
turned x (y ∷ ys) h = (other_way y x ∙ h.0, turned x ys h.1)

pub flipped : (xs ys : List Dbkey) → AreApart xs ys → AreApart ys xs
flipped [] ys h = tt
flipped (x ∷ xs) ys h = (turned x ys (apart_head x xs ys h), flipped xs ys (apart_tail x xs ys h))

pub record Parts (xs ys : List Dbkey) : Type 0 where
  pub front : Distinct xs
  pub rest : Distinct ys
  pub apart : AreApart xs ys

pub parts : (xs ys : List Dbkey) → Distinct (xs ++ ys) → Parts xs ys
unfolding IsDistinct
parts [] ys h = record { front = tt; rest = h; apart = apart_none ys }
parts (x ∷ xs) ys h =
    let below = parts xs ys h.1 in
    record {
      front = (all_front (λ y. is_eq (dbkey_order x y) ≡ false) xs ys h.0, below.front);
      rest = below.rest;
      apart = apart_more x xs ys (all_rest (λ y. is_eq (dbkey_order x y) ≡ false) xs ys h.0) below.apart;
    }

all_both : {X : Type 0} (P : X → Type 0) (xs ys : List X) → AllByRecursion P xs → AllByRecursion P ys → AllByRecursion P (xs ++ ys)
all_both P [] ys h k = k
all_both P (x ∷ xs) ys h k = (h.0, all_both P xs ys h.1 k)

pub joined : (xs ys : List Dbkey) → Distinct xs → Distinct ys → AreApart xs ys → Distinct (xs ++ ys)
unfolding IsDistinct
joined [] ys h k apart = k
joined (x ∷ xs) ys h k apart = (all_both (λ y. is_eq (dbkey_order x y) ≡ false) xs ys h.0 (apart_head x xs ys apart), joined xs ys h.1 k (apart_tail x xs ys apart))

pub head_apart : (x : Dbkey) (xs : List Dbkey) → Distinct (x ∷ xs) → IsApart x xs
unfolding IsDistinct
head_apart x xs h = turned x xs h.0

pub tail_distinct : (x : Dbkey) (xs : List Dbkey) → Distinct (x ∷ xs) → Distinct xs
unfolding IsDistinct
tail_distinct x xs h = h.1

pub untold : (x : Dbkey) (ys : List Dbkey) → IsApart x ys → AllByRecursion (λ y. is_eq (dbkey_order x y) ≡ false) ys
untold x [] h = tt
untold x (y ∷ ys) h = (other_way x y ∙ h.0, untold x ys h.1)

pub distinct_more : (x : Dbkey) (xs : List Dbkey) → IsApart x xs → Distinct xs → Distinct (x ∷ xs)
unfolding IsDistinct
distinct_more x xs h k = (untold x xs h, k)

-- ---- writes

pub stands_beside_all : (lines : Lines) (writes : List Write) (area level : ℕ) (tree : Tree level) → WriteOn (λ key. IsApart key (places level tree)) writes → Stands lines area level tree → Stands (laid_all writes lines) area level tree
stands_beside_all lines [] area level tree apart is = is
stands_beside_all lines (w ∷ writes) area level tree apart is = stands_beside_all (laid w.key w.image lines) writes area level tree apart.1 (stands_beside lines w.key w.image area level tree apart.0 is)

pub none_distinct : Distinct []
unfolding IsDistinct
none_distinct = tt

abbrev pub keys_of : List Write → List Dbkey
keys_of writes = map (λ write. write.key) writes

-- more writes, on other lines
pub written_more : (writes more : List Write) → Distinct (keys_of writes) → Distinct (keys_of more) → AreApart (keys_of writes) (keys_of more) → Distinct (keys_of (writes ++ more))
written_more writes more h k apart = subst Distinct (sym (map-append (λ (w : Write). w.key) writes more)) (joined (keys_of writes) (keys_of more) h k apart)

pub one_distinct : (x : Dbkey) → Distinct (x ∷ [])
one_distinct x = distinct_more x [] tt none_distinct
