-- What is held goes on agreeing with the full map.
use Rattle.std.proofs.Common.{◌≡◌, ◌<◌, ℕ, zero, suc, Bool, true, false, cond, ◌==◌, length, List, [], ◌∷◌, ◌++◌, map, get_or, Option, Some, None, ◌⊎◌, inl, inr, T, refl, sym, ap, subst, ◌∙◌, arith}
use Rattle.std.specs.Prelude.{is_some}
use Rattle.std.specs.declared.cmp.Ordering.{Ordering}
use Rattle.std.specs.declared.cmp.Ordering.TheVariants.{Less, Equal, Greater}
use Rattle.std.specs.Ordering.{is_eq, is_lt, nat_cmp, ordering_reverse, match_ordering}
use Rattle.std.specs.Cmp.{nat_cmp_total, tied_itself, unsigned_tied}
use Rattle.std.specs.List.{filter, AllByRecursion}
use Rattle.std.specs.FinMap.Entries.{find, put, below_all, is_sorted, find-put, is_sorted-where_key}
use Rattle.std.specs.Map.{set_value}
use Rattle.std.specs.BTreeMap.{is_at}
use Rattle.std.specs.BTreeSet.{insert_key}
use Rattle.std.proofs.lemmas.Bool.{and_parts, eqb-false, eqb-true}
use Rattle.std.proofs.lemmas.Bool.Decides.{eqb_tells}
use Rattle.std.proofs.lemmas.List.{append-nil, append_assoc}
use Rattle.std.proofs.lemmas.Option.{none-some, same_Some}
use Rattle.std.proofs.lemmas.Cmp.{ranked}
use Rattle.ordered_entries.specs.rdb_types.declared.keys.Dbkey.{Dbkey}
use Rattle.ordered_entries.specs.rdb_types.Order.{dbkey_order}
use Rattle.ordered_entries.specs.rdb_types.OrderLaws.{dbkey_total, same_dbkey}
use Rattle.line_view.specs.declared.need.Room.{Room}
use Rattle.line_view.specs.Knowledge.{Lines, Agrees, line_in, lines_in, keys_of, laid}
use Rattle.line_view.specs.declared.known.PresentLine.{PresentLine}
use Rattle.line_view.specs.Held.{Held, AreRooms, entry_of, knows, usable, unless_present, with_line, with_lines, with_area, with_room, without_rooms, with_write, written, with_written, ordered, ordered_from, room_order}
use Rattle.line_view.proofs.Entries.{found_behind}
use Rattle.line_view.proofs.Steps.{LineEntries, room_total, same_room}
use Rattle.line_view.proofs.FullMap.{laid_found, other_area, keys_written}

-- ---- rooms

usable_is : (lines : LineEntries) (k w : Dbkey) → usable lines (Some w) ≡ Some k → w ≡ k
usable_is lines k w e = elim (find dbkey_order w lines) as (λ o. unless_present w o ≡ Some k → w ≡ k) [
  | None ↦ λ h. same_Some _ _ h
  | Some what ↦ elim what as (λ o. unless_present w (Some o) ≡ Some k → w ≡ k) [ None ↦ λ h. same_Some _ _ h | Some image ↦ λ h. absurd (none-some k h) ]
] e

pub room_is : (lines : LineEntries) (found : Option Dbkey) (k : Dbkey) → usable lines found ≡ Some k → found ≡ Some k
room_is lines (Some w) k e = ap Some (usable_is lines k w e)
room_is lines None k e = e

-- a usable line isn't known, or is known to be absent
not_present : (lines : LineEntries) (k : Dbkey) → unless_present k (find dbkey_order k lines) ≡ Some k → (find dbkey_order k lines ≡ None) ⊎ (find dbkey_order k lines ≡ Some None)
not_present lines k e = elim (find dbkey_order k lines) as (λ o. unless_present k o ≡ Some k → (o ≡ None) ⊎ (o ≡ Some None)) [
  | None ↦ λ h. inl refl
  | Some what ↦ elim what as (λ o. unless_present k (Some o) ≡ Some k → (Some o ≡ None) ⊎ (Some o ≡ Some None)) [ None ↦ λ h. inr refl | Some image ↦ λ h. absurd (none-some k h) ]
] e

pub agreeing : (h : Held) (all : Lines) → AreRooms h.rooms →
    ((q : Dbkey) (w : Option (List ℕ)) → find dbkey_order q h.lines ≡ Some w → w ≡ line_in q all) →
    ((a : ℕ) (keys : List Dbkey) → find nat_cmp a h.areas ≡ Some keys → keys ≡ keys_of (lines_in a all)) →
    ((r : Room) (k : Dbkey) → find room_order r h.rooms ≡ Some k → find dbkey_order k h.lines ≡ None → line_in k all ≡ None) →
    Agrees (knows h) all
agreeing h all are lines areas free = record {
  line = lines;
  area = areas;
  within = λ r k found. are.within r k (room_is h.lines _ k found);
  free = λ r k found. let is = room_is h.lines _ k found in
      elim (not_present h.lines k (sym (ap (usable h.lines) is) ∙ found)) [
        | inl e ↦ free r k is e
        | inr e ↦ sym (lines k None e)
      ];
  apart = λ a b k p q. are.apart a b k (room_is h.lines _ k p) (room_is h.lines _ k q);
}

-- a room of an unknown line
room_free : (h : Held) (all : Lines) → Agrees (knows h) all → (r : Room) (k : Dbkey) → find room_order r h.rooms ≡ Some k → find dbkey_order k h.lines ≡ None → line_in k all ≡ None
room_free h all agrees r k found unknown = agrees.free r k (ap (usable h.lines) found ∙ ap (unless_present k) unknown)

-- ---- a line

unfound : (q key : Dbkey) (image : Option (List ℕ)) (lines : LineEntries) → find dbkey_order q (put dbkey_order key image lines) ≡ None → (find dbkey_order q lines ≡ None) × (is_eq (dbkey_order q key) ≡ false)
unfound q key image lines none =
    elim (dbkey_order q key) as (λ r. cond (is_eq r) (Some image) (find dbkey_order q lines) ≡ None → (find dbkey_order q lines ≡ None) × (is_eq r ≡ false)) [
      | Less ↦ λ h. (h, refl)
      | Equal ↦ λ h. absurd (none-some image (sym h))
      | Greater ↦ λ h. (h, refl)
    ] (sym (find-put dbkey_order dbkey_total q key image lines) ∙ none)

pub line_agrees : (h : Held) (key : Dbkey) (image : Option (List ℕ)) → AreRooms h.rooms → (all : Lines) → Agrees (knows h) all → image ≡ line_in key all → Agrees (knows (with_line key image h)) all
line_agrees h key image are all agrees is = agreeing (with_line key image h) all are
    (λ q w found. elim (found_behind dbkey_order dbkey_total q key image w h.lines same_dbkey found) [
      | inl e ↦ e.1 ∙ (is ∙ ap (λ k. line_in k all) (sym e.0))
      | inr e ↦ agrees.line q w e
    ])
    agrees.area
    (λ r k found none. room_free h all agrees r k found (unfound k key image h.lines none).0)

-- ---- a room

same_nat : (a b : ℕ) → nat_cmp a b ≡ Equal → a ≡ b
same_nat a b e = ranked a b _ (sym e)

pub room_agrees : (h : Held) (room : Room) (key : Dbkey) → AreRooms (with_room room key h).rooms → (all : Lines) → Agrees (knows h) all → line_in key all ≡ None → Agrees (knows (with_room room key h)) all
room_agrees h room key are all agrees none = agreeing (with_room room key h) all are agrees.line agrees.area
    (λ r k found unknown. elim (found_behind room_order room_total r room key k h.rooms same_room found) [
      | inl e ↦ ap (λ k. line_in k all) e.1 ∙ none
      | inr e ↦ room_free h all agrees r k e unknown
    ])

pub no_room_agrees : (h : Held) (all : Lines) → Agrees (knows h) all → Agrees (knows (without_rooms h)) all
no_room_agrees h all agrees = record {
  line = agrees.line;
  area = agrees.area;
  within = λ r k found. absurd (none-some k found);
  free = λ r k found. absurd (none-some k found);
  apart = λ a b k p q. absurd (none-some k p);
}

-- ---- a write

apart_tie : (a b : ℕ) → (a == b) ≡ false → is_eq (nat_cmp a b) ≡ false
apart_tie a b other = unsigned_tied a b ∙ other

turned : (a b : ℕ) → (a == b) ≡ false → (b == a) ≡ false
turned a b other = elim (eqb_tells b a) [
  | inl e ↦ absurd (eqb-false a b other (sym e.1))
  | inr e ↦ e.0
]

found_set : (area : ℕ) (ks w : List Dbkey) (areas : List (ℕ × List Dbkey)) → find nat_cmp area areas ≡ Some ks → find nat_cmp area (set_value (is_at (nat_cmp area)) areas w) ≡ Some w
found_set area ks w [] found = absurd (none-some ks found)
found_set area ks w (e ∷ es) found =
    elim (is_eq (nat_cmp area e.0)) as (λ b. is_eq (nat_cmp area e.0) ≡ b → cond b (Some e.1) (find nat_cmp area es) ≡ Some ks → find nat_cmp area (cond b ((e.0, w) ∷ es) (e ∷ set_value (is_at (nat_cmp area)) es w)) ≡ Some w) [
      | true ↦ λ p h. ap (λ b. cond b (Some w) (find nat_cmp area es)) p
      | false ↦ λ p h. ap (λ b. cond b (Some e.1) (find nat_cmp area (set_value (is_at (nat_cmp area)) es w))) p ∙ found_set area ks w es h
    ] refl found

found_other : (area a : ℕ) (w : List Dbkey) (areas : List (ℕ × List Dbkey)) → (area == a) ≡ false → find nat_cmp a (set_value (is_at (nat_cmp area)) areas w) ≡ find nat_cmp a areas
found_other area a w [] other = refl
found_other area a w (e ∷ es) other =
    elim (is_eq (nat_cmp area e.0)) as (λ b. is_eq (nat_cmp area e.0) ≡ b → find nat_cmp a (cond b ((e.0, w) ∷ es) (e ∷ set_value (is_at (nat_cmp area)) es w)) ≡ find nat_cmp a (e ∷ es)) [
      | true ↦ λ p. let apart = apart_tie a e.0 (ap (λ n. a == n) (sym (eqb-true area e.0 (sym (unsigned_tied area e.0) ∙ p))) ∙ turned area a other) in
          ap (λ b. cond b (Some w) (find nat_cmp a es)) apart ∙ sym (ap (λ b. cond b (Some e.1) (find nat_cmp a es)) apart)
      | false ↦ λ p. ap (λ o. cond (is_eq (nat_cmp a e.0)) (Some e.1) o) (found_other area a w es other)
    ] refl

area_agrees : (key : Dbkey) (image : Option (List ℕ)) (all : Lines) → is_sorted dbkey_order all ≡ true → (areas : List (ℕ × List Dbkey)) →
    ((a : ℕ) (keys : List Dbkey) → find nat_cmp a areas ≡ Some keys → keys ≡ keys_of (lines_in a all)) →
    (before : Option (List Dbkey)) → find nat_cmp key.area areas ≡ before →
    (a : ℕ) (keys : List Dbkey) → find nat_cmp a (with_written key (is_some image) areas before) ≡ Some keys → keys ≡ keys_of (lines_in a (laid key image all))
area_agrees key image all sorted areas agree before was a keys found = elim (eqb_tells key.area a) [
  | inl e ↦ subst (λ a. keys ≡ keys_of (lines_in a (laid key image all))) e.1 (own before was (ap (λ a. find nat_cmp a (with_written key (is_some image) areas before)) e.1 ∙ found))
  | inr e ↦ agree a keys (others before e.0 found) ∙ sym (ap keys_of (other_area key image a all e.0))
] where
  own : (before : Option (List Dbkey)) → find nat_cmp key.area areas ≡ before → find nat_cmp key.area (with_written key (is_some image) areas before) ≡ Some keys → keys ≡ keys_of (lines_in key.area (laid key image all))
  own None was found = absurd (none-some keys (sym was ∙ found))
  own (Some ks) was found =
      sym (same_Some _ _ (sym (found_set key.area ks (written key (is_some image) ks) areas was) ∙ found))
      ∙ (ap (λ ks. written key (is_some image) ks) (agree key.area ks was) ∙ keys_written key image all sorted)

  others : (before : Option (List Dbkey)) → (key.area == a) ≡ false → find nat_cmp a (with_written key (is_some image) areas before) ≡ Some keys → find nat_cmp a areas ≡ Some keys
  others None other found = found
  others (Some ks) other found = sym (found_other key.area a (written key (is_some image) ks) areas other) ∙ found

pub write_agrees : (h : Held) (key : Dbkey) (image : Option (List ℕ)) → AreRooms h.rooms → (all : Lines) → is_sorted dbkey_order all ≡ true → Agrees (knows h) all → Agrees (knows (with_write key image h)) (laid key image all)
write_agrees h key image are all sorted agrees = agreeing (with_write key image h) (laid key image all) are lines
    (area_agrees key image all sorted h.areas agrees.area (find nat_cmp key.area h.areas) refl)
    (λ r k found none. let was = unfound k key image h.lines none in
    laid_found k key image all ∙ (ap (λ b. cond b image (line_in k all)) was.1 ∙ room_free h all agrees r k found was.0)) where
      lines : (q : Dbkey) (w : Option (List ℕ)) → find dbkey_order q (put dbkey_order key image h.lines) ≡ Some w → w ≡ line_in q (laid key image all)
      lines q w found =
          elim (dbkey_order q key) as (λ r. cond (is_eq r) (Some image) (find dbkey_order q h.lines) ≡ Some w → w ≡ cond (is_eq r) image (line_in q all)) [
            | Less ↦ λ e. agrees.line q w e
            | Equal ↦ λ e. sym (same_Some _ _ e)
            | Greater ↦ λ e. agrees.line q w e
          ] (sym (find-put dbkey_order dbkey_total q key image h.lines) ∙ found) ∙ sym (laid_found q key image all)

-- ---- an area

abbrev pub Found : Lines → Lines → Type 0
Found all es = AllByRecursion (λ (e : Dbkey × List ℕ). line_in e.0 all ≡ Some e.1) es

less : (r : Ordering) → is_lt r ≡ true → r ≡ Less
less Less e = refl
less Equal e = absurd (cc)
less Greater e = absurd (cc)

found_on : (e : Dbkey × List ℕ) (all es : Lines) → below_all dbkey_order e.0 es ≡ true → Found all es → Found (e ∷ all) es
found_on e all [] below found = tt
found_on e all (x ∷ xs) below found =
    let parts = and_parts _ _ below in
    (ap (λ r. cond (is_eq r) (Some e.1) (line_in x.0 all)) (dbkey_total.antisymm x.0 e.0 ∙ ap ordering_reverse (less _ parts.0)) ∙ found.0, found_on e all xs parts.1 found.1)

pub found_all : (all : Lines) → is_sorted dbkey_order all ≡ true → Found all all
found_all [] sorted = tt
found_all (e ∷ es) sorted =
    let parts = and_parts _ _ sorted in
    (ap (λ r. cond (is_eq r) (Some e.1) (line_in e.0 es)) (tied_itself dbkey_total e.0), found_on e es es parts.0 (found_all es parts.1))

pub found_some : (all es : Lines) (p : Dbkey × List ℕ → Bool) → Found all es → Found all (filter p es)
found_some all [] p found = tt
found_some all (e ∷ es) p found = elim (p e) as (λ b. Found all (cond b (e ∷ filter p es) (filter p es))) [
  | true ↦ (found.0, found_some all es p found.1)
  | false ↦ found_some all es p found.1
]

pub found_in_area : (all : Lines) (area : ℕ) (es : Lines) → is_sorted dbkey_order all ≡ true → es ≡ lines_in area all → Found all es
found_in_area all area es sorted is = subst (λ l. Found all l) (sym is) (found_some all all (λ e. e.0.area == area) (found_all all sorted))

-- the line at this place
pub found_at : (all : Lines) (lines : List PresentLine) (i : ℕ) (line : PresentLine) → i < length lines → line ≡ get_or lines i line → Found all (map entry_of lines) → Some line.image ≡ line_in line.key all
found_at all [] i line inside is found = absurd (omega (arith, inside))
found_at all (x ∷ xs) zero line inside is found = sym (subst (λ (l : PresentLine). line_in l.key all ≡ Some l.image) (sym is) found.0)
found_at all (x ∷ xs) (suc i) line inside is found = found_at all xs i line (omega (arith, inside)) is found.1

lines_agree : (es : Lines) (h : Held) → AreRooms h.rooms → (all : Lines) → Agrees (knows h) all → Found all es → Agrees (knows (with_lines es h)) all
lines_agree [] h are all agrees found = agrees
lines_agree (e ∷ es) h are all agrees found = lines_agree es (with_line e.0 (Some e.1) h) are all (line_agrees h e.0 (Some e.1) are all agrees (sym found.0)) found.1

pub same_rooms : (es : Lines) (h : Held) → (with_lines es h).rooms ≡ h.rooms
same_rooms [] h = refl
same_rooms (e ∷ es) h = same_rooms es (with_line e.0 (Some e.1) h)

-- the keys are all below
abbrev AreBelow : List Dbkey → Dbkey → Type 0
AreBelow ks k = AllByRecursion (λ x. dbkey_order x k ≡ Less) ks

last_key : (ks : List Dbkey) (k : Dbkey) → AreBelow ks k → insert_key dbkey_order ks k ≡ ks ++ k ∷ []
last_key [] k below = refl
last_key (x ∷ xs) k below =
    ap (λ r. match_ordering r (k ∷ x ∷ xs) (x ∷ xs) (x ∷ insert_key dbkey_order xs k)) (dbkey_total.antisymm k x ∙ ap ordering_reverse below.0) ∙ ap (λ l. x ∷ l) (last_key xs k below.1)

below_more : (ks : List Dbkey) (k q : Dbkey) → AreBelow ks q → dbkey_order k q ≡ Less → AreBelow (ks ++ k ∷ []) q
below_more [] k q below low = (low, tt)
below_more (x ∷ xs) k q below low = (below.0, below_more xs k q below.1 low)

all_more : (ks : List Dbkey) (k : Dbkey) (es : Lines) → below_all dbkey_order k es ≡ true → AllByRecursion (λ (e : Dbkey × List ℕ). AreBelow ks e.0) es → AllByRecursion (λ (e : Dbkey × List ℕ). AreBelow (ks ++ k ∷ []) e.0) es
all_more ks k [] below are = tt
all_more ks k (e ∷ es) below are =
    let parts = and_parts _ _ below in
    (below_more ks k e.0 are.0 (less _ parts.0), all_more ks k es parts.1 are.1)

in_order : (ks : List Dbkey) (es : Lines) → is_sorted dbkey_order es ≡ true → AllByRecursion (λ (e : Dbkey × List ℕ). AreBelow ks e.0) es → ordered_from ks (keys_of es) ≡ ks ++ keys_of es
in_order ks [] sorted below = sym (append-nil ks)
in_order ks (e ∷ es) sorted below =
    let parts = and_parts _ _ sorted in
    ap (λ l. ordered_from l (keys_of es)) (last_key ks e.0 below.0) ∙ (in_order (ks ++ e.0 ∷ []) es parts.1 (all_more ks e.0 es parts.0 below.1) ∙ append_assoc ks (e.0 ∷ []) (keys_of es))

none_below : (es : Lines) → AllByRecursion (λ (e : Dbkey × List ℕ). AreBelow [] e.0) es
none_below [] = tt
none_below (e ∷ es) = (tt, none_below es)

true_from_T : (b : Bool) → T b → b ≡ true
true_from_T true h = refl
true_from_T false h = absurd h

sorted_part : (area : ℕ) (all : Lines) → is_sorted dbkey_order all ≡ true → is_sorted dbkey_order (lines_in area all) ≡ true
sorted_part area all sorted = true_from_T _ (is_sorted-where_key dbkey_order (λ k. k.area == area) all (subst T (sym sorted) tt))

pub area_known : (h : Held) (area : ℕ) (es : Lines) → AreRooms h.rooms → (all : Lines) → is_sorted dbkey_order all ≡ true → Agrees (knows h) all → es ≡ lines_in area all → Agrees (knows (with_area area es h)) all
area_known h area es are all sorted agrees is = agreeing (with_area area es h) all are' known.line areas (room_free (with_lines es h) all known) where
  are' : AreRooms (with_lines es h).rooms
  are' = subst AreRooms (sym (same_rooms es h)) are

  known : Agrees (knows (with_lines es h)) all
  known = lines_agree es h are all agrees (found_in_area all area es sorted is)

  keys_are : ordered (keys_of es) ≡ keys_of (lines_in area all)
  keys_are = ap (λ l. ordered (keys_of l)) is ∙ in_order [] (lines_in area all) (sorted_part area all sorted) (none_below (lines_in area all))

  areas : (a : ℕ) (keys : List Dbkey) → find nat_cmp a (put nat_cmp area (ordered (keys_of es)) (with_lines es h).areas) ≡ Some keys → keys ≡ keys_of (lines_in a all)
  areas a keys found = elim (found_behind nat_cmp nat_cmp_total a area (ordered (keys_of es)) keys (with_lines es h).areas same_nat found) [
    | inl e ↦ e.1 ∙ (keys_are ∙ ap (λ a. keys_of (lines_in a all)) (sym e.0))
    | inr e ↦ known.area a keys e
  ]
