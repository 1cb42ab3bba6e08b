-- Which slots are free by an order in which the used ones stand first.
use Rattle.std.proofs.Common.{ℕ, zero, suc, ◌≡◌, ◌≢◌, ◌≤◌, ◌<◌, ◌+◌, ◌-◌, ◌∙◌, ◌⊎◌, List, [], ◌∷◌, length, arith, inl, inr, ⊎_elim, refl, sym, ap, nat_lt, nat_eq, true, false, Bool, slice_index, slice_index_or, slice_set}
use Rattle.std.proofs.lemmas.Bool.Decides.{nat_tests}
use Rattle.std.proofs.lemmas.Grind.{get_or_default_zero}
use Rattle.std.proofs.lemmas.List.{length-set, get_or_past, get_or-set_same, get_or-set_other}
use Rattle.snapshot_file.specs.Slots.{is_free, slots_in, Takes, Gives, IsOrder}

is_or_apart : (i j : ℕ) → (i ≡ j) ⊎ (i ≢ j)
is_or_apart i j = by_test (nat_eq i j) refl
  where
    by_test : (b : Bool) → nat_eq i j ≡ b → (i ≡ j) ⊎ (i ≢ j)
    by_test true is = inl (grind (arith, nat_tests))
    by_test false is = inr (grind (arith, nat_tests))

less_or_not : (i j : ℕ) → (i < j) ⊎ (j ≤ i)
less_or_not i j = by_test (nat_lt i j) refl
  where
    by_test : (b : Bool) → nat_lt i j ≡ b → (i < j) ⊎ (j ≤ i)
    by_test true is = inl (grind (arith, nat_tests))
    by_test false is = inr (grind (arith, nat_tests))

pub lt_yes : (i j : ℕ) → i < j → nat_lt i j ≡ true
lt_yes i j less = grind (arith, nat_tests)

lt_no : (i j : ℕ) → j ≤ i → nat_lt i j ≡ false
lt_no i j not = grind (arith, nat_tests)

pub from_no : (i j : ℕ) → nat_lt i j ≡ false → j ≤ i
from_no i j is = grind (arith, nat_tests)

-- one more that is used makes a difference at one place alone
step : (used place : ℕ) → place ≢ used + 1 → nat_lt (used + 1) place ≡ nat_lt used place
step used place apart =
    ⊎_elim
    (λ (less : used < place). lt_yes (used + 1) place (omega (arith, less, apart)) ∙ sym (lt_yes used place less))
    (λ (more : place ≤ used). lt_no (used + 1) place (omega (arith, more)) ∙ sym (lt_no used place more))
    (less_or_not used place)

flag : (places : List ℕ) (used k : ℕ) → slice_index_or (slots_in places used) k false ≡ nat_lt used (slice_index places k)
flag [] used k = sym (lt_no used 0 (omega arith))
flag (p ∷ places) used zero = refl
flag (p ∷ places) used (suc k) = flag places used k

pub is_free_at : (places : List ℕ) (used slot : ℕ) → 1 ≤ slot → is_free (slots_in places used) slot ≡ nat_lt used (slice_index places (slot - 1))
is_free_at places used zero some = absurd (omega (arith, some))
is_free_at places used (suc k) some = flag places used k ∙ ap (λ j. nat_lt used (slice_index places j)) (let same : k ≡ suc k - 1 = omega arith in same)

flags_size : (places : List ℕ) (used : ℕ) → length (slots_in places used) ≡ length places
flags_size [] used = refl
flags_size (p ∷ places) used = ap (λ n. suc n) (flags_size places used)

place_bound : (order places : List ℕ) (used k : ℕ) → IsOrder order places used → slice_index places k ≤ length order
place_bound order places used k is =
    ⊎_elim
    (λ (less : k < length order). (is.back k less).1)
    (λ (past : length order ≤ k). let none : slice_index places k ≡ 0 = get_or_past places k 0 (omega (arith, past, is.same)) in omega (arith, none))
    (less_or_not k (length order))

-- the slot at a place
placed : (order places : List ℕ) (used k i : ℕ) → IsOrder order places used → slice_index places k ≡ i + 1 → slice_index order i ≡ k + 1
placed order places used k i is there =
    ⊎_elim
    (λ (less : k < length order). ap (λ j. slice_index order j) (let same : i ≡ slice_index places k - 1 = omega (arith, there) in same) ∙ (is.back k less).2)
    (λ (past : length order ≤ k). let none : slice_index places k ≡ 0 = get_or_past places k 0 (omega (arith, past, is.same)) in absurd (omega (arith, none, there)))
    (less_or_not k (length order))

untouched : (order places : List ℕ) (used slot other : ℕ) → IsOrder order places used → slice_index order used ≡ slot → other ≢ slot → is_free (slots_in places (used + 1)) other ≡ is_free (slots_in places used) other
untouched order places used slot zero is here apart = refl
untouched order places used slot (suc k) is here apart =
    flag places (used + 1) k
    ∙ step used (slice_index places k) (λ (there : slice_index places k ≡ used + 1). let at = placed order places used k used is there in apart (omega (arith, at, here)))
    ∙ sym (flag places used k)

pub takes : (order places : List ℕ) (used slot : ℕ) → IsOrder order places used → used < length order → slice_index order used ≡ slot → Takes (slots_in places used) (slots_in places (used + 1)) slot
takes order places used slot is less here =
    let own = is.slots used less in
    let first : 1 ≤ slot = omega (arith, here, own.0) in
    let there : slice_index places (slot - 1) ≡ used + 1 = ap (λ x. slice_index places (x - 1)) (sym here) ∙ own.2 in
    record {
      within = (first, omega (arith, here, own.1, is.same, flags_size places used));
      was_free = is_free_at places used slot first ∙ lt_yes used (slice_index places (slot - 1)) (omega (arith, there));
      is_used = is_free_at places (used + 1) slot first ∙ lt_no (used + 1) (slice_index places (slot - 1)) (omega (arith, there));
      others = λ other apart. untouched order places used slot other is here apart;
      limit = flags_size places (used + 1) ∙ sym (flags_size places used);
    }

pub none_free : (order places : List ℕ) (used slot : ℕ) → IsOrder order places used → used ≡ length order → is_free (slots_in places used) slot ≡ false
none_free order places used zero is full = refl
none_free order places used (suc k) is full = flag places used k ∙ lt_no used (slice_index places k) (omega (arith, full, place_bound order places used k is))

pub more : (order places : List ℕ) (used : ℕ) → IsOrder order places used → used < length order → IsOrder order places (used + 1)
more order places used is less = record { same = is.same; within = omega (arith, less); fits = is.fits; slots = is.slots; back = is.back }

-- two writes
size_two : (xs : List ℕ) (a b v w : ℕ) → length (slice_set (slice_set xs a v) b w) ≡ length xs
size_two xs a b v w = length-set (slice_set xs a v) b w ∙ length-set xs a v

second : (xs : List ℕ) (a b v w : ℕ) → b < length xs → slice_index (slice_set (slice_set xs a v) b w) b ≡ w
second xs a b v w inside = get_or-set_same (slice_set xs a v) b w 0 (omega (arith, inside, length-set xs a v))

first_of_two : (xs : List ℕ) (a b v w : ℕ) → a < length xs → a ≢ b → slice_index (slice_set (slice_set xs a v) b w) a ≡ v
first_of_two xs a b v w inside apart = get_or-set_other (slice_set xs a v) b a w 0 apart ∙ get_or-set_same xs a v 0 inside

neither : (xs : List ℕ) (a b v w k : ℕ) → k ≢ a → k ≢ b → slice_index (slice_set (slice_set xs a v) b w) k ≡ slice_index xs k
neither xs a b v w k beside apart = get_or-set_other (slice_set xs a v) b k w 0 apart ∙ get_or-set_other xs a k v 0 beside

abbrev Holds : List ℕ → List ℕ → ℕ → ℕ → Type 0
Holds xs ys n i = (1 ≤ slice_index xs i) × (slice_index xs i ≤ n) × (slice_index ys (slice_index xs i - 1) ≡ i + 1)

holds : (xs ys : List ℕ) (n i x : ℕ) → slice_index xs i ≡ x → 1 ≤ x → x ≤ n → slice_index ys (x - 1) ≡ i + 1 → Holds xs ys n i
holds xs ys n i x is low high there = (omega (arith, is, low), omega (arith, is, high), ap (λ y. slice_index ys (y - 1)) is ∙ there)

-- what stands at two places is exchanged, and so is what says where it stands
pub record Exchange (xs ys : List ℕ) (a b v w from to n : ℕ) : Type 0 where
  pub xs_size : length xs ≡ n
  pub ys_size : length ys ≡ n
  pub a_in : a < n
  pub b_in : b < n
  pub v_in : (1 ≤ v) × (v ≤ n)
  pub w_in : (1 ≤ w) × (w ≤ n)
  pub at_a : slice_index xs a ≡ w
  pub at_b : slice_index xs b ≡ v
  pub at_v : slice_index ys (v - 1) ≡ to
  pub at_w : slice_index ys (w - 1) ≡ from
  pub is_a : from ≡ a + 1
  pub is_b : to ≡ b + 1

pub exchanged : (xs ys : List ℕ) (a b v w from to n i : ℕ) → Exchange xs ys a b v w from to n → Holds xs ys n i → i < n → Holds (slice_set (slice_set xs a v) b w) (slice_set (slice_set ys (v - 1) from) (w - 1) to) n i
exchanged xs ys a b v w from to n i e was inside =
    let xs' = slice_set (slice_set xs a v) b w in
    let ys' = slice_set (slice_set ys (v - 1) from) (w - 1) to in
    let v_in = e.v_in in let w_in = e.w_in in
    let is_a = e.is_a in let is_b = e.is_b in
    let at_v = e.at_v in let at_w = e.at_w in
    ⊎_elim
    (λ (same : i ≡ b).
    holds xs' ys' n i w
    (ap (λ j. slice_index xs' j) same ∙ second xs a b v w (omega (arith, e.b_in, e.xs_size))) w_in.0 w_in.1
    (second ys (v - 1) (w - 1) from to (omega (arith, w_in.0, w_in.1, e.ys_size)) ∙ (let end : to ≡ i + 1 = omega (arith, is_b, same) in end)))
    (λ (apart : i ≢ b).
    ⊎_elim
    (λ (same : i ≡ a).
    let beside : v - 1 ≢ w - 1 = λ (equal : v - 1 ≡ w - 1). let both : to ≡ from = sym at_v ∙ ap (λ j. slice_index ys j) equal ∙ at_w in apart (omega (arith, both, is_a, is_b, same)) in
    holds xs' ys' n i v
    (ap (λ j. slice_index xs' j) same ∙ first_of_two xs a b v w (omega (arith, e.a_in, e.xs_size)) (λ (equal : a ≡ b). apart (same ∙ equal))) v_in.0 v_in.1
    (first_of_two ys (v - 1) (w - 1) from to (omega (arith, v_in.0, v_in.1, e.ys_size)) beside ∙ (let end : from ≡ i + 1 = omega (arith, is_a, same) in end)))
    (λ (away : i ≢ a).
    let x = slice_index xs i in
    let there = was.2 in
    let not_v : x - 1 ≢ v - 1 = λ (equal : x - 1 ≡ v - 1). let both : to ≡ i + 1 = sym at_v ∙ ap (λ j. slice_index ys j) (sym equal) ∙ there in apart (omega (arith, both, is_b)) in
    let not_w : x - 1 ≢ w - 1 = λ (equal : x - 1 ≡ w - 1). let both : from ≡ i + 1 = sym at_w ∙ ap (λ j. slice_index ys j) (sym equal) ∙ there in away (omega (arith, both, is_a)) in
    holds xs' ys' n i x (neither xs a b v w i away apart) was.0 was.1 (neither ys (v - 1) (w - 1) from to (x - 1) not_v not_w ∙ there))
    (is_or_apart i a))
    (is_or_apart i b)

-- a used slot, its place, and the last of the used ones
pub record Returns (order places : List ℕ) (used slot place last : ℕ) : Type 0 where
  pub is : IsOrder order places used
  pub first : 1 ≤ slot
  pub within : slot ≤ length order
  pub at_slot : slice_index places (slot - 1) ≡ place
  pub is_used : place ≤ used
  pub at_end : slice_index order (used - 1) ≡ last

pub exchange : (order places : List ℕ) (used slot place last : ℕ) → Returns order places used slot place last → Exchange order places (place - 1) (used - 1) last slot place used (length order)
exchange order places used slot place last r =
    let is = r.is in let first = r.first in let within = r.within in let is_used = r.is_used in let bound = is.within in
    let own = is.back (slot - 1) (omega (arith, first, within)) in
    let at_slot = r.at_slot in let at_end = r.at_end in
    let low : 1 ≤ place = omega (arith, own.0, at_slot) in
    let end = is.slots (used - 1) (omega (arith, low, is_used, bound)) in
    record {
      xs_size = refl;
      ys_size = is.same;
      a_in = omega (arith, low, is_used, bound);
      b_in = omega (arith, low, is_used, bound);
      v_in = (omega (arith, end.0, at_end), omega (arith, end.1, at_end));
      w_in = (first, within);
      at_a = ap (λ x. slice_index order (x - 1)) (sym at_slot) ∙ own.2 ∙ (let same : slot - 1 + 1 ≡ slot = omega (arith, first) in same);
      at_b = at_end;
      at_v = ap (λ x. slice_index places (x - 1)) (sym at_end) ∙ end.2 ∙ (let same : used - 1 + 1 ≡ used = omega (arith, low, is_used) in same);
      at_w = at_slot;
      is_a = omega (arith, low);
      is_b = omega (arith, low, is_used);
    }

pub mirrored : (xs ys : List ℕ) (a b v w from to n : ℕ) → Exchange xs ys a b v w from to n → Exchange ys xs (v - 1) (w - 1) from to v w n
mirrored xs ys a b v w from to n e =
    let v_in = e.v_in in let w_in = e.w_in in let is_a = e.is_a in let is_b = e.is_b in let a_in = e.a_in in let b_in = e.b_in in
    record {
      xs_size = e.ys_size;
      ys_size = e.xs_size;
      a_in = omega (arith, v_in.0, v_in.1);
      b_in = omega (arith, w_in.0, w_in.1);
      v_in = (omega (arith, is_a), omega (arith, is_a, a_in));
      w_in = (omega (arith, is_b), omega (arith, is_b, b_in));
      at_a = e.at_v;
      at_b = e.at_w;
      at_v = ap (λ j. slice_index xs j) (let same : from - 1 ≡ a = omega (arith, is_a) in same) ∙ e.at_a;
      at_w = ap (λ j. slice_index xs j) (let same : to - 1 ≡ b = omega (arith, is_b) in same) ∙ e.at_b;
      is_a = omega (arith, v_in.0);
      is_b = omega (arith, w_in.0);
    }

mirrored_back : (order places : List ℕ) (used slot place last k : ℕ) → Exchange order places (place - 1) (used - 1) last slot place used (length order) → Holds places order (length order) k → k < length order
    → Holds (slice_set (slice_set places (last - 1) place) (slot - 1) used) (slice_set (slice_set order (place - 1) last) (used - 1) slot) (length order) k
mirrored_back order places used slot place last k e was inside =
    exchanged places order (last - 1) (slot - 1) place used last slot (length order) k (mirrored order places (place - 1) (used - 1) last slot place used (length order) e) was inside

pub returned_order : (order places : List ℕ) (used slot place last : ℕ) → Returns order places used slot place last
    → IsOrder (slice_set (slice_set order (place - 1) last) (used - 1) slot) (slice_set (slice_set places (last - 1) place) (slot - 1) used) (used - 1)
returned_order order places used slot place last r =
    let e = exchange order places used slot place last r in
    let n = length order in
    let order' = slice_set (slice_set order (place - 1) last) (used - 1) slot in
    let places' = slice_set (slice_set places (last - 1) place) (slot - 1) used in
    let size : length order' ≡ n = size_two order (place - 1) (used - 1) last slot in
    let same : length places' ≡ length places = size_two places (last - 1) (slot - 1) place used in
    let is = r.is in let bound = is.within in let fits = is.fits in let sizes = is.same in
    record {
      same = same ∙ sizes ∙ sym size;
      within = omega (arith, size, bound);
      fits = omega (arith, size, fits);
      slots = λ i inside.
          let here : i < n = omega (arith, size, inside) in
          let made = exchanged order places (place - 1) (used - 1) last slot place used n i e (is.slots i here) here in
          (made.0, omega (arith, size, made.1), made.2);
      back = λ k inside.
          let here : k < n = omega (arith, size, inside) in
          let made = mirrored_back order places used slot place last k e (is.back k here) here in
          (made.0, omega (arith, size, made.1), made.2);
    }

-- one less that is used makes a difference at one place alone
step_back : (used place : ℕ) → 1 ≤ used → place ≢ used → nat_lt (used - 1) place ≡ nat_lt used place
step_back used place some apart =
    ⊎_elim
    (λ (less : used < place). lt_yes (used - 1) place (omega (arith, less)) ∙ sym (lt_yes used place less))
    (λ (more : place ≤ used). lt_no (used - 1) place (omega (arith, more, apart)) ∙ sym (lt_no used place more))
    (less_or_not used place)

beside_returned : (order places : List ℕ) (used slot place last other : ℕ) → Returns order places used slot place last → other ≢ slot
    → is_free (slots_in (slice_set (slice_set places (last - 1) place) (slot - 1) used) (used - 1)) other ≡ is_free (slots_in places used) other
beside_returned order places used slot place last zero r apart = refl
beside_returned order places used slot place last (suc k) r apart =
    let e = exchange order places used slot place last r in
    let places' = slice_set (slice_set places (last - 1) place) (slot - 1) used in
    let first = r.first in let low = e.is_a in let some = e.is_b in let v_in = e.v_in in let is_used = r.is_used in
    let away : k ≢ slot - 1 = λ (equal : k ≡ slot - 1). apart (omega (arith, equal, first)) in
    let tests : nat_lt (used - 1) (slice_index places' k) ≡ nat_lt used (slice_index places k) =
    ⊎_elim
    (λ (same : k ≡ last - 1).
    let new : slice_index places' k ≡ place = ap (λ j. slice_index places' j) same ∙ first_of_two places (last - 1) (slot - 1) place used (omega (arith, v_in.0, v_in.1, e.ys_size)) (λ (equal : last - 1 ≡ slot - 1). away (same ∙ equal)) in
    let old : slice_index places k ≡ used = ap (λ j. slice_index places j) same ∙ e.at_v in
    let below : place ≢ used = λ (equal : place ≡ used). let both : slot ≡ last = sym e.at_a ∙ ap (λ j. slice_index order (j - 1)) equal ∙ e.at_b in away (omega (arith, same, both)) in
    lt_no (used - 1) (slice_index places' k) (omega (arith, new, below, is_used)) ∙ sym (lt_no used (slice_index places k) (omega (arith, old))))
    (λ (beside : k ≢ last - 1).
    let same : slice_index places' k ≡ slice_index places k = neither places (last - 1) (slot - 1) place used k beside away in
    let not_end : slice_index places k ≢ used = λ (equal : slice_index places k ≡ used).
    let at = placed order places used k (used - 1) r.is (equal ∙ some) in
    beside (omega (arith, at, e.at_b, v_in.0)) in
    ap (λ x. nat_lt (used - 1) x) same ∙ step_back used (slice_index places k) (omega (arith, some)) not_end)
    (is_or_apart k (last - 1)) in
    flag places' (used - 1) k ∙ tests ∙ sym (flag places used k)

pub gives : (order places : List ℕ) (used slot place last : ℕ) → Returns order places used slot place last → Gives (slots_in places used) (slots_in (slice_set (slice_set places (last - 1) place) (slot - 1) used) (used - 1)) slot
gives order places used slot place last r =
    let e = exchange order places used slot place last r in
    let places' = slice_set (slice_set places (last - 1) place) (slot - 1) used in
    let first = r.first in let within = r.within in let some = e.is_b in
    let new : slice_index places' (slot - 1) ≡ used = second places (last - 1) (slot - 1) place used (omega (arith, first, within, e.ys_size)) in
    record {
      returned = is_free_at places' (used - 1) slot first ∙ lt_yes (used - 1) (slice_index places' (slot - 1)) (omega (arith, new, some));
      others = λ other apart. beside_returned order places used slot place last other r apart;
      limit = flags_size places' (used - 1) ∙ size_two places (last - 1) (slot - 1) place used ∙ sym (flags_size places used);
    }

-- the order where a used slot is given back
pub some_used : (order places : List ℕ) (used slot : ℕ) (now : List Bool) → IsOrder order places used → slots_in places used ≡ now → 1 ≤ slot → slot ≤ length now → is_free now slot ≡ false
    → (slot ≤ length order) × (1 ≤ slice_index places (slot - 1)) × (slice_index places (slot - 1) ≤ used)
some_used order places used slot now is view first last used_so =
    let within : slot ≤ length order = omega (arith, last, ap length view, flags_size places used, is.same) in
    let own = is.back (slot - 1) (omega (arith, first, within)) in
    (within, own.0, from_no used (slice_index places (slot - 1)) (sym (is_free_at places used slot first) ∙ ap (λ v. is_free v slot) view ∙ used_so))

pub returning : (order places : List ℕ) (used slot place last : ℕ) (now : List Bool) → IsOrder order places used → slots_in places used ≡ now → 1 ≤ slot → slot ≤ length now → is_free now slot ≡ false
    → place ≡ slice_index_or places (slot - 1) place → last ≡ slice_index_or order (used - 1) last → Returns order places used slot place last
returning order places used slot place last now is view first within used_so at_slot at_end =
    let s = some_used order places used slot now is view first within used_so in
    let bound = is.within in
    let there : slice_index places (slot - 1) ≡ place = sym (at_slot ∙ get_or_default_zero places (slot - 1) place (omega (arith, first, s.0, is.same))) in
    record {
      is = is;
      first = first;
      within = s.0;
      at_slot = there;
      is_used = omega (arith, s.2, there);
      at_end = sym (at_end ∙ get_or_default_zero order (used - 1) last (omega (arith, s.1, s.2, bound)));
    }
