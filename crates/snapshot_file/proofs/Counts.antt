-- How many slots are free.
use Rattle.std.proofs.Common.{◌≡◌, ◌≢◌, ◌≤◌, ◌<◌, ◌+◌, ◌-◌, ℕ, zero, suc, Bool, true, false, cond, List, [], ◌∷◌, map, length, refl, sym, ◌∙◌, ap, arith}
use Rattle.std.specs.Prelude.{nat_lt, slice_index, slice_index_or}
use Rattle.snapshot_file.specs.Slots.{IsOrder, is_free, left_in, slots_in, Takes, Gives}

abbrev above : ℕ → List ℕ → ℕ
above u [] = 0
above u (x ∷ xs) = cond (nat_lt u x) (suc (above u xs)) (above u xs)

in_map : (u : ℕ) (xs : List ℕ) → left_in (map (λ n. nat_lt u n) xs) ≡ above u xs
in_map u [] = refl
in_map u (x ∷ xs) = ap (λ n. cond (nat_lt u x) (suc n) n) (in_map u xs)

none_above : (u : ℕ) (xs : List ℕ) → ((i : ℕ) → i < length xs → slice_index xs i ≤ u) → above u xs ≡ 0
none_above u [] low = refl
none_above u (x ∷ xs) low =
    let here : nat_lt u x ≡ false = no u x (low 0 (omega arith)) in
    let rest = none_above u xs (λ i h. low (suc i) (omega (arith, h))) in
    ap (λ b. cond b (suc (above u xs)) (above u xs)) here ∙ rest
  where
    no : (u x : ℕ) → x ≤ u → nat_lt u x ≡ false
    no u x h = grind arith

same_above : (u : ℕ) (xs : List ℕ) → ((i : ℕ) → i < length xs → slice_index xs i ≢ u + 1) → above u xs ≡ above (u + 1) xs
same_above u [] apart = refl
same_above u (x ∷ xs) apart =
    let here : nat_lt u x ≡ nat_lt (u + 1) x = as_far u x (apart 0 (omega arith)) in
    let rest = same_above u xs (λ i h. apart (suc i) (omega (arith, h))) in
    λ i. cond (here i) (suc (rest i)) (rest i)
  where
    as_far : (u x : ℕ) → x ≢ u + 1 → nat_lt u x ≡ nat_lt (u + 1) x
    as_far u x h = grind arith

one_less : (u : ℕ) (xs : List ℕ) (k : ℕ) → k < length xs → slice_index xs k ≡ u + 1 → ((i : ℕ) → i < length xs → slice_index xs i ≡ u + 1 → i ≡ k) → above u xs ≡ above (u + 1) xs + 1
one_less u [] k there is only = absurd (omega (arith, there))
one_less u (x ∷ xs) zero there is only =
    let a : nat_lt u x ≡ true = first u x is in
    let b : nat_lt (u + 1) x ≡ false = second u x is in
    let rest : above u xs ≡ above (u + 1) xs = same_above u xs (λ i h bad. let z : suc i ≡ 0 = only (suc i) (omega (arith, h)) bad in omega (arith, z)) in
    let m : ℕ = above u xs in
    let n : ℕ = above (u + 1) xs in
    ap (λ t. cond t (suc m) m) a ∙ (more m n rest ∙ ap (λ t. cond t (suc n) n + 1) (sym b))
  where
    first : (u x : ℕ) → x ≡ u + 1 → nat_lt u x ≡ true
    first u x h = grind arith

    second : (u x : ℕ) → x ≡ u + 1 → nat_lt (u + 1) x ≡ false
    second u x h = grind arith

    more : (m n : ℕ) → m ≡ n → suc m ≡ n + 1
    more m n h = omega arith
one_less u (x ∷ xs) (suc k) there is only =
    let here : nat_lt u x ≡ nat_lt (u + 1) x = as_far u x (λ bad. let z : 0 ≡ suc k = only 0 (omega arith) bad in omega (arith, z)) in
    let rest = one_less u xs k (omega (arith, there)) is (λ i h same. let z : suc i ≡ suc k = only (suc i) (omega (arith, h)) same in omega (arith, z)) in
    let m : ℕ = above u xs in
    let n : ℕ = above (u + 1) xs in
    ap (λ t. cond t (suc m) m) here ∙ both (nat_lt (u + 1) x) m n rest
  where
    both : (b : Bool) (m n : ℕ) → m ≡ n + 1 → cond b (suc m) m ≡ cond b (suc n) n + 1
    both true m n h = omega arith
    both false m n h = h

    as_far : (u x : ℕ) → x ≢ u + 1 → nat_lt u x ≡ nat_lt (u + 1) x
    as_far u x h = grind arith

module _ (order places : List ℕ) (used : ℕ) (is : IsOrder order places used) where
  left_of : (d u : ℕ) → u + d ≡ length order → above u places ≡ d
  left_of zero u all = none_above u places (λ i h. let n : i < length order = omega (arith, h, is.same) in let b = (is.back i n).1 in omega (arith, b, all))
  left_of (suc d) u all =
      let n : u < length order = omega (arith, all) in
      let s = is.slots u n in
      let low : 1 ≤ slice_index order u = s.0 in
      let high : slice_index order u ≤ length order = s.1 in
      let k : slice_index order u - 1 < length places = omega (arith, low, high, is.same) in
      let rest = left_of d (u + 1) (omega (arith, all)) in
      one_less u places (slice_index order u - 1) k s.2
      (λ i h same.
      let m : i < length order = omega (arith, h, is.same) in
      let b = (is.back i m).2 in
      let at : slice_index places i - 1 ≡ u = omega (arith, same) in
      let o : slice_index order u ≡ i + 1 = sym (ap (λ j. slice_index order j) at) ∙ b in
      omega (arith, o))
      ∙ (ap (λ t. t + 1) rest ∙ plus d)
    where
      plus : (d : ℕ) → d + 1 ≡ suc d
      plus d = omega arith

  pub left_is : left_in (slots_in places used) ≡ length order - used
  left_is = in_map used places ∙ left_of (length order - used) used (let w = is.within in omega (arith, w))

-- ---- one slot more or less

pub none_left : (xs : List Bool) → ((slot : ℕ) → is_free xs slot ≡ false) → left_in xs ≡ 0
none_left [] none = refl
none_left (x ∷ xs) none = ap (λ b. cond b (suc (left_in xs)) (left_in xs)) (none 1) ∙ none_left xs rest
  where
    rest : (slot : ℕ) → is_free xs slot ≡ false
    rest zero = refl
    rest (suc k) = none (suc (suc k))

same_left : (old new : List Bool) → length new ≡ length old → ((i : ℕ) → slice_index_or new i false ≡ slice_index_or old i false) → left_in new ≡ left_in old
same_left [] [] long same = refl
same_left [] (y ∷ ys) long same = absurd (omega (arith, long))
same_left (x ∷ xs) [] long same = absurd (omega (arith, long))
same_left (x ∷ xs) (y ∷ ys) long same =
    let rest = same_left xs ys (omega (arith, long)) (λ i. same (suc i)) in
    let here : y ≡ x = same 0 in
    λ i. cond (here i) (suc (rest i)) (rest i)

one_left_less : (old new : List Bool) (k : ℕ) → k < length old → length new ≡ length old → slice_index_or old k false ≡ true → slice_index_or new k false ≡ false →
    ((i : ℕ) → i ≢ k → slice_index_or new i false ≡ slice_index_or old i false) → left_in old ≡ left_in new + 1
one_left_less [] new k there long was now others = absurd (omega (arith, there))
one_left_less (x ∷ xs) [] k there long was now others = absurd (omega (arith, long))
one_left_less (x ∷ xs) (y ∷ ys) zero there long was now others =
    let rest : left_in ys ≡ left_in xs = same_left xs ys (omega (arith, long)) (λ i. others (suc i) (λ bad. omega (arith, bad))) in
    ap (λ b. cond b (suc (left_in xs)) (left_in xs)) was ∙ (more (left_in xs) (left_in ys) rest ∙ ap (λ b. cond b (suc (left_in ys)) (left_in ys) + 1) (sym now))
  where
    more : (m n : ℕ) → n ≡ m → suc m ≡ n + 1
    more m n h = omega arith
one_left_less (x ∷ xs) (y ∷ ys) (suc k) there long was now others =
    let rest = one_left_less xs ys k (omega (arith, there)) (omega (arith, long)) was now (λ i apart. others (suc i) (λ bad. apart (omega (arith, bad)))) in
    let here : y ≡ x = others 0 (λ bad. omega (arith, bad)) in
    both x (left_in xs) (left_in ys) rest ∙ ap (λ b. cond b (suc (left_in ys)) (left_in ys) + 1) (sym here)
  where
    both : (b : Bool) (m n : ℕ) → m ≡ n + 1 → cond b (suc m) m ≡ cond b (suc n) n + 1
    both true m n h = omega arith
    both false m n h = h

module _ (old new : List Bool) where
  taken : (slot : ℕ) → Takes old new slot → left_in old ≡ left_in new + 1
  taken zero t = let w = t.within.0 in absurd (omega (arith, w))
  taken (suc k) t = one_left_less old new k (let w = t.within.1 in omega (arith, w)) t.limit t.was_free t.is_used (λ i apart. t.others (suc i) (λ bad. apart (omega (arith, bad))))

  given : (slot : ℕ) → 1 ≤ slot → slot ≤ length old → is_free old slot ≡ false → Gives old new slot → left_in new ≡ left_in old + 1
  given zero low high was g = absurd (omega (arith, low))
  given (suc k) low high was g = let l = g.limit in one_left_less new old k (omega (arith, l, high)) (sym l) g.returned was (λ i apart. sym (g.others (suc i) (λ bad. apart (omega (arith, bad)))))

pub left_taken : (old new : List Bool) (slot : ℕ) → Takes old new slot → left_in old ≡ left_in new + 1
left_taken old new slot t = taken old new slot t

pub left_given : (old new : List Bool) (slot : ℕ) → 1 ≤ slot → slot ≤ length old → is_free old slot ≡ false → Gives old new slot → left_in new ≡ left_in old + 1
left_given old new slot low high was g = given old new slot low high was g
