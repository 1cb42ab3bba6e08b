-- What is laid out has the fields, and fields that stand one after another.
use Rattle.std.specs.Prelude.{ℕ, zero, suc, ◌+◌, ◌-◌, ◌^◌, ◌<◌, ◌≤◌, ◌≡◌, List, [], ◌∷◌, ◌++◌, length, take, drop, replicate, get_or, refl}
use Rattle.std.proofs.Common.{sym, ◌∙◌, ap, subst, arith, append_assoc, length-append}
use Rattle.std.proofs.lemmas.List.{length-replicate, drop-drop, drop-take, take-take, take-replicate, drop-replicate}
use Rattle.std.proofs.Math.Seq.{drop-append_seam, take-append_seam, take-length}
use Rattle.byteorder.specs.Endian.{little_number, little_from}
use Rattle.byteorder.specs.Numbers.{little_number-reads_back, little_from-take, length-bytes_low_first}
use Rattle.slot_fields.specs.Fields.{Field, number, text, gap, number_at, number_bytes, HasFrom, Has, HasPart, size, Fit, laid}

append_nil : (xs : List ℕ) → xs ++ [] ≡ xs
append_nil [] = refl
append_nil (x ∷ xs) = ap (λ ys. x ∷ ys) (append_nil xs)

length_zeros : (n : ℕ) → length {A = ℕ} (replicate n 0) ≡ n
length_zeros n = length-replicate n 0

length_number : (n x : ℕ) → length (number_bytes n x) ≡ n
unfolding number_bytes
length_number n x = length-bytes_low_first 0 n x

reads_back : (n x at : ℕ) (front rest slot : List ℕ) → length front ≡ at → drop (length front) slot ≡ number_bytes n x ++ rest → x < 256 ^ n → number_at n at slot ≡ x
unfolding number_at number_bytes
reads_back n x at front rest slot is behind fits = ap (λ k. little_number n (drop k slot)) (sym is) ∙ ap (λ l. little_number n l) behind ∙ little_number-reads_back n x rest fits

laid_front : (front : List ℕ) (fields : List Field) → laid front fields ≡ front ++ laid [] fields
laid_front front [] = sym (append_nil front)
laid_front front (number n x ∷ fields) = laid_front (front ++ number_bytes n x) fields ∙ append_assoc front (number_bytes n x) (laid [] fields) ∙ ap (λ l. front ++ l) (sym (laid_front (number_bytes n x) fields))
laid_front front (text bytes ∷ fields) = laid_front (front ++ bytes) fields ∙ append_assoc front bytes (laid [] fields) ∙ ap (λ l. front ++ l) (sym (laid_front bytes fields))
laid_front front (gap n ∷ fields) = laid_front (front ++ replicate n 0) fields ∙ append_assoc front (replicate n 0) (laid [] fields) ∙ ap (λ l. front ++ l) (sym (laid_front (replicate n 0) fields))

laid_behind : (front mid : List ℕ) (fields : List Field) → drop (length front) (laid (front ++ mid) fields) ≡ mid ++ laid [] fields
laid_behind front mid fields = ap (λ l. drop (length front) l) (laid_front (front ++ mid) fields ∙ append_assoc front mid (laid [] fields)) ∙ drop-append_seam front (mid ++ laid [] fields)

moved : (front mid : List ℕ) (at n : ℕ) → length front ≡ at → length mid ≡ n → length (front ++ mid) ≡ at + n
moved front mid at n is size = length-append front mid ∙ ap (λ k. length front + k) size ∙ ap (λ k. k + n) is

stands : (front mid : List ℕ) (fields : List Field) (at n : ℕ) → length front ≡ at → length mid ≡ n → take n (drop at (laid (front ++ mid) fields)) ≡ mid
stands front mid fields at n is size = ap (λ k. take n (drop k (laid (front ++ mid) fields))) (sym is) ∙ ap (λ l. take n l) (laid_behind front mid fields) ∙ ap (λ k. take k (mid ++ laid [] fields)) (sym size) ∙ take-append_seam mid (laid [] fields)

pub laid_has : (front : List ℕ) (fields : List Field) (at : ℕ) → length front ≡ at → Fit fields → HasFrom at fields (laid front fields)
laid_has front [] at is fits = is
laid_has front (number n x ∷ fields) at is fits = (
  reads_back n x at front (laid [] fields) (laid (front ++ number_bytes n x) fields) is (laid_behind front (number_bytes n x) fields) fits.0,
  laid_has (front ++ number_bytes n x) fields (at + n) (moved front (number_bytes n x) at n is (length_number n x)) fits.1,
)
laid_has front (text bytes ∷ fields) at is fits =
    (stands front bytes fields at (length bytes) is refl, laid_has (front ++ bytes) fields (at + length bytes) (moved front bytes at (length bytes) is refl) fits)
laid_has front (gap n ∷ fields) at is fits =
    (stands front (replicate n 0) fields at n is (length_zeros n), laid_has (front ++ replicate n 0) fields (at + n) (moved front (replicate n 0) at n is (length_zeros n)) fits)

-- a slot whose bytes up to its end were laid out so
pub laid_out : (fields : List Field) (slot : List ℕ) (n : ℕ) → take n slot ≡ laid [] fields → length slot ≡ n → Fit fields → Has fields slot
laid_out fields slot n front size fits =
    let whole : slot ≡ laid [] fields = sym (ap (λ k. take k slot) (sym size) ∙ take-length slot) ∙ front in
    subst (λ (l : List ℕ). Has fields l) (sym whole) (laid_has [] fields 0 refl fits)

-- a number that stands before a place, or behind it, is the same where the bytes there are
number_front : (n at k : ℕ) (slot : List ℕ) → at + n ≤ k → number_at n at (take k slot) ≡ number_at n at slot
unfolding number_at
number_front n at k slot within =
    let split : k ≡ at + (k - at) = omega (arith, within) in
    ap (λ j. little_number n (drop at (take j slot))) split ∙ ap (λ l. little_number n l) (drop-take at (k - at) slot) ∙ little_from-take 0 n (k - at) (drop at slot) (omega (arith, within))

pub number_before : (n at k : ℕ) (old new : List ℕ) → at + n ≤ k → take k new ≡ take k old → number_at n at new ≡ number_at n at old
number_before n at k old new within same = sym (number_front n at k new within) ∙ ap (λ l. number_at n at l) same ∙ number_front n at k old within

pub number_behind : (n at k : ℕ) (old new : List ℕ) → k ≤ at → drop k new ≡ drop k old → number_at n at new ≡ number_at n at old
unfolding number_at
number_behind n at k old new behind same =
    let split : at ≡ k + (at - k) = omega (arith, behind) in
    let from : (slot : List ℕ) → drop at slot ≡ drop (at - k) (drop k slot) = λ slot. ap (λ j. drop j slot) split ∙ sym (drop-drop (at - k) k slot) in
    ap (λ l. little_number n l) (from new ∙ ap (λ l. drop (at - k) l) same ∙ sym (from old))

-- bytes that stand before a place, or behind it
pub bytes_front : (n at k : ℕ) (slot : List ℕ) → at + n ≤ k → take n (drop at (take k slot)) ≡ take n (drop at slot)
bytes_front n at k slot within =
    let split : k ≡ at + (k - at) = omega (arith, within) in
    ap (λ j. take n (drop at (take j slot))) split ∙ ap (λ l. take n l) (drop-take at (k - at) slot) ∙ take-take n (k - at) (drop at slot) (omega (arith, within))

pub bytes_before : (n at k : ℕ) (old new : List ℕ) → at + n ≤ k → take k new ≡ take k old → take n (drop at new) ≡ take n (drop at old)
bytes_before n at k old new within same = sym (bytes_front n at k new within) ∙ ap (λ l. take n (drop at l)) same ∙ bytes_front n at k old within

pub drop_behind : (at k : ℕ) (old new : List ℕ) → k ≤ at → drop k new ≡ drop k old → drop at new ≡ drop at old
drop_behind at k old new behind same =
    let split : at ≡ k + (at - k) = omega (arith, behind) in
    let from : (slot : List ℕ) → drop at slot ≡ drop (at - k) (drop k slot) = λ slot. ap (λ j. drop j slot) split ∙ sym (drop-drop (at - k) k slot) in
    from new ∙ ap (λ l. drop (at - k) l) same ∙ sym (from old)

-- fields that stand before a place, or behind it, are there where the bytes are the same
pub part_before : (fields : List Field) (at k : ℕ) (old new : List ℕ) → at + size fields ≤ k → take k new ≡ take k old → HasPart at fields old → HasPart at fields new
part_before [] at k old new within same has = tt
part_before (number n x ∷ fields) at k old new within same has =
    (number_before n at k old new (omega (arith, within)) same ∙ has.0, part_before fields (at + n) k old new (omega (arith, within)) same has.1)
part_before (text bytes ∷ fields) at k old new within same has =
    (bytes_before (length bytes) at k old new (omega (arith, within)) same ∙ has.0, part_before fields (at + length bytes) k old new (omega (arith, within)) same has.1)
part_before (gap n ∷ fields) at k old new within same has =
    (bytes_before n at k old new (omega (arith, within)) same ∙ has.0, part_before fields (at + n) k old new (omega (arith, within)) same has.1)

pub part_behind : (fields : List Field) (at k : ℕ) (old new : List ℕ) → k ≤ at → drop k new ≡ drop k old → HasPart at fields old → HasPart at fields new
part_behind [] at k old new behind same has = tt
part_behind (number n x ∷ fields) at k old new behind same has =
    (number_behind n at k old new behind same ∙ has.0, part_behind fields (at + n) k old new (omega (arith, behind)) same has.1)
part_behind (text bytes ∷ fields) at k old new behind same has =
    (ap (λ l. take (length bytes) l) (drop_behind at k old new behind same) ∙ has.0, part_behind fields (at + length bytes) k old new (omega (arith, behind)) same has.1)
part_behind (gap n ∷ fields) at k old new behind same has =
    (ap (λ l. take n l) (drop_behind at k old new behind same) ∙ has.0, part_behind fields (at + n) k old new (omega (arith, behind)) same has.1)

-- a slot's fields are a part of it
pub part_of_whole : (fields : List Field) (at : ℕ) (slot : List ℕ) → HasFrom at fields slot → HasPart at fields slot
part_of_whole [] at slot has = tt
part_of_whole (number n x ∷ fields) at slot has = (has.0, part_of_whole fields (at + n) slot has.1)
part_of_whole (text bytes ∷ fields) at slot has = (has.0, part_of_whole fields (at + length bytes) slot has.1)
part_of_whole (gap n ∷ fields) at slot has = (has.0, part_of_whole fields (at + n) slot has.1)

-- a slot in which fields were laid out behind what stood in front
pub laid_part : (fields : List Field) (front slot : List ℕ) (at n : ℕ) → take n slot ≡ laid front fields → length front ≡ at → at + size fields ≤ n → Fit fields → HasPart at fields slot
laid_part fields front slot at n is starts within fits =
    let there : HasPart at fields (take n slot) = subst (λ (l : List ℕ). HasPart at fields l) (sym is) (part_of_whole fields at (laid front fields) (laid_has front fields at starts fits)) in
    let same : take n slot ≡ take n (take n slot) = sym (take-take n n slot (omega arith)) in
    part_before fields at n (take n slot) slot within same there

-- what stood in front of them still does
pub laid_before : (fields : List Field) (front slot : List ℕ) (at n : ℕ) → take n slot ≡ laid front fields → length front ≡ at → at ≤ n → take at slot ≡ front
laid_before fields front slot at n is starts within =
    sym (take-take at n slot within) ∙ ap (λ l. take at l) (is ∙ laid_front front fields) ∙ ap (λ j. take j (front ++ laid [] fields)) (sym starts) ∙ take-append_seam front (laid [] fields)

-- fields one after another
pub laid_append : (front : List ℕ) (xs ys : List Field) → laid front (xs ++ ys) ≡ laid (laid front xs) ys
laid_append front [] ys = refl
laid_append front (number n x ∷ xs) ys = laid_append (front ++ number_bytes n x) xs ys
laid_append front (text bytes ∷ xs) ys = laid_append (front ++ bytes) xs ys
laid_append front (gap n ∷ xs) ys = laid_append (front ++ replicate n 0) xs ys

pub size_append : (xs ys : List Field) → size (xs ++ ys) ≡ size xs + size ys
size_append [] ys = omega arith
size_append (number n x ∷ xs) ys = let rest = size_append xs ys in omega (arith, rest)
size_append (text bytes ∷ xs) ys = let rest = size_append xs ys in omega (arith, rest)
size_append (gap n ∷ xs) ys = let rest = size_append xs ys in omega (arith, rest)

pub fit_append : (xs ys : List Field) → Fit xs → Fit ys → Fit (xs ++ ys)
fit_append [] ys first second = second
fit_append (number n x ∷ xs) ys first second = (first.0, fit_append xs ys first.1 second)
fit_append (text bytes ∷ xs) ys first second = fit_append xs ys first second
fit_append (gap n ∷ xs) ys first second = fit_append xs ys first second

-- what is laid out is as long as its fields
pub length_laid : (front : List ℕ) (xs : List Field) → length (laid front xs) ≡ length front + size xs
length_laid front [] = omega arith
length_laid front (number n x ∷ xs) = let rest = length_laid (front ++ number_bytes n x) xs in omega (arith, rest, length-append front (number_bytes n x), length_number n x)
length_laid front (text bytes ∷ xs) = let rest = length_laid (front ++ bytes) xs in omega (arith, rest, length-append front bytes)
length_laid front (gap n ∷ xs) = let rest = length_laid (front ++ replicate n 0) xs in omega (arith, rest, length-append front (replicate n 0), length_zeros n)

pub part_append : (at middle : ℕ) (xs ys : List Field) (slot : List ℕ) → middle ≡ at + size xs → HasPart at xs slot → HasPart middle ys slot → HasPart at (xs ++ ys) slot
part_append at middle [] ys slot is first second = subst (λ (k : ℕ). HasPart k ys slot) (let same : middle ≡ at = omega (arith, is) in same) second
part_append at middle (number n x ∷ xs) ys slot is first second = (first.0, part_append (at + n) middle xs ys slot (omega (arith, is)) first.1 second)
part_append at middle (text bytes ∷ xs) ys slot is first second = (first.0, part_append (at + length bytes) middle xs ys slot (omega (arith, is)) first.1 second)
part_append at middle (gap n ∷ xs) ys slot is first second = (first.0, part_append (at + n) middle xs ys slot (omega (arith, is)) first.1 second)

pub part_first : (at : ℕ) (xs ys : List Field) (slot : List ℕ) → HasPart at (xs ++ ys) slot → HasPart at xs slot
part_first at [] ys slot has = tt
part_first at (number n x ∷ xs) ys slot has = (has.0, part_first (at + n) xs ys slot has.1)
part_first at (text bytes ∷ xs) ys slot has = (has.0, part_first (at + length bytes) xs ys slot has.1)
part_first at (gap n ∷ xs) ys slot has = (has.0, part_first (at + n) xs ys slot has.1)

pub from_first : (at : ℕ) (xs ys : List Field) (slot : List ℕ) → HasFrom at (xs ++ ys) slot → HasPart at xs slot
from_first at [] ys slot has = tt
from_first at (number n x ∷ xs) ys slot has = (has.0, from_first (at + n) xs ys slot has.1)
from_first at (text bytes ∷ xs) ys slot has = (has.0, from_first (at + length bytes) xs ys slot has.1)
from_first at (gap n ∷ xs) ys slot has = (has.0, from_first (at + n) xs ys slot has.1)

pub from_rest : (at middle : ℕ) (xs ys : List Field) (slot : List ℕ) → middle ≡ at + size xs → HasFrom at (xs ++ ys) slot → HasFrom middle ys slot
from_rest at middle [] ys slot is has = subst (λ (k : ℕ). HasFrom k ys slot) (let same : at ≡ middle = omega (arith, is) in same) has
from_rest at middle (number n x ∷ xs) ys slot is has = from_rest (at + n) middle xs ys slot (omega (arith, is)) has.1
from_rest at middle (text bytes ∷ xs) ys slot is has = from_rest (at + length bytes) middle xs ys slot (omega (arith, is)) has.1
from_rest at middle (gap n ∷ xs) ys slot is has = from_rest (at + n) middle xs ys slot (omega (arith, is)) has.1

-- a whole slot is its fields up to the end
pub whole_of_part : (fields : List Field) (at : ℕ) (slot : List ℕ) → length slot ≡ at + size fields → HasPart at fields slot → HasFrom at fields slot
whole_of_part [] at slot ends has = omega (arith, ends)
whole_of_part (number n x ∷ fields) at slot ends has = (has.0, whole_of_part fields (at + n) slot (omega (arith, ends)) has.1)
whole_of_part (text bytes ∷ fields) at slot ends has = (has.0, whole_of_part fields (at + length bytes) slot (omega (arith, ends)) has.1)
whole_of_part (gap n ∷ fields) at slot ends has = (has.0, whole_of_part fields (at + n) slot (omega (arith, ends)) has.1)

pub whole_ends : (fields : List Field) (at : ℕ) (slot : List ℕ) → HasFrom at fields slot → length slot ≡ at + size fields
whole_ends [] at slot has = omega (arith, has)
whole_ends (number n x ∷ fields) at slot has = let rest = whole_ends fields (at + n) slot has.1 in omega (arith, rest)
whole_ends (text bytes ∷ fields) at slot has = let rest = whole_ends fields (at + length bytes) slot has.1 in omega (arith, rest)
whole_ends (gap n ∷ fields) at slot has = let rest = whole_ends fields (at + n) slot has.1 in omega (arith, rest)

-- a part of zeros is zeros, and a number there is 0
zeros_inside : (at n k m : ℕ) (slot : List ℕ) → k + m ≤ n → take n (drop at slot) ≡ replicate n 0 → take m (drop (at + k) slot) ≡ replicate m 0
zeros_inside at n k m slot inside zeros =
    ap (λ l. take m l) (sym (drop-drop k at slot))
    ∙ sym (bytes_front m k n (drop at slot) inside)
    ∙ ap (λ l. take m (drop k l)) zeros
    ∙ ap (λ l. take m l) (drop-replicate k n 0)
    ∙ take-replicate m (n - k) 0 (omega (arith, inside))

pub zeros_within : (at n a m : ℕ) (slot : List ℕ) → at ≤ a → a + m ≤ at + n → take n (drop at slot) ≡ replicate n 0 → take m (drop a slot) ≡ replicate m 0
zeros_within at n a m slot from to zeros = subst (λ (j : ℕ). take m (drop j slot) ≡ replicate m 0) (let same : at + (a - at) ≡ a = omega (arith, from) in same) (zeros_inside at n (a - at) m slot (omega (arith, from, to)) zeros)

little_zeros : (i m : ℕ) (xs : List ℕ) → ((j : ℕ) → ◌≡◌ {A = ℕ} (get_or xs j 0) 0) → little_from i m xs ≡ 0
little_zeros i zero xs none = refl
little_zeros i (suc m) xs none = let here = none i in let rest = little_zeros (suc i) m xs none in omega (arith, here, rest)

zero_at : (n j : ℕ) → ◌≡◌ {A = ℕ} (get_or (replicate n 0) j 0) 0
zero_at zero j = refl
zero_at (suc n) zero = refl
zero_at (suc n) (suc j) = zero_at n j

pub zero_number : (at n a m : ℕ) (slot : List ℕ) → at ≤ a → a + m ≤ at + n → take n (drop at slot) ≡ replicate n 0 → number_at m a slot ≡ 0
unfolding number_at
zero_number at n a m slot from to zeros =
    sym (little_from-take 0 m m (drop a slot) (omega arith))
    ∙ ap (λ l. little_number m l) (zeros_within at n a m slot from to zeros)
    ∙ little_zeros 0 m (replicate m 0) (zero_at m)

-- bytes that begin with a word aren't all zeros
pub word_not_zeros : (slot : List ℕ) (n b : ℕ) (rest : List ℕ) → slot ≡ replicate n 0 → take (suc (length rest)) (drop 0 slot) ≡ suc b ∷ rest → ⊥
word_not_zeros slot zero b rest zeros word =
    let none : take (suc (length rest)) (drop 0 (replicate 0 0)) ≡ suc b ∷ rest = subst (λ (l : List ℕ). take (suc (length rest)) (drop 0 l) ≡ suc b ∷ rest) zeros word in cc
word_not_zeros slot (suc n) b rest zeros word =
    let none : take (suc (length rest)) (drop 0 (replicate (suc n) 0)) ≡ suc b ∷ rest = subst (λ (l : List ℕ). take (suc (length rest)) (drop 0 l) ≡ suc b ∷ rest) zeros word in cc
