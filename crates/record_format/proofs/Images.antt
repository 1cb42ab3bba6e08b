-- Bytes that are certain fields.
use Rattle.std.proofs.Common.{ℕ, zero, suc, ◌+◌, ◌*◌, ◌<◌, ◌≤◌, ◌≡◌, List, [], ◌∷◌, ◌++◌, length, take, drop, refl, sym, ap, ◌∙◌, arith, length-drop}
use Rattle.std.proofs.lemmas.List.{drop_all, drop-drop, take-append-drop}
use Rattle.std.proofs.lemmas.List.Elements.{All-head, All-tail, All-drop}
use Rattle.std.proofs.Math.Seq.{take-length}
use Rattle.byteorder.specs.Endian.{little_number}
use Rattle.byteorder.specs.Numbers.{little_from-cons}
use Rattle.slot_fields.specs.Fields.{Field, number, text, gap, number_at, Has, HasFrom, Fit, laid}
use Rattle.slot_fields.proofs.Laws.{laid_out, whole_ends}
use Rattle.record_format.specs.Values.{AreBytes}

pub laid_whole : (fields : List Field) (image : List ℕ) → image ≡ laid [] fields → Fit fields → Has fields image
laid_whole fields image is fits = laid_out fields image (length image) (take-length image ∙ is) refl fits

-- a number of so many bytes is that of one list of bytes
same_number : (n : ℕ) (xs ys : List ℕ) → n ≤ length xs → n ≤ length ys → AreBytes xs → AreBytes ys → little_number n xs ≡ little_number n ys → take n xs ≡ take n ys
same_number zero xs ys long also bytes too same = refl
same_number (suc n) [] ys long also bytes too same = absurd (omega (arith, long))
same_number (suc n) (x ∷ xs) [] long also bytes too same = absurd (omega (arith, also))
same_number (suc n) (x ∷ xs) (y ∷ ys) long also bytes too same =
    let first : x < 256 = All-head (λ b. b < 256) x xs bytes in
    let second : y < 256 = All-head (λ b. b < 256) y ys too in
    let here : x + 256 * little_number n xs ≡ y + 256 * little_number n ys =
    ap (λ k. x + 256 * k) (sym (little_from-cons 0 n x xs)) ∙ same ∙ ap (λ k. y + 256 * k) (little_from-cons 0 n y ys) in
    let byte : x ≡ y = omega (arith, first, second, here) in
    let rest = same_number n xs ys (omega (arith, long)) (omega (arith, also)) (All-tail (λ b. b < 256) x xs bytes) (All-tail (λ b. b < 256) y ys too) (omega (arith, first, second, here)) in
    λ i. byte i ∷ rest i

split : (at n : ℕ) (xs : List ℕ) → drop at xs ≡ take n (drop at xs) ++ drop (at + n) xs
split at n xs = sym (take-append-drop n (drop at xs)) ∙ ap (λ l. take n (drop at xs) ++ l) (drop-drop n at xs)

both : (at n : ℕ) (a b : List ℕ) → take n (drop at a) ≡ take n (drop at b) → drop (at + n) a ≡ drop (at + n) b → drop at a ≡ drop at b
both at n a b first rest = split at n a ∙ (λ i. first i ++ rest i) ∙ sym (split at n b)

-- fields have one list of bytes
pub one_image : (fields : List Field) (at : ℕ) (a b : List ℕ) → AreBytes a → AreBytes b → HasFrom at fields a → HasFrom at fields b → drop at a ≡ drop at b
one_image [] at a b bytes too has also = drop_all at a (omega (arith, has)) ∙ sym (drop_all at b (omega (arith, also)))
one_image (number n x ∷ fields) at a b bytes too has also =
    let first = same_number n (drop at a) (drop at b)
    (omega (arith, length-drop at a, whole_ends (number n x ∷ fields) at a has)) (omega (arith, length-drop at b, whole_ends (number n x ∷ fields) at b also))
    (All-drop (λ k. k < 256) at a bytes) (All-drop (λ k. k < 256) at b too) (unfold number_at in has.0 ∙ sym also.0) in
    both at n a b first (one_image fields (at + n) a b bytes too has.1 also.1)
one_image (text t ∷ fields) at a b bytes too has also = both at (length t) a b (has.0 ∙ sym also.0) (one_image fields (at + length t) a b bytes too has.1 also.1)
one_image (gap n ∷ fields) at a b bytes too has also = both at n a b (has.0 ∙ sym also.0) (one_image fields (at + n) a b bytes too has.1 also.1)
