use Rattle.std.proofs.Common.{◌≡◌, ◌≢◌, ◌≤◌, ℕ, zero, suc, List, [], ◌++◌, length, take, drop, min, ◌+◌, ◌-◌, ◌<◌, refl, subst, arith, get_or, slice_set}
use Rattle.std.proofs.lemmas.Grind.{common_steps}
use Rattle.std.proofs.Math.Seq.{take-append_seam}
use Rattle.std.proofs.lemmas.List.{take-append-drop, length-take-le, take_rest}
use Rattle.rdb_outside.specs.Streams.{bytes_of}

front : (rest into : List ℕ) (count : ℕ) → count ≤ length rest → rest ≡ take count (take count rest ++ into) ++ drop count rest
front rest into count h =
    let e : length (take count rest) ≡ count = length-take-le count rest h in
    let f : take count (take count rest ++ into) ≡ take count rest = subst (λ (n : ℕ). take n (take count rest ++ into) ≡ take count rest) e (take-append_seam (take count rest) into) in
    rw (f, take-append-drop)

pub read_front : (text into copied : List ℕ) (at count : ℕ) → at ≤ length text → copied ≡ take count (take (length text - at) (drop at text)) → count ≡ min (length (take (length text - at) (drop at text))) (length into) → drop at text ≡ take count (copied ++ drop count into) ++ drop (at + count) text
read_front text into copied at count a h m =
    let r : take (length text - at) (drop at text) ≡ drop at text = take_rest text at in
    let h2 : copied ≡ take count (drop at text) = rw r at h in
    let m2 : count ≡ min (length (drop at text)) (length into) = rw r at m in
    let d : drop (at + count) text ≡ drop count (drop at text) = grind (arith, common_steps) in
    rw (h2, d) (front (drop at text) (drop count into) count (omega arith))

pub bytes_of-at : (texts : List (List ℕ)) (n : ℕ) → n ≢ 0 → bytes_of texts n ≡ get_or texts (n - 1) []
bytes_of-at texts zero h = absurd (h refl)
bytes_of-at texts (suc n) h = grind (arith, common_steps)

pub bytes_of-past : (texts : List (List ℕ)) (n : ℕ) → length texts < n → bytes_of texts n ≡ []
bytes_of-past texts zero h = refl
bytes_of-past texts (suc n) h = grind (arith, common_steps)

pub bytes_of-other : (texts : List (List ℕ)) (text : List ℕ) (n other : ℕ) → n ≢ 0 → other ≢ n → bytes_of (slice_set texts (n - 1) text) other ≡ bytes_of texts other
bytes_of-other texts text n zero h k = refl
bytes_of-other texts text n (suc other) h k = grind (arith, common_steps)
