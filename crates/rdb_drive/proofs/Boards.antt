-- Steps one after another.
use Rattle.std.proofs.Math.Nat.{mul-le-mul_right, suc-mul}
use Rattle.std.proofs.lemmas.List.{append-nil}
use Rattle.std.proofs.Common.{◌≡◌, ℕ, suc, ◌+◌, ◌*◌, ◌≤◌, ◌<◌, ◌^◌, List, [], ◌∷◌, ◌++◌, length, inl, inr, refl, ap, sym, ◌∙◌, subst, arith, append_assoc, length-append}
use Rattle.rdb_drive.specs.Boards.{Mark, Says, Does, Other, Board, AllOf, AllNobodys, answers, answers_by, Less, Below, AtMost, Fits, HasBounds}
use Rattle.rdb_drive.specs.Steps.{Goes, IsQuiet}
use Rattle.rdb_drive.specs.Turns.{room, weight, Under, Within, GetsOn}

pub answers-append : (xs ys : List Mark) → answers (xs ++ ys) ≡ answers xs + answers ys
answers-append [] ys = omega arith
answers-append (x ∷ xs) ys = let h = answers-append xs ys in omega arith

pub answers_by-append : (s : ℕ) (xs ys : List Mark) → answers_by s (xs ++ ys) ≡ answers_by s xs + answers_by s ys
answers_by-append s [] ys = omega arith
answers_by-append s (x ∷ xs) ys = let h = answers_by-append s xs ys in omega arith

pub of_both : (s : ℕ) (xs ys : List Mark) → AllOf s xs → AllOf s ys → AllOf s (xs ++ ys)
of_both s [] ys p q = q
of_both s (x ∷ xs) ys p q = (p.0, of_both s xs ys p.1 q)

pub nobodys_of : (s : ℕ) (xs : List Mark) → AllNobodys xs → AllOf s xs × (answers xs ≡ 0)
nobodys_of s [] p = (tt, refl)
nobodys_of s (Says t ∷ xs) p = absurd p.0
nobodys_of s (Does t ∷ xs) p = absurd p.0
nobodys_of s (Other ∷ xs) p = let h = nobodys_of s xs p.1 in ((tt, h.0), omega arith)

pub goes_on : (a b c : Board) (xs ys : List Mark) → Goes a b xs → Goes b c ys → Goes a c (xs ++ ys)
goes_on a b c xs ys p q =
    record {
      marks = q.marks ∙ (ap (λ w. w ++ ys) p.marks ∙ append_assoc a.marks xs ys);
      rests = λ n s le r. q.rests n s (let h = ap length p.marks ∙ length-append a.marks xs in omega arith) (p.rests n s le r);
      ended = λ s e. q.ended s (p.ended s e);
    }

-- numbers that fit weigh less than their room
pub fits_weight : (xs : List ℕ) → Fits xs → weight xs < room xs
fits_weight [] f = omega arith
fits_weight (x ∷ xs) f =
    let w = fits_weight xs f.1 in
    let m = mul-le-mul_right {m = suc x} {n = 2 ^ 80} (room xs) (omega (arith, f.0)) in
    let e = suc-mul x (room xs) in
    omega (arith, w, m, e)

pub same_room : (xs ys : List ℕ) → length xs ≡ length ys → room xs ≡ room ys
same_room [] [] e = refl
same_room [] (y ∷ ys) e = absurd (omega arith)
same_room (x ∷ xs) [] e = absurd (omega arith)
same_room (x ∷ xs) (y ∷ ys) e = ap (λ n. 2 ^ 80 * n) (same_room xs ys (omega arith))

pub first_less : (x y : ℕ) (xs ys : List ℕ) → Fits xs → x < y → length xs ≡ length ys → x * room xs + weight xs < y * room ys + weight ys
first_less x y xs ys f l e =
    let w = fits_weight xs f in
    let r = same_room xs ys e in
    let m = mul-le-mul_right {m = suc x} {n = y} (room xs) (omega (arith, l)) in
    let s = suc-mul x (room xs) in
    let t : y * room xs ≡ y * room ys = ap (λ n. y * n) r in
    omega (arith, w, m, s, t)

pub less_length : (xs ys : List ℕ) → Less xs ys → length xs ≡ length ys
less_length [] ys l = absurd l
less_length (x ∷ xs) [] l = absurd l
less_length (x ∷ xs) (y ∷ ys) (inl p) = let h = p.1 in omega arith
less_length (x ∷ xs) (y ∷ ys) (inr p) = let h = less_length xs ys p.1 in omega arith

pub fits_falls : (xs ys : List ℕ) → Fits xs → Less xs ys → weight xs < weight ys
fits_falls [] ys f l = absurd l
fits_falls (x ∷ xs) [] f l = absurd l
fits_falls (x ∷ xs) (y ∷ ys) f (inl p) = first_less x y xs ys f.1 p.0 p.1
fits_falls (x ∷ xs) (y ∷ ys) f (inr p) =
    let h = fits_falls xs ys f.1 p.1 in
    let r = same_room xs ys (less_length xs ys p.1) in
    let t : x * room xs ≡ y * room ys = ap (λ n. n * room xs) p.0 ∙ ap (λ n. y * n) r in
    omega (arith, h, t)

pub bounded_falls : (xs ys : List ℕ) → HasBounds xs → Less xs ys → weight xs < weight ys
bounded_falls [] ys b l = absurd l
bounded_falls (x ∷ xs) [] b l = absurd l
bounded_falls (x ∷ xs) (y ∷ ys) b (inl p) = first_less x y xs ys b p.0 p.1
bounded_falls (x ∷ xs) (y ∷ ys) b (inr p) =
    let h = fits_falls xs ys b p.1 in
    let r = same_room xs ys (less_length xs ys p.1) in
    let t : x * room xs ≡ y * room ys = ap (λ n. n * room xs) p.0 ∙ ap (λ n. y * n) r in
    omega (arith, h, t)

pub below_falls : (xs ys : List ℕ) → Below xs ys → weight xs < weight ys
below_falls xs ys l = bounded_falls xs ys l.0 l.1

pub at_most_weight : (xs ys : List ℕ) → AtMost xs ys → weight xs ≤ weight ys
at_most_weight xs ys (inl e) = let h = ap weight e in omega arith
at_most_weight xs ys (inr l) = let h = below_falls xs ys l in omega arith

-- comparisons one after another
pub less_trans : (xs ys zs : List ℕ) → Less xs ys → Less ys zs → Less xs zs
less_trans [] ys zs p q = absurd p
less_trans (x ∷ xs) [] zs p q = absurd p
less_trans (x ∷ xs) (y ∷ ys) [] p q = absurd q
less_trans (x ∷ xs) (y ∷ ys) (z ∷ zs) (inl p) (inl q) = inl (omega (arith, p.0, q.0), p.1 ∙ q.1)
less_trans (x ∷ xs) (y ∷ ys) (z ∷ zs) (inl p) (inr q) = inl (omega (arith, p.0, q.0), p.1 ∙ less_length ys zs q.1)
less_trans (x ∷ xs) (y ∷ ys) (z ∷ zs) (inr p) (inl q) = inl (omega (arith, p.0, q.0), less_length xs ys p.1 ∙ q.1)
less_trans (x ∷ xs) (y ∷ ys) (z ∷ zs) (inr p) (inr q) = inr (p.0 ∙ q.0, less_trans xs ys zs p.1 q.1)

pub at_most_trans : (xs ys zs : List ℕ) → AtMost xs ys → AtMost ys zs → AtMost xs zs
at_most_trans xs ys zs (inl e) q = subst (λ w. AtMost w zs) (sym e) q
at_most_trans xs ys zs (inr l) (inl e) = inr (subst (λ w. Below xs w) e l)
at_most_trans xs ys zs (inr l) (inr k) = inr (l.0, less_trans xs ys zs l.1 k.1)

pub quiet_on : (s : ℕ) (a b c : Board) → IsQuiet s a b → IsQuiet s b c → IsQuiet s a c
quiet_on s a b c p q =
    record {
      asleep = λ t no e. q.asleep t no (p.asleep t no e);
      ended = λ t no. q.ended t no ∙ p.ended t no;
      measure = at_most_trans c.measure b.measure a.measure q.measure p.measure;
    }

pub gets_on_weight : (s : ℕ) (a b : Board) → GetsOn s a b → weight b.measure ≤ weight a.measure
gets_on_weight s a b (inl f) = omega (arith, f)
gets_on_weight s a b (inr q) = at_most_weight b.measure a.measure q.measure

pub gets_on_on : (s : ℕ) (a b c : Board) → GetsOn s a b → GetsOn s b c → GetsOn s a c
gets_on_on s a b c (inl f) q = let w = gets_on_weight s b c q in inl (omega (arith, w, f))
gets_on_on s a b c (inr p) (inl f) = let w = at_most_weight b.measure a.measure p.measure in inl (omega (arith, w, f))
gets_on_on s a b c (inr p) (inr q) = inr (quiet_on s a b c p q)

pub nothing : (s : ℕ) (a : Board) → Under s a a × GetsOn s a a
nothing s a = (
  record {
    more = [];
    goes = record { marks = sym (append-nil a.marks); rests = λ n t le r. r; ended = λ t e. e };
    of_s = tt;
    none = refl;
  },
  inr (record { asleep = λ t no e. e; ended = λ t no. refl; measure = inl refl }),
)

pub under_on : (s : ℕ) (a b c : Board) → Under s a b → Under s b c → Under s a c
under_on s a b c p q =
    let n = answers-append p.more q.more in
    record {
      more = p.more ++ q.more;
      goes = goes_on a b c p.more q.more p.goes q.goes;
      of_s = of_both s p.more q.more p.of_s q.of_s;
      none = omega (arith, n, p.none, q.none);
    }

pub within_on : (s : ℕ) (a b c : Board) → Under s a b → Within s b c → Within s a c
within_on s a b c p q =
    let n = answers-append p.more q.more in
    record {
      more = p.more ++ q.more;
      goes = goes_on a b c p.more q.more p.goes q.goes;
      of_s = of_both s p.more q.more p.of_s q.of_s;
      one = omega (arith, n, p.none, q.one);
    }
