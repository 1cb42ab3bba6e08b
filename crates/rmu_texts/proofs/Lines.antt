-- Lines behind one another, and one line of a page behind those before it.
use Rattle.std.proofs.Common.{◌≡◌, ℕ, suc, ◌+◌, List, ◌++◌, Result, Ok, Err, OnOk, append_assoc, append-nil, ap, ◌∙◌, subst, sym, arith}
use Rattle.rmu_texts.specs.Page.{line_of, lines_to}

pub on_ok : {T E : Type 0} {A B : Type 0} (result : Result T E) → (A → B) → OnOk result A → OnOk result B
on_ok (Ok x) to is = to is
on_ok (Err e) to is = is

-- parts that are added one by one
pub three : (out a b c x y z : List ℕ) → x ≡ out ++ a → y ≡ x ++ b → z ≡ y ++ c → z ≡ out ++ (a ++ b ++ c)
three out a b c x y z p q r = r ∙ ap (λ (l : List ℕ). l ++ c) (q ∙ ap (λ (l : List ℕ). l ++ b) p) ∙ simp append_assoc

pub four : (out a b c d x y z w : List ℕ) → x ≡ out ++ a → y ≡ x ++ b → z ≡ y ++ c → w ≡ z ++ d → w ≡ out ++ (a ++ b ++ c ++ d)
four out a b c d x y z w p q r s = s ∙ ap (λ (l : List ℕ). l ++ d) (r ∙ ap (λ (l : List ℕ). l ++ c) (q ∙ ap (λ (l : List ℕ). l ++ b) p)) ∙ simp append_assoc

one_line_more : (page : List ℕ) (line : ℕ) → lines_to page line ++ line_of page line ≡ lines_to page (line + 1)
unfolding lines_to
one_line_more page line = let next : suc line ≡ line + 1 = omega arith in ap (λ (n : ℕ). lines_to page n) next

pub one_more : (page out : List ℕ) (line : ℕ) → (out ++ lines_to page line) ++ line_of page line ≡ out ++ lines_to page (line + 1)
one_more page out line = rw (append_assoc out (lines_to page line) (line_of page line)) (ap (λ (x : List ℕ). out ++ x) (one_line_more page line))

pub nothing_yet : (page out : List ℕ) → out ≡ out ++ lines_to page 0
unfolding lines_to
nothing_yet page out = sym (append-nil out)
