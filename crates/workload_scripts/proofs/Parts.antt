-- Parts of a text that are added one by one.
use Rattle.std.proofs.Common.{◌≡◌, List, ℕ, ◌++◌, Result, Ok, Err, OnOk, append_assoc, ap, ◌∙◌}

pub on_ok : {T E : Type 0} {A B : Type 0} (result : Result T E) → (A → B) → OnOk result A → OnOk result B
on_ok (Ok x) to is = to is
on_ok (Err e) to is = is

pub two : (out a b x y : List ℕ) → x ≡ out ++ a → y ≡ x ++ b → y ≡ out ++ (a ++ b)
two out a b x y p q = q ∙ ap (λ (l : List ℕ). l ++ b) p ∙ append_assoc out a b

pub three : (out a b c x y z : List ℕ) → x ≡ out ++ a → y ≡ x ++ b → z ≡ y ++ c → z ≡ out ++ (a ++ b ++ c)
three out a b c x y z p q r = two out (a ++ b) c y z (two out a b x y p q) r

pub four : (out a b c d x y z w : List ℕ) → x ≡ out ++ a → y ≡ x ++ b → z ≡ y ++ c → w ≡ z ++ d → w ≡ out ++ (a ++ b ++ c ++ d)
four out a b c d x y z w p q r s = two out (a ++ b ++ c) d z w (three out a b c x y z p q r) s
