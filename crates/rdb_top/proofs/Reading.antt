-- One more script is read.
use Rattle.std.proofs.Common.{◌≡◌, ◌≢◌, ◌≤◌, ◌<◌, ℕ, ◌+◌, ◌++◌, ◌∷◌, [], Bool, true, List, length, refl, ◌∙◌, sym, ap, arith, if◌then◌else◌, ◌⊎◌}
use Rattle.session_states.specs.declared.item_queue.WholeScript.{WholeScript}
use Rattle.script_queues.specs.Scripts.{whole_script}
use Rattle.rdb_top.specs.Runs.{scripts_of}
use Rattle.rdb_top.proofs.Upward.{scripts-more}

length-more : {A : Type 0} (xs : List A) (y : A) → length (xs ++ y ∷ []) ≡ length xs + 1
length-more [] y = refl
length-more (x ∷ xs) y = let h = length-more xs y in grind arith

pub pushed : {A : Type 0} (b : Bool) (new old : List A) (x : A) → new ≡ (if b then old ++ x ∷ [] else old) → b ≡ true → new ≡ old ++ x ∷ []
pushed b new old x h e = h ∙ rw e refl

pub grown-length : {A : Type 0} (new old : List A) (x : A) (n : ℕ) → new ≡ old ++ x ∷ [] → length old ≡ n → length new ≡ n + 1
grown-length new old x n h e = ap length h ∙ (length-more old x ∙ ap (λ k. k + 1) e)

pub grown-scripts : (left now : ℕ → List ℕ) (new old : List WholeScript) (x : WholeScript) (n : ℕ) → new ≡ old ++ x ∷ [] → old ≡ scripts_of left n → x ≡ whole_script (now (n + 1)) → now (n + 1) ≡ left (n + 1) → new ≡ scripts_of left (n + 1)
grown-scripts left now new old x n h e f g =
    h ∙ (ap (λ xs. xs ++ x ∷ []) e ∙ (ap (λ y. scripts_of left n ++ y ∷ []) (f ∙ ap whole_script g) ∙ sym (scripts-more left n)))

pub behind-next : (n : ℕ) → n < n + 1
behind-next n = omega arith

pub other-than : (n s : ℕ) → n + 1 < s → s ≢ n + 1
other-than n s h e = absurd (clash n s h e)
  where
    clash : (n s : ℕ) → n + 1 < s → s ≡ n + 1 → ⊥
    clash n s h e = omega arith

pub later-than : (n s : ℕ) → n + 1 < s → n < s
later-than n s h = omega arith

pub last-or : (n s : ℕ) → s ≤ n + 1 → (s ≤ n) ⊎ (s ≡ n + 1)
last-or n s h = grind arith
