-- Journals read one behind another give groups whose numbers follow one another.
use Rattle.std.proofs.Common.{◌≡◌, ℕ, suc, ◌+◌, ◌-◌, ◌≤◌, ◌<◌, Bool, true, false, nat_lt, max, cond, List, [], ◌∷◌, ◌++◌, length, sym, ◌∙◌, ap, subst, arith}
use Rattle.std.proofs.lemmas.Bool.{lt-ltb}
use Rattle.journal_scan.specs.declared.group.Group.{Group}
use Rattle.journal_scan.specs.Whole.{AreWhole}
use Rattle.line_view.specs.Knowledge.{Lines}
use Rattle.stable_lines.specs.Journal.{Journal, next_number}
use Rattle.stable_lines.specs.Rolling.{laid_groups, groups_above, rolled}
use Rattle.rolled_lines.specs.Journals.{Found, laid, gap, behind, follow, AreWholeJournals}

-- whole groups that begin behind this number are all above it
all_above : (number last : ℕ) (groups : List Group) → AreWhole number groups → last < number → groups_above last groups ≡ groups
all_above number last [] whole lt = λ i. []
all_above number last (g ∷ gs) whole lt =
    let here : nat_lt last g.number ≡ true = lt-ltb last g.number (omega (arith, lt, whole.0.numbered)) in
    ap (λ b. cond b (g ∷ groups_above last gs) (groups_above last gs)) here ∙ ap (λ rest. g ∷ rest) (all_above (number + 1) last gs whole.1 (omega (arith, lt)))

-- these groups are whole behind the one of this number, and end at that one
abbrev pub IsUpTo : ℕ → List Group → ℕ → Type 0
IsUpTo last groups end = AreWhole (last + 1) groups × (end + 1 ≡ last + 1 + length groups)

-- of whole groups those above a number are whole behind it
pub from_whole : (number last : ℕ) (groups : List Group) → AreWhole number groups → number ≤ last + 1 → IsUpTo last (groups_above last groups) (max last (number + length groups - 1))
from_whole number last [] whole le = (tt, none number last le)
  where
    none : (number last : ℕ) → number ≤ last + 1 → max last (number + 0 - 1) + 1 ≡ last + 1 + 0
    none number last le = grind (arith, le)
from_whole number last (g ∷ gs) whole le = pick (λ up. from_whole (number + 1) last gs whole.1 up) (nat_lt last g.number) (λ i. nat_lt last g.number)
  where
    first : (m n : ℕ) → nat_lt m n ≡ true → m < n
    first m n h = grind arith

    other : (m n : ℕ) → nat_lt m n ≡ false → n ≤ m
    other m n h = grind arith

    end : (number last size : ℕ) → number ≡ last + 1 → max last (number + suc size - 1) + 1 ≡ last + 1 + suc size
    end number last size same = grind (arith, same)

    pick : (number + 1 ≤ last + 1 → IsUpTo last (groups_above last gs) (max last (number + 1 + length gs - 1))) → (b : Bool) → nat_lt last g.number ≡ b → IsUpTo last (groups_above last (g ∷ gs)) (max last (number + length (g ∷ gs) - 1))
    pick more true here =
        let at : last < g.number = first last g.number here in
        let same : number ≡ last + 1 = omega (arith, at, le, whole.0.numbered) in
        let all : groups_above last (g ∷ gs) ≡ g ∷ gs = all_above number last (g ∷ gs) whole (omega (arith, same)) in
        (subst (λ xs. AreWhole (last + 1) xs) (sym all) (subst (λ n. AreWhole n (g ∷ gs)) same whole), end number last (length gs) same ∙ ap (λ xs. last + 1 + length {A = Group} xs) (sym all))
    pick more false here =
        let at : g.number ≤ last = other last g.number here in
        let later = more (omega (arith, at, whole.0.numbered)) in
        let same : groups_above last (g ∷ gs) ≡ groups_above last gs = ap (λ b. cond b (g ∷ groups_above last gs) (groups_above last gs)) here in
        let size : number + suc (length gs) - 1 ≡ number + 1 + length gs - 1 = omega arith in
        (subst (λ xs. AreWhole (last + 1) xs) (sym same) later.0, ap (λ n. max last n + 1) size ∙ later.1 ∙ ap (λ xs. last + 1 + length {A = Group} xs) (sym same))

whole_both : (number : ℕ) (a b : List Group) → AreWhole number a → AreWhole (number + length a) b → AreWhole number (a ++ b)
whole_both number [] b one two = subst (λ n. AreWhole n b) (let same : number + 0 ≡ number = omega arith in same) two
whole_both number (g ∷ gs) b one two = (one.0, whole_both (number + 1) gs b one.1 (subst (λ n. AreWhole n b) (let same : number + suc (length gs) ≡ number + 1 + length gs = omega arith in same) two))

pub is_laid : (groups more : List Group) (found : Found) → behind groups found ≡ laid more → (rest : List Group) × ((found ≡ laid rest) × (more ≡ groups ++ rest))
is_laid groups more (laid rest) same = (rest, ((λ i. laid rest), (let is : more ≡ groups ++ rest = cc in is)))
is_laid groups more (gap number) same = let bad : ⊥ = cc in absurd bad

-- what is laid follows on from the last group
pub follows : (last : ℕ) (journals : List Journal) (groups : List Group) → AreWholeJournals journals → follow last journals ≡ laid groups → AreWhole (last + 1) groups
follows last [] groups whole same = subst (λ xs. AreWhole (last + 1) xs) (let is : [] ≡ groups = cc in is) tt
follows last (j ∷ js) groups whole same = pick (λ rest is. follows (max last (next_number j - 1)) js rest whole.1 is) (nat_lt (last + 1) j.first) (λ i. nat_lt (last + 1) j.first)
  where
    within : (m n : ℕ) → nat_lt m n ≡ false → n ≤ m
    within m n h = grind arith

    taken : Found
    taken = behind (groups_above last j.groups) (follow (max last (next_number j - 1)) js)

    pick : ((rest : List Group) → follow (max last (next_number j - 1)) js ≡ laid rest → AreWhole (max last (next_number j - 1) + 1) rest) → (b : Bool) → nat_lt (last + 1) j.first ≡ b → AreWhole (last + 1) groups
    pick more true here = let bad : gap (last + 1) ≡ laid groups = sym (ap (λ b. cond b (gap (last + 1)) taken) here) ∙ same in absurd (let no : ⊥ = cc in no)
    pick more false here =
        let parts = is_laid (groups_above last j.groups) groups (follow (max last (next_number j - 1)) js) (sym (ap (λ b. cond b (gap (last + 1)) taken) here) ∙ same) in
        let one = from_whole j.first last j.groups whole.0 (within (last + 1) j.first here) in
        let two = more parts.0 parts.1.0 in
        subst (λ xs. AreWhole (last + 1) xs) (sym parts.1.1) (whole_both (last + 1) (groups_above last j.groups) parts.0 one.0 (subst (λ n. AreWhole n parts.0) one.1 two))

-- and is all that a backup with that last group is rolled forward over
pub rolls : (last : ℕ) (journals : List Journal) (groups : List Group) → AreWholeJournals journals → follow last journals ≡ laid groups → (lines : Lines) → rolled lines last groups ≡ laid_groups groups lines
rolls last journals groups whole same lines = ap (λ gs. laid_groups gs lines) (all_above (last + 1) last groups (follows last journals groups whole same) (omega arith))
