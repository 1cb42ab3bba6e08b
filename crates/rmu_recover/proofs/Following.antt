-- Journals followed one behind another.
use Rattle.std.proofs.Common.{◌≡◌, ℕ, ◌+◌, ◌-◌, ◌≤◌, ◌<◌, Bool, true, false, nat_lt, max, cond, List, [], ◌∷◌, ◌++◌, length, refl, sym, ◌∙◌, ap, arith}
use Rattle.std.proofs.lemmas.Bool.{lt-ltb}
use Rattle.journal_scan.specs.declared.group.Group.{Group}
use Rattle.journal_scan.specs.Whole.{AreWhole}
use Rattle.stable_lines.specs.Journal.{Journal, next_number}
use Rattle.stable_lines.specs.Rolling.{groups_above}
use Rattle.rolled_lines.specs.Journals.{Found, laid, gap, behind, follow}
use Rattle.rolled_lines.proofs.Following.{from_whole, is_laid}

over : (a b : List Group) (found : Found) → behind a (behind b found) ≡ behind (a ++ b) found
over a b (laid more) = ap laid (sym (joins a b more))
  where
    joins : (x y z : List Group) → (x ++ y) ++ z ≡ x ++ (y ++ z)
    joins [] y z = refl
    joins (g ∷ x) y z = ap (λ (l : List Group). g ∷ l) (joins x y z)
over a b (gap number) = refl

pub none_behind : (found : Found) → found ≡ behind [] found
none_behind (laid more) = refl
none_behind (gap number) = refl

-- a journal that goes on from there
pub goes_on : (last : ℕ) (j : Journal) (js : List Journal) → j.first ≤ last + 1 → follow last (j ∷ js) ≡ behind (groups_above last j.groups) (follow (max last (next_number j - 1)) js)
goes_on last j js le = ap (λ (b : Bool). cond b (gap (last + 1)) (behind (groups_above last j.groups) (follow (max last (next_number j - 1)) js))) (within (last + 1) j.first le)
  where
    within : (m n : ℕ) → n ≤ m → nat_lt m n ≡ false
    within m n h = grind (arith, h)

-- one that begins too late
pub too_late : (last : ℕ) (j : Journal) (js : List Journal) → last + 1 < j.first → follow last (j ∷ js) ≡ gap (last + 1)
too_late last j js lt = ap (λ (b : Bool). cond b (gap (last + 1)) (behind (groups_above last j.groups) (follow (max last (next_number j - 1)) js))) (lt-ltb (last + 1) j.first lt)

-- where all follow on, the first does
pub follows_first : (last : ℕ) (j : Journal) (js : List Journal) (groups : List Group) → follow last (j ∷ js) ≡ laid groups → j.first ≤ last + 1
follows_first last j js groups is = by (nat_lt (last + 1) j.first) refl
  where
    other : (m n : ℕ) → nat_lt m n ≡ false → n ≤ m
    other m n h = grind arith

    by : (b : Bool) → nat_lt (last + 1) j.first ≡ b → j.first ≤ last + 1
    by true late = let bad : gap (last + 1) ≡ laid groups = sym (ap (λ (b : Bool). cond b (gap (last + 1)) (behind (groups_above last j.groups) (follow (max last (next_number j - 1)) js))) late) ∙ is in absurd (let no : ⊥ = cc in no)
    by false early = other (last + 1) j.first early

-- and its groups come first
pub follows_rest : (last : ℕ) (j : Journal) (js : List Journal) (groups : List Group) → follow last (j ∷ js) ≡ laid groups → (rest : List Group) × ((follow (max last (next_number j - 1)) js ≡ laid rest) × (groups ≡ groups_above last j.groups ++ rest))
follows_rest last j js groups is = is_laid (groups_above last j.groups) groups (follow (max last (next_number j - 1)) js) (sym (goes_on last j js (follows_first last j js groups is)) ∙ is)

-- how many they are
pub counted : (last : ℕ) (j : Journal) → AreWhole j.first j.groups → j.first ≤ last + 1 → max last (next_number j - 1) ≡ last + length (groups_above last j.groups)
counted last j whole le = let up = (from_whole j.first last j.groups whole le).1 in omega (arith, up)

-- two runs of journals
pub behind_more : (a b : List Group) (found was next : Found) → found ≡ behind a was → was ≡ behind b next → found ≡ behind (a ++ b) next
behind_more a b found was next first second = first ∙ ap (behind a) second ∙ over a b next

pub behind_gap : (a : List Group) (found was : Found) (number : ℕ) → found ≡ behind a was → was ≡ gap number → found ≡ gap number
behind_gap a found was number first is = first ∙ ap (behind a) is

pub behind_laid : (a b : List Group) (found was : Found) → found ≡ behind a was → was ≡ laid b → found ≡ laid (a ++ b)
behind_laid a b found was first is = first ∙ ap (behind a) is
