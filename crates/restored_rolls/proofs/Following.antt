-- Groups in a journal, and in a copy with others behind it.
use Rattle.std.proofs.Common.{◌≡◌, ℕ, ◌+◌, ◌-◌, ◌≤◌, ◌<◌, max, List, [], ◌∷◌, ◌++◌, refl, sym, ◌∙◌, ap, arith}
use Rattle.journal_scan.specs.declared.group.Group.{Group}
use Rattle.line_view.specs.Knowledge.{Lines}
use Rattle.stable_lines.specs.Journal.{Journal, next_number, lines_behind}
use Rattle.stable_lines.specs.Rolling.{laid_groups, groups_above, rolled}
use Rattle.rolled_lines.specs.Journals.{follow, laid, behind}
use Rattle.rmu_recover.proofs.Following.{goes_on}

none_more : (groups : List Group) → groups ++ [] ≡ groups
none_more [] = refl
none_more (g ∷ gs) = ap (λ (l : List Group). g ∷ l) (none_more gs)

pub alone : (last : ℕ) (journal : Journal) → journal.first ≤ last + 1 → follow last (journal ∷ []) ≡ laid (groups_above last journal.groups)
alone last journal le = goes_on last journal [] le ∙ ap laid (none_more (groups_above last journal.groups))

pub copied : (last : ℕ) (copy : Journal) (rest : List Journal) (groups : List Group) → copy.first ≤ last + 1 → last < next_number copy → follow (next_number copy - 1) rest ≡ laid groups → follow last (copy ∷ rest) ≡ laid (groups_above last copy.groups ++ groups)
copied last copy rest groups le less follows = goes_on last copy rest le ∙ ap (λ (n : ℕ). behind (groups_above last copy.groups) (follow n rest)) (far last (next_number copy) less) ∙ ap (behind (groups_above last copy.groups)) follows
  where
    far : (a b : ℕ) → a < b → max a (b - 1) ≡ b - 1
    far a b less = grind (arith, less)

one_behind : (a b : List Group) (base : Lines) → laid_groups (a ++ b) base ≡ laid_groups b (laid_groups a base)
one_behind [] b base = refl
one_behind (g ∷ a) b base = one_behind a b (lines_behind g base)

pub gives : (base lines : Lines) (last : ℕ) (copy : Journal) (groups : List Group) → lines ≡ rolled base last copy.groups → laid_groups (groups_above last copy.groups ++ groups) base ≡ laid_groups groups lines
gives base lines last copy groups is = one_behind (groups_above last copy.groups) groups base ∙ ap (laid_groups groups) (sym is)
