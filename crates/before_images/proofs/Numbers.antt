-- Which transactions are open, by the numbers that are left of the headers.
use Rattle.std.specs.Prelude.{if◌then◌else◌}
use Rattle.std.proofs.Common.{◌≡◌, ◌≢◌, ℕ, zero, suc, ◌-◌, ◌≤◌, ◌<◌, Bool, true, false, List, [], ◌∷◌, map, get_or, refl, sym, ap, ◌∙◌, arith}
use Rattle.rdb_outside.specs.Disk.{Image}
use Rattle.journal_scan.specs.declared.group.Group.{Group}
use Rattle.stable_lines.specs.Slots.{ruj_file, IsMember, named}
use Rattle.stable_lines.specs.Journal.{has_group}
use Rattle.stable_lines.specs.Image.{IsEnded, IsOpenAt}
use Rattle.line_opening.specs.Headers.{number_of, open_in, AreNamed}
use Rattle.before_images.specs.Open.{AreOpen}

-- what is left of the numbers that the headers name
got_open : (groups : List Group) (named : List ℕ) (k : ℕ) → get_or (map (open_in groups) named) k 0 ≡ open_in groups (get_or named k 0)
got_open groups [] k = none_left (has_group 0 groups)
  where
    none_left : (b : Bool) → ◌≡◌ {A = ℕ} 0 (if b then 0 else 0)
    none_left true = refl
    none_left false = refl
got_open groups (n ∷ named) zero = refl
got_open groups (n ∷ named) (suc k) = got_open groups named k

pub are_open : (image : Image) (groups : List Group) (names numbers : List ℕ) → AreNamed image names → numbers ≡ map (open_in groups) names → AreOpen image groups numbers
are_open image groups names numbers are left member is = ap (λ (l : List ℕ). number_of l member) left ∙ got_open groups names (member - 1) ∙ ap (open_in groups) (are.each member is)

-- the first member whose open transaction this is
pub record IsFirst (numbers : List ℕ) (tsn member : ℕ) : Type 0 where
  pub is_member : IsMember member
  pub has : number_of numbers member ≡ tsn
  pub first : (other : ℕ) → IsMember other → other < member → number_of numbers other ≢ tsn

is_open : (b : Bool) (n tsn : ℕ) → 1 ≤ tsn → (if b then 0 else n) ≡ tsn → (b ≡ false) × (n ≡ tsn)
is_open true n tsn some is = absurd (let bad : ⊥ = omega (arith, some, is) in bad)
is_open false n tsn some is = (refl, is)

module _ (image : Image) (groups : List Group) (numbers : List ℕ) (are : AreOpen image groups numbers) (tsn : ℕ) where
  -- a header that names a transaction without a group is noted
  noted : (member : ℕ) → IsMember member → named (image (ruj_file member) 0) ≡ tsn → has_group tsn groups ≡ false → number_of numbers member ≡ tsn
  noted member is_member names no_group =
      are member is_member ∙ ap (open_in groups) names ∙ ap (λ (b : Bool). if b then 0 else tsn) no_group

  pub open_at : 1 ≤ tsn → (member : ℕ) → IsFirst numbers tsn member → IsOpenAt image groups tsn member
  open_at some member first =
      let own : ℕ = named (image (ruj_file member) 0) in
      let left = is_open (has_group own groups) own tsn some (sym (are member first.is_member) ∙ first.has) in
      let no_group : has_group tsn groups ≡ false = ap (λ (n : ℕ). has_group n groups) (sym left.1) ∙ left.0 in
      record {
        number = some;
        no_group = no_group;
        is_member = first.is_member;
        names = left.1;
        first = λ other is_member before names. first.first other is_member before (noted other is_member names no_group);
      }

  pub ended : (1 ≤ tsn → (member : ℕ) → IsMember member → number_of numbers member ≢ tsn) → IsEnded image groups tsn
  ended none member is_member number names = by (has_group tsn groups) refl
    where
      by : (b : Bool) → has_group tsn groups ≡ b → b ≡ true
      by true is = refl
      by false is = absurd (none number member is_member (noted member is_member names is))
