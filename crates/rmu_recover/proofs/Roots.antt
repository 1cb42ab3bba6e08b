-- The root that is read, and the one that a roll-forward goes by: they differ in their states alone.
use Rattle.std.proofs.Common.{◌≡◌, ℕ, ◌-◌, List, length, ◌⊎◌, refl, sym, ◌∙◌, ap, subst, arith}
use Rattle.rdb_types.specs.declared.file.FileId.{FileId}
use Rattle.rdb_outside.specs.Disk.{Image, View, LeftNow, LeavesOnly}
use Rattle.rdb_outside.specs.Moments.{weaker}
use Rattle.root_file.specs.declared.Root.{Root}
use Rattle.root_file.specs.Root.{IsRoot}
use Rattle.root_file.proofs.Readings.{one_root}
use Rattle.journal_scan.specs.declared.group.Group.{Group}
use Rattle.new_database.specs.Maker.{root_file}
use Rattle.stable_lines.specs.Journal.{Journal}
use Rattle.rolled_lines.specs.Journals.{follow, laid, gap}
use Rattle.fitted_groups.specs.laid_groups.declared.passing.Reached.{Reached}
use Rattle.fitted_groups.specs.laid_groups.Forward.{Forward}
use Rattle.fitted_groups.specs.laid_groups.Passing.{ceiling_behind}
use Rattle.rmu_recover.specs.Journals.{FollowsTo}
use Rattle.rmu_recover.specs.Recovering.{MayStand, IsToRoll, IsSource, IsRolled, WithinRecover, as_before, unfinished, rolled}
use Rattle.rmu_recover.proofs.Course.{content_stands}

-- ---- how far the journals go

one_list : (a b : List Group) → laid a ≡ laid b → a ≡ b
one_list a b same = cc

pub its_groups : (former : Image) (copies : List ℕ) (root : Root) (forward : Forward) (journals : List Journal) (groups : List Group) (aij : Journal) → IsSource former copies root forward journals groups aij → (at reached : Reached) → at.last ≡ root.applied → (follows : FollowsTo at journals reached) → follows.groups ≡ groups
its_groups former copies root forward journals groups aij source at reached last follows = one_list follows.groups groups (sym follows.follows ∙ ap (λ (n : ℕ). follow n journals) last ∙ source.follows)

pub top_is : (former : Image) (copies : List ℕ) (root : Root) (forward : Forward) (journals : List Journal) (groups : List Group) (aij : Journal) → IsSource former copies root forward journals groups aij → (at reached : Reached) → at.last ≡ root.applied → at.ceiling ≡ root.ceiling → FollowsTo at journals reached → reached.ceiling ≡ forward.top
top_is former copies root forward journals groups aij source at reached last ceiling follows =
    follows.ceiling ∙ ap (λ (n : ℕ). ceiling_behind n follows.groups) ceiling ∙ ap (ceiling_behind root.ceiling) (its_groups former copies root forward journals groups aij source at reached last follows) ∙ sym source.top

pub count_is : (former : Image) (copies : List ℕ) (root : Root) (forward : Forward) (journals : List Journal) (groups : List Group) (aij : Journal) → IsSource former copies root forward journals groups aij → (at reached : Reached) → at.last ≡ root.applied → FollowsTo at journals reached → reached.last - root.applied ≡ length groups
count_is former copies root forward journals groups aij source at reached last follows =
    let far = follows.last in
    let same : length follows.groups ≡ length groups = ap length (its_groups former copies root forward journals groups aij source at reached last follows) in
    omega (arith, far, same, last)

-- where a group is missing no pass comes to an end
pub no_pass : (journals : List Journal) (number : ℕ) (at reached : Reached) → FollowsTo at journals reached → follow at.last journals ≡ gap number → ⊥
no_pass journals number at reached follows missing = laid_is_no_gap follows.groups number (sym follows.follows ∙ missing)
  where
    laid_is_no_gap : (groups : List Group) (n : ℕ) → laid groups ≡ gap n → ⊥
    laid_is_no_gap groups n same = let bad : ⊥ = cc in bad

-- ---- of another state

module _ (former : Image) (root : Root) (forward : Forward) (s : ℕ) where
  pub stand_as : (f : FileId) (i : ℕ) (x : List ℕ) → MayStand former root forward f i x → MayStand former (record root { state = s }) forward f i x
  stand_as f i x it = record {
    hold = it.hold;
    root_slot = λ same at. let was = it.root_slot same at in record { state = was.state; is = was.is; before = was.before };
    journal = it.journal;
    header = it.header;
    none_named = it.none_named;
    entry = it.entry;
  }

  stand_back : (f : FileId) (i : ℕ) (x : List ℕ) → MayStand former (record root { state = s }) forward f i x → MayStand former root forward f i x
  stand_back f i x it = record {
    hold = it.hold;
    root_slot = λ same at. let was = it.root_slot same at in record { state = was.state; is = was.is; before = was.before };
    journal = it.journal;
    header = it.header;
    none_named = it.none_named;
    entry = it.entry;
  }

  module _ (copies : List ℕ) (journals : List Journal) (groups : List Group) (aij : Journal) where
    source_as : IsSource former copies root forward journals groups aij → IsSource former copies (record root { state = s }) forward journals groups aij
    source_as source = record {
      journals_stand = source.journals_stand;
      follows = source.follows;
      writes = source.writes;
      pages = source.pages;
      top = source.top;
      journal = source.journal;
      commits = source.commits;
      below = source.below;
    }

    -- the root that is read
    module _ (code : Root) (same : code ≡ record root { state = s }) where
      pub to_roll_code : (v : View) → IsToRoll former root forward v → IsToRoll former code forward v
      to_roll_code v is = subst (λ (r : Root). IsToRoll former r forward v) (sym same) (λ f i x p. stand_as f i x (is f i x p))

      pub source_code : IsSource former copies root forward journals groups aij → IsSource former copies code forward journals groups aij
      source_code source = subst (λ (r : Root). IsSource former copies r forward journals groups aij) (sym same) (source_as source)

      module _ (classes : ℕ → ℕ) where
        pub rolled_code : (image : Image) → IsRolled classes code forward groups aij image → IsRolled classes root forward groups aij image
        rolled_code image is = let there = subst (λ (r : Root). IsRolled classes r forward groups aij image) same is in record { root_is = there.root_is; kept = there.kept }

        pub within_code : (old new : View) → LeavesOnly old new (WithinRecover old former classes code forward groups aij) → LeavesOnly old new (WithinRecover old former classes root forward groups aij)
        within_code old new leaves = weaker old new (WithinRecover old former classes code forward groups aij) (WithinRecover old former classes root forward groups aij) back leaves
          where
            again : (image : Image) → WithinRecover old former classes (record root { state = s }) forward groups aij image → WithinRecover old former classes root forward groups aij image
            again image (as_before is) = as_before is
            again image (unfinished is stands takes) = unfinished is (λ f i. stand_back f i (image f i) (stands f i)) (record { fit = takes.fit; first = takes.first })
            again image (rolled is) = rolled (record { root_is = is.root_is; kept = is.kept })

            back : (image : Image) → WithinRecover old former classes code forward groups aij image → WithinRecover old former classes root forward groups aij image
            back image is = again image (subst (λ (r : Root). WithinRecover old former classes r forward groups aij image) same is)

-- the root that is read on such a disk
pub its_root : (former : Image) (root : Root) (forward : Forward) (v : View) → IsToRoll former root forward v → LeftNow v v.content → (code : Root) → IsRoot (v.content root_file 0) code → (s : ℕ) × (code ≡ record root { state = s }) × ((s ≡ 3) ⊎ (s ≡ 4))
its_root former root forward v to_roll left code stands =
    let it = (content_stands former root forward v to_roll left root_file 0).root_slot refl refl in
    (it.state, one_root (v.content root_file 0) code (record root { state = it.state }) stands it.is, it.before)

pub has_root : (former : Image) (root : Root) (forward : Forward) (v : View) → IsToRoll former root forward v → LeftNow v v.content → (code : Root) × IsRoot (v.content root_file 0) code
has_root former root forward v to_roll left =
    let it = (content_stands former root forward v to_roll left root_file 0).root_slot refl refl in
    (record root { state = it.state }, it.is)

-- it isn't that of a database in use, nor an unfinished restore's
pub not_used : (code root : Root) (s : ℕ) → code ≡ record root { state = s } → (s ≡ 3) ⊎ (s ≡ 4) → (code.state ≡ 1) ⊎ (code.state ≡ 2) → ⊥
not_used code root s same before either = let states : code.state ≡ s = ap (λ (r : Root). r.state) same in omega (arith, states, before, either)
