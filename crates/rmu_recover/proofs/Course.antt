-- A roll-forward call by call: what each image is, and which files are as they were.
use Rattle.std.proofs.Common.{◌≡◌, ℕ, zero, suc, ◌+◌, ◌^◌, ◌≤◌, ◌<◌, max, IsTrue, List, [], ◌∷◌, Some, slice_get, ◌⊎◌, inl, inr, ⊎_elim, refl, sym, ◌∙◌, ap, subst, arith}
use Rattle.rdb_types.specs.declared.file.FileId.{FileId}
use Rattle.rdb_types.specs.declared.file.FileKind.TheVariants.{Root as RootKind, Area, Ruj, Aij, AijBackup}
use Rattle.rdb_outside.specs.Disk.{Image, View, LeftNow, Pending, LeavesOnly, IsPending, OnlyReads}
use Rattle.rdb_outside.specs.Moments.{each_slot, weaker}
use Rattle.root_file.specs.declared.Root.{Root}
use Rattle.root_file.specs.Root.{IsRoot}
use Rattle.journal_scan.specs.declared.group.Group.{Group}
use Rattle.new_database.specs.Maker.{root_file, aij_file}
use Rattle.line_opening.proofs.Standing.{leaves_on}
use Rattle.stable_lines.specs.Slots.{ruj_file, area_file}
use Rattle.stable_lines.specs.Journal.{Journal}
use Rattle.rolled_lines.specs.HalfLaid.{writes_of}
use Rattle.journal_backup.specs.Copied.{copy_named}
use Rattle.guarded_root.specs.Guarded.{IsEndOf, PendingOrEnd, IsRootSlot, IsPendingOr, AddsOnly}
use Rattle.fitted_groups.specs.laid_groups.Forward.{Forward, IsReady, IsHeld, FitAll}
use Rattle.fitted_groups.specs.laid_groups.Laid.{LaidOver}
use Rattle.fitted_groups.specs.laid_groups.Passing.{ceiling_behind}
use Rattle.fitted_groups.specs.Meeting.{TakesFirst, FitPages}
use Rattle.fitted_groups.proofs.Fits.{fits_forward, takes_first, fit_pages}
use Rattle.rmu_recover.specs.Journals.{files_of, AreJournalsIn}
use Rattle.rmu_recover.specs.Recovering.{root_unfinished, root_rolled, MayStand, MayBeRolled, IsToRoll, IsSource, AllFit, FitsImage, AreSound, IsRolled, WithinRecover, as_before, unfinished, rolled}
use Rattle.rmu_recover.proofs.Ended.{ceiling_grows, is_rolled}
use Rattle.rmu_recover.proofs.Walking.{journal_there}

kind_is : (f g : FileId) → f ≡ g → f.kind ≡ g.kind
kind_is f g same = ap (λ (x : FileId). x.kind) same

-- ---- numbers

tsn_below : (ceiling : ℕ) (groups : List Group) (i : ℕ) (g : Group) → slice_get groups i ≡ Some g → g.tsn.number < ceiling_behind ceiling groups
tsn_below ceiling [] i g got = let bad : ⊥ = cc in absurd bad
tsn_below ceiling (x ∷ groups) zero g got =
    let same : x ≡ g = cc in
    let grows = ceiling_grows (max ceiling (x.tsn.number + 1)) groups in
    subst (λ (y : Group). y.tsn.number < ceiling_behind (max ceiling (x.tsn.number + 1)) groups) same (above ceiling x.tsn.number (ceiling_behind (max ceiling (x.tsn.number + 1)) groups) grows)
  where
    above : (c n top : ℕ) → max c (n + 1) ≤ top → n < top
    above c n top le = grind (arith, le)
tsn_below ceiling (x ∷ groups) (suc i) g got = tsn_below (max ceiling (x.tsn.number + 1)) groups i g got

pub all_fit : (former : Image) (copies : List ℕ) (root : Root) (forward : Forward) (journals : List Journal) (groups : List Group) (aij : Journal) → IsSource former copies root forward journals groups aij → AllFit forward groups → (ceiling : ℕ) → ceiling ≡ forward.top → ceiling ≤ 2 ^ 62 → FitAll forward groups
all_fit former copies root forward journals groups aij source fit ceiling same few i g got = record {
  tsn = subst (λ (n : ℕ). g.tsn.number < n) (sym source.top) (tsn_below root.ceiling groups i g got);
  few = omega (arith, same, few);
  each = fit i g got;
}

-- ---- journals that are as they were

pub journals_there : (old new : Image) (copies : List ℕ) (journals : List Journal) → ((number slot : ℕ) → new (copy_named number) slot ≡ old (copy_named number) slot) → ((slot : ℕ) → new aij_file slot ≡ old aij_file slot) → AreJournalsIn old (files_of copies) journals → AreJournalsIn new (files_of copies) journals
journals_there old new [] [] each last there = there
journals_there old new [] (j ∷ []) each last there = (journal_there old new aij_file j last there.0, there.1)
journals_there old new [] (j ∷ k ∷ js) each last there = absurd there.1
journals_there old new (n ∷ ns) [] each last there = there
journals_there old new (n ∷ ns) (j ∷ js) each last there = (journal_there old new (copy_named n) j (each n) there.0, journals_there old new ns js each last there.1)

module _ (former : Image) (root : Root) (forward : Forward) where
  -- ---- what may be added

  may_root : (f : FileId) (i : ℕ) (x : List ℕ) → IsRootSlot (root_unfinished root) f i x → MayStand former root forward f i x
  may_root f i x it = record {
    hold = record {
      page = λ file number is plain same at. absurd (not_area file same);
      space = λ file number is page space same at. absurd (not_area file same);
      past = λ file is same from less. absurd (not_area file same);
    };
    root_slot = λ same at. record { state = 4; is = it.2; before = inr refl };
    journal = λ is. absurd (⊎_elim (λ (kind : f.kind ≡ Aij). let bad : RootKind ≡ Aij = sym (kind_is f root_file it.0) ∙ kind in (let no : ⊥ = cc in no)) (λ (kind : f.kind ≡ AijBackup). let bad : RootKind ≡ AijBackup = sym (kind_is f root_file it.0) ∙ kind in (let no : ⊥ = cc in no)) is);
    header = λ member is same at. absurd (not_ruj member same);
    none_named = λ member is same at. absurd (not_ruj member same);
    entry = λ member e is same from there. absurd (not_ruj member same);
  }
    where
      not_area : (file : ℕ) → f ≡ area_file file → ⊥
      not_area file same = let bad : RootKind ≡ Area = kind_is root_file (area_file file) (sym it.0 ∙ same) in cc

      not_ruj : (member : ℕ) → f ≡ ruj_file member → ⊥
      not_ruj member same = let bad : RootKind ≡ Ruj = kind_is root_file (ruj_file member) (sym it.0 ∙ same) in cc

  may_area : (f : FileId) (i : ℕ) (x : List ℕ) → IsHeld forward f i x → MayStand former root forward f i x
  may_area f i x it = record {
    hold = it.1;
    root_slot = λ same at. absurd (let bad : Area ≡ RootKind = sym it.0 ∙ kind_is f root_file same in (let no : ⊥ = cc in no));
    journal = λ is. absurd (⊎_elim (λ (kind : f.kind ≡ Aij). let bad : Area ≡ Aij = sym it.0 ∙ kind in (let no : ⊥ = cc in no)) (λ (kind : f.kind ≡ AijBackup). let bad : Area ≡ AijBackup = sym it.0 ∙ kind in (let no : ⊥ = cc in no)) is);
    header = λ member is same at. absurd (not_ruj member same);
    none_named = λ member is same at. absurd (not_ruj member same);
    entry = λ member e is same from there. absurd (not_ruj member same);
  }
    where
      not_ruj : (member : ℕ) → f ≡ ruj_file member → ⊥
      not_ruj member same = let bad : Area ≡ Ruj = sym it.0 ∙ kind_is f (ruj_file member) same in cc

  to_roll_on : (more : FileId → ℕ → List ℕ → Type 0) (old new : View) → AddsOnly more old new → ((f : FileId) (i : ℕ) (x : List ℕ) → more f i x → MayStand former root forward f i x) → IsToRoll former root forward old → IsToRoll former root forward new
  to_roll_on more old new adds may is f i x p = ⊎_elim (λ was. is f i x was) (λ it. may f i x it) (adds.pending f i x p)

  image_on : (more : FileId → ℕ → List ℕ → Type 0) (old : View) → ((f : FileId) (i : ℕ) (x : List ℕ) → more f i x → MayStand former root forward f i x) → IsToRoll former root forward old → (image : Image) → IsPendingOr old more image → MayBeRolled former root forward image
  image_on more old may is image each f i = ⊎_elim (λ was. is f i (image f i) was) (λ it. may f i (image f i) it) (each f i)

  pub content_stands : (v : View) → IsToRoll former root forward v → LeftNow v v.content → MayBeRolled former root forward v.content
  content_stands v is left f i = is f i (v.content f i) (each_slot v v.content left f i)

  -- the journals as they stand
  pub journals_now : (copies : List ℕ) (journals : List Journal) (image : Image) → MayBeRolled former root forward image → AreJournalsIn former (files_of copies) journals → AreJournalsIn image (files_of copies) journals
  journals_now copies journals image stands there = journals_there former image copies journals (λ number slot. (stands (copy_named number) slot).journal (inr refl)) (λ slot. (stands aij_file slot).journal (inl refl)) there

  -- groups that fit the pages as they stand have their places in the end
  pub fits_all : (copies : List ℕ) (journals : List Journal) (groups : List Group) (aij : Journal) → IsSource former copies root forward journals groups aij → (v : View) → IsToRoll former root forward v → LeftNow v v.content → TakesFirst v.content forward groups → FitPages v.content root.limits.pages groups → AllFit forward groups
  fits_all copies journals groups aij source v to_roll left takes fit =
      fits_forward v.content forward groups (λ f i. (content_stands v to_roll left f i).hold) takes source.writes (subst (λ (n : ℕ). FitPages v.content n groups) (sym source.pages) fit)

  -- ---- call by call

  module _ (groups : List Group) (aij : Journal) (classes : ℕ → ℕ) (old guarded : View) (to_roll : IsToRoll former root forward old) (adds : AddsOnly (IsRootSlot (root_unfinished root)) old guarded) where
    pub to_roll_guarded : IsToRoll former root forward guarded
    to_roll_guarded = to_roll_on (IsRootSlot (root_unfinished root)) old guarded adds may_root to_roll

    pub ready_guarded : IsReady forward guarded
    ready_guarded f i x p = (to_roll_guarded f i x p).hold

    module _ (pages : forward.pages ≡ root.limits.pages) (fits : AllFit forward groups) where
      -- such an image, whose pages the groups fit as well
      begun : (image : Image) → IsRoot (image root_file 0) (root_unfinished root) → MayBeRolled former root forward image → WithinRecover old former classes root forward groups aij image
      begun image is stands = unfinished is stands (record {
        fit = subst (λ (n : ℕ). FitPages image n groups) pages (fit_pages forward groups fits image (λ f i. (stands f i).hold));
        first = takes_first forward groups fits image;
      })

      pub within_guard : LeavesOnly old guarded (WithinRecover old former classes root forward groups aij)
      within_guard = weaker old guarded (IsPendingOr old (IsRootSlot (root_unfinished root))) (WithinRecover old former classes root forward groups aij) at_once adds.leaves
        where
          at_once : (image : Image) → IsPendingOr old (IsRootSlot (root_unfinished root)) image → WithinRecover old former classes root forward groups aij image
          at_once image each = ⊎_elim
              (λ was. as_before (λ f i. ⊎_elim (λ p. p) (λ it. subst (λ (n : ℕ). Pending old f n (image f n)) (sym it.1) (subst (λ (g : FileId). Pending old g 0 (image g 0)) (sym it.0) was)) (each f i)))
              (λ it. begun image it.2 (image_on (IsRootSlot (root_unfinished root)) old may_root to_roll image each))
              (each root_file 0)

      module _ (held : (x : List ℕ) → Pending guarded root_file 0 x → IsRoot x (root_unfinished root)) (laid : View) (lays : AddsOnly (IsHeld forward) guarded laid) where
        pub to_roll_laid : IsToRoll former root forward laid
        to_roll_laid = to_roll_on (IsHeld forward) guarded laid lays may_area to_roll_guarded

        root_or : (x : List ℕ) → Pending guarded root_file 0 x ⊎ IsHeld forward root_file 0 x → IsRoot x (root_unfinished root)
        root_or x either = ⊎_elim (λ p. held x p) (λ it. absurd (let bad : RootKind ≡ Area = it.0 in (let no : ⊥ = cc in no))) either

        pub within_lays : LeavesOnly old laid (WithinRecover old former classes root forward groups aij)
        within_lays = leaves_on old guarded laid (WithinRecover old former classes root forward groups aij) within_guard
            (weaker guarded laid (IsPendingOr guarded (IsHeld forward)) (WithinRecover old former classes root forward groups aij)
            (λ image each. begun image (root_or (image root_file 0) (each root_file 0)) (image_on (IsHeld forward) guarded may_area to_roll_guarded image each)) lays.leaves)

        module _ (copies : List ℕ) (journals : List Journal) (source : IsSource former copies root forward journals groups aij) (sound : AreSound forward groups classes) (left : LeftNow guarded guarded.content) (now : LeftNow laid laid.content) (over : LaidOver forward (writes_of groups) guarded.content laid.content) where
          pub rolled_image : (image : Image) → IsEndOf laid.content (root_rolled root forward.top) image → IsRolled classes root forward groups aij image
          rolled_image image ended = is_rolled former copies root forward journals groups aij classes source sound guarded.content laid.content image
              (content_stands guarded to_roll_guarded left) (content_stands laid to_roll_laid now) over ended

          pub within_end : (new : View) → LeavesOnly laid new (PendingOrEnd laid (root_rolled root forward.top)) → LeavesOnly old new (WithinRecover old former classes root forward groups aij)
          within_end new leaves = leaves_on old laid new (WithinRecover old former classes root forward groups aij) within_lays
              (weaker laid new (PendingOrEnd laid (root_rolled root forward.top)) (WithinRecover old former classes root forward groups aij) late leaves)
            where
              late : (image : Image) → PendingOrEnd laid (root_rolled root forward.top) image → WithinRecover old former classes root forward groups aij image
              late image (inl each) = begun image (root_or (image root_file 0) (lays.pending root_file 0 (image root_file 0) (each root_file 0))) (λ f i. to_roll_laid f i (image f i) (each f i))
              late image (inr ended) = rolled (rolled_image image ended)

  -- ---- behind reads

  module _ (groups : List Group) (aij : Journal) (classes : ℕ → ℕ) (old mid : View) (reads : OnlyReads old mid) (t : IsTrue old.tells) where
    pub to_roll_read : IsToRoll former root forward old → IsToRoll former root forward mid
    to_roll_read is f i x p = is f i x ((reads.keeps t).pending f i x p)

    pub within_reads : LeavesOnly old mid (WithinRecover old former classes root forward groups aij)
    within_reads = weaker old mid (IsPending old) (WithinRecover old former classes root forward groups aij) (λ image is. as_before is) (reads.leaves t)

    pub within_behind : (new : View) → LeavesOnly mid new (WithinRecover mid former classes root forward groups aij) → LeavesOnly old new (WithinRecover old former classes root forward groups aij)
    within_behind new leaves = leaves_on old mid new (WithinRecover old former classes root forward groups aij) within_reads
        (weaker mid new (WithinRecover mid former classes root forward groups aij) (WithinRecover old former classes root forward groups aij) before leaves)
      where
        before : (image : Image) → WithinRecover mid former classes root forward groups aij image → WithinRecover old former classes root forward groups aij image
        before image (as_before is) = as_before (λ f i. (reads.keeps t).pending f i (image f i) (is f i))
        before image (unfinished is stands takes) = unfinished is stands takes
        before image (rolled is) = rolled is
