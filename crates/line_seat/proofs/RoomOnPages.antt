-- The page of a line of a commit has a place for it.
use Rattle.std.proofs.Common.{◌≡◌, ◌≤◌, ◌<◌, ◌-◌, ℕ, List, length, Some, ⊎_elim, refl, ap, sym, subst, ◌∙◌, arith}
use Rattle.std.specs.Prelude.{slice_get, ◌^◌}
use Rattle.rdb_types.specs.declared.keys.Dbkey.{Dbkey}
use Rattle.rdb_types.specs.declared.keys.Line.{Line}
use Rattle.rdb_types.specs.declared.keys.LineState.{LineState}
use Rattle.rdb_types.specs.declared.keys.LineState.TheVariants.{Never, Present, Erased}
use Rattle.rdb_types.specs.declared.keys.Tsn.{Tsn}
use Rattle.rdb_outside.specs.Disk.{View, LeftNow, Pending}
use Rattle.area_files.specs.Areas.{space_page_of}
use Rattle.rdb_page.specs.declared.head.Head.{Head}
use Rattle.rdb_page.specs.Lines.{Agrees, IsAllowedLine}
use Rattle.rdb_page.specs.Page.{IsHead, IsOwner, IsUnused, class_at, lines_of}
use Rattle.rdb_page.specs.Whole.{IsPageOf, IsUsedPage}
use Rattle.aij_journal.specs.Part.{LeavesLine}
use Rattle.line_moves.specs.stable_lines.Slots.{area_file, owner_at, IsAreaFile}
use Rattle.line_moves.specs.stable_lines.Progress.{Open, Progress}
use Rattle.line_moves.specs.stable_lines.Facts.{Facts}
use Rattle.line_moves.specs.declared.places.Place.{Place}
use Rattle.line_moves.specs.Changes.{Fits, IsEntered, IsPlaceOf}
use Rattle.line_moves.specs.Lines.{AllFit, AllFitBegun, ChangedLines, IsStarted}
use Rattle.line_moves.proofs.FilledPages.{some_there}
use Rattle.line_moves.proofs.KeyPlaces.{area_is}
use Rattle.line_moves.proofs.Reading.{class_is, owner_is}
use Rattle.line_moves.proofs.Runs.{pends}
use Rattle.line_moves.proofs.Spots.{place_has}
use Rattle.line_seat.specs.Groups.{AreAllowed, AreOfTransaction, HaveRoom}
use Rattle.line_seat.proofs.CommitSteps.{less_than}

owner_some : (file owner : ℕ) → IsOwner file owner → 1 ≤ owner
owner_some file owner is = ⊎_elim
    (λ one. let at = one.1 in omega (arith, at))
    (λ more. ⊎_elim (λ two. let at = two.1 in omega (arith, at)) (λ three. let at = three.1 in omega (arith, at)) more) is

agrees_as_left : (state : LineState) (tsn chain : ℕ) (image : List ℕ) → LeavesLine state image → Agrees state tsn chain image
agrees_as_left Never tsn chain image leaves = absurd leaves
agrees_as_left Present tsn chain image leaves = tt
agrees_as_left Erased tsn chain image leaves = leaves

-- a page with a head of this area and this class
record HasHead (page : List ℕ) (area class : ℕ) : Type 0 where
  pub head : Head
  pub is : IsHead page head
  pub owner : head.owner ≡ area
  pub class_is : head.class ≡ class

module _ (v : View) (left : LeftNow v v.content) (now : Progress) (facts : Facts (Pending v) now) (o : Open) (lines : ChangedLines) (classes : List ℕ) (by_area : ℕ → ℕ) (room : HaveRoom (Pending v) by_area lines classes)
    (allowed : AreAllowed lines classes) (bears : AreOfTransaction o lines) (small : o.tsn.number < 2 ^ 62) (long : length classes ≡ length lines)
    (at : ℕ) (first : Dbkey × Line) (class : ℕ) (got : slice_get lines at ≡ Some first) (got_class : slice_get classes at ≡ Some class) (place : Place) (names : IsPlaceOf first.0 place) (entered : IsEntered (Pending v) place first.0.area) where
  abbrev bytes : List ℕ
  bytes = v.content (area_file place.file) (place.page - 1)

  is_file : IsAreaFile place.file
  is_file = area_is first.0 place names

  there : Pending v (area_file place.file) (place.page - 1) bytes
  there = pends v left (area_file place.file) (place.page - 1)

  pub is_page : IsPageOf place.file place.page bytes
  is_page = facts.pages.page place.file place.page bytes is_file names.is_data there

  of_used : IsUsedPage place.file place.page bytes → HasHead bytes first.0.area class
  of_used used =
      let owner = owner_is bytes used.head used.stands.head in
      let owned : 1 ≤ owner_at bytes = subst (λ (n : ℕ). 1 ≤ n) (sym owner) (owner_some place.file used.head.owner used.stands.owner) in
      let space = pends v left (area_file place.file) (space_page_of place.page - 1) in
      let its : owner_at bytes ≡ first.0.area = sym (facts.pages.owner place.file place.page bytes _ is_file names.is_data there owned space) ∙ entered _ space in
      record {
        head = used.head;
        is = used.stands.head;
        owner = sym owner ∙ its;
        class_is = sym (class_is bytes used.head used.stands.head) ∙ room.pages place.file place.page bytes is_file names.is_data there owned ∙ ap by_area its ∙ sym (room.of_areas at first class got got_class);
      }

  begun_head : (begun : List ℕ) → IsStarted place first.0.area class bytes begun → HasHead begun first.0.area class
  begun_head begun started = ⊎_elim of_unused (λ same. ⊎_elim of_unused (λ used. subst (λ (b : List ℕ). HasHead b first.0.area class) (sym same) (of_used used)) is_page) started.either
    where
      of_unused : IsUnused bytes → HasHead begun first.0.area class
      of_unused unused = record { head = record { page = place.page; owner = first.0.area; class = class }; is = (started.unused unused).is; owner = refl; class_is = refl }

  fits : (begun : List ℕ) → HasHead begun first.0.area class → (i : ℕ) (line : Dbkey × Line) → slice_get lines i ≡ Some line → line.0.area ≡ first.0.area → line.0.page ≡ first.0.page → Fits line.0 line.1 begun
  fits begun has i line is area page =
      let less : i < length classes = subst (λ (n : ℕ). i < n) (sym long) (less_than i line lines is) in
      let its = some_there classes i less in
      let same : its.0 ≡ class = room.of_areas i line its.0 is its.1 ∙ ap by_area area ∙ sym (room.of_areas at first class got got_class) in
      let names_it : IsPlaceOf line.0 place = record { owner = subst (λ (n : ℕ). IsOwner place.file n) (sym area) names.owner; page = names.page ∙ sym page; is_data = names.is_data } in
      let within : line.0.line < lines_of has.head.class = subst (λ (n : ℕ). line.0.line < lines_of n) (same ∙ sym has.class_is) (room.within i line its.0 is its.1) in
      let at_class : its.0 ≡ class_at begun = same ∙ sym has.class_is ∙ sym (class_is begun has.head has.is) in
      let may = allowed i line its.0 is its.1 in
      record {
        placed = place_has line.0 place begun has.head names_it has.is (has.owner ∙ sym area) within;
        allowed = subst (λ (n : ℕ). IsAllowedLine n line.1) at_class (record {
          tsn = subst (λ (t : Tsn). t.number < 2 ^ 62) (sym (bears i line is)) small;
          image = may.image;
          agrees = agrees_as_left line.1.state line.1.tsn.number line.1.chain line.1.image may.leaves;
        });
      }

  pub all_fit : AllFitBegun lines at place class bytes
  all_fit one begun is started i other line le is_other is_line area page =
      let same = one_of first one (sym got ∙ is) in
      let same_other = one_of first other (sym got ∙ is_other) in
      fits begun (begun_head begun (subst (λ (l : Dbkey × Line). IsStarted place l.0.area class bytes begun) (sym same) started)) i line is_line
      (area ∙ ap (λ (l : Dbkey × Line). l.0.area) (sym same_other)) (page ∙ ap (λ (l : Dbkey × Line). l.0.page) (sym same_other))
    where
      one_of : (a b : Dbkey × Line) → Some a ≡ Some b → a ≡ b
      one_of a b e = cc
