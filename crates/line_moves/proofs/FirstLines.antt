-- A page that was never used gets its head.
use Rattle.std.proofs.Common.{◌≡◌, ℕ, ◌-◌, ◌≤◌, ◌<◌, Bool, true, false, List, Some, None, ◌⊎◌, inr, ⊎_elim, ap, sym, subst, ◌∙◌, refl}
use Rattle.rdb_types.specs.declared.file.FileId.{FileId}
use Rattle.rdb_types.specs.declared.keys.Dbkey.{Dbkey}
use Rattle.rdb_types.specs.declared.keys.Line.{Line}
use Rattle.line_store.specs.rdb_page.declared.head.Head.{Head}
use Rattle.line_store.specs.rdb_page.Lines.{never, IsLine}
use Rattle.line_store.specs.rdb_page.Page.{IsUnused, class_at, lines_of}
use Rattle.line_store.specs.rdb_page.Whole.{IsPageOf}
use Rattle.line_store.specs.line_view.Knowledge.{line_in}
use Rattle.stable_lines.specs.Slots.{area_file, file_of, slot_of, has_place, line_on}
use Rattle.stable_lines.specs.Progress.{Flight, Progress, lines_with}
use Rattle.stable_lines.specs.Facts.{PendingContents, IsCommitted, IsChanged, HasLanded, Facts}
use Rattle.stable_lines.proofs.Never.{nothing_on, zeros_owner, not_committed, not_in_flight}
use Rattle.line_moves.specs.declared.places.Place.{Place}
use Rattle.line_moves.specs.Contents.{IsOn, IsSurePage}
use Rattle.line_moves.specs.Changes.{IsPlaceOf, IsEntered}
use Rattle.line_moves.specs.Lines.{HasNoLines, IsStarted}
use Rattle.line_moves.proofs.FilledPages.{SameLines}
use Rattle.line_moves.proofs.KeyPlaces.{area_is}
use Rattle.line_moves.proofs.Putting.{place_says}
use Rattle.line_moves.proofs.Reading.{owner_is, class_is, line_is, line_none}
use Rattle.line_moves.proofs.SurePages.{sure_at}

-- no line was used there
pub never_there : (k : Dbkey) (page : List ℕ) (head : Head) → HasNoLines page head → line_on k page ≡ never
never_there k page head started = by (has_place k page) refl
  where
    by : (b : Bool) → has_place k page ≡ b → line_on k page ≡ never
    by true has =
        let class = class_is page head started.is in
        let less : k.line < lines_of head.class = subst (λ (c : ℕ). k.line < lines_of c) class (place_says k page has).line in
        line_is k page never has (subst (λ (c : ℕ). IsLine page c k.line never) (sym class) (started.lines k.line less))
    by false none = line_none k page none

-- with a head, as without one, no line was used
pub same_lines : (place : Place) (owner class : ℕ) (y z : List ℕ) → IsStarted place owner class y z → SameLines place y z
same_lines place owner class y z started key on = ⊎_elim
    (λ unused. never_there key z _ (started.unused unused) ∙ sym (nothing_on key y (zeros_owner y unused)))
    (λ same. λ i. line_on key (same i)) started.either

pub started_page : (key : Dbkey) (place : Place) (class : ℕ) (y z : List ℕ) → IsPlaceOf key place → IsStarted place key.area class y z → IsPageOf place.file place.page y → IsPageOf place.file place.page z
started_page key place class y z names started was = ⊎_elim
    (λ unused. let lines = started.unused unused in inr (record { head = record { page = place.page; owner = key.area; class = class }; stands = record { head = lines.is; page_number = refl; owner = names.owner }; lines = λ j less. (never, lines.lines j less) }))
    (λ (same : z ≡ y). subst (λ (b : List ℕ). IsPageOf place.file place.page b) (sym same) was) started.either

module _ (P : PendingContents) (now : Progress) (key : Dbkey) (place : Place) (class : ℕ) (y z : List ℕ) (names : IsPlaceOf key place) (was : Facts P now) (pending : P (area_file place.file) (place.page - 1) y) (within : place.page ≤ now.limits.pages)
    (entered : IsUnused y → IsEntered P place key.area) (started : IsStarted place key.area class y z) where
  on_page : (k : Dbkey) → IsOn place.file place.page k → P (file_of k) (slot_of k) y
  on_page k on = let there : P (area_file place.file) (slot_of k) y = subst (λ (i : ℕ). P (area_file place.file) i y) (sym on.in_slot) pending in subst (λ (f : FileId). P f (slot_of k) y) (sym on.in_file) there

  of_unused : IsUnused y → IsSurePage P now place.file place.page z
  of_unused unused = record {
    page = started_page key place class y z names started (was.pages.page place.file place.page y (area_is key place names) names.is_data pending);
    within = within;
    line = λ k on. subst (λ (l : Line). IsCommitted P now k l ⊎ IsChanged P now k l) (sym (same k on)) (was.line k y (on_page k on));
    below = λ k on. subst (λ (l : Line). l.tsn.number < now.next_tsn) (sym (same k on)) (was.below.line k y (on_page k on));
    owner = λ w some p. entered unused w p ∙ sym (owner_is z (record { page = place.page; owner = key.area; class = class }) (started.unused unused).is);
    class = λ k bytes got on. absurd (nothing_in k bytes on got);
    flight = λ f is. record {
      landed = λ i line got on. subst (λ (l : Line). HasLanded f.group line l) (sym (same line.key on)) ((was.flight f is).landed i line y got (on_page line.key on));
      class = λ k bytes got on. absurd (nothing_flies f k bytes is on got);
    };
  }
    where
      same : (k : Dbkey) → IsOn place.file place.page k → line_on k z ≡ line_on k y
      same k on = same_lines place key.area class y z started k on

      none_before : (k : Dbkey) → line_on k y ≡ never
      none_before k = nothing_on k y (zeros_owner y unused)

      nothing_in : (k : Dbkey) (bytes : List ℕ) → IsOn place.file place.page k → line_in k now.lines ≡ Some bytes → ⊥
      nothing_in k bytes on got = let none = not_committed P now was k y (on_page k on) (none_before k) in let bad : None ≡ Some bytes = sym none ∙ got in cc

      nothing_flies : (f : Flight) (k : Dbkey) (bytes : List ℕ) → now.flight ≡ Some f → IsOn place.file place.page k → line_in k (lines_with now f) ≡ Some bytes → ⊥
      nothing_flies f k bytes is on got = let none = not_in_flight P now was k y (on_page k on) (none_before k) f is in let bad : None ≡ Some bytes = sym none ∙ got in cc

  pub sure_started : IsSurePage P now place.file place.page z
  sure_started = ⊎_elim of_unused (λ (same : z ≡ y). subst (λ (b : List ℕ). IsSurePage P now place.file place.page b) (sym same) (sure_at P now place.file place.page y (area_is key place names) names.is_data was pending within)) started.either

-- the class of the page then
pub class_started : (place : Place) (owner class : ℕ) (y z x new : List ℕ) → IsStarted place owner class y z → class_at x ≡ class_at z → new ≡ x → (IsUnused y → class_at new ≡ class) × ((IsUnused y → ⊥) → class_at new ≡ class_at y)
class_started place owner class y z x new started same here =
    (λ unused. ap class_at here ∙ same ∙ class_is z (record { page = place.page; owner = owner; class = class }) (started.unused unused).is, λ used. ap class_at here ∙ same ∙ ap class_at (started.used used))
