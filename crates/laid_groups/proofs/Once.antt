-- One line laid, as its call tells it.
use Rattle.std.proofs.Common.{◌≡◌, ℕ, ◌-◌, ◌<◌, ◌^◌, List, [], ◌∷◌, inl, inr, ◌∙◌, ap, sym, subst}
use Rattle.rdb_types.specs.declared.file.FileId.{FileId}
use Rattle.rdb_types.specs.declared.file.FileKind.TheVariants.{Area}
use Rattle.rdb_types.specs.declared.keys.Dbkey.{Dbkey}
use Rattle.rdb_types.specs.declared.keys.Line.{Line}
use Rattle.rdb_types.specs.declared.keys.Tsn.{Tsn}
use Rattle.rdb_outside.specs.Disk.{Image, View, LeftNow}
use Rattle.rdb_page.specs.Lines.{IsAllowedLine}
use Rattle.rdb_page.specs.Whole.{IsPageOf}
use Rattle.area_files.specs.Areas.{space_page_of}
use Rattle.space_pages.specs.Space.{IsSpace}
use Rattle.aij_journal.specs.declared.part.GroupLine.{GroupLine}
use Rattle.stable_lines.specs.Slots.{area_file}
use Rattle.stable_lines.specs.Journal.{write_of}
use Rattle.line_moves.specs.declared.places.Place.{Place}
use Rattle.line_moves.specs.Changes.{IsPlaceOf}
use Rattle.line_moves.proofs.KeyPlaces.{file_is}
use Rattle.guarded_root.specs.Guarded.{AddsOnly}
use Rattle.guarded_root.proofs.Adding.{adds_more}
use Rattle.guarded_lines.specs.Laying.{HasRoom, LaysOn, IsLaidSlot}
use Rattle.laid_groups.specs.Forward.{Forward, line_laid, IsReady, IsHeld, KeepsReady, FitsLine, IsUnderWay}
use Rattle.laid_groups.specs.Laid.{LaidOver}
use Rattle.laid_groups.proofs.Running.{ready_image}
use Rattle.laid_groups.proofs.Slots.{page_was, space_was, room, may_slot}
use Rattle.laid_groups.proofs.Stepping.{allowed, laid_one}

-- a line has one place
pub one_place : (key : Dbkey) (a b : Place) → IsPlaceOf key a → IsPlaceOf key b → a ≡ b
one_place key a b first second =
    let files = file_is key a first ∙ sym (file_is key b second) in
    let pages = first.page ∙ sym second.page in
    λ i. record { file = files i; page = pages i }

abbrev pub with_place : (forward : Forward) (l : GroupLine) (place : Place) → IsPlaceOf l.key place → FitsLine forward l → FitsLine forward l
with_place forward l place names fits =
    let same = one_place l.key fits.place place fits.names names in
    record {
      place = place;
      names = names;
      within = fits.within;
      line = fits.line;
      owner = subst (λ (p : Place). forward.owners p.file p.page ≡ l.key.area) same fits.owner;
      size = subst (λ (p : Place). forward.sizes p.file p.page ≡ l.class) same fits.size;
      allowed = fits.allowed;
      index = fits.index;
      write = fits.write;
    }

module _ (forward : Forward) (old : View) (left : LeftNow old old.content) (tsn : Tsn) (l : GroupLine) (place : Place) (names : IsPlaceOf l.key place) (value : Line) (is : value ≡ line_laid tsn l) (fits : FitsLine forward l) where
  abbrev was : Image
  was = old.content

  abbrev HasPage : Type 0
  HasPage = IsPageOf place.file place.page (old.content (area_file place.file) (place.page - 1))

  abbrev HasItsRoom : Type 0
  HasItsRoom = HasRoom l.key l.class (old.content (area_file place.file) (place.page - 1))

  module _ (ready : IsReady forward old) where
    under : IsUnderWay forward old.content
    under = ready_image forward old ready old.content left

    abbrev there : FitsLine forward l
    there = with_place forward l place names fits

    page : IsPageOf place.file place.page (old.content (area_file place.file) (place.page - 1))
    page = (page_was forward old.content under tsn l (with_place forward l place names fits)).page

    has_room : HasRoom l.key l.class (old.content (area_file place.file) (place.page - 1))
    has_room = room forward old.content under tsn l (with_place forward l place names fits)

    pub never_bad : tsn.number < 2 ^ 62
        → (IsSpace (old.content (area_file place.file) (space_page_of place.page - 1)) (space_page_of place.page) → IsPageOf place.file place.page (old.content (area_file place.file) (place.page - 1)) → HasRoom l.key l.class (old.content (area_file place.file) (place.page - 1)) → IsAllowedLine l.class value → ⊥)
        → ⊥
    never_bad few bad = bad (space_was forward old.content under tsn l (with_place forward l place names fits)).space page has_room (subst (λ (v : Line). IsAllowedLine l.class v) (sym is) (allowed forward tsn l fits few))

    pub laid_once : (new : Image) → (IsPageOf place.file place.page (old.content (area_file place.file) (place.page - 1)) → HasRoom l.key l.class (old.content (area_file place.file) (place.page - 1)) → LaysOn l.key place l.class value old.content new)
        → LaidOver forward (write_of l ∷ []) old.content new
    laid_once new slots = laid_one forward old.content new under tsn l (with_place forward l place names fits) (subst (λ (v : Line). LaysOn l.key place l.class v old.content new) is (slots page has_room))

  pub keeps_one : (new : View) → tsn.number < forward.top
      → (IsPageOf place.file place.page (old.content (area_file place.file) (place.page - 1)) → HasRoom l.key l.class (old.content (area_file place.file) (place.page - 1)) → AddsOnly (IsLaidSlot old.content l.key place l.class value) old new)
      → KeepsReady forward old new
  keeps_one new few adds ready = adds_more (IsLaidSlot old.content l.key place l.class value) (IsHeld forward) old new held (adds (page ready) (has_room ready))
    where
      of_area : (f : FileId) (i : ℕ) (x : List ℕ) → IsLaidSlot old.content l.key place l.class value f i x → f.kind ≡ Area
      of_area f i x (inl it) = ap (λ (g : FileId). g.kind) it.0
      of_area f i x (inr it) = ap (λ (g : FileId). g.kind) it.0

      held : (f : FileId) (i : ℕ) (x : List ℕ) → IsLaidSlot old.content l.key place l.class value f i x → IsHeld forward f i x
      held f i x it = (of_area f i x it, may_slot forward old.content (under ready) tsn l (with_place forward l place names fits) few f i x (subst (λ (v : Line). IsLaidSlot old.content l.key place l.class v f i x) is it))
