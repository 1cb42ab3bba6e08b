-- A page that has room for a line, and the page behind it.
use Rattle.std.proofs.Common.{◌≡◌, ℕ, ◌-◌, ◌<◌, true, List, ⊎_elim, ap, sym, subst, ◌∙◌, arith}
use Rattle.rdb_types.specs.declared.keys.Dbkey.{Dbkey}
use Rattle.rdb_types.specs.declared.keys.Line.{Line}
use Rattle.rdb_outside.specs.Disk.{Image}
use Rattle.rdb_page.specs.Lines.{IsAllowedLine}
use Rattle.rdb_page.specs.Page.{IsUnused, lines_of}
use Rattle.rdb_page.specs.Whole.{IsPageOf, IsUsedPage}
use Rattle.stable_lines.specs.Slots.{area_file, has_place, line_on}
use Rattle.stable_lines.proofs.Never.{zeros_owner}
use Rattle.line_moves.specs.declared.places.Place.{Place}
use Rattle.line_moves.specs.Contents.{PutsLine}
use Rattle.line_moves.specs.Changes.{IsPlaceOf, Fits}
use Rattle.line_moves.specs.Lines.{IsStarted}
use Rattle.line_moves.proofs.FirstLines.{same_lines, started_page}
use Rattle.line_moves.proofs.KeyPlaces.{some_area}
use Rattle.line_moves.proofs.OnlyPut.{IsElsewhere}
use Rattle.line_moves.proofs.Reading.{owner_is, class_is}
use Rattle.line_moves.proofs.Spots.{place_has}
use Rattle.guarded_lines.specs.Laying.{IsOfArea, HasRoom, BearsLine, PutsOn}

module _ (key : Dbkey) (place : Place) (class : ℕ) (y z : List ℕ) (names : IsPlaceOf key place) (started : IsStarted place key.area class y z) (room : HasRoom key class y) where
  -- with its head it is of the area and the class
  pub of_area : IsOfArea key.area class z
  of_area = ⊎_elim begun (λ same. ⊎_elim begun (λ is. subst (IsOfArea key.area class) (sym same) is) room.page) started.either
    where
      begun : IsUnused y → IsOfArea key.area class z
      begun unused = let is = (started.unused unused).is in record { owner = owner_is z _ is; class = class_is z _ is }

  -- and has a place for the line
  pub fits : (value : Line) → IsPageOf place.file place.page y → IsAllowedLine class value → Fits key value z
  fits value page allowed = record {
    placed = ⊎_elim (λ unused. absurd (let none = zeros_owner z unused in let owned = of_area.owner in let some = some_area key place names in omega (arith, none, owned, some))) placed (started_page key place class y z names started page);
    allowed = subst (λ (c : ℕ). IsAllowedLine c value) (sym of_area.class) allowed;
  }
    where
      placed : IsUsedPage place.file place.page z → has_place key z ≡ true
      placed used =
          let head = used.stands.head in
          let owned : used.head.owner ≡ key.area = sym (owner_is z used.head head) ∙ of_area.owner in
          let same : class ≡ used.head.class = sym of_area.class ∙ class_is z used.head head in
          place_has key place z used.head names head owned (subst (λ (c : ℕ). key.line < lines_of c) same room.line)

  -- the line is put on it
  pub bears : (value : Line) (x : List ℕ) → PutsLine place.file place.page key z x → line_on key x ≡ value → BearsLine key place class value y x
  bears value x puts is = record {
    page = puts.page;
    of_area = record { owner = puts.same_owner ∙ of_area.owner; class = puts.same_class ∙ of_area.class };
    here = is;
    others = λ k on apart. puts.others k on apart ∙ same_lines place key.area class y z started k on;
  }

  -- and it is written
  pub puts_on : (value : Line) (old new : Image) (x : List ℕ) → y ≡ old (area_file place.file) (place.page - 1) → PutsLine place.file place.page key z x → line_on key x ≡ value → new (area_file place.file) (place.page - 1) ≡ x
      → IsElsewhere place.file place.page old new → PutsOn key place class value old new
  puts_on value old new x read puts is here elsewhere = record {
    bears = subst (λ (b : List ℕ). BearsLine key place class value b (new (area_file place.file) (place.page - 1))) read (subst (λ (b : List ℕ). BearsLine key place class value y b) (sym here) (bears value x puts is));
    apart = elsewhere;
  }
