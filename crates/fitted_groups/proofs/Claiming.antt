-- A claim looked at, and taken.
use Rattle.std.proofs.Common.{◌≡◌, ◌≢◌, ℕ, zero, suc, ◌+◌, ◌*◌, ◌-◌, ◌/◌, ◌%◌, ◌≤◌, ◌<◌, Bool, true, false, List, [], ◌∷◌, ◌++◌, length, take, nat_eq, slice_get, slice_set, Option, Some, None, ◌⊎◌, inl, inr, ⊎_elim, refl, sym, ◌∙◌, ap, subst, arith}
use Rattle.std.specs.Prelude.{slice_index_or}
use Rattle.std.proofs.lemmas.Bool.{eqb-true, eq-eqb}
use Rattle.std.proofs.lemmas.Option.{slice_get-get_or}
use Rattle.slot_fields.specs.Fields.{number_at}
use Rattle.rdb_outside.specs.Disk.{Image, zeros}
use Rattle.rdb_page.specs.Page.{class_at, lines_of}
use Rattle.area_files.specs.Areas.{IsDataPage}
use Rattle.aij_journal.specs.declared.part.GroupLine.{GroupLine}
use Rattle.aij_journal.specs.Part.{IsAllowedLine}
use Rattle.journal_reading.specs.Journal.{EndsBy}
use Rattle.stable_lines.specs.Slots.{area_file, IsAreaFile, owner_at}
use Rattle.line_moves.specs.declared.places.Place.{Place}
use Rattle.line_moves.specs.Changes.{IsPlaceOf}
use Rattle.line_moves.proofs.KeyPlaces.{area_is, some_area}
use Rattle.line_moves.proofs.Putting.{nat_cases}
use Rattle.laid_groups.proofs.Once.{one_place}
use Rattle.fitted_groups.specs.declared.claims.AreaEnds.{AreaEnds}
use Rattle.fitted_groups.specs.declared.claims.PageClaim.{PageClaim}
use Rattle.fitted_groups.specs.Meeting.{is_there, first_there, page_in, entry_in, owner_met, class_met, owner_over, class_over, FitsPage}
use Rattle.fitted_groups.specs.Claims.{end_in, AreEnds, seat_of, claim_at, claim_over, MayClaim, HasClaims, AreFitted}
use Rattle.fitted_groups.proofs.Firsts.{or_else, first_both, first_one, first_none, on_place, its_page, fit_one_more, first_area}

-- ---- seats

pub seat_within : (file number pages : ℕ) → IsAreaFile file → IsDataPage number → number ≤ pages → seat_of file number < pages * 3
seat_within file number pages area plain within = let low = area.first in let high = area.last in let first = plain.is_page.first in omega (arith, low, high, first, within)

pub page_within : (file number pages : ℕ) → IsAreaFile file → IsDataPage number → seat_of file number < pages * 3 → number ≤ pages
page_within file number pages area plain within = let low = area.first in let high = area.last in let first = plain.is_page.first in omega (arith, low, high, first, within)

pub one_seat : (file number other page : ℕ) → IsAreaFile file → IsDataPage number → IsAreaFile other → IsDataPage page → seat_of file number ≡ seat_of other page → (file ≡ other) × (number ≡ page)
one_seat file number other page area plain its whole same =
    let low = area.first in let high = area.last in let first = plain.is_page.first in let its_low = its.first in let its_high = its.last in let its_first = whole.is_page.first in
    (omega (arith, low, high, first, its_low, its_high, its_first, same), omega (arith, low, high, first, its_low, its_high, its_first, same))

-- ---- owners

-- a page that nobody claims was never used, and no line lies on it
pub unclaimed : (own : ℕ) (first : Option GroupLine) → ((l : GroupLine) → first ≡ Some l → 1 ≤ l.key.area) → owner_met own first 0 ≡ 0 → (own ≡ 0) × (first ≡ None)
unclaimed zero None some is = (refl, refl)
unclaimed zero (Some l) some is = let one = some l refl in absurd (omega (arith, one, is))
unclaimed (suc own) first some is = absurd (omega (arith, is))

-- one that somebody claims stays theirs
pub claimed_owner : (own : ℕ) (first : Option GroupLine) (l : GroupLine) (entry : ℕ) → owner_met own first 0 ≢ 0 → owner_met own (or_else first (Some l)) entry ≡ owner_met own first 0
claimed_owner zero None l entry some = absurd (some refl)
claimed_owner zero (Some x) l entry some = refl
claimed_owner (suc own) first l entry some = refl

pub claimed_class : (own : ℕ) (first : Option GroupLine) (l : GroupLine) (class : ℕ) → owner_met own first 0 ≢ 0 → class_met own (or_else first (Some l)) class ≡ class_met own first class
claimed_class zero None l class some = absurd (some refl)
claimed_class zero (Some x) l class some = refl
claimed_class (suc own) first l class some = refl

-- one that nobody claims becomes the line's
pub new_owner : (own : ℕ) (first : Option GroupLine) (l : GroupLine) (entry : ℕ) → own ≡ 0 → first ≡ None → owner_met own (or_else first (Some l)) entry ≡ l.key.area
new_owner own first l entry none no_line = λ i. owner_met (none i) (or_else (no_line i) (Some l)) entry

pub new_class : (own : ℕ) (first : Option GroupLine) (l : GroupLine) (class : ℕ) → own ≡ 0 → first ≡ None → class_met own (or_else first (Some l)) class ≡ l.class
new_class own first l class none no_line = λ i. class_met (none i) (or_else (no_line i) (Some l)) class

-- ---- one line

module _ (image : Image) (pages : ℕ) (before : List GroupLine) (claims : List PageClaim) (are : AreFitted image pages before claims) (l : GroupLine) (place : Place) (names : IsPlaceOf l.key place) where
  abbrev own : ℕ
  own = owner_at (page_in image place.file place.page)

  abbrev first : Option GroupLine
  first = first_there place.file place.page before

  abbrev entry : ℕ
  entry = entry_in image place.file place.page

  abbrev class : ℕ
  class = class_at (page_in image place.file place.page)

  its_file : IsAreaFile place.file
  its_file = area_is l.key place names

  -- with this line the first one there
  pub first_with : first_there place.file place.page (before ++ l ∷ []) ≡ or_else (first_there place.file place.page before) (Some l)
  first_with = first_both place.file place.page before (l ∷ []) ∙ ap (λ (w : Option GroupLine). or_else (first_there place.file place.page before) w) (first_one place.file place.page l [] (on_place l place names))

  -- and elsewhere
  or_none : (w : Option GroupLine) → or_else w None ≡ w
  or_none None = refl
  or_none (Some x) = refl

  elsewhere : (file number : ℕ) → is_there file number l ≡ false → first_there file number (before ++ l ∷ []) ≡ first_there file number before
  elsewhere file number off = first_both file number before (l ∷ []) ∙ ap (λ (w : Option GroupLine). or_else (first_there file number before) w) (first_none file number l off) ∙ or_none (first_there file number before)

  claim_elsewhere : (file number : ℕ) → is_there file number l ≡ false → claim_over image (before ++ l ∷ []) file number ≡ claim_over image before file number
  claim_elsewhere file number off = ap (λ (w : Option GroupLine). record {
    owner = owner_met (owner_at (page_in image file number)) w 0;
    class = class_met (owner_at (page_in image file number)) w (class_at (page_in image file number));
  }) (elsewhere file number off)

  pub its_seat : l.key.page ≤ pages → slice_get claims (seat_of place.file place.page) ≡ Some (claim_over image before place.file place.page)
  its_seat within = are.has.each place.file place.page its_file names.is_data (let page = names.page in omega (arith, page, within))

  pub seat_is_within : seat_of place.file place.page < length claims → l.key.page ≤ pages
  seat_is_within less = let size = are.has.size in let page = names.page in let within = page_within place.file place.page pages its_file names.is_data (omega (arith, less, size)) in omega (arith, page, within)

  pub seat_inside : l.key.page ≤ pages → seat_of place.file place.page < length claims
  seat_inside within = let size = are.has.size in let page = names.page in let less = seat_within place.file place.page pages its_file names.is_data (omega (arith, page, within)) in omega (arith, less, size)

  some_lines : (x : GroupLine) → first_there place.file place.page before ≡ Some x → 1 ≤ x.key.area
  some_lines x found = first_area image pages before are.fit place.file place.page x found

  -- ---- a page that nobody claims

  module _ (free : owner_met (owner_at (page_in image place.file place.page)) (first_there place.file place.page before) 0 ≡ 0) where
    nobodys : (own ≡ 0) × (first ≡ None)
    nobodys = unclaimed own first some_lines free

    owner_new : (e : ℕ) → owner_met own (first_there place.file place.page (before ++ l ∷ [])) e ≡ l.key.area
    owner_new e = ap (λ (w : Option GroupLine). owner_met own w e) first_with ∙ new_owner own first l e nobodys.0 nobodys.1

    class_new : (e : ℕ) → class_met own (first_there place.file place.page (before ++ l ∷ [])) e ≡ l.class
    class_new e = ap (λ (w : Option GroupLine). class_met own w e) first_with ∙ new_class own first l e nobodys.0 nobodys.1

    pub fits_free : l.key.page ≤ pages → l.key.line < lines_of l.class → IsAllowedLine l → FitsPage image pages (before ++ l ∷ []) l
    fits_free within line allowed = record { place = place; names = names; within = within; line = line; owner = owner_new entry; class = class_new class; allowed = allowed }

    pub claim_new : claim_over image (before ++ l ∷ []) place.file place.page ≡ record { owner = l.key.area; class = l.class }
    claim_new = let owners = owner_new 0 in let classes = class_new class in λ i. record { owner = owners i; class = classes i }

  -- ---- a page that somebody claims

  module _ (taken : owner_met (owner_at (page_in image place.file place.page)) (first_there place.file place.page before) 0 ≢ 0) where
    pub owner_kept : (e : ℕ) → owner_met own (first_there place.file place.page (before ++ l ∷ [])) e ≡ owner_met own first 0
    owner_kept e = ap (λ (w : Option GroupLine). owner_met own w e) first_with ∙ claimed_owner own first l e taken

    pub class_kept : (e : ℕ) → class_met own (first_there place.file place.page (before ++ l ∷ [])) e ≡ class_met own first e
    class_kept e = ap (λ (w : Option GroupLine). class_met own w e) first_with ∙ claimed_class own first l e taken

    pub fits_taken : l.key.page ≤ pages → l.key.line < lines_of l.class → IsAllowedLine l → owner_met own first 0 ≡ l.key.area → class_met own first class ≡ l.class → FitsPage image pages (before ++ l ∷ []) l
    fits_taken within line allowed owner_same class_same = record { place = place; names = names; within = within; line = line; owner = owner_kept entry ∙ owner_same; class = class_kept class ∙ class_same; allowed = allowed }

    pub claim_kept : claim_over image (before ++ l ∷ []) place.file place.page ≡ claim_over image before place.file place.page
    claim_kept = let owners = owner_kept 0 in let classes = class_kept class in λ i. record { owner = owners i; class = classes i }

    its_own : (it : FitsPage image pages (before ++ l ∷ []) l) → (owner_over image (before ++ l ∷ []) place.file place.page ≡ l.key.area) × (class_over image (before ++ l ∷ []) place.file place.page ≡ l.class)
    its_own it =
        let same = one_place l.key it.place place it.names names in
        (subst (λ (p : Place). owner_over image (before ++ l ∷ []) p.file p.page ≡ l.key.area) same it.owner, subst (λ (p : Place). class_over image (before ++ l ∷ []) p.file p.page ≡ l.class) same it.class)

    -- so a line that fits is of the page's area and class
    pub owner_fits : FitsPage image pages (before ++ l ∷ []) l → owner_met own first 0 ≡ l.key.area
    owner_fits it = sym (owner_kept entry) ∙ (its_own it).0

    pub class_fits : FitsPage image pages (before ++ l ∷ []) l → class_met own first class ≡ l.class
    class_fits it = sym (class_kept class) ∙ (its_own it).1

  -- ---- the claims with this line

  there_or : (file number : ℕ) (b : Bool) → is_there file number l ≡ b → ((file ≡ place.file) × (number ≡ place.page)) ⊎ (is_there file number l ≡ false)
  there_or file number true is = inl (its_page file number l place names is)
  there_or file number false is = inr is

  claims_taken : (new : List PageClaim) (claim : PageClaim) → length new ≡ length claims → slice_get new (seat_of place.file place.page) ≡ Some claim → ((k : ℕ) → k ≢ seat_of place.file place.page → slice_get new k ≡ slice_get claims k) → claim_over image (before ++ l ∷ []) place.file place.page ≡ claim → HasClaims image pages (before ++ l ∷ []) new
  claims_taken new claim long here others is = record {
    size = long ∙ are.has.size;
    each = λ file number area plain within. ⊎_elim
        (λ there. subst (λ (f : ℕ). slice_get new (seat_of f number) ≡ Some (claim_over image (before ++ l ∷ []) f number)) (sym there.0)
        (subst (λ (n : ℕ). slice_get new (seat_of place.file n) ≡ Some (claim_over image (before ++ l ∷ []) place.file n)) (sym there.1) (here ∙ ap Some (sym is))))
        (λ off. others (seat_of file number) (λ same. apart file number area plain off same) ∙ are.has.each file number area plain within ∙ ap Some (sym (claim_elsewhere file number off)))
        (there_or file number (is_there file number l) refl);
  }
    where
      apart : (file number : ℕ) → IsAreaFile file → IsDataPage number → is_there file number l ≡ false → seat_of file number ≡ seat_of place.file place.page → ⊥
      apart file number area plain off same =
          let pages = one_seat file number place.file place.page area plain its_file names.is_data same in
          let on : is_there file number l ≡ true = subst (λ (f : ℕ). is_there f number l ≡ true) (sym pages.0) (subst (λ (n : ℕ). is_there place.file n l ≡ true) (sym pages.1) (on_place l place names)) in
          let bad : false ≡ true = sym off ∙ on in cc

  -- ---- the line's claim

  abbrev its_claim : PageClaim
  its_claim = record { owner = l.key.area; class = l.class }

  may : l.key.page ≤ pages → MayClaim (record { owner = l.key.area; class = l.class }) (slice_get claims (seat_of place.file place.page)) → (owner_met own first 0 ≡ 0) ⊎ (claim_over image before place.file place.page ≡ its_claim)
  may within was = subst (λ (w : Option PageClaim). MayClaim its_claim w) (its_seat within) was

  may_not : l.key.page ≤ pages → (owner_met own first 0 ≡ 0) ⊎ (claim_over image before place.file place.page ≡ its_claim) → MayClaim (record { owner = l.key.area; class = l.class }) (slice_get claims (seat_of place.file place.page))
  may_not within either = subst (λ (w : Option PageClaim). MayClaim its_claim w) (sym (its_seat within)) either

  pub fitted_with : (new : List PageClaim) → seat_of place.file place.page < length claims → l.key.line < lines_of l.class → IsAllowedLine l → length new ≡ length claims
      → ((k : ℕ) → k ≢ seat_of place.file place.page → slice_get new k ≡ slice_get claims k) → slice_get new (seat_of place.file place.page) ≡ Some (record { owner = l.key.area; class = l.class })
      → MayClaim (record { owner = l.key.area; class = l.class }) (slice_get claims (seat_of place.file place.page)) → AreFitted image pages (before ++ l ∷ []) new
  fitted_with new less line allowed long others here was = ⊎_elim
      (λ free. record {
        has = claims_taken new its_claim long here others (claim_new free);
        fit = fit_one_more image pages before l are.fit (fits_free free within line allowed);
      })
      (λ same. let owner : owner_met own first 0 ≡ l.key.area = ap (λ (c : PageClaim). c.owner) same in
      let taken : owner_met own first 0 ≢ 0 = λ none. (let some = some_area l.key place names in omega (arith, some, none, owner)) in
      record {
        has = claims_taken new its_claim long here others (claim_kept taken ∙ same);
        fit = fit_one_more image pages before l are.fit (fits_taken taken within line allowed owner (ap (λ (c : PageClaim). c.class) same));
      })
      (may within was)
    where
      within : l.key.page ≤ pages
      within = seat_is_within less

  pub refuses : seat_of place.file place.page < length claims → (MayClaim (record { owner = l.key.area; class = l.class }) (slice_get claims (seat_of place.file place.page)) → ⊥) → FitsPage image pages (before ++ l ∷ []) l → ⊥
  refuses less off it =
      let within = seat_is_within less in
      let taken : owner_met own first 0 ≢ 0 = λ none. off (may_not within (inl none)) in
      let owner = owner_fits taken it in
      let class_is = class_fits taken it in
      off (may_not within (inr (λ i. record { owner = owner i; class = class_is i })))

-- ---- a claim that is set

pub set_here : (claims : List PageClaim) (seat : ℕ) (claim : PageClaim) → seat < length claims → slice_get (slice_set claims seat claim) seat ≡ Some claim
set_here [] seat claim less = absurd (omega (arith, less))
set_here (c ∷ claims) zero claim less = refl
set_here (c ∷ claims) (suc seat) claim less = set_here claims seat claim (omega (arith, less))

pub set_others : (claims : List PageClaim) (seat : ℕ) (claim : PageClaim) (k : ℕ) → k ≢ seat → slice_get (slice_set claims seat claim) k ≡ slice_get claims k
set_others [] seat claim k apart = refl
set_others (c ∷ claims) zero claim zero apart = absurd (apart refl)
set_others (c ∷ claims) zero claim (suc k) apart = refl
set_others (c ∷ claims) (suc seat) claim zero apart = refl
set_others (c ∷ claims) (suc seat) claim (suc k) apart = set_others claims seat claim k (λ same. apart (ap suc same))

pub set_long : (claims : List PageClaim) (seat : ℕ) (claim : PageClaim) → length (slice_set claims seat claim) ≡ length claims
set_long [] seat claim = refl
set_long (c ∷ claims) zero claim = refl
set_long (c ∷ claims) (suc seat) claim = ap suc (set_long claims seat claim)

-- ---- the claims as they are read

pub seat_file : (file number : ℕ) → IsAreaFile file → IsDataPage number → seat_of file number % 3 + 1 ≡ file
seat_file file number area plain = let low = area.first in let high = area.last in let first = plain.is_page.first in omega (arith, low, high, first)

pub seat_slot : (file number : ℕ) → IsAreaFile file → IsDataPage number → seat_of file number / 3 ≡ number - 1
seat_slot file number area plain = let low = area.first in let high = area.last in let first = plain.is_page.first in omega (arith, low, high, first)

-- behind a file's end a page claims nothing
pub zeros_claim : (file : ℕ) → ◌≡◌ {A = PageClaim} (record { owner = 0; class = 0 }) (claim_at (zeros (area_file file)))
unfolding number_at
zeros_claim file = refl

pub seat_area : (seat : ℕ) → IsAreaFile (seat % 3 + 1)
seat_area seat = record { first = omega arith; last = omega arith }

-- before any line
unlaid : (owner size : ℕ) → ◌≡◌ {A = PageClaim} (record { owner = owner_met owner None 0; class = class_met owner None size }) (record { owner = owner; class = size })
unlaid zero size = refl
unlaid (suc n) size = refl

module _ (image : Image) where
  abbrev Reads : ℕ → List PageClaim → Type 0
  Reads seats claims = (k : ℕ) → k < seats → slice_get claims k ≡ Some (claim_at (image (area_file (k % 3 + 1)) (k / 3)))

  pub none_read : (claims : List PageClaim) (k : ℕ) → k < 0 → slice_get claims k ≡ Some (claim_at (image (area_file (k % 3 + 1)) (k / 3)))
  none_read claims k less = absurd (omega (arith, less))

  pub one_read : (claims : List PageClaim) (seat : ℕ) (claim : PageClaim) → seat < length claims → claim ≡ claim_at (image (area_file (seat % 3 + 1)) (seat / 3)) → Reads seat claims → Reads (seat + 1) (slice_set claims seat claim)
  one_read claims seat claim within is reads k less = ⊎_elim
      (λ (same : k ≡ seat). subst (λ (n : ℕ). slice_get (slice_set claims seat claim) n ≡ Some (claim_at (image (area_file (n % 3 + 1)) (n / 3)))) (sym same) (set_here claims seat claim within ∙ ap Some is))
      (λ (apart : k ≢ seat). set_others claims seat claim k apart ∙ reads k (omega (arith, less, apart)))
      (nat_cases k seat)

  pub all_read : (pages : ℕ) (claims : List PageClaim) → length claims ≡ pages * 3 → Reads (length claims) claims → AreFitted image pages [] claims
  all_read pages claims size reads = record {
    has = record {
      size = size;
      each = λ file number area plain within.
          let inside = seat_within file number pages area plain within in
          reads (seat_of file number) (omega (arith, inside, size))
          ∙ ap Some (ap (λ (f : ℕ). claim_at (image (area_file f) (seat_of file number / 3))) (seat_file file number area plain)
          ∙ ap (λ (n : ℕ). claim_at (image (area_file file) n)) (seat_slot file number area plain)
          ∙ sym (unlaid (owner_at (page_in image file number)) (class_at (page_in image file number))));
    };
    fit = λ i l got. let bad : None ≡ Some l = got in absurd (let no : ⊥ = cc in no);
  }

-- ---- a seat by another name

pub at_seat : (claims : List PageClaim) (seat place : ℕ) (claim : PageClaim) → seat ≡ place → slice_get claims seat ≡ Some claim → slice_get claims place ≡ Some claim
at_seat claims seat place claim same is = subst (λ (n : ℕ). slice_get claims n ≡ Some claim) same is

pub off_seat : (claims : List PageClaim) (seat place : ℕ) (claim : PageClaim) → seat ≡ place → MayClaim claim (slice_get claims seat) → MayClaim claim (slice_get claims place)
off_seat claims seat place claim same is = subst (λ (n : ℕ). MayClaim claim (slice_get claims n)) same is

pub others_at : (claims new : List PageClaim) (seat place : ℕ) → seat ≡ place → ((k : ℕ) → k ≢ seat → slice_get new k ≡ slice_get claims k) → (k : ℕ) → k ≢ place → slice_get new k ≡ slice_get claims k
others_at claims new seat place same others = subst (λ (n : ℕ). (k : ℕ) → k ≢ n → slice_get new k ≡ slice_get claims k) same others

-- ---- a claim found in a seat

module _ (claims : List PageClaim) (seat : ℕ) (claim none : PageClaim) (less : seat < length claims) where
  found_is : slice_get claims seat ≡ Some (slice_index_or claims seat none)
  found_is = slice_get-get_or claims seat none less

  pub may_free : (slice_index_or claims seat none).owner ≡ 0 → MayClaim claim (slice_get claims seat)
  may_free is = subst (λ (w : Option PageClaim). MayClaim claim w) (sym found_is) (inl is)

  pub is_same : (slice_index_or claims seat none).owner ≡ claim.owner → nat_eq (slice_index_or claims seat none).class claim.class ≡ true → slice_get claims seat ≡ Some claim
  is_same owner class = let same = eqb-true (slice_index_or claims seat none).class claim.class class in found_is ∙ ap Some (λ i. record { owner = owner i; class = same i })

  pub may_same : (slice_index_or claims seat none).owner ≡ claim.owner → nat_eq (slice_index_or claims seat none).class claim.class ≡ true → MayClaim claim (slice_get claims seat)
  may_same owner class = subst (λ (w : Option PageClaim). MayClaim claim w) (sym (is_same owner class)) (inr refl)

  pub may_only : (slice_index_or claims seat none).owner ≢ 0 → MayClaim claim (slice_get claims seat) → slice_index_or claims seat none ≡ claim
  may_only some may_be = ⊎_elim (λ free. absurd (some free)) (λ same. same) (subst (λ (w : Option PageClaim). MayClaim claim w) found_is may_be)

pub not_class : (a b : ℕ) → a ≡ b → nat_eq a b ≡ false → ⊥
not_class a b same off = let bad : true ≡ false = sym (eq-eqb a b same) ∙ off in cc

-- ---- behind a slice of a vector

pub front_of : (new rest : List PageClaim) (n : ℕ) → length new ≡ n → take n (new ++ rest) ≡ new
front_of [] rest zero is = refl
front_of [] rest (suc n) is = absurd (omega (arith, is))
front_of (c ∷ new) rest zero is = absurd (omega (arith, is))
front_of (c ∷ new) rest (suc n) is = ap (λ (l : List PageClaim). c ∷ l) (front_of new rest n (omega (arith, is)))

-- ---- the ends of the three files

three : (file : ℕ) → IsAreaFile file → (file ≡ 1) ⊎ (file ≡ 2) ⊎ (file ≡ 3)
three file area = let low = area.first in let high = area.last in by (nat_cases file 1) (nat_cases file 2) low high
  where
    by : (file ≡ 1) ⊎ (file ≢ 1) → (file ≡ 2) ⊎ (file ≢ 2) → 1 ≤ file → file ≤ 3 → (file ≡ 1) ⊎ (file ≡ 2) ⊎ (file ≡ 3)
    by (inl one) two low high = inl one
    by (inr one) (inl two) low high = inr (inl two)
    by (inr one) (inr two) low high = inr (inr (omega (arith, one, two, low, high)))

pub are_ends : (image : Image) (ends : AreaEnds) → EndsBy image (area_file 1) ends.catalog → EndsBy image (area_file 2) ends.relations → EndsBy image (area_file 3) ends.indexes → AreEnds image ends
are_ends image ends catalog relations indexes file area = ⊎_elim
    (λ one. subst (λ (f : ℕ). EndsBy image (area_file f) (end_in ends f)) (sym one) catalog)
    (λ more. ⊎_elim
    (λ two. subst (λ (f : ℕ). EndsBy image (area_file f) (end_in ends f)) (sym two) relations)
    (λ third. subst (λ (f : ℕ). EndsBy image (area_file f) (end_in ends f)) (sym third) indexes)
    more)
    (three file area)
