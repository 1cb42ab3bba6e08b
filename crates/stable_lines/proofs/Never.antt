-- Pages that have no line, and what follows where a crash may leave one.
use Rattle.std.proofs.Common.{◌≡◌, ℕ, zero, suc, ◌≤◌, Bool, true, false, ◌&&◌, ◌==◌, nat_le, List, length, replicate, drop, get_or, Some, None, if◌then◌else◌, ⊎_elim, refl, sym, ◌∙◌, ap, subst, arith}
use Rattle.rdb_types.specs.declared.keys.Dbkey.{Dbkey}
use Rattle.rdb_types.specs.declared.keys.Tsn.{Tsn}
use Rattle.rdb_types.specs.declared.keys.Line.{Line}
use Rattle.slot_fields.specs.Fields.{number_at}
use Rattle.byteorder.specs.Endian.{little_from}
use Rattle.slot_fields.proofs.Laws.{zero_number}
use Rattle.ruj_journal.specs.rdb_page.Lines.{line_place, never}
use Rattle.ruj_journal.specs.rdb_page.Page.{class_at}
use Rattle.space_pages.specs.Space.{IsSpace}
use Rattle.line_view.specs.Knowledge.{line_in}
use Rattle.stable_lines.specs.Slots.{said_at, line_on, owner_at}
use Rattle.stable_lines.specs.Progress.{Flight, Progress, lines_with}
use Rattle.stable_lines.specs.Facts.{PendingContents, OnPage, IsCommitted, IsChanged, HasLanded, Facts}
use Rattle.stable_lines.proofs.Laying.{IsLaid, found_behind}

not_all : (a b c d e : Bool) → (a ≡ true → d ≡ false) → (a && b && c && d && e) ≡ false
not_all false b c d e h = refl
not_all true false c d e h = refl
not_all true true false d e h = refl
not_all true true true d e h = ap (λ x. x && e) (h refl)

-- a page that names no logical area has no line
pub nothing_on : (key : Dbkey) (page : List ℕ) → owner_at page ≡ 0 → line_on key page ≡ never
unfolding line_on
nothing_on key page none = ap (λ b. if b then said_at (line_place (class_at page) key.line) page else never) (not_all _ _ _ _ _ (λ some. differs (owner_at page == key.area) refl some))
  where
    differs : (b : Bool) → (owner_at page == key.area) ≡ b → nat_le 1 key.area ≡ true → b ≡ false
    differs false is some = refl
    differs true is some = absurd (bad (owner_at page) key.area is some none)
      where
        bad : (a b : ℕ) → (a == b) ≡ true → nat_le 1 b ≡ true → a ≡ 0 → ⊥
        bad a b same le zero_is = grind arith

pub little_zeros : (i m : ℕ) (xs : List ℕ) → ((j : ℕ) → ◌≡◌ {A = ℕ} (get_or xs j 0) 0) → little_from i m xs ≡ 0
little_zeros i zero xs none = refl
little_zeros i (suc m) xs none = let here = none i in let rest = little_zeros (suc i) m xs none in omega (arith, here, rest)

pub zero_behind : (at n j : ℕ) → ◌≡◌ {A = ℕ} (get_or (drop at (replicate n 0)) j 0) 0
zero_behind zero zero j = refl
zero_behind zero (suc n) zero = refl
zero_behind zero (suc n) (suc j) = zero_behind zero n j
zero_behind (suc at) zero j = refl
zero_behind (suc at) (suc n) j = zero_behind at n j

-- a page of zeros names none
pub zeros_owner : (page : List ℕ) → page ≡ replicate (length page) 0 → owner_at page ≡ 0
unfolding number_at
zeros_owner page is = ap (λ (l : List ℕ). little_from 0 4 (drop 8 l)) is ∙ little_zeros 0 4 (drop 8 (replicate (length page) 0)) (zero_behind 8 (length page))

-- nor does a space page
pub space_owner : (page : List ℕ) (number : ℕ) → IsSpace page number → owner_at page ≡ 0
space_owner page number is = ⊎_elim (zeros_owner page) (λ w. zero_number 8 16 8 4 page (omega arith) (omega arith) w.head.1.1.0) is.bytes

-- ---- where a crash may leave a page that has no line

module _ (P : PendingContents) (now : Progress) (facts : Facts P now) (key : Dbkey) (page : List ℕ) (there : OnPage P key page) (none : line_on key page ≡ never) where
  number_none : (line_on key page).tsn.number ≡ 0
  number_none = ap (λ (l : Line). l.tsn.number) none

  is_committed : IsCommitted P now key (line_on key page)
  is_committed = ⊎_elim (λ c. c) (λ c. absurd (changed c)) (facts.line key page there)
    where
      changed : IsChanged P now key (line_on key page) → ⊥
      changed c =
          let open_number : 1 ≤ c.transaction.tsn.number = (facts.going c.member c.transaction c.is_open).number in
          let same : (line_on key page).tsn.number ≡ c.transaction.tsn.number = ap (λ (t : Tsn). t.number) c.tsn in
          let zero_is : (line_on key page).tsn.number ≡ 0 = number_none in
          omega (arith, open_number, same, zero_is)

  pub never_committed : IsCommitted P now key never
  never_committed = subst (λ (l : Line). IsCommitted P now key l) none is_committed

  pub not_committed : line_in key now.lines ≡ None
  not_committed = sym never_committed.shows

  pub not_in_flight : (f : Flight) → now.flight ≡ Some f → line_in key (lines_with now f) ≡ None
  not_in_flight f is = ⊎_elim laid (λ left. left.found ∙ not_committed) (found_behind key f.group.lines now.lines)
    where
      laid : IsLaid key f.group.lines now.lines → line_in key (lines_with now f) ≡ None
      laid l =
          let flight = facts.flight f is in
          let landed : HasLanded f.group l.line (line_on l.line.key page) = flight.landed l.index l.line page l.is (subst (λ (k : Dbkey). OnPage P k page) (sym l.same_key) there) in
          let here : HasLanded f.group l.line (line_on key page) = subst (λ (k : Dbkey). HasLanded f.group l.line (line_on k page)) l.same_key landed in
          let open_number : 1 ≤ flight.transaction.tsn.number = (facts.going f.member flight.transaction flight.is_open).number in
          let same : (line_on key page).tsn.number ≡ flight.transaction.tsn.number = ap (λ (t : Tsn). t.number) (here.tsn ∙ flight.tsn) in
          let zero_is : (line_on key page).tsn.number ≡ 0 = number_none in
          absurd (omega (arith, open_number, same, zero_is))
