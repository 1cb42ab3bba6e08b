-- What a seat holds, behind the steps of others.
use Rattle.std.proofs.Common.{◌≡◌, ◌≢◌, ℕ, ◌≤◌, ◌==◌, ◌||◌, List, Option, Some, None, slice_get, ⊎_elim, ap, sym, subst, ◌∙◌, arith, refl}
use Rattle.rdb_outside.specs.Disk.{View, Pending}
use Rattle.aij_journal.specs.declared.part.GroupLine.{GroupLine}
use Rattle.line_view.specs.Knowledge.{line_in}
use Rattle.line_moves.specs.stable_lines.Slots.{Undo}
use Rattle.line_moves.specs.stable_lines.Journal.{has_group}
use Rattle.line_moves.specs.stable_lines.Progress.{Open, Flight, Progress, set_going, begun, without, flying, landed, fallen, lines_with}
use Rattle.line_moves.specs.stable_lines.Facts.{PendingContents, IsNotOpen}
use Rattle.stable_lines.proofs.Laying.{found_behind, grouped_behind}
use Rattle.stable_lines.proofs.Turns.{some_same, going_is, going_there}
use Rattle.line_moves.specs.Contents.{IsFree}
use Rattle.line_seat.specs.Seats.{BeforeFacts, SeatFacts, next_open, secured}

-- the member is open as it was, it isn't in flight, and its before-images are as committed
goes_on : (v : View) (now new : Progress) (member : ℕ) (o : Open) (all : List Undo) (n : ℕ) → new.going member ≡ now.going member → ((f : Flight) → new.flight ≡ Some f → f.member ≢ member)
    → ((i : ℕ) (undo : Undo) → slice_get all i ≡ Some undo → BeforeFacts (Pending v) new undo) → SeatFacts v now member o all n → SeatFacts v new member o all n
goes_on v now new member o all n going not_flying before was = record {
  is_open = going ∙ was.is_open;
  none_stands = was.none_stands;
  counted = was.counted;
  written = was.written;
  not_flying = not_flying;
  names = was.names;
  stand = was.stand;
  headed = was.headed;
  sure = was.sure;
  before = before;
}

-- the same lines and groups, and who is open then was open with that number or has another
still_before : (P : PendingContents) (now new : Progress) (undo : Undo) → new.lines ≡ now.lines → new.journal ≡ now.journal → new.limits ≡ now.limits → now.next_tsn ≤ new.next_tsn → IsNotOpen new undo.before.tsn.number → IsFree new undo.key → BeforeFacts P now undo → BeforeFacts P new undo
still_before P now new undo lines journal limits le not_open free was = record {
  committed = record { shows = was.committed.shows ∙ ap (line_in undo.key) (sym lines); ended = λ m h is one p n. ap (λ j. has_group undo.before.tsn.number j.groups) journal ∙ was.committed.ended m h is one p n; not_open = not_open };
  below = let below = was.below in omega (arith, below, le);
  free = free;
  within = subst (λ l. undo.key.page ≤ l.pages) (sym limits) was.within;
}

module _ (v : View) (now : Progress) (member other : ℕ) (o : Open) (all : List Undo) (n : ℕ) (apart : member ≢ other) (was : SeatFacts v now member o all n) where
  -- with another transaction of the other member, or none
  opened : (p : Option Open) → ((i : ℕ) (undo : Undo) (q : Open) → slice_get all i ≡ Some undo → p ≡ Some q → undo.before.tsn.number ≢ q.tsn.number) → (i : ℕ) (undo : Undo) → slice_get all i ≡ Some undo → IsNotOpen (set_going other p now) undo.before.tsn.number
  opened p off i undo got s q is = ⊎_elim
      (λ here. off i undo q got (sym here.is ∙ is))
      (λ away. (was.before i undo got).committed.not_open s q (sym away.is ∙ is)) (going_is now other p s)

  pub behind_begun : SeatFacts v (begun other now) member o all n
  behind_begun = goes_on v now (begun other now) member o all n (going_there now other (Some (next_open now)) member apart) was.not_flying
      (λ i undo got. still_before (Pending v) now (begun other now) undo refl refl refl (omega arith)
      (opened (Some (next_open now)) (λ j u q there same number. let below = (was.before j u there).below in let tsn : now.next_tsn ≡ q.tsn.number = ap (λ (p : Open). p.tsn.number) (some_same (next_open now) q same) in omega (arith, below, number, tsn)) i undo got)
      (was.before i undo got).free (was.before i undo got)) was

  pub behind_secured : (theirs : Open) (entries : List Undo) → now.going other ≡ Some theirs → SeatFacts v (secured other theirs entries now) member o all n
  behind_secured theirs entries is_open = goes_on v now (secured other theirs entries now) member o all n (going_there now other (Some (record { tsn = theirs.tsn; entries = entries })) member apart) was.not_flying
      (λ i undo got. still_before (Pending v) now (secured other theirs entries now) undo refl refl refl (omega arith)
      (opened (Some (record { tsn = theirs.tsn; entries = entries })) (λ j u q there same number. (was.before j u there).committed.not_open other theirs is_open (number ∙ sym (ap (λ (p : Open). p.tsn.number) (some_same (record { tsn = theirs.tsn; entries = entries }) q same)))) i undo got)
      (was.before i undo got).free (was.before i undo got)) was

  pub behind_without : SeatFacts v (without other now) member o all n
  behind_without = goes_on v now (without other now) member o all n (going_there now other None member apart) was.not_flying
      (λ i undo got. still_before (Pending v) now (without other now) undo refl refl refl (omega arith) (opened None (λ j u q there same. absurd (nothing q same)) i undo got) (was.before i undo got).free (was.before i undo got)) was
    where
      nothing : (q : Open) → None ≡ Some q → ⊥
      nothing q is = cc

module _ (v : View) (now : Progress) (member : ℕ) (o : Open) (all : List Undo) (n : ℕ) (f : Flight) (was : SeatFacts v now member o all n) where
  pub behind_takeoff : f.member ≢ member → ((i : ℕ) (undo : Undo) → slice_get all i ≡ Some undo → (k : ℕ) (line : GroupLine) → slice_get f.group.lines k ≡ Some line → line.key ≢ undo.key) → SeatFacts v (flying f now) member o all n
  behind_takeoff theirs keys = goes_on v now (flying f now) member o all n refl (λ g is. subst (λ (h : Flight). h.member ≢ member) (some_same f g is) theirs)
      (λ i undo got. still_before (Pending v) now (flying f now) undo refl refl refl (omega arith) (was.before i undo got).committed.not_open (λ g is. subst (λ (h : Flight). (k : ℕ) (line : GroupLine) → slice_get h.group.lines k ≡ Some line → line.key ≢ undo.key) (some_same f g is) (keys i undo got)) (was.before i undo got)) was

  no_flight : (g : Flight) → None ≡ Some g → ⊥
  no_flight g is = cc

  pub behind_landing : now.flight ≡ Some f → SeatFacts v (landed f now) member o all n
  behind_landing flies = goes_on v now (landed f now) member o all n (going_there now f.member None member (λ same. was.not_flying f flies (sym same))) (λ g is. absurd (no_flight g is)) (λ i undo got. before undo (was.before i undo got)) was
    where
      no_open : (q : Open) → None ≡ Some q → ⊥
      no_open q is = cc

      before : (undo : Undo) → BeforeFacts (Pending v) now undo → BeforeFacts (Pending v) (landed f now) undo
      before undo b = record {
        committed = record {
          shows = b.committed.shows ∙ sym left;
          ended = λ m h is le p same. grouped_behind undo.before.tsn.number now.journal.groups f.group ∙ ap (λ t. t || (f.group.tsn.number == undo.before.tsn.number)) (b.committed.ended m h is le p same);
          not_open = λ s q is. ⊎_elim (λ here. absurd (no_open q (sym here.is ∙ is))) (λ away. b.committed.not_open s q (sym away.is ∙ is)) (going_is now f.member None s);
        };
        below = b.below;
        free = λ g is. absurd (no_flight g is);
        within = b.within;
      }
        where
          left : line_in undo.key (lines_with now f) ≡ line_in undo.key now.lines
          left = ⊎_elim (λ laid. absurd (b.free f flies laid.index laid.line laid.is laid.same_key)) (λ stays. stays.found) (found_behind undo.key f.group.lines now.lines)

pub behind_fall : (v : View) (now : Progress) (member : ℕ) (o : Open) (all : List Undo) (n : ℕ) → SeatFacts v now member o all n → SeatFacts v (fallen now) member o all n
behind_fall v now member o all n was = goes_on v now (fallen now) member o all n refl (λ g is. absurd (nothing g is))
    (λ i undo got. still_before (Pending v) now (fallen now) undo refl refl refl (omega arith) (was.before i undo got).committed.not_open (λ g is. absurd (nothing g is)) (was.before i undo got)) was
  where
    nothing : (g : Flight) → None ≡ Some g → ⊥
    nothing g is = cc
