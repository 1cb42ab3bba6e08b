-- How far the transactions are, with and without the group that flies.
use Rattle.std.proofs.Common.{◌≡◌, ◌≢◌, ℕ, Bool, true, false, List, Option, Some, None, ◌⊎◌, inl, inr, ⊎_elim, ap, sym, ◌∙◌, refl, subst, slice_get}
use Rattle.std.proofs.lemmas.Bool.{true≢false}
use Rattle.rdb_outside.specs.Disk.{View}
use Rattle.aij_journal.specs.declared.part.GroupLine.{GroupLine}
use Rattle.journal_scan.specs.declared.group.Group.{Group}
use Rattle.rdb_types.specs.declared.keys.Dbkey.{Dbkey}
use Rattle.line_opening.specs.stable_lines.Slots.{Undo}
use Rattle.line_opening.specs.stable_lines.Progress.{Open, Flight, Progress, flying, fallen}
use Rattle.line_opening.specs.line_moves.Contents.{IsFree}
use Rattle.stable_lines.proofs.Turns.{some_same}
use Rattle.line_seat.specs.declared.commit.CommitStage.{CommitStage}
use Rattle.line_seat.specs.declared.commit.CommitStage.TheVariants.{Changing, Imaging, Gathering, Sealing, Landing, Committed}
use Rattle.line_seat.specs.Groups.{group_of}
use Rattle.line_seat.specs.Seats.{SeatFacts}
use Rattle.line_seat.specs.Stages.{progress_at}
use Rattle.line_seat.proofs.GroupSlots.{of_lines}
use Rattle.line_seat.proofs.SeatGoesOn.{behind_takeoff, behind_fall}
use Rattle.disk_seats.specs.Ledgers.{Standing, changing, entries_of, Commit, Ledger, progress_with, progress_of, flies}
use Rattle.disk_seats.specs.Members.{CommitStands, LedgerFacts, IsLeftTo}

-- ---- stages

pub stands_still : (stage : CommitStage) (base : Progress) (f : Flight) → flies stage ≡ false → stage ≢ Committed → progress_at stage base f ≡ base
stands_still (Changing at) base f off under = refl
stands_still (Imaging at) base f off under = refl
stands_still Gathering base f off under = refl
stands_still Sealing base f off under = absurd (true≢false off)
stands_still Landing base f off under = absurd (true≢false off)
stands_still Committed base f off under = absurd (under refl)

pub is_flying : (stage : CommitStage) (base : Progress) (f : Flight) → flies stage ≡ true → progress_at stage base f ≡ flying f base
is_flying (Changing at) base f up = absurd (true≢false (sym up))
is_flying (Imaging at) base f up = absurd (true≢false (sym up))
is_flying Gathering base f up = absurd (true≢false (sym up))
is_flying Sealing base f up = refl
is_flying Landing base f up = refl
is_flying Committed base f up = absurd (true≢false (sym up))

pub either_bool : (b : Bool) → (b ≡ false) ⊎ (b ≡ true)
either_bool true = inr refl
either_bool false = inl refl

-- the group of the commit flies
pub record Flies (commit : Option Commit) (base now : Progress) : Type 0 where
  pub its : Commit
  pub is : commit ≡ Some its
  pub now_is : now ≡ flying its.flight base

-- nothing flies, or the group of the commit does
pub shape : (commit : Option Commit) (base : Progress) → ((c : Commit) → commit ≡ Some c → c.stage ≢ Committed) → (progress_with commit base ≡ base) ⊎ Flies commit base (progress_with commit base)
shape None base under = inl refl
shape (Some c) base under = ⊎_elim
    (λ off. inl (stands_still c.stage base c.flight off (under c refl)))
    (λ up. inr (record { its = c; is = refl; now_is = is_flying c.stage base c.flight up })) (either_bool (flies c.stage))

pub under_way : (v : View) (g : Ledger) → LedgerFacts v g → (c : Commit) → g.commit ≡ Some c → c.stage ≢ Committed
under_way v g was c is = (was.commit c is).under_way

pub shape_of : (v : View) (g : Ledger) → LedgerFacts v g → (progress_of g ≡ g.base) ⊎ Flies g.commit g.base (progress_of g)
shape_of v g was = shape g.commit g.base (under_way v g was)

pub same_going : (v : View) (g : Ledger) → LedgerFacts v g → (m : ℕ) → (progress_of g).going m ≡ g.base.going m
same_going v g was m = ⊎_elim (λ e. ap (λ (p : Progress). p.going m) e) (λ up. ap (λ (p : Progress). p.going m) up.now_is) (shape_of v g was)

pub same_former : (v : View) (g : Ledger) → LedgerFacts v g → (progress_of g).former ≡ g.base.former
same_former v g was = ⊎_elim (λ e. ap (λ (p : Progress). p.former) e) (λ up. ap (λ (p : Progress). p.former) up.now_is) (shape_of v g was)

pub same_next : (v : View) (g : Ledger) → LedgerFacts v g → (progress_of g).next_tsn ≡ g.base.next_tsn
same_next v g was = ⊎_elim (λ e. ap (λ (p : Progress). p.next_tsn) e) (λ up. ap (λ (p : Progress). p.next_tsn) up.now_is) (shape_of v g was)

pub same_limits : (v : View) (g : Ledger) → LedgerFacts v g → (progress_of g).limits ≡ g.base.limits
same_limits v g was = ⊎_elim (λ e. ap (λ (p : Progress). p.limits) e) (λ up. ap (λ (p : Progress). p.limits) up.now_is) (shape_of v g was)

-- ---- without a flight

pub grounded : (f : Flight) (base : Progress) → base.flight ≡ None → fallen (flying f base) ≡ base
grounded f base quiet = λ i. record base { flight = sym quiet i }

-- a line of the group in flight is of a before-image of the member
pub flight_keys : (v : View) (base : Progress) (standing : ℕ → Standing) (c : Commit) → CommitStands v base standing c → (k : ℕ) (line : GroupLine) → slice_get c.flight.group.lines k ≡ Some line
    → (i : ℕ) × (undo : Undo) × (slice_get (entries_of (standing c.member)) i ≡ Some undo) × (undo.key ≡ line.key)
flight_keys v base standing c stands k line got =
    let there : slice_get (group_of c.place c.lines c.classes).lines k ≡ Some line = ap (λ (g : Group). slice_get g.lines k) (sym stands.is.group) ∙ got in
    let from = of_lines c.lines c.classes k line there in
    let of = stands.of_entries k from.line from.got in
    (of.1, of.2, ap (λ (s : Standing). slice_get (entries_of s) of.1) stands.its ∙ of.3, of.4 ∙ ap (λ (l : GroupLine). l.key) (sym from.is))

-- a key of which no other member has a before-image isn't in the group that flies
pub free_now : (v : View) (g : Ledger) → LedgerFacts v g → (member : ℕ) (key : Dbkey) → ((c : Commit) → g.commit ≡ Some c → c.member ≢ member) → IsLeftTo member key g.standing → IsFree (progress_of g) key
free_now v g was member key apart left f flies_now k line got = ⊎_elim
    (λ still. let bad : None ≡ Some f = sym (ap (λ (p : Progress). p.flight) still ∙ was.quiet) ∙ flies_now in absurd (cc))
    (λ up.
    let same : up.its.flight ≡ f = some_same _ _ (sym (ap (λ (p : Progress). p.flight) up.now_is) ∙ flies_now) in
    let there = ap (λ (h : Flight). slice_get h.group.lines k) same ∙ got in
    let of = flight_keys v g.base g.standing up.its (was.commit up.its up.is) k line there in
    λ equal. left up.its.member of.0 of.1 (apart up.its up.is) of.2 (of.3 ∙ equal))
    (shape_of v g was)

-- what a seat holds with nothing in flight it holds with the group that flies, and the other way
module _ (v : View) (g : Ledger) (was : LedgerFacts v g) (member : ℕ) (apart : (c : Commit) → g.commit ≡ Some c → c.member ≢ member) where
  pub seat_now : (o : Open) (all : List Undo) (n : ℕ) → g.standing member ≡ changing all n → SeatFacts v g.base member o all n → SeatFacts v (progress_of g) member o all n
  seat_now o all n is seat = ⊎_elim
      (λ still. subst (λ (p : Progress). SeatFacts v p member o all n) (sym still) seat)
      (λ up. subst (λ (p : Progress). SeatFacts v p member o all n) (sym up.now_is)
      (behind_takeoff v g.base member o all n up.its.flight seat (λ same. apart up.its up.is (sym (was.commit up.its up.is).is.its ∙ same))
      (λ i undo got k line there equal. let of = flight_keys v g.base g.standing up.its (was.commit up.its up.is) k line there in
      was.apart up.its.member member of.0 i of.1 undo (apart up.its up.is) of.2 (ap (λ (s : Standing). slice_get (entries_of s) i) is ∙ got) (of.3 ∙ equal))))
      (shape_of v g was)

pub seat_base : (w : View) (now base : Progress) (commit : Option Commit) → (now ≡ base) ⊎ Flies commit base now → base.flight ≡ None → (member : ℕ) (o : Open) (all : List Undo) (n : ℕ) → SeatFacts w now member o all n → SeatFacts w base member o all n
seat_base w now base commit is quiet member o all n seat = ⊎_elim
    (λ still. subst (λ (p : Progress). SeatFacts w p member o all n) still seat)
    (λ up. subst (λ (p : Progress). SeatFacts w p member o all n) (grounded up.its.flight base quiet)
    (behind_fall w (flying up.its.flight base) member o all n (subst (λ (p : Progress). SeatFacts w p member o all n) up.now_is seat)))
    is

-- a member whose commit isn't under way doesn't fly
pub not_flying : (v : View) (g : Ledger) → LedgerFacts v g → (member : ℕ) → ((c : Commit) → g.commit ≡ Some c → c.member ≢ member) → (f : Flight) → (progress_of g).flight ≡ Some f → f.member ≢ member
not_flying v g was member off f flies_now = ⊎_elim
    (λ still. let bad : None ≡ Some f = sym (ap (λ (p : Progress). p.flight) still ∙ was.quiet) ∙ flies_now in absurd (cc))
    (λ up. let same : up.its.flight ≡ f = some_same _ _ (sym (ap (λ (p : Progress). p.flight) up.now_is) ∙ flies_now) in
    λ equal. off up.its up.is (sym (was.commit up.its up.is).is.its ∙ (ap (λ (h : Flight). h.member) same ∙ equal)))
    (shape_of v g was)
