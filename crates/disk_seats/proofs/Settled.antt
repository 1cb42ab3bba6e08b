-- A ledger behind a barrier.
use Rattle.std.proofs.Common.{◌≡◌, ℕ, IsTrue, List, Some, ap, sym, subst, ◌∙◌, refl}
use Rattle.rdb_outside.specs.Disk.{View, Pending, IsStable, OnlyReads}
use Rattle.new_database.specs.Maker.{root_file}
use Rattle.line_opening.specs.stable_lines.Slots.{Undo}
use Rattle.line_opening.specs.stable_lines.Facts.{Facts}
use Rattle.line_opening.proofs.of_line_moves.Runs.{writes_none}
use Rattle.line_seat.proofs.Stable.{holds_all}
use Rattle.line_seat.proofs.StageStays.{beside_reads}
use Rattle.disk_seats.specs.Ledgers.{Standing, resting, changing, broken, committing, undoing, gained, Commit, Ledger, progress_of, progress_with, all_stable}
use Rattle.disk_seats.specs.Members.{IsPuttingBack, MemberStands, LedgerFacts}
use Rattle.disk_seats.proofs.Standings.{apart_gained}
use Rattle.line_opening.proofs.of_line_moves.OnlyPut.{keeps_lines}
use Rattle.disk_seats.proofs.OthersStay.{commit_stays, still_undone}
use Rattle.disk_seats.proofs.Assembled.{assembled}
use Rattle.line_seat.proofs.SeatStays.{stays_reads}

module _ (v w : View) (g : Ledger) (t : IsTrue v.tells) (reads : OnlyReads v w) (was : LedgerFacts v g) (facts : Facts (Pending w) (progress_of g)) where
  facts_of : (c : Commit) → g.commit ≡ Some c → Facts (Pending w) (progress_with (Some c) g.base)
  facts_of c is = subst (λ o. Facts (Pending w) (progress_with o g.base)) is facts

  undone_still : (m : ℕ) (all : List Undo) (left : ℕ) → IsPuttingBack v g.base m all left → IsPuttingBack w g.base m all left
  undone_still m all left here = record {
    transaction = here.transaction;
    is_open = here.is_open;
    entries = here.entries;
    within = here.within;
    undone = still_undone v.content w.content here.transaction all left here.entries (λ i undo got. keeps_lines v.content w.content (reads.keeps t).content undo.key) here.undone;
  }

  read_member : (m : ℕ) (st : Standing) → MemberStands v g.base m st → MemberStands w g.base m st
  read_member m resting here = here
  read_member m (changing all n) here = record { transaction = here.transaction; seat = stays_reads v w t reads g.base m here.transaction all n here.seat }
  read_member m broken here = here
  read_member m (committing all) here = here
  read_member m (undoing all left) here = undone_still m all left here

  pub read_behind : LedgerFacts w g
  read_behind = assembled v w root_file 0 g g.standing t (writes_none root_file 0 v w reads) was facts
      (λ content root q is. was.used content root ((reads.keeps t).pending root_file 0 content q) is)
      (λ m. read_member m (g.standing m) (was.member m))
      (λ c is. commit_stays v w g.base g.standing g.standing c refl (beside_reads v w g.base c.member t reads) (facts_of c is) (was.commit c is))
      was.apart

  module _ (stable : IsStable w) where
    gained_member : (m : ℕ) (st : Standing) → MemberStands v g.base m st → MemberStands w g.base m (gained st)
    gained_member m resting here = here
    gained_member m (changing all n) here = record {
      transaction = here.transaction;
      seat = holds_all v w (reads.keeps t) (λ f i x q. stable f i x q ∙ (reads.keeps t).content f i) g.base m here.transaction all n here.seat;
    }
    gained_member m broken here = here
    gained_member m (committing all) here = here
    gained_member m (undoing all left) here = undone_still m all left here

    pub gained_behind : LedgerFacts w (all_stable g)
    gained_behind = assembled v w root_file 0 g (λ m. gained (g.standing m)) t (writes_none root_file 0 v w reads) was facts
        (λ content root q is. was.used content root ((reads.keeps t).pending root_file 0 content q) is)
        (λ m. gained_member m (g.standing m) (was.member m))
        (λ c is. commit_stays v w g.base g.standing (λ m. gained (g.standing m)) c (ap gained (was.commit c is).its ∙ sym (was.commit c is).its) (beside_reads v w g.base c.member t reads) (facts_of c is) (was.commit c is))
        (apart_gained g.standing was.apart)
