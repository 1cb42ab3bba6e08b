-- What becomes of the commit of a member that died.
use Rattle.std.proofs.Common.{◌≡◌, ◌≢◌, ℕ, ◌+◌, false, true, IsTrue, List, Some, None, slice_get, length, inl, inr, ⊎_elim, ap, sym, subst, ◌∙◌, refl, arith}
use Rattle.rdb_outside.specs.Disk.{View, Pending, IsStable}
use Rattle.rdb_outside.specs.Runs.{no_calls}
use Rattle.journal_scan.specs.Standing.{what_stands}
use Rattle.new_database.specs.Maker.{aij_file}
use Rattle.line_opening.specs.stable_lines.Slots.{Undo}
use Rattle.line_opening.specs.stable_lines.Journal.{commit_of, next_slot}
use Rattle.line_opening.specs.stable_lines.Progress.{Progress, flying}
use Rattle.line_opening.specs.stable_lines.Facts.{Facts}
use Rattle.line_opening.specs.stable_lines.History.{IsAt}
use Rattle.line_opening.proofs.of_stable_lines.Barrier.{commit_lost, lines_undone}
use Rattle.line_opening.proofs.of_line_moves.Runs.{writes_none}
use Rattle.line_opening.proofs.of_line_moves.Commits.{lands_with}
use Rattle.line_seat.specs.Stages.{progress_at}
use Rattle.line_seat.proofs.CommitSteps.{long_group, commit_of_it}
use Rattle.disk_seats.specs.Ledgers.{Standing, undoing, entries_of, Commit, Ledger, progress_of, progress_with, flies, given_up, ended_by, landed_at}
use Rattle.disk_seats.specs.Members.{IsPuttingBack, MemberStands, CommitStands, LedgerFacts}
use Rattle.disk_seats.proofs.Standings.{within, standing_is, apart_fewer, not_undoing}
use Rattle.disk_seats.proofs.Progresses.{stands_still, is_flying, grounded, same_going, not_flying}
use Rattle.disk_seats.proofs.CommitTurns.{at_base, landed_facts}
use Rattle.disk_seats.proofs.EndsUndone.{ended_with}
use Rattle.disk_seats.proofs.OwnSeat.{stands_so}

module _ (v : View) (g : Ledger) (c : Commit) (was : LedgerFacts v g) (commits : g.commit ≡ Some c) where
  old : CommitStands v g.base g.standing c
  old = was.commit c commits

  there_is : progress_of g ≡ progress_at c.stage g.base c.flight
  there_is = ap (λ o. progress_with o g.base) commits

  facts_there : Facts (Pending v) (progress_at c.stage g.base c.flight)
  facts_there = subst (λ (p : Progress). Facts (Pending v) p) there_is was.facts

  at_there : IsAt g.history g.base
  at_there = at_base g.history c.stage g.base c.flight old.under_way was.quiet (subst (λ (p : Progress). IsAt g.history p) there_is was.at)

  -- nothing of it flies any more
  given_with : Facts (Pending v) g.base → LedgerFacts v (given_up c g)
  given_with facts = record {
    facts = facts;
    quiet = was.quiet;
    settled = was.settled;
    used = was.used;
    member = λ m. ⊎_elim
        (λ here. subst (λ (s : Standing). MemberStands v g.base m s) (sym here.1) (subst (λ (k : ℕ). MemberStands v g.base k (undoing c.transaction.entries (length c.transaction.entries))) (sym here.0) own))
        (λ away. subst (λ (s : Standing). MemberStands v g.base m s) (sym away.1) (was.member m))
        (standing_is c.member (undoing c.transaction.entries (length c.transaction.entries)) g.standing m);
    commit = λ d same. let bad : None ≡ Some d = same in absurd (cc);
    apart = apart_fewer g.standing c.member (undoing c.transaction.entries (length c.transaction.entries)) was.apart (λ i a got. ap (λ (s : Standing). slice_get (entries_of s) i) old.its ∙ got);
    at = at_there;
    marked = was.marked;
    stands = was.stands;
  }
    where
      own : IsPuttingBack v g.base c.member c.transaction.entries (length c.transaction.entries)
      own = record {
        transaction = c.transaction;
        is_open = old.is.is_open;
        entries = refl;
        within = omega arith;
        undone = λ i undo le got. let less = within c.transaction.entries i undo got in absurd (omega (arith, le, less));
      }

  -- before its group flies
  pub given_facts : flies c.stage ≡ false → LedgerFacts v (given_up c g)
  given_facts off = given_with (subst (λ (p : Progress). Facts (Pending v) p) (stands_still c.stage g.base c.flight off old.under_way) facts_there)

  module _ (stable : IsStable v) (up : flies c.stage ≡ true) (long : length c.classes ≡ length c.lines) where
    flies_now : Facts (Pending v) (flying c.flight g.base)
    flies_now = subst (λ (p : Progress). Facts (Pending v) p) (is_flying c.stage g.base c.flight up) facts_there

    slot_is : c.place.slot + length c.lines ≡ next_slot g.base.journal + length c.flight.group.lines
    slot_is = let first = old.is.in_slot in let count = long_group c.flight c.place c.lines c.classes old.is.group long in omega (arith, first, count)

    -- its commit slot doesn't stand
    pub lost_facts : (what_stands (v.content aij_file (c.place.slot + length c.lines)) ≢ commit_of c.flight.group) → LedgerFacts v (given_up c g)
    lost_facts lost = given_with (subst (λ (p : Progress). Facts (Pending v) p) (grounded c.flight g.base was.quiet)
        (commit_lost (Pending v) (flying c.flight g.base) v.content stable flies_now c.flight refl (λ stands. lost (ap (λ (n : ℕ). what_stands (v.content aij_file n)) slot_is ∙ stands))))

    -- it stands
    pub stands_facts : IsTrue v.tells → what_stands (v.content aij_file (c.place.slot + length c.lines)) ≡ commit_of c.flight.group → LedgerFacts v (landed_at v.moment c g)
    stands_facts t stands = landed_facts v v aij_file 0 t (writes_none aij_file 0 v v (no_calls v)) (inr refl) g c was commits facts_there (λ key. inl refl)
        (lands_with (Pending v) v.content stable (flying c.flight g.base) c.flight c.place.slot c.place.number (length c.lines) c.place.tsn flies_now
        (commit_of_it g.base c.member c.transaction c.place c.lines c.classes c.flight long old.is) stands)

-- all its before-images are put back
module _ (v : View) (g : Ledger) (was : LedgerFacts v g) (stable : IsStable v) (member : ℕ) (all : List Undo) (is : g.standing member ≡ undoing all 0) where
  its : IsPuttingBack v g.base member all 0
  its = stands_so v g was member (undoing all 0) is

  pub undone_facts : LedgerFacts v (ended_by member g)
  undone_facts = ended_with v g member was (not_undoing v g member was all 0 is)
      (lines_undone (Pending v) (progress_of g) v.content stable was.facts member its.transaction (same_going v g was member ∙ its.is_open) (not_flying v g was member (not_undoing v g member was all 0 is))
      (λ i undo got. its.undone i undo (omega arith) got))
