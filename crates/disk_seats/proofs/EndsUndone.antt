-- A transaction of which no page was written ends as undone.
use Rattle.std.proofs.Common.{◌≡◌, ◌≢◌, ℕ, ◌<◌, List, [], Option, Some, None, slice_get, ⊎_elim, ap, sym, subst, ◌∙◌, refl, arith}
use Rattle.rdb_outside.specs.Disk.{View, Pending}
use Rattle.line_opening.specs.stable_lines.Slots.{Undo}
use Rattle.line_opening.specs.stable_lines.Progress.{Progress, without}
use Rattle.line_opening.specs.stable_lines.Facts.{IsNotOpen, Facts}
use Rattle.line_opening.specs.stable_lines.History.{IsAt}
use Rattle.line_opening.proofs.of_stable_lines.Turns.{going_is, going_here, going_there}
use Rattle.line_opening.proofs.of_stable_lines.Ending.{undone, no_line_bears}
use Rattle.line_opening.proofs.of_stable_lines.Histories.{at_still}
use Rattle.line_seat.proofs.SeatGoesOn.{behind_without}
use Rattle.disk_seats.specs.Ledgers.{Standing, resting, changing, broken, committing, undoing, Commit, Ledger, progress_with, progress_of, set_standing, ended_by}
use Rattle.disk_seats.specs.Members.{HasOpen, MemberStands, LedgerFacts, MayEnd}
use Rattle.disk_seats.proofs.Standings.{standing_there, apart_fewer}
use Rattle.disk_seats.proofs.Progresses.{not_flying, same_going, under_way}
use Rattle.disk_seats.proofs.CommitGoesOn.{commit_goes_on, without_with}
use Rattle.disk_seats.proofs.MembersGoOn.{members_go_on}

has_open : (v : View) (base : Progress) (member : ℕ) (st : Standing) → MayEnd st → MemberStands v base member st → HasOpen base member []
has_open v base member resting may was = absurd may
has_open v base member (changing all n) may was = record { transaction = was.transaction; is_open = was.seat.is_open; entries = was.seat.none_stands }
has_open v base member broken may was = was
has_open v base member (committing all) may was = absurd may
has_open v base member (undoing all left) may was = absurd may

-- behind a step that ends it
module _ (v : View) (g : Ledger) (member : ℕ) (was : LedgerFacts v g) (off : (c : Commit) → g.commit ≡ Some c → c.member ≢ member) (facts : Facts (Pending v) (without member (progress_of g))) where
  not_open : (tsn : ℕ) → tsn < g.base.next_tsn → IsNotOpen g.base tsn → IsNotOpen (without member g.base) tsn
  not_open tsn low closed s o is = ⊎_elim (λ here. let bad : None ≡ Some o = sym here.is ∙ is in absurd (cc)) (λ away. closed s o (sym away.is ∙ is)) (going_is g.base member None s)

  with_it : progress_with g.commit (without member g.base) ≡ without member (progress_of g)
  with_it = without_with g.commit g.base member (under_way v g was)

  pub ended_with : LedgerFacts v (ended_by member g)
  ended_with = record {
    facts = subst (λ (p : Progress). Facts (Pending v) p) (sym with_it) facts;
    quiet = was.quiet;
    settled = was.settled;
    used = was.used;
    member = members_go_on v g.base (without member g.base) member resting g.standing
        (λ s apart. going_there g.base member None s apart)
        (λ s o all n apart stands_there seat. behind_without v g.base s member o all n apart seat) was.member
        (going_here g.base member None);
    commit = λ c is. commit_goes_on v g.base (without member g.base).going g.base.next_tsn g.standing (set_standing member resting g.standing) c
        (standing_there member resting g.standing c.member (off c is))
        (going_there g.base member None c.member (off c is)) (omega arith) not_open
        (subst (λ (o : Option Commit). Facts (Pending v) (progress_with o (without member g.base))) is (subst (λ (p : Progress). Facts (Pending v) p) (sym with_it) facts))
        (was.commit c is);
    apart = apart_fewer g.standing member resting was.apart (λ i a got. absurd (nothing i a got));
    at = subst (λ (p : Progress). IsAt g.history p) (sym with_it) (at_still g.history (progress_of g) (without member (progress_of g)) refl refl (λ f. refl) was.at);
    marked = was.marked;
    stands = was.stands;
  }
    where
      nothing : (i : ℕ) (a : Undo) → slice_get [] i ≡ Some a → ⊥
      nothing i a bad = cc

module _ (v : View) (g : Ledger) (member : ℕ) (was : LedgerFacts v g) (may : MayEnd (g.standing member)) (off : (c : Commit) → g.commit ≡ Some c → c.member ≢ member) where
  its : HasOpen g.base member []
  its = has_open v g.base member (g.standing member) may (was.member member)

  is_open : (progress_of g).going member ≡ Some its.transaction
  is_open = same_going v g was member ∙ its.is_open

  ends_now : Facts (Pending v) (without member (progress_of g))
  ends_now = undone (Pending v) (progress_of g) member its.transaction is_open
      (no_line_bears (Pending v) (progress_of g) member its.transaction is_open was.facts (λ i undo x got p. absurd (nothing i undo (ap (λ (l : List Undo). slice_get l i) (sym its.entries) ∙ got))))
      (not_flying v g was member off) was.facts
    where
      nothing : (i : ℕ) (undo : Undo) → slice_get [] i ≡ Some undo → ⊥
      nothing i undo bad = cc

  pub ended_facts : LedgerFacts v (ended_by member g)
  ended_facts = ended_with v g member was off ends_now
