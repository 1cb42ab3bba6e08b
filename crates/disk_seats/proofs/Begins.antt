-- A member draws the next transaction number.
use Rattle.std.proofs.Common.{◌≡◌, ◌≢◌, ℕ, ◌+◌, ◌≤◌, ◌<◌, List, [], Option, Some, None, slice_get, inl, inr, ⊎_elim, ap, sym, subst, ◌∙◌, refl, arith}
use Rattle.rdb_outside.specs.Disk.{View, Pending}
use Rattle.root_file.specs.declared.Root.{Root}
use Rattle.root_file.specs.Root.{IsRoot}
use Rattle.new_database.specs.Maker.{root_file}
use Rattle.line_opening.specs.stable_lines.Slots.{IsMember, Undo}
use Rattle.line_opening.specs.stable_lines.Progress.{Open, Progress, begun}
use Rattle.line_opening.specs.stable_lines.Facts.{IsNotOpen, Facts}
use Rattle.line_opening.specs.stable_lines.History.{IsAt}
use Rattle.line_opening.proofs.of_stable_lines.Turns.{some_same, going_is, going_there, begins}
use Rattle.line_opening.proofs.of_stable_lines.Histories.{at_still}
use Rattle.line_seat.specs.Seats.{SeatFacts, next_open}
use Rattle.line_seat.proofs.SeatStays.{seat_begins}
use Rattle.line_seat.proofs.SeatGoesOn.{behind_begun}
use Rattle.disk_seats.specs.Ledgers.{resting, changing, Commit, Ledger, progress_with, progress_of, set_standing, begun_by}
use Rattle.disk_seats.specs.Members.{LedgerFacts}
use Rattle.disk_seats.proofs.Standings.{standing_there, apart_fewer}
use Rattle.disk_seats.proofs.Progresses.{shape_of, same_going, same_next, under_way, seat_base}
use Rattle.disk_seats.proofs.OwnSeat.{stands_so}
use Rattle.disk_seats.proofs.CommitGoesOn.{commit_goes_on, begun_with}
use Rattle.disk_seats.proofs.MembersGoOn.{members_go_on}

module _ (v : View) (g : Ledger) (member : ℕ) (was : LedgerFacts v g) (is_member : IsMember member) (rests : g.standing member ≡ resting) (drawn : 1 ≤ g.base.next_tsn)
    (room : (x : List ℕ) (root : Root) → Pending v root_file 0 x → IsRoot x root → g.base.next_tsn < root.ceiling) (off : (c : Commit) → g.commit ≡ Some c → c.member ≢ member) where
  idle : (progress_of g).going member ≡ None
  idle = same_going v g was member ∙ stands_so v g was member resting rests

  facts : Facts (Pending v) (begun member (progress_of g))
  facts = begins (Pending v) (progress_of g) member is_member idle (let next = same_next v g was in omega (arith, next, drawn)) was.facts
      (λ x root p is. let next = same_next v g was in let low = room x root p is in omega (arith, next, low))

  own : SeatFacts v (begun member g.base) member (next_open (progress_of g)) [] 0
  own = seat_base v (begun member (progress_of g)) (begun member g.base) g.commit
      (⊎_elim (λ still. inl (ap (λ (p : Progress). begun member p) still)) (λ up. inr (record { its = up.its; is = up.is; now_is = ap (λ (p : Progress). begun member p) up.now_is })) (shape_of v g was))
      was.quiet member (next_open (progress_of g)) [] 0 (seat_begins v (progress_of g) member was.facts is_member idle)

  not_open : (tsn : ℕ) → tsn < g.base.next_tsn → IsNotOpen g.base tsn → IsNotOpen (begun member g.base) tsn
  not_open tsn low closed s o is same = ⊎_elim
      (λ here. let number : g.base.next_tsn ≡ o.tsn.number = ap (λ (p : Open). p.tsn.number) (some_same (next_open g.base) o (sym here.is ∙ is)) in omega (arith, low, same, number))
      (λ away. closed s o (sym away.is ∙ is) same) (going_is g.base member (Some (next_open g.base)) s)

  with_it : progress_with g.commit (begun member g.base) ≡ begun member (progress_of g)
  with_it = begun_with g.commit g.base member (under_way v g was)

  pub begun_facts : LedgerFacts v (begun_by member g)
  begun_facts = record {
    facts = subst (λ (p : Progress). Facts (Pending v) p) (sym with_it) facts;
    quiet = was.quiet;
    settled = was.settled;
    used = was.used;
    member = members_go_on v g.base (begun member g.base) member (changing [] 0) g.standing
        (λ s apart. going_there g.base member (Some (next_open g.base)) s apart)
        (λ s o all n apart stands_there seat. behind_begun v g.base s member o all n apart seat) was.member
        (record { transaction = next_open (progress_of g); seat = own });
    commit = λ c is. commit_goes_on v g.base (begun member g.base).going (g.base.next_tsn + 1) g.standing (set_standing member (changing [] 0) g.standing) c
        (standing_there member (changing [] 0) g.standing c.member (off c is))
        (going_there g.base member (Some (next_open g.base)) c.member (off c is)) (omega arith) not_open
        (subst (λ (o : Option Commit). Facts (Pending v) (progress_with o (begun member g.base))) is (subst (λ (p : Progress). Facts (Pending v) p) (sym with_it) facts))
        (was.commit c is);
    apart = apart_fewer g.standing member (changing [] 0) was.apart (λ i a got. absurd (nothing i a got));
    at = subst (λ (p : Progress). IsAt g.history p) (sym with_it) (at_still g.history (progress_of g) (begun member (progress_of g)) refl refl (λ f. refl) was.at);
    marked = was.marked;
    stands = was.stands;
  }
    where
      nothing : (i : ℕ) (a : Undo) → slice_get [] i ≡ Some a → ⊥
      nothing i a bad = cc
