-- A member begins to commit.
use Rattle.std.proofs.Common.{◌≡◌, ℕ, ◌≤◌, List, length, Option, Some, None, slice_get, ap, subst, ◌∙◌, refl}
use Rattle.rdb_outside.specs.Disk.{View, Pending}
use Rattle.line_opening.specs.stable_lines.Slots.{Undo}
use Rattle.line_opening.specs.stable_lines.Progress.{Open, Flight, Progress}
use Rattle.line_opening.specs.stable_lines.Facts.{Facts}
use Rattle.line_opening.specs.stable_lines.History.{IsAt}
use Rattle.line_opening.proofs.of_stable_lines.Turns.{some_same, going_here, going_there}
use Rattle.line_opening.proofs.of_stable_lines.Histories.{at_still}
use Rattle.line_seat.specs.Seats.{IsSecured, secured}
use Rattle.line_opening.specs.line_moves.Lines.{ChangedLines}
use Rattle.line_seat.specs.declared.commit.GroupPlace.{GroupPlace}
use Rattle.line_seat.specs.declared.commit.CommitStage.TheVariants.{Changing, Committed}
use Rattle.line_seat.specs.Groups.{AreEntered, AreOfEntries, IsCommitting}
use Rattle.line_seat.proofs.SeatGoesOn.{behind_secured}
use Rattle.line_seat.proofs.Stable.{is_secured}
use Rattle.line_seat.proofs.CommitSteps.{may_begin, none_put}
use Rattle.disk_seats.specs.Ledgers.{Standing, changing, committing, entries_of, Commit, Ledger, progress_with, progress_of, set_standing, new_commit, taken_up}
use Rattle.disk_seats.specs.Members.{CommitStands, LedgerFacts}
use Rattle.disk_seats.proofs.Standings.{standing_here, apart_fewer}
use Rattle.disk_seats.proofs.OwnSeat.{stands_so, seat_of}
use Rattle.disk_seats.proofs.MembersGoOn.{members_go_on}

module _ (v : View) (g : Ledger) (member : ℕ) (o : Open) (all : List Undo) (n : ℕ) (was : LedgerFacts v g) (is : g.standing member ≡ changing all n) (enough : length all ≤ n) (none : g.commit ≡ None) (going : g.base.going member ≡ Some o)
    (place : GroupPlace) (lines : ChangedLines) (classes : List ℕ) (flight : Flight) (committing_is : IsCommitting (secured member o all g.base) member (record { tsn = o.tsn; entries = all }) place lines classes flight)
    (of : AreOfEntries o all lines) (entered : AreEntered (Pending v) lines) where
  still : progress_of g ≡ g.base
  still = ap (λ (k : Option Commit). progress_with k g.base) none

  ready : IsSecured v g.base member o all
  ready = is_secured v g.base member o all n (subst (λ (p : Progress). Facts (Pending v) p) still was.facts) (seat_of v g.base member o all n going (stands_so v g was member (changing all n) is)) enough

  stands_now : CommitStands v (secured member o all g.base) (set_standing member (committing all) g.standing) (new_commit member o all place lines classes flight)
  stands_now = record {
    its = standing_here member (committing all) g.standing;
    under_way = λ same. let bad : Changing 0 ≡ Committed = same in cc;
    is = committing_is;
    of_entries = of;
    facts = record { facts = ready.facts; done = (may_begin v g.base member o all lines ready of, entered, none_put v.content lines) };
  }

  pub taken_facts : LedgerFacts v (taken_up (new_commit member o all place lines classes flight) o g)
  taken_facts = record {
    facts = ready.facts;
    quiet = was.quiet;
    settled = was.settled;
    used = was.used;
    member = members_go_on v g.base (secured member o all g.base) member (committing all) g.standing
        (λ s apart. going_there g.base member (Some (record { tsn = o.tsn; entries = all })) s apart)
        (λ s p others k apart stands_there seat. behind_secured v g.base s member p others k apart seat o all going) was.member
        (record { transaction = record { tsn = o.tsn; entries = all }; is_open = going_here g.base member (Some (record { tsn = o.tsn; entries = all })); entries = refl });
    commit = λ c same. subst (λ (k : Commit). CommitStands v (secured member o all g.base) (set_standing member (committing all) g.standing) k) (some_same (new_commit member o all place lines classes flight) c same) stands_now;
    apart = apart_fewer g.standing member (committing all) was.apart (λ i a got. ap (λ (s : Standing). slice_get (entries_of s) i) is ∙ got);
    at = at_still g.history g.base (secured member o all g.base) refl refl (λ f. refl) (subst (λ (p : Progress). IsAt g.history p) still was.at);
    marked = was.marked;
    stands = was.stands;
  }
