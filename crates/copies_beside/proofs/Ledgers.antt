-- The ledger of all transactions behind calls that write a backup.
use Rattle.std.proofs.Common.{◌≡◌, ◌<◌, ◌-◌, ℕ, suc, IsTrue, length, Option, Some, ⊎_elim, inl, refl, subst, arith}
use Rattle.std.specs.Prelude.{slice_get}
use Rattle.rdb_outside.specs.Disk.{View, Pending}
use Rattle.rdb_outside.specs.Moments.{Since}
use Rattle.backup_steps.specs.backup_making.Making.{file_of as backup_of}
use Rattle.backup_steps.specs.Beside.{IsBeside}
use Rattle.line_versions.specs.Course.{Course}
use Rattle.stable_lines.specs.Progress.{Progress}
use Rattle.stable_lines.specs.Facts.{Facts}
use Rattle.stable_lines.specs.History.{StandsFrom}
use Rattle.stable_lines.proofs.Stands.{stands}
use Rattle.stable_lines.proofs.Histories.{stands_from}
use Rattle.line_seat.proofs.SeatStays.{seat_stays}
use Rattle.line_seat.proofs.StageStays.{IsBesideIt}
use Rattle.disk_seats.specs.Ledgers.{Commit, Ledger, progress_of, progress_with}
use Rattle.disk_seats.specs.Members.{LedgerFacts}
use Rattle.disk_seats.proofs.Standings.{within}
use Rattle.disk_seats.proofs.OthersStay.{LeavesSeats, member_stays, commit_stays}
use Rattle.disk_versions.proofs.Moves.{KeepsEntries, versions_move}
use Rattle.ledger_versions.specs.Readers.{ReaderFacts, Waiting}
use Rattle.ledger_versions.proofs.Restanding.{removes, put_keeps}
use Rattle.copies_beside.proofs.Files.{area_left, area_reads, facts_stay, groups_read, journal_left, journal_reads, lines_stay, root_left, versions_read}

module _ (number : ℕ) (v w : View) (beside : IsBeside (backup_of number) v w) (t : IsTrue v.tells) where
  leaves_seats : (base : Progress) (member : ℕ) → LeavesSeats v w base member
  leaves_seats base member = record {
    seat = λ s o all n apart was. seat_stays v w base s o all n (λ i x q. journal_left number v w beside t s i x q) (λ i. journal_reads number v w beside t s i)
        (λ i undo got m h is le q names. (was.before i undo got).committed.ended m h is le (journal_left number v w beside t m 0 h q) names) was;
  }

  is_beside : (base : Progress) (member : ℕ) → IsBesideIt v w base member
  is_beside base member = record {
    own = λ i x q. journal_left number v w beside t member i x q;
    areas = λ f i x q. area_left number v w beside t f i x q;
    pages = λ f i. area_reads number v w beside t f i;
    aij = λ i. groups_read number v w beside t i;
    ended = λ tsn off was m h is le q n. was m h is le (journal_left number v w beside t m 0 h q) n;
  }

  module _ (g : Ledger) (was : LedgerFacts v g) where
    facts : Facts (Pending w) (progress_of g)
    facts = facts_stay number v w beside t (progress_of g) was.facts

    since : (k moment : ℕ) → slice_get g.moments k ≡ Some moment → Since w moment (StandsFrom g.history k)
    since k moment got =
        let less : k < length g.history.reached = (let lt = within g.moments k moment got in let same = was.marked in omega (arith, lt, same)) in
        let before = was.stands k moment got in
        record {
          past = let past = before.past in let later = beside.later in omega (arith, past, later);
          each = λ image left. ⊎_elim (before.each image)
              (λ pending. ⊎_elim (λ each. stands_from g.history (progress_of g) k image was.at less (stands (Pending v) (progress_of g) was.facts image each))
              (λ each. stands_from g.history (progress_of g) k image was.at less (stands (Pending w) (progress_of g) facts image each)) pending)
              ((beside.leaves t).before moment image before.past left);
        }

    pub ledger_stays : LedgerFacts w g
    ledger_stays = record {
      facts = facts;
      quiet = was.quiet;
      settled = was.settled;
      used = λ content root q is. was.used content root (root_left number v w beside t content q) is;
      member = λ m. member_stays v w g.base (suc m) (leaves_seats g.base (suc m)) m (λ same. let no : m ≡ suc m = same in omega (arith, no)) (g.standing m) (λ i undo got. lines_stay number v w beside t undo.key) (was.member m);
      commit = λ c is. commit_stays v w g.base g.standing g.standing c refl (is_beside g.base c.member)
          (subst (λ (o : Option Commit). Facts (Pending w) (progress_with o g.base)) is facts) (was.commit c is);
      apart = was.apart;
      at = was.at;
      marked = was.marked;
      stands = since;
    }

  -- what readers come to
  pub readers_stay : (g : Ledger) (limit : ℕ) (course : Course) (waiting : Waiting) → ReaderFacts v g limit course waiting → ReaderFacts w g limit course waiting
  readers_stay g limit course waiting was =
      let kept : KeepsEntries v.content w.content course.followed = λ file chain some held. versions_read number v w beside t file (chain - 1) in
      let keeps = lines_stay number v w beside t in
      removes v w limit course waiting g kept (versions_move v w g.base limit course kept (λ key. inl (keeps key)) was.versions)
      (λ c under flown put. put_keeps v.content w.content c.lines (length c.lines) keeps put) was
