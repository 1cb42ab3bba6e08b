-- The turns of a commit, one by one.
use Rattle.std.proofs.Common.{◌≡◌, ◌≢◌, ℕ, true, [], length, Some, slice_get, ⊎_elim, ap, sym, subst, ◌∙◌, refl, IsTrue}
use Rattle.std.proofs.lemmas.Bool.{false≢true}
use Rattle.rdb_types.specs.declared.file.FileId.{FileId}
use Rattle.rdb_types.specs.declared.file.FileKind.TheVariants.{Snap}
use Rattle.rdb_outside.specs.Disk.{View, LeftNow}
use Rattle.line_versions.specs.Course.{Course}
use Rattle.stable_lines.specs.Slots.{line_at}
use Rattle.stable_lines.specs.Progress.{lines_with}
use Rattle.line_moves.specs.Calls.{OnlyWrites}
use Rattle.line_moves.specs.Lines.{ChangedLines, AreDistinct, ArePut, PutsOnly}
use Rattle.line_moves.proofs.Putting.{nat_cases}
use Rattle.line_seat.specs.declared.commit.CommitStage.{CommitStage}
use Rattle.line_seat.specs.declared.commit.CommitStage.TheVariants.{Changing, Imaging, Gathering, Sealing, Landing, Committed}
use Rattle.line_seat.specs.Stages.{CommitFacts, IsNextStage}
use Rattle.disk_seats.specs.Ledgers.{entries_of, gained, Commit, Ledger, flies, again, all_stable, commit_at, gone_on, held_up, landed_at, new_commit, taken_up}
use Rattle.disk_seats.specs.Members.{LedgerFacts}
use Rattle.disk_versions.specs.Courses.{course_landed}
use Rattle.disk_versions.specs.Versions.{SeatVersions}
use Rattle.disk_versions.proofs.Choices.{chosen, passed_by}
use Rattle.disk_versions.proofs.Moves.{KeepsEntries, kept_aside, put_moves, versions_move}
use Rattle.ledger_versions.specs.Readers.{Waiting, set_waiting, ReaderFacts}
use Rattle.ledger_versions.proofs.Restanding.{restands, keeps_all, keeps_gained, removes, put_puts, some_commit, no_commit, again_flies}
use Rattle.ledger_versions.proofs.MembersEnd.{commit_begins, member_lands}
use Rattle.ledger_versions.proofs.LinesJoin.{seat}
use Rattle.ledger_versions.proofs.Written.{still_put}
use Rattle.member_steps.specs.declared.committing.CommitTurn.{CommitTurn}
use Rattle.member_steps.specs.declared.committing.CommitTurn.TheVariants.{Entering, Securing, Going}
use Rattle.member_steps.specs.Turns.{IsNextTurn, Plan, MayCommit, TurnFacts, commit_of_plan, ledger_behind, ledger_held}

-- the same lines wait
same_waiting : (v : View) (g : Ledger) (limit : ℕ) (course : Course) (waiting : Waiting) (member : ℕ) (lines : ChangedLines) → waiting member ≡ lines → ReaderFacts v g limit course (set_waiting member lines waiting) → ReaderFacts v g limit course waiting
same_waiting v g limit course waiting member lines same was = record {
  versions = was.versions;
  seats = λ m o has is. subst (λ (l : ChangedLines). SeatVersions v course o.tsn (entries_of (g.standing m)) l) (at m) (was.seats m o has is);
  journalled = λ m i line has got. was.journalled m i line has (ap (λ (l : ChangedLines). slice_get l i) (at m) ∙ got);
  its = λ c under. sym (at c.member) ∙ was.its c under;
  put = was.put;
}
  where
    at : (m : ℕ) → set_waiting member lines waiting m ≡ waiting m
    at m = ⊎_elim (λ here. chosen lines (waiting m) m member here ∙ sym same ∙ ap (λ (k : ℕ). waiting k) (sym here)) (λ apart. passed_by lines (waiting m) m member apart) (nat_cases m member)

-- the commit is to go on behind a fault
held_readers : (v : View) (g : Ledger) (limit : ℕ) (course : Course) (waiting : Waiting) (c : Commit) → g.commit ≡ Some c → ReaderFacts v g limit course waiting → ReaderFacts v (held_up c g) limit course waiting
held_readers v g limit course waiting c under was =
    restands v limit course waiting g g.standing (held_up c g).commit g.history g.moments (keeps_all g.standing)
    (λ d is. subst (λ (x : Commit). waiting x.member ≡ x.lines) (some_commit (commit_at (again c.stage) c) d is) (was.its c under))
    (λ d is flown. subst (λ (x : Commit). ArePut v.content x.lines (length x.lines)) (some_commit (commit_at (again c.stage) c) d is)
    (was.put c under (again_flies c.stage (ap (λ (x : Commit). flies x.stage) (some_commit (commit_at (again c.stage) c) d is) ∙ flown))))
    was

gone_readers : (v : View) (g : Ledger) (limit : ℕ) (course : Course) (waiting : Waiting) (c : Commit) (next : CommitStage) → g.commit ≡ Some c → (flies next ≡ true → ArePut v.content c.lines (length c.lines)) → ReaderFacts v g limit course waiting → ReaderFacts v (gone_on next c g) limit course waiting
gone_readers v g limit course waiting c next under put was =
    restands v limit course waiting g g.standing (gone_on next c g).commit (gone_on next c g).history g.moments (keeps_all g.standing)
    (λ d is. subst (λ (x : Commit). waiting x.member ≡ x.lines) (some_commit (commit_at next c) d is) (was.its c under))
    (λ d is flown. subst (λ (x : Commit). ArePut v.content x.lines (length x.lines)) (some_commit (commit_at next c) d is) (put (ap (λ (x : Commit). flies x.stage) (some_commit (commit_at next c) d is) ∙ flown)))
    was

only_gathering : (stage : CommitStage) → IsNextStage stage Sealing → stage ≡ Gathering
only_gathering (Changing at) is = absurd is
only_gathering (Imaging at) is = absurd is
only_gathering Gathering is = refl
only_gathering Sealing is = absurd is
only_gathering Landing is = absurd is
only_gathering Committed is = absurd is

only_sealing : (stage : CommitStage) → IsNextStage stage Landing → stage ≡ Sealing
only_sealing (Changing at) is = absurd is
only_sealing (Imaging at) is = absurd is
only_sealing Gathering is = absurd is
only_sealing Sealing is = refl
only_sealing Landing is = absurd is
only_sealing Committed is = absurd is

module _ (v w : View) (g : Ledger) (limit : ℕ) (course : Course) (waiting : Waiting) (plan : Plan) (file : FileId) (slot : ℕ) (t : IsTrue v.tells) (facts : LedgerFacts v g) (other : file.kind ≢ Snap) (writes : OnlyWrites file slot v w)
    (puts : PutsOnly plan.lines v.content w.content) (distinct : AreDistinct plan.lines) (waits : waiting plan.member ≡ plan.lines) (was : ReaderFacts v g limit course waiting) where
  kept : KeepsEntries v.content w.content course.followed
  kept = kept_aside v w course.followed file slot t other writes

  -- of a member that changes lines
  of_changing : MayCommit v g plan → SeatVersions v course plan.transaction.tsn plan.all plan.lines
  of_changing may = subst (λ (l : ChangedLines). SeatVersions v course plan.transaction.tsn plan.all l) waits (seat v g limit course waiting plan.member plan.all may.stable plan.transaction facts may.stands may.is_open was)

  by_changing : MayCommit v g plan → ReaderFacts w g limit course waiting
  by_changing may = removes v w limit course waiting g kept (versions_move v w g.base limit course kept (put_moves v w course plan.transaction.tsn plan.all plan.lines kept (of_changing may) puts) was.versions)
      (λ c under. absurd (no_commit c (sym may.alone ∙ under))) was

  by_going : (stage : CommitStage) → g.commit ≡ Some (commit_of_plan plan stage) → ReaderFacts w g limit course waiting
  by_going stage under = still_put v w limit course waiting g t was file slot other (commit_of_plan plan stage) facts under distinct writes puts

  pub turn_held : (turn : CommitTurn) → TurnFacts turn v g plan → ReaderFacts w (ledger_held turn plan g) limit course waiting
  turn_held (Entering at) its = by_changing its.0
  turn_held Securing its = by_changing its.0
  turn_held (Going stage) under = held_readers w g limit course waiting (commit_of_plan plan stage) under (by_going stage under)

  -- its lines stand on their pages where the group flies
  put_then : (stage next : CommitStage) → g.commit ≡ Some (commit_of_plan plan stage) → IsNextStage stage next → flies next ≡ true → ArePut w.content plan.lines (length plan.lines)
  put_then stage (Changing at) under is flown = absurd (false≢true flown)
  put_then stage (Imaging at) under is flown = absurd (false≢true flown)
  put_then stage Gathering under is flown = absurd (false≢true flown)
  put_then stage Sealing under is flown = put_puts v.content w.content plan.lines (length plan.lines) distinct puts
      (subst (λ (s : CommitStage). CommitFacts s v g.base plan.place plan.lines plan.flight) (only_gathering stage is) (facts.commit (commit_of_plan plan stage) under).facts).done.0
  put_then stage Landing under is flown = put_puts v.content w.content plan.lines (length plan.lines) distinct puts (was.put (commit_of_plan plan stage) under (ap flies (only_sealing stage is)))
  put_then stage Committed under is flown = absurd (false≢true flown)

  going_further : (stage next : CommitStage) (moment : ℕ) → g.commit ≡ Some (commit_of_plan plan stage) → IsNextStage stage next → next ≢ Committed → ReaderFacts w (ledger_behind (Going stage) (Going next) moment plan g) limit course waiting
  going_further stage (Changing at) moment under is off = gone_readers w g limit course waiting (commit_of_plan plan stage) (Changing at) under (put_then stage (Changing at) under is) (by_going stage under)
  going_further stage (Imaging at) moment under is off = gone_readers w g limit course waiting (commit_of_plan plan stage) (Imaging at) under (put_then stage (Imaging at) under is) (by_going stage under)
  going_further stage Gathering moment under is off = gone_readers w g limit course waiting (commit_of_plan plan stage) Gathering under (put_then stage Gathering under is) (by_going stage under)
  going_further stage Sealing moment under is off = gone_readers w g limit course waiting (commit_of_plan plan stage) Sealing under (put_then stage Sealing under is) (by_going stage under)
  going_further stage Landing moment under is off = gone_readers w g limit course waiting (commit_of_plan plan stage) Landing under (put_then stage Landing under is) (by_going stage under)
  going_further stage Committed moment under is off = absurd (off refl)

  -- all before-images are stable, and the commit begins
  taken : MayCommit v g plan → ReaderFacts w (taken_up (new_commit plan.member plan.transaction plan.all plan.place plan.lines plan.classes plan.flight) plan.transaction (all_stable g)) limit course waiting
  taken may = same_waiting w (taken_up c plan.transaction (all_stable g)) limit course waiting plan.member plan.lines waits
      (commit_begins w (all_stable g) limit course waiting c plan.transaction (length plan.all) (ap gained may.stands) may.is_open waits refl settled)
    where
      c : Commit
      c = new_commit plan.member plan.transaction plan.all plan.place plan.lines plan.classes plan.flight

      now_there : ReaderFacts w g limit course waiting
      now_there = by_changing may

      settled : ReaderFacts w (all_stable g) limit course waiting
      settled = restands w limit course waiting g (λ m. gained (g.standing m)) g.commit g.history g.moments (keeps_gained g.standing) now_there.its now_there.put now_there

  pub turn_further : (turn next : CommitTurn) (moment : ℕ) → TurnFacts turn v g plan → IsNextTurn turn next → next ≢ Going Committed → ReaderFacts w (ledger_behind turn next moment plan g) limit course waiting
  turn_further (Entering at) next moment its is off = by_changing its.0
  turn_further Securing next moment its is off = taken its.0
  turn_further (Going stage) (Entering at) moment under is off = absurd is
  turn_further (Going stage) Securing moment under is off = absurd is
  turn_further (Going stage) (Going next) moment under is off = going_further stage next moment under is (λ same. off (ap Going same))

  pub turn_lands : (moment : ℕ) → LeftNow w w.content → g.commit ≡ Some (commit_of_plan plan Landing) → LedgerFacts w (held_up (commit_of_plan plan Landing) g) → LedgerFacts w (landed_at moment (commit_of_plan plan Landing) g)
      → ReaderFacts w (landed_at moment (commit_of_plan plan Landing) g) limit (course_landed plan.transaction.tsn.number (line_at w.content) (lines_with g.base plan.flight) course) (set_waiting plan.member [] waiting)
  turn_lands moment left under held behind = member_lands w (held_up (commit_of_plan plan Landing) g) limit course waiting (commit_of_plan plan Sealing) moment left held behind refl refl
      (held_readers w g limit course waiting (commit_of_plan plan Landing) under (by_going Landing under))
