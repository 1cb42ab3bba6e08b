-- What is written, and what readers do, beside a ledger that stays.
use Rattle.std.proofs.Common.{◌≡◌, ◌≢◌, ℕ, Bool, true, List, length, Some, slice_get, inl, ap, sym, subst, ◌∙◌, IsTrue}
use Rattle.std.proofs.lemmas.Bool.{false≢true}
use Rattle.rdb_types.specs.declared.file.FileId.{FileId}
use Rattle.rdb_types.specs.declared.file.FileKind.TheVariants.{Snap, Area}
use Rattle.rdb_types.specs.declared.keys.Dbkey.{Dbkey}
use Rattle.rdb_types.specs.declared.keys.Line.{Line}
use Rattle.rdb_outside.specs.Disk.{View, OnlyReads}
use Rattle.snapshot_file.specs.declared.entry.SnapEntry.{SnapEntry}
use Rattle.line_versions.specs.Files.{entries_in, snap_file}
use Rattle.line_versions.specs.Course.{Course, AreActive, MayBeGiven}
use Rattle.stable_lines.specs.Slots.{Undo}
use Rattle.stable_lines.specs.Progress.{Open}
use Rattle.stable_lines.proofs.Turns.{some_same}
use Rattle.line_moves.specs.Calls.{OnlyWrites}
use Rattle.line_moves.specs.Changes.{KeepsLines}
use Rattle.line_moves.specs.Lines.{ChangedLines, AreDistinct, ArePut, PutsOnly}
use Rattle.line_moves.proofs.OnlyPut.{keeps_lines, lines_beside}
use Rattle.disk_seats.specs.line_opening.Undoing.{PutsBack}
use Rattle.disk_seats.specs.Ledgers.{Standing, committing, undoing, entries_of, Commit, Ledger}
use Rattle.disk_seats.specs.Members.{CommitStands, LedgerFacts}
use Rattle.disk_versions.specs.Courses.{course_given, course_reading, course_read}
use Rattle.disk_versions.specs.Versions.{SeatVersions}
use Rattle.disk_versions.proofs.Moves.{KeepsEntries, IsUnfollowed, kept_by_reads, kept_aside, kept_in_slot, lines_in_slot, versions_move, put_moves, back_moves}
use Rattle.disk_versions.proofs.ReaderSteps.{reads, stops_reading}
use Rattle.disk_versions.proofs.SeatsBeside.{seat_reading, seat_read}
use Rattle.disk_versions.proofs.Given.{gives, seat_beside_given}
use Rattle.ledger_versions.specs.Readers.{Waiting, HasLines, ReaderFacts}
use Rattle.ledger_versions.proofs.Standings.{its_entries}
use Rattle.ledger_versions.proofs.Restanding.{removes, put_keeps, put_puts, put_backs}
use Rattle.ledger_versions.proofs.MembersEnd.{commits_as}

module _ (v w : View) (limit : ℕ) (course : Course) (waiting : Waiting) (g : Ledger) (t : IsTrue v.tells) (was : ReaderFacts v g limit course waiting) where
  -- no line is another
  still : KeepsEntries v.content w.content course.followed → KeepsLines v.content w.content → ReaderFacts w g limit course waiting
  still kept keeps = removes v w limit course waiting g kept (versions_move v w g.base limit course kept (λ key. inl (keeps key)) was.versions) (λ c under flown put. put_keeps v.content w.content c.lines (length c.lines) keeps put) was

  pub still_reads : OnlyReads v w → ReaderFacts w g limit course waiting
  still_reads only = still (kept_by_reads v w course.followed t only) (keeps_lines v.content w.content (only.keeps t).content)

  pub still_aside : (file : FileId) (slot : ℕ) → file.kind ≢ Snap → file.kind ≢ Area → OnlyWrites file slot v w → ReaderFacts w g limit course waiting
  still_aside file slot other area writes = still (kept_aside v w course.followed file slot t other writes) (lines_beside v w file slot t area writes)

  pub still_slot : (number slot : ℕ) → IsUnfollowed course.followed number slot → OnlyWrites (snap_file number) slot v w → ReaderFacts w g limit course waiting
  still_slot number slot free writes = still (kept_in_slot v w course.followed number slot t free writes) (lines_in_slot v w number slot t writes)

  pub still_entered : (file : FileId) (slot : ℕ) → file.kind ≢ Snap → OnlyWrites file slot v w → KeepsLines v.content w.content → ReaderFacts w g limit course waiting
  still_entered file slot other writes keeps = still (kept_aside v w course.followed file slot t other writes) keeps

  -- lines of the commit were put on their page
  pub still_put : (file : FileId) (slot : ℕ) → file.kind ≢ Snap → (c : Commit) → LedgerFacts v g → g.commit ≡ Some c → AreDistinct c.lines → OnlyWrites file slot v w → PutsOnly c.lines v.content w.content → ReaderFacts w g limit course waiting
  still_put file slot other c facts under distinct writes puts =
      removes v w limit course waiting g kept (versions_move v w g.base limit course kept (put_moves v w course c.transaction.tsn c.transaction.entries c.lines kept seat puts) was.versions)
      (λ d is flown put. subst (λ (x : Commit). ArePut v.content x.lines (length x.lines) → ArePut w.content x.lines (length x.lines)) (some_same c d (sym under ∙ is)) (put_puts v.content w.content c.lines (length c.lines) distinct puts) put) was
    where
      kept : KeepsEntries v.content w.content course.followed
      kept = kept_aside v w course.followed file slot t other writes

      stands : CommitStands v g.base g.standing c
      stands = facts.commit c under

      seat : SeatVersions v course c.transaction.tsn c.transaction.entries c.lines
      seat = subst (λ (l : ChangedLines). SeatVersions v course c.transaction.tsn c.transaction.entries l) (was.its c under)
          (subst (λ (s : Standing). SeatVersions v course c.transaction.tsn (entries_of s) (waiting c.member)) stands.its (was.seats c.member c.transaction (subst (λ (s : Standing). HasLines s) (sym stands.its) tt) stands.is.is_open))

  -- before-images of a member were put back
  pub still_back : (file : FileId) (slot : ℕ) → file.kind ≢ Snap → (member left : ℕ) (all : List Undo) (o : Open) → LedgerFacts v g → g.standing member ≡ undoing all left → g.base.going member ≡ Some o → OnlyWrites file slot v w → PutsBack o v.content w.content → ReaderFacts w g limit course waiting
  still_back file slot other member left all o facts undoes is writes puts =
      removes v w limit course waiting g kept (versions_move v w g.base limit course kept (back_moves v w g.base limit course member o was.versions is puts) was.versions)
      (λ c under flown put. put_backs v.content w.content c.lines (length c.lines) o puts (apart c under) put) was
    where
      kept : KeepsEntries v.content w.content course.followed
      kept = kept_aside v w course.followed file slot t other writes

      not_committing : (es : List Undo) → undoing all left ≡ committing es → ⊥
      not_committing es bad = cc

      apart : (c : Commit) → g.commit ≡ Some c → (i j : ℕ) (line : Dbkey × Line) (undo : Undo) → slice_get c.lines i ≡ Some line → slice_get o.entries j ≡ Some undo → line.0 ≢ undo.key
      apart c under i j line undo got entry same =
          let stands = facts.commit c under in
          let its = was.journalled c.member i line (subst (λ (s : Standing). HasLines s) (sym stands.its) tt) (ap (λ (l : ChangedLines). slice_get l i) (was.its c under) ∙ got) in
          facts.apart c.member member its.index j its.undo undo (commits_as v g facts c under member (λ es bad. not_committing es (sym undoes ∙ bad))) its.is (its_entries v g facts member o is j undo entry) (its.key_is ∙ same)

-- ---- readers, and slots given back

module _ (v : View) (limit : ℕ) (course : Course) (waiting : Waiting) (g : Ledger) (was : ReaderFacts v g limit course waiting) where
  pub reader_begins : (session : ℕ) (active : List ℕ) → AreActive active course → ReaderFacts v g limit (course_reading session active course) waiting
  reader_begins session active are = record {
    versions = reads v g.base limit course session active are was.versions;
    seats = λ m o has is. seat_reading v course o.tsn (entries_of (g.standing m)) (waiting m) (was.seats m o has is) session active;
    journalled = was.journalled;
    its = was.its;
    put = was.put;
  }

  pub reader_ends : (session : ℕ) → ReaderFacts v g limit (course_read session course) waiting
  reader_ends session = record {
    versions = stops_reading v g.base limit course session was.versions;
    seats = λ m o has is. seat_read v course o.tsn (entries_of (g.standing m)) (waiting m) (was.seats m o has is) session;
    journalled = was.journalled;
    its = was.its;
    put = was.put;
  }

  -- whose transactions have ended
  pub slots_given : (given : ℕ → ℕ → Bool) → ((file chain : ℕ) (e : SnapEntry) → given file chain ≡ true → course.followed file chain ≡ true → entries_in v.content file chain e → MayBeGiven course e) → ReaderFacts v g limit (course_given given course) waiting
  slots_given given may = record {
    versions = gives v g.base limit course given was.versions may;
    seats = λ m o has is. seat_beside_given v course given o.tsn (entries_of (g.standing m)) (waiting m)
        (λ file chain e there held stands same. goes_on e (may file chain e there held stands) (ap course.going same ∙ was.versions.goes m o is)) (was.seats m o has is);
    journalled = was.journalled;
    its = was.its;
    put = was.put;
  }
    where
      goes_on : (e : SnapEntry) → MayBeGiven course e → course.going e.pusher.number ≡ true → ⊥
      goes_on e ended goes = false≢true (sym ended.ended ∙ goes)
