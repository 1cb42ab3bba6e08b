-- Members begin, begin to commit, and end.
use Rattle.std.proofs.Common.{◌≡◌, ◌≢◌, ℕ, Bool, true, false, List, [], Option, Some, None, slice_get, ap, sym, subst, ◌∙◌, refl, arith}
use Rattle.std.proofs.lemmas.Bool.{false≢true}
use Rattle.rdb_types.specs.declared.keys.Dbkey.{Dbkey}
use Rattle.rdb_types.specs.declared.keys.Tsn.{Tsn}
use Rattle.rdb_types.specs.declared.keys.Line.{Line}
use Rattle.rdb_outside.specs.Disk.{View, LeftNow, Pending}
use Rattle.snapshot_file.specs.declared.entry.SnapEntry.{SnapEntry}
use Rattle.line_versions.specs.Files.{entries_in}
use Rattle.line_versions.specs.Course.{Course}
use Rattle.stable_lines.specs.Slots.{Undo, file_of, slot_of, line_at}
use Rattle.stable_lines.specs.Progress.{Open, Flight, Progress, begun, without, flying, landed, lines_with}
use Rattle.stable_lines.specs.Facts.{Facts}
use Rattle.stable_lines.proofs.Turns.{some_same, going_here, going_there}
use Rattle.line_moves.specs.Lines.{ChangedLines}
use Rattle.line_moves.proofs.Runs.{pends}
use Rattle.disk_seats.specs.line_opening.Undoing.{AreUndone}
use Rattle.disk_seats.specs.line_seat.declared.commit.CommitStage.{CommitStage}
use Rattle.disk_seats.specs.line_seat.declared.commit.CommitStage.TheVariants.{Changing, Imaging, Gathering, Sealing, Landing, Committed}
use Rattle.disk_seats.specs.line_seat.Seats.{next_open, secured}
use Rattle.disk_seats.specs.line_seat.Stages.{progress_at}
use Rattle.disk_seats.specs.Ledgers.{Standing, resting, changing, broken, committing, undoing, entries_of, Commit, Ledger, flies, progress_with, progress_of, begun_by, ended_by, taken_up, landed_at}
use Rattle.disk_seats.specs.Members.{MemberStands, CommitStands, LedgerFacts}
use Rattle.disk_versions.specs.Courses.{course_begun, course_given, course_undone, course_landed}
use Rattle.disk_versions.specs.Versions.{VersionFacts, SeatVersions}
use Rattle.disk_versions.proofs.Choices.{chosen}
use Rattle.disk_versions.proofs.Beginnings.{begins, secures}
use Rattle.disk_versions.proofs.Ends.{ends, nowhere, as_it_was, now_shown, lands, on_top}
use Rattle.disk_versions.proofs.Given.{gives_undone, seat_beside_given}
use Rattle.disk_versions.proofs.SeatsBeside.{seat_begun, seat_undone, seat_landed}
use Rattle.ledger_versions.specs.Readers.{MayEndUndone, Waiting, set_waiting, HasLines, HasBefore, ReaderFacts}
use Rattle.ledger_versions.proofs.Standings.{is_open_there, one_number, its_entries, not_its_line}
use Rattle.ledger_versions.proofs.Restanding.{with_member, lines_there}

no_lines : (i : ℕ) (line : Dbkey × Line) → slice_get [] i ≡ Some line → ⊥
no_lines i line got = cc

no_undo : (i : ℕ) (undo : Undo) → slice_get [] i ≡ Some undo → ⊥
no_undo i undo got = cc

no_commit : (c : Commit) → None ≡ Some c → ⊥
no_commit c is = cc

-- whose commit is under way stands as committing
pub commits_as : (v : View) (g : Ledger) → LedgerFacts v g → (c : Commit) → g.commit ≡ Some c → (member : ℕ) → ((all : List Undo) → g.standing member ≢ committing all) → c.member ≢ member
commits_as v g facts c is member never same = never c.transaction.entries (ap (λ (m : ℕ). g.standing m) (sym same) ∙ (facts.commit c is).its)

-- ---- a transaction begins

seat_new : (v : View) (now : Progress) (limit : ℕ) (course : Course) (tsn : Tsn) → tsn.number ≡ course.next → VersionFacts v now limit course → SeatVersions v (course_begun course) tsn [] []
seat_new v now limit course tsn fresh was = record {
  bases = λ i undo got. absurd (no_undo i undo got);
  bears = λ i line got. absurd (no_lines i line got);
  above = λ i line got. absurd (no_lines i line got);
  pushed = λ file chain e held stands its. let low = was.exact.drawn file chain e held stands in absurd (omega (arith, low, its, fresh));
}

pub member_begins : (v : View) (g : Ledger) (limit : ℕ) (course : Course) (waiting : Waiting) (member : ℕ) → LedgerFacts v g → g.standing member ≡ resting → g.base.going member ≡ None → ReaderFacts v g limit course waiting → ReaderFacts v (begun_by member g) limit (course_begun course) (set_waiting member [] waiting)
member_begins v g limit course waiting member facts rests idle was =
    with_member v g member (changing [] 0) [] waiting limit (course_begun course) (begun member g.base) g.commit g.history g.moments
    (begins v g.base limit course member idle was.versions)
    (λ o has is. subst (λ (p : Open). SeatVersions v (course_begun course) p.tsn [] []) (its_open o is) (seat_new v g.base limit course (record { number = g.base.next_tsn }) (sym was.versions.next) was.versions))
    (λ i line has got. absurd (no_lines i line got))
    (λ m o apart has is. seat_begun v course o.tsn (entries_of (g.standing m)) (waiting m) (was.seats m o has (sym (going_there g.base member (Some (next_open g.base)) m apart) ∙ is)))
    was.journalled
    (λ c is. lines_there v g member (changing [] 0) [] waiting c.member (commits_as v g facts c is member (λ all bad. not_resting all (sym rests ∙ bad))) ∙ was.its c is)
    was.put
  where
    its_open : (o : Open) → (begun member g.base).going member ≡ Some o → next_open g.base ≡ o
    its_open o is = some_same (next_open g.base) o (sym (going_here g.base member (Some (next_open g.base))) ∙ is)

    not_resting : (all : List Undo) → resting ≡ committing all → ⊥
    not_resting all bad = cc

-- ---- its commit begins

pub commit_begins : (v : View) (g : Ledger) (limit : ℕ) (course : Course) (waiting : Waiting) (c : Commit) (o : Open) (stable : ℕ) → g.standing c.member ≡ changing c.transaction.entries stable → g.base.going c.member ≡ Some o → waiting c.member ≡ c.lines → flies c.stage ≡ false
    → ReaderFacts v g limit course waiting → ReaderFacts v (taken_up c o g) limit course (set_waiting c.member c.lines waiting)
commit_begins v g limit course waiting c o stable stands is lines low was =
    with_member v g c.member (committing c.transaction.entries) c.lines waiting limit course (secured c.member o c.transaction.entries g.base) (Some c) g.history g.moments
    (secures v g.base limit course c.member o c.transaction.entries is seat.bases was.versions)
    (λ p has got. subst (λ (q : Open). SeatVersions v course q.tsn c.transaction.entries c.lines) (its_open p got) seat)
    (λ i line has got. subst (λ (s : Standing). HasBefore (entries_of s) line.0) stands (was.journalled c.member i line (has_lines stands) (ap (λ (l : ChangedLines). slice_get l i) lines ∙ got)))
    (λ m p apart has got. was.seats m p has (sym (going_there g.base c.member (Some (record { tsn = o.tsn; entries = c.transaction.entries })) m apart) ∙ got))
    was.journalled
    (λ d same. subst (λ (x : Commit). set_waiting c.member c.lines waiting x.member ≡ x.lines) (some_same c d same) (chosen c.lines (waiting c.member) c.member c.member refl))
    (λ d same flown. absurd (false≢true (sym low ∙ ap (λ (x : Commit). flies x.stage) (some_same c d same) ∙ flown)))
  where
    has_lines : g.standing c.member ≡ changing c.transaction.entries stable → HasLines (g.standing c.member)
    has_lines same = subst (λ (s : Standing). HasLines s) (sym same) tt

    seat : SeatVersions v course o.tsn c.transaction.entries c.lines
    seat = subst (λ (l : ChangedLines). SeatVersions v course o.tsn c.transaction.entries l) lines (subst (λ (s : Standing). SeatVersions v course o.tsn (entries_of s) (waiting c.member)) stands (was.seats c.member o (has_lines stands) is))

    its_open : (p : Open) → (secured c.member o c.transaction.entries g.base).going c.member ≡ Some p → record { tsn = o.tsn; entries = c.transaction.entries } ≡ p
    its_open p got = some_same (record { tsn = o.tsn; entries = c.transaction.entries }) p (sym (going_here g.base c.member (Some (record { tsn = o.tsn; entries = c.transaction.entries }))) ∙ got)

-- ---- it lands

flying_at : (stage : CommitStage) (base : Progress) (f : Flight) → flies stage ≡ true → progress_at stage base f ≡ flying f base
flying_at (Changing at) base f flown = absurd (false≢true flown)
flying_at (Imaging at) base f flown = absurd (false≢true flown)
flying_at Gathering base f flown = absurd (false≢true flown)
flying_at Sealing base f flown = refl
flying_at Landing base f flown = refl
flying_at Committed base f flown = absurd (false≢true flown)

pub member_lands : (v : View) (g : Ledger) (limit : ℕ) (course : Course) (waiting : Waiting) (c : Commit) (moment : ℕ) → LeftNow v v.content → LedgerFacts v g → LedgerFacts v (landed_at moment c g) → g.commit ≡ Some c → flies c.stage ≡ true
    → ReaderFacts v g limit course waiting → ReaderFacts v (landed_at moment c g) limit (course_landed c.transaction.tsn.number (line_at v.content) (lines_with g.base c.flight) course) (set_waiting c.member [] waiting)
member_lands v g limit course waiting c moment left facts behind under flown was =
    with_member v g c.member resting [] waiting limit after (landed c.flight g.base) None (landed_at moment c g).history (landed_at moment c g).moments
    (lands v g.base limit course c.flight c.transaction open_flight alone
    (λ key bears. now_shown (Pending v) g.base c.flight c.transaction open_flight alone behind.facts key (v.content (file_of key) (slot_of key)) (pends v left (file_of key) (slot_of key)) bears)
    (λ key other. as_it_was (Pending v) g.base c.flight c.transaction open_flight flies_now key (v.content (file_of key) (slot_of key)) (pends v left (file_of key) (slot_of key)) other)
    was.versions (on_top v course c.transaction.tsn c.transaction.entries c.lines seat (was.put c under flown))
    (λ m p i undo off open_too got. not_its_line v g facts left c.member m c.transaction is_open (λ same. off (same ∙ sym stands.is.its)) undo.key (record { index = i; undo = undo; is = its_entries v g facts m p open_too i undo got; key_is = refl })))
    (λ o has is. absurd has)
    (λ i line has got. absurd has)
    (λ m o apart has is.
    let open_too = sym (going_there g.base c.flight.member None m (λ same. apart (same ∙ stands.is.its))) ∙ is in
    seat_landed v course o.tsn (entries_of (g.standing m)) (waiting m) (was.seats m o has open_too) tsn (lines_with g.base c.flight)
    (λ same. apart (one_number v g facts c.member m c.transaction o is_open open_too same))
    (λ i undo got. not_its_line v g facts left c.member m c.transaction is_open apart undo.key (record { index = i; undo = undo; is = got; key_is = refl }))
    (λ i line got. not_its_line v g facts left c.member m c.transaction is_open apart line.0 (was.journalled m i line has got)))
    was.journalled
    (λ d is. absurd (no_commit d is))
    (λ d is. absurd (no_commit d is))
  where
    tsn : ℕ
    tsn = c.transaction.tsn.number

    after : Course
    after = course_landed c.transaction.tsn.number (line_at v.content) (lines_with g.base c.flight) course

    stands : CommitStands v g.base g.standing c
    stands = facts.commit c under

    is_open : g.base.going c.member ≡ Some c.transaction
    is_open = stands.is.is_open

    open_flight : g.base.going c.flight.member ≡ Some c.transaction
    open_flight = ap (λ (m : ℕ). g.base.going m) stands.is.its ∙ is_open

    alone : (other : ℕ) (p : Open) → g.base.going other ≡ Some p → p.tsn.number ≡ c.transaction.tsn.number → other ≡ c.flight.member
    alone other p is same = one_number v g facts c.member other c.transaction p is_open is same ∙ sym stands.is.its

    flies_now : Facts (Pending v) (flying c.flight g.base)
    flies_now = subst (λ (p : Progress). Facts (Pending v) p) (ap (λ (o : Option Commit). progress_with o g.base) under ∙ flying_at c.stage g.base c.flight flown) facts.facts

    seat : SeatVersions v course c.transaction.tsn c.transaction.entries c.lines
    seat = subst (λ (l : ChangedLines). SeatVersions v course c.transaction.tsn c.transaction.entries l) (was.its c under)
        (subst (λ (s : Standing). SeatVersions v course c.transaction.tsn (entries_of s) (waiting c.member)) stands.its (was.seats c.member c.transaction (subst (λ (s : Standing). HasLines s) (sym stands.its) tt) is_open))

-- ---- it ends as undone

undone_all : (v : View) (base : Progress) (m : ℕ) (standing : Standing) (o : Open) → MemberStands v base m standing → MayEndUndone standing → base.going m ≡ Some o → AreUndone v.content o 0
undone_all v base m (changing all stable) o stands may is i undo le got =
    let same : stands.transaction ≡ o = some_same stands.transaction o (sym stands.seat.is_open ∙ is) in
    let none : o.entries ≡ [] = subst (λ (q : Open). q.entries ≡ []) same stands.seat.none_stands in
    absurd (no_undo i undo (subst (λ (es : List Undo). slice_get es i ≡ Some undo) none got))
undone_all v base m broken o stands may is i undo le got =
    let same : stands.transaction ≡ o = some_same stands.transaction o (sym stands.is_open ∙ is) in
    let none : o.entries ≡ [] = subst (λ (q : Open). q.entries ≡ []) same stands.entries in
    absurd (no_undo i undo (subst (λ (es : List Undo). slice_get es i ≡ Some undo) none got))
undone_all v base m (undoing all left) o stands may is i undo le got =
    let same : stands.transaction ≡ o = some_same stands.transaction o (sym stands.is_open ∙ is) in
    let all_of : AreUndone v.content o 0 = subst (λ (n : ℕ). AreUndone v.content o n) may (subst (λ (q : Open). AreUndone v.content q left) same stands.undone) in
    all_of i undo le got
undone_all v base m resting o stands may is i undo le got = absurd may
undone_all v base m (committing all) o stands may is i undo le got = absurd may

not_committing : (s : Standing) → MayEndUndone s → (all : List Undo) → s ≢ committing all
not_committing s may all same = subst (λ (x : Standing). MayEndUndone x) same may

pub nowhere_now : (v : View) (g : Ledger) (member : ℕ) (o : Open) → LeftNow v v.content → LedgerFacts v g → MayEndUndone (g.standing member) → g.base.going member ≡ Some o → (key : Dbkey) → (line_at v.content key).tsn.number ≢ o.tsn.number
nowhere_now v g member o left facts may is = nowhere v (progress_of g) member o facts.facts (is_open_there v g facts member o is) left (undone_all v g.base member (g.standing member) o (facts.member member) may is)

pub member_ends : (v : View) (g : Ledger) (limit : ℕ) (course : Course) (waiting : Waiting) (member : ℕ) (o : Open) → LeftNow v v.content → LedgerFacts v g → MayEndUndone (g.standing member) → g.base.going member ≡ Some o → (given : ℕ → ℕ → Bool)
    → ((file chain : ℕ) (e : SnapEntry) → given file chain ≡ true → course.followed file chain ≡ true → entries_in v.content file chain e → e.pusher.number ≡ o.tsn.number)
    → ((file chain : ℕ) (e : SnapEntry) → (course_given given course).followed file chain ≡ true → entries_in v.content file chain e → e.pusher.number ≢ o.tsn.number)
    → ReaderFacts v g limit course waiting → ReaderFacts v (ended_by member g) limit (course_undone o.tsn.number (course_given given course)) (set_waiting member [] waiting)
member_ends v g limit course waiting member o left facts may is given its none was =
    with_member v g member resting [] waiting limit (course_undone o.tsn.number (course_given given course)) (without member g.base) g.commit g.history g.moments
    (ends v g.base limit (course_given given course) member o is alone no_line none (gives_undone v g.base limit course given was.versions o.tsn.number (was.versions.goes member o is) no_line its))
    (λ p has got. absurd has)
    (λ i line has got. absurd has)
    (λ m p apart has got.
    let open_too = sym (going_there g.base member None m apart) ∙ got in
    let other = λ (same : p.tsn.number ≡ o.tsn.number). apart (one_number v g facts member m o p is open_too same) in
    seat_undone v (course_given given course) p.tsn (entries_of (g.standing m)) (waiting m)
    (seat_beside_given v course given p.tsn (entries_of (g.standing m)) (waiting m) (λ file chain e there held stands same. other (sym same ∙ its file chain e there held stands)) (was.seats m p has open_too)) o.tsn.number other)
    was.journalled
    (λ c under. lines_there v g member resting [] waiting c.member (commits_as v g facts c under member (not_committing (g.standing member) may)) ∙ was.its c under)
    was.put
  where
    alone : (other : ℕ) (p : Open) → g.base.going other ≡ Some p → p.tsn.number ≡ o.tsn.number → other ≡ member
    alone other p got same = one_number v g facts member other o p is got same

    no_line : (key : Dbkey) → (line_at v.content key).tsn.number ≢ o.tsn.number
    no_line = nowhere_now v g member o left facts may is
